-- The bytes of the number that bytes are, are those bytes.
use Rattle.std.specs.Prelude.{ℕ, ◌<◌, List, get_or}

-- each of the list is a byte
abbrev pub AreBytes : List ℕ → Type 0
AreBytes bytes = (i : ℕ) → get_or bytes i 0 < 256
