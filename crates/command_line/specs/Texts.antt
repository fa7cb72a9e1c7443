-- The words of a command line as lists of bytes.
use Rattle.std.specs.Prelude.{ℕ, List, map, String}
use Rattle.std.specs.String.{string_bytes}

-- the bytes of each text
abbrev pub texts_of : {A : Type 0} → List (String A) → List (List ℕ)
texts_of texts = map string_bytes texts
