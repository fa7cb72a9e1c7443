-- Steps of which each may fail, one after the other.
use Rattle.std.specs.Prelude.{Bool, if◌then◌else◌, Result, Ok, Err}

-- the first fault, or what follows
infixl 10 ◌>>=◌
abbrev pub ◌>>=◌ : {A B F : Type 0} → Result A F → (A → Result B F) → Result B F
(Ok x) >>= f = f x
(Err fault) >>= f = Err fault

-- the fault where a test fails, else the value
abbrev pub unless : {A F : Type 0} → Bool → F → A → Result A F
unless test fault value = if test then Ok value else Err fault
