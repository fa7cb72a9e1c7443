-- What a device that takes bytes has got, where that is known, and how that grows.
use Rattle.std.specs.Prelude.{◌≡◌, ℕ, ◌<◌, List, ◌++◌, length, take, Option, Some, None, Result, Ok, Err}

-- grown by bytes at its end; what is not known of a device stays unknown
abbrev pub grown : Option (List ℕ) → List ℕ → Option (List ℕ)
grown None bytes = None
grown (Some got) bytes = Some (got ++ bytes)

-- one write: this many bytes of the piece are taken, and none after a fault
abbrev pub TakesPiece : {E : Type 0} → Result ℕ E → Option (List ℕ) → List ℕ → Option (List ℕ) → Type 0
TakesPiece (Ok count) old piece new = new ≡ grown old (take count piece)
TakesPiece (Err _) old piece new = new ≡ old

-- grown by a prefix of the bytes, short of the whole
pub record GrewByPrefix (old : Option (List ℕ)) (bytes : List ℕ) (new : Option (List ℕ)) : Type 0 where
  pub count : ℕ
  pub short : count < length bytes
  pub grew : new ≡ grown old (take count bytes)

-- the writing of a whole text: all of it, and after a fault a prefix of it that falls short
abbrev pub Writes : {T E : Type 0} → Result T E → Option (List ℕ) → List ℕ → Option (List ℕ) → Type 0
Writes (Ok _) old bytes new = new ≡ grown old bytes
Writes (Err _) old bytes new = GrewByPrefix old bytes new

-- grown by a prefix of the bytes, which may be all of them
pub record GrewBySome (old : Option (List ℕ)) (bytes : List ℕ) (new : Option (List ℕ)) : Type 0 where
  pub count : ℕ
  pub grew : new ≡ grown old (take count bytes)

-- one write to a UART: it takes all of the bytes, and after a fault a prefix of them
abbrev pub Receives : {T E : Type 0} → Result T E → Option (List ℕ) → List ℕ → Option (List ℕ) → Type 0
Receives (Ok _) old bytes new = new ≡ grown old bytes
Receives (Err _) old bytes new = GrewBySome old bytes new
