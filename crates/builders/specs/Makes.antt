-- What is answered where something is made out of a file.
use Rattle.std.specs.Prelude.{◌≡◌, ℕ, ⊤, List, Vec, Result, Ok, Err}
use Rattle.std.specs.String.{string_bytes}
use Rattle.builders.specs.declared.unmade.Unmade.{Unmade}
use Rattle.builders.specs.declared.unmade.Unmade.TheVariants.{Refused, Memory}

-- nothing was made: the text is that of the refusal, or memory ran out
abbrev pub IsUnmade : {X : Type 0} → Unmade → Result X (List ℕ) → Type 0
IsUnmade (Refused text) made = made ≡ Err (string_bytes text)
IsUnmade Memory made = ⊤

-- the bytes are those of the definition, and so is the text of a refusal
abbrev pub Makes : {A : Type 0} → Result (Vec ℕ A) Unmade → Result (List ℕ) (List ℕ) → Type 0
Makes (Ok bytes) made = made ≡ Ok bytes.items
Makes (Err why) made = IsUnmade why made

-- the text is that of the definition, or memory ran out
abbrev pub IsRefusalText : Unmade → List ℕ → Type 0
IsRefusalText (Refused text) stated = string_bytes text ≡ stated
IsRefusalText Memory stated = ⊤
