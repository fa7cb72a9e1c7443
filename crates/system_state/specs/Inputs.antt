-- Input words: four bytes each, the highest first.
use Rattle.std.specs.Prelude.{◌≡◌, ◌≢◌, ℕ, ◌%◌, List, [], ◌∷◌}
use Rattle.std.specs.Int.{from_be_bytes, w32}
use Rattle.system_state.specs.declared.inputs.InputFault.{InputFault}
use Rattle.system_state.specs.declared.inputs.InputFault.TheVariants.{Length, Memory}

-- the words that bytes spell, as far as there are four bytes for one
abbrev pub words_in : List ℕ → List ℕ
words_in [] = []
words_in (a ∷ []) = []
words_in (a ∷ b ∷ []) = []
words_in (a ∷ b ∷ c ∷ []) = []
words_in (a ∷ b ∷ c ∷ d ∷ rest) = from_be_bytes w32 (a ∷ b ∷ c ∷ d ∷ []) ∷ words_in rest

-- why this many bytes are refused: their number is no multiple of 4, or it is one, and memory ran out
abbrev pub HasInputCause : ℕ → InputFault → Type 0
HasInputCause count (Length found) = (found ≡ count) × (count % 4 ≢ 0)
HasInputCause count Memory = count % 4 ≡ 0
