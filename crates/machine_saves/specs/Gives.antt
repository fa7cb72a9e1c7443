-- What a save gives.
use Rattle.std.specs.Prelude.{◌≡◌, ℕ, ◌<◌, ◌≤◌, List, length, Result, Ok, Err}
use Rattle.xm_base.specs.declared.limits.TheConstants.{FILE_BYTES}
use Rattle.machine_saves.specs.declared.not_saved.NotSaved.{NotSaved}
use Rattle.machine_saves.specs.declared.not_saved.NotSaved.TheVariants as not_saved

-- a text is a file, unless memory runs out, or it is too long for one
abbrev pub IsSavedFile : {X : Type 0} → (X → List ℕ) → List ℕ → Result X NotSaved → Type 0
IsSavedFile view text (Ok file) = (view file ≡ text) × (length text ≤ FILE_BYTES)
IsSavedFile view text (Err (not_saved.Length found)) = (found ≡ length text) × (FILE_BYTES < length text)
IsSavedFile view text (Err not_saved.Memory) = Unit {0}
