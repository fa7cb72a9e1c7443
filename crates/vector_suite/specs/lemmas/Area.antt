-- The memory of a vector: one area, all of which may be read, and written unless it is read-only.
use Rattle.std.specs.Prelude.{◌≡◌, ℕ, ◌+◌, ◌≤◌, Bool, List, [], ◌∷◌, Some, None, Result, Ok, Err}
use Rattle.guest_bus.specs.Access.{access_fault}
use Rattle.guest_bus.specs.Memory.{Area, Memory, is_readable}
use Rattle.guest_bus.specs.declared.bus.BusFault.{BusFault}
use Rattle.vector_suite.specs.declared.memory.TheConstants.{AREA_BYTES, AREA_START}

-- the memory, and whether it may only be read
pub record VectorArea : Type 0 where
  pub read_only : Bool
  pub memory : Memory

-- the areas of a vector
unfoldable pub vector_areas : Bool → List Area
vector_areas read_only = record { start = AREA_START; size = AREA_BYTES; read_only = read_only } ∷ []

-- an access of this many bytes begins at a place of the area, and nothing refuses a load there
pub record LiesAt (at address count : ℕ) (read_only : Bool) : Type 0 where
  pub free : access_fault (is_readable (vector_areas read_only)) address count ≡ None
  pub lies : address ≡ AREA_START + at
  pub fits : at + count ≤ AREA_BYTES

-- where an access of this many bytes begins, or what refuses it
abbrev pub Places : Result ℕ BusFault → ℕ → ℕ → Bool → Type 0
Places (Ok at) address count read_only = LiesAt at address count read_only
Places (Err fault) address count read_only = access_fault (is_readable (vector_areas read_only)) address count ≡ Some fault
