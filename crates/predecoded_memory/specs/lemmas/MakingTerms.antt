-- For proofs and private clauses: rows that are made, and lengths of blocks that stay true.
use Rattle.std.specs.Prelude.{◌≡◌, ℕ, ◌+◌, ◌<◌, ◌≤◌, ◌⊎◌, Bool, true, false, List, Some, length, slice_get, slice_index, slice_index_or, slice_set}
use Rattle.guest_bus.specs.Memory.{Area, Memory}
use Rattle.predecode.specs.Kinds.{Does, Branches, is_exit}
use Rattle.predecode.specs.declared.kinds.Kind.{Kind}
use Rattle.predecode.specs.declared.rows.Row.{Row}
use Rattle.fast_loop.specs.Keeping.{AreLengths, AreRowsOf}
use Rattle.predecoded_memory.specs.lemmas.SharesTerms.{row_of_zeros}

-- a branch on a condition that annuls nothing
abbrev pub branches : Does → Bool
branches Branches = true
branches d = false

-- the row, of another kind
abbrev pub with_kind : Kind → Row → Row
with_kind kind row = record { number = row.number; kind = kind; rd = row.rd; rs1 = row.rs1; rs2 = row.rs2 }

-- the rows with another kind at a place
unfoldable pub with_kind_at : ℕ → Kind → List Row → List Row
with_kind_at at kind rows = slice_set rows at (with_kind kind (slice_index_or rows at row_of_zeros))

-- a length that is known is the one that there was, and is that of a block which begins neither at a place nor at one of the 128 before it
pub record AreCleared (at : ℕ) (old new : List ℕ) : Type 0 where
  pub counted : length new ≡ length old
  pub each : (k : ℕ) → k < length old → slice_index new k < 128 → (slice_index new k ≡ slice_index old k) × ((k + 128 < at) ⊎ (at < k))

-- rows of which the one at a place and the one after it may have been made are those of their words, and the lengths that are known are those that were
pub record AreMade (areas : List Area) (memory : Memory) (first at : ℕ) (old : List Row) (were : List ℕ) (new : List Row) (are : List ℕ) : Type 0 where
  pub rows : AreRowsOf new areas memory first
  pub lengths : AreLengths are new
  pub counted : length new ≡ length old
  pub same : (k : ℕ) → (k < at) ⊎ (at + 1 < k) → slice_get new k ≡ slice_get old k
  pub known : (k : ℕ) → k < length old → slice_index are k < 128 → slice_index are k ≡ slice_index were k

-- rows of which those before a top may have been made are those of their words, and a length that is known is the one that there was, or its block
-- ends before the top
pub record AreGrown (areas : List Area) (memory : Memory) (first top : ℕ) (old : List Row) (were : List ℕ) (new : List Row) (are : List ℕ) : Type 0 where
  pub rows : AreRowsOf new areas memory first
  pub lengths : AreLengths are new
  pub counted : length new ≡ length old
  pub same : (k : ℕ) → top ≤ k → slice_get new k ≡ slice_get old k
  pub known : (k : ℕ) → k < length old → slice_index are k < 128 → (slice_index are k ≡ slice_index were k) ⊎ (k + slice_index are k + 1 ≤ top)

-- the row before a place is that of an exit, and stands at another place or after it
pub record IsAfterExit (rows : List Row) (from at : ℕ) : Type 0 where
  pub place : ℕ
  pub next : place + 1 ≡ at
  pub after : from ≤ place
  pub row : Row
  pub there : slice_get rows place ≡ Some row
  pub exit : is_exit row.kind ≡ true
