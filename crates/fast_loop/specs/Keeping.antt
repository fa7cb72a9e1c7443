-- Rows that are kept of the words of a memory, and blocks of them.
use Rattle.std.specs.Prelude.{◌≡◌, ℕ, ◌+◌, ◌*◌, ◌%◌, ◌^◌, ◌<◌, ◌≤◌, true, List, length, Some, slice_get, slice_index}
use Rattle.guest_bus.specs.Memory.{Area, Memory}
use Rattle.predecode.specs.Kept.{IsBranchOn, IsKeptRow}
use Rattle.predecode.specs.Kinds.{follows, is_exit}
use Rattle.predecode.specs.declared.rows.Row.{Row}

-- rows are those of the words from an address on, and each of a pair stands before its branch
pub record AreRowsOf (rows : List Row) (areas : List Area) (memory : Memory) (origin : ℕ) : Type 0 where
  pub aligned : origin % 4 ≡ 0
  pub inside : origin + 4 * length rows ≤ 2 ^ 32
  pub each : (k : ℕ) (row : Row) → slice_get rows k ≡ Some row → IsKeptRow row areas memory (origin + 4 * k)
  pub pairs : (k : ℕ) (row : Row) → slice_get rows k ≡ Some row → IsBranchOn (follows row.kind) (slice_get rows (k + 1))

-- the block that begins at a place ends before another: one of its instructions never goes on to the next word or is left to others, and the word in
-- its delay slot stands before the end
pub record EndsWithin (rows : List Row) (at end : ℕ) : Type 0 where
  pub place : ℕ
  pub from : at ≤ place
  pub under : place + 1 < end
  pub within : end ≤ length rows
  pub row : Row
  pub there : slice_get rows place ≡ Some row
  pub exit : is_exit row.kind ≡ true

-- a length below 128 is that of a block, less 1
pub record AreLengths (lengths : List ℕ) (rows : List Row) : Type 0 where
  pub counted : length lengths ≡ length rows
  pub each : (k : ℕ) → k < length rows → slice_index lengths k < 128 → EndsWithin rows k (k + slice_index lengths k + 1)
