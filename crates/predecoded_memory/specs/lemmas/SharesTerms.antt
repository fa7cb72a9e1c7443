-- For proofs and private clauses: the rows of each partition, and which words they are of.
use Rattle.std.specs.Prelude.{◌≡◌, ℕ, ◌+◌, ◌<◌, ◌≤◌, ◌⊎◌, List, None, Some, length, slice_get, slice_index_or, slice_set}
use Rattle.predecode.specs.Kept.{IsBranchOn}
use Rattle.predecode.specs.Kinds.{follows}
use Rattle.predecode.specs.declared.kinds.Kind.TheVariants.{Branch, Empty}
use Rattle.predecode.specs.lemmas.Reached.{IsReached}
use Rattle.predecode.specs.declared.rows.Row.{Row}

-- the row, emptied
abbrev pub emptied : Row → Row
emptied row = record { number = row.number; kind = Empty; rd = row.rd; rs1 = row.rs1; rs2 = row.rs2 }

-- a row of zeros, which stands where there is none
abbrev pub row_of_zeros : Row
row_of_zeros = record { number = 0; kind = Empty; rd = 0; rs1 = 0; rs2 = 0 }

-- a row of a word that was not looked at
abbrev pub empty_row : Row
empty_row = record { number = 0; kind = Empty; rd = 0; rs1 = 0; rs2 = 0 }

-- all rows are such
abbrev pub AreEmpty : List Row → Type 0
AreEmpty rows = (number : ℕ) (row : Row) → slice_get rows number ≡ Some row → row ≡ empty_row

-- the rows with one emptied
unfoldable pub with_empty : ℕ → List Row → List Row
with_empty number rows = slice_set rows number (emptied (slice_index_or rows number row_of_zeros))

-- a row that stood at a number, emptied
pub record WasEmptied (old : List Row) (number : ℕ) (row : Row) : Type 0 where
  pub before : Row
  pub there : slice_get old number ≡ Some before
  pub is : row ≡ emptied before

-- each row is an old one emptied, or the old one, and then it has none of these numbers
pub record AreGone (begin end : ℕ) (old new : List Row) : Type 0 where
  pub counted : length new ≡ length old
  pub each : (number : ℕ) (row : Row) → slice_get new number ≡ Some row → ((slice_get old number ≡ Some row) × ((number < begin) ⊎ (end ≤ number))) ⊎ WasEmptied old number row
  pub rest : (number : ℕ) → (number < begin) ⊎ (end ≤ number) → slice_get new number ≡ slice_get old number

-- the row before a place is no row of a pair: it was emptied, where it may have been one. A branch is none, and stays
pub record IsLone (begin : ℕ) (old new : List Row) : Type 0 where
  pub counted : length new ≡ length old
  pub each : (number : ℕ) (row : Row) → slice_get new number ≡ Some row → (slice_get old number ≡ Some row) ⊎ WasEmptied old number row
  pub branch : (number : ℕ) (row : Row) → slice_get old number ≡ Some row → row.kind ≡ Branch → slice_get new number ≡ Some row
  pub before : (number : ℕ) (row : Row) → number + 1 ≡ begin → slice_get new number ≡ Some row → follows row.kind ≡ None

-- each row is an old one emptied, or the old one, and then it has none of these numbers; the row before them may be emptied, too, and the branch
-- after each row of a pair that is left stands where it stood
pub record AreEmptied (begin end : ℕ) (old new : List Row) : Type 0 where
  pub counted : length new ≡ length old
  pub each : (number : ℕ) (row : Row) → slice_get new number ≡ Some row → ((slice_get old number ≡ Some row) × ((number < begin) ⊎ (end ≤ number))) ⊎ WasEmptied old number row
  pub pairs : (number : ℕ) (row : Row) (condition : ℕ) → slice_get new number ≡ Some row → follows row.kind ≡ Some condition
      → IsBranchOn (Some condition) (slice_get old (number + 1)) → IsBranchOn (Some condition) (slice_get new (number + 1))

-- rows of which those are emptied that this many words from a place on have below the top, among the first ones of a share
pub record AreReached (base top place count : ℕ) (old new : List Row) : Type 0 where
  pub begin : ℕ
  pub end : ℕ
  pub done : AreEmptied (base + begin) (base + end) old new
  pub each : (k : ℕ) → k < top → IsReached place count k → (begin ≤ k) × (k < end)
