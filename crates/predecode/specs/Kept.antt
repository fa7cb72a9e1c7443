-- Rows that are kept of words of a memory.
use Rattle.std.specs.Prelude.{◌≡◌, ℕ, ◌+◌, ◌*◌, ◌<◌, ⊤, false, List, Option, None, Some, slice_get}
use Rattle.std.specs.Int.{w32, from_be_bytes}
use Rattle.guest_bus.specs.Access.{access_fault}
use Rattle.guest_bus.specs.Memory.{Area, Memory, bytes_at, is_readable}
use Rattle.sparc_code.specs.Decoded.{decoded}
use Rattle.predecode.specs.Kinds.{is_unmade}
use Rattle.predecode.specs.Rows.{AreRegisterNumbers, IsRowOf}
use Rattle.predecode.specs.declared.kinds.Kind.TheVariants.{Branch}
use Rattle.predecode.specs.declared.rows.Row.{Row}

-- the row is that of a word
pub record IsRowFor (word : ℕ) (row : Row) : Type 0 where
  pub spelled : IsRowOf row (decoded word)
  pub registers : AreRegisterNumbers row

-- the word whose bytes stand at an address
unfoldable pub word_there : Memory → ℕ → ℕ
word_there memory address = from_be_bytes w32 (bytes_at memory address 4)

-- the row is empty, or that of the word at an address, which may be fetched. The registers of an empty one are registers, too
pub record IsKeptRow (row : Row) (areas : List Area) (memory : Memory) (address : ℕ) : Type 0 where
  pub registers : AreRegisterNumbers row
  pub free : is_unmade row.kind ≡ false → access_fault (is_readable areas) address 4 ≡ None
  pub spelled : is_unmade row.kind ≡ false → IsRowOf row (decoded (word_there memory address))

-- this many rows from a place on are kept of the words from an address on
abbrev pub AreKeptRows : List Row → ℕ → ℕ → List Area → Memory → ℕ → Type 0
AreKeptRows rows place count areas memory address =
    (k : ℕ) (row : Row) → k < count → slice_get rows (place + k) ≡ Some row → IsKeptRow row areas memory (address + 4 * k)

-- the row is that of a branch on a condition, which annuls nothing
abbrev pub IsBranchOn : Option ℕ → Option Row → Type 0
IsBranchOn None found = ⊤
IsBranchOn (Some condition) None = ⊥
IsBranchOn (Some condition) (Some row) = (row.kind ≡ Branch) × (row.rs1 ≡ condition)
