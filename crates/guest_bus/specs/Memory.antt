-- A guest's memory: its areas, and its bytes by their addresses.
use Rattle.std.specs.Prelude.{ℕ, zero, suc, ◌+◌, Bool, true, ◌&&◌, not, nat_le, nat_lt, List, [], ◌∷◌, unwrap_or}
use Rattle.std.specs.List.{list_any}
use Rattle.std.specs.Ordering.{nat_cmp}
use Rattle.std.specs.Coded.{Coded, coded_ℕ}
use Rattle.std.specs.FinMap.{FinMap, get, insert, code}

-- a range of addresses
pub record Area : Type 0 where
  pub start : ℕ
  pub size : ℕ
  pub read_only : Bool

-- bytes by their addresses
abbrev pub Memory : Type 0
Memory = FinMap nat_cmp ℕ

-- how a memory is distinguished from another
abbrev pub memory_code : Coded Memory
memory_code = code coded_ℕ coded_ℕ

-- the number of a guest, and the areas and the memories of all others, in order
pub record Others : Type 0 where
  pub number : ℕ
  pub areas : List (List Area)
  pub memories : List Memory

-- the area holds the address
abbrev pub holds_address : ℕ → Area → Bool
holds_address address area = nat_le area.start address && nat_lt address (area.start + area.size)

-- the byte at the address may be read and fetched
abbrev pub is_readable : List Area → ℕ → Bool
is_readable areas address = list_any (holds_address address) areas

-- the byte at the address may be written
abbrev pub is_writable : List Area → ℕ → Bool
is_writable areas address = list_any (λ area. holds_address address area && not area.read_only) areas

-- each of this many addresses from one on passes
abbrev pub all_from : (ℕ → Bool) → ℕ → ℕ → Bool
all_from allowed address zero = true
all_from allowed address (suc count) = allowed address && all_from allowed (suc address) count

-- the byte at an address, 0 where there is none
abbrev pub byte_at : Memory → ℕ → ℕ
byte_at memory address = unwrap_or (get memory address) 0

-- this many bytes from an address on
abbrev pub bytes_at : Memory → ℕ → ℕ → List ℕ
bytes_at memory address zero = []
bytes_at memory address (suc count) = byte_at memory address ∷ bytes_at memory (suc address) count

-- the memory with these bytes from an address on
abbrev pub with_bytes : Memory → ℕ → List ℕ → Memory
with_bytes memory address [] = memory
with_bytes memory address (byte ∷ bytes) = with_bytes (insert memory address byte) (suc address) bytes
