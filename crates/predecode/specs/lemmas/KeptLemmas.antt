-- Rows stay right where other bytes are written, and where they are emptied.
use Rattle.std.proofs.Common.{◌≡◌, ◌⊎◌, ℕ, Bool, true, false, ◌+◌, ◌≤◌, List, length, Option, Some, None, Ok, refl, sym, ap, subst}
use Rattle.std.specs.Int.{w32, from_be_bytes}
use Rattle.guest_bus.specs.Access.{access_fault, fetched, unless_refused}
use Rattle.guest_bus.specs.Memory.{Area, Memory, bytes_at, is_readable, with_bytes}
use Rattle.guest_bus.specs.declared.bus.BusFault.{BusFault}
use Rattle.guest_bus.specs.lemmas.MemoryLemmas.{bytes_at-with_bytes_apart}
use Rattle.predecode.specs.Kinds.{is_unmade}
use Rattle.sparc_code.specs.Decoded.{decoded}
use Rattle.predecode.specs.Rows.{AreRegisterNumbers, IsRowOf}
use Rattle.predecode.specs.Kept.{IsKeptRow, IsRowFor, word_there}
use Rattle.predecode.specs.declared.rows.Row.{Row}

-- an empty row is kept of any word of any memory
pub empty_kept : (row : Row) (areas : List Area) (memory : Memory) (address : ℕ) → is_unmade row.kind ≡ true → AreRegisterNumbers row → IsKeptRow row areas memory address
empty_kept row areas memory address is numbers = record { registers = numbers; free = λ some. absurd (both (is_unmade row.kind) is some); spelled = λ some. absurd (both (is_unmade row.kind) is some) }
  where
    both : (b : Bool) → b ≡ true → b ≡ false → ⊥
    both true is some = cc
    both false is some = cc

-- a word apart from the bytes that are written is the same
pub word_apart : (memory : Memory) (address start : ℕ) (bytes : List ℕ) → (address + 4 ≤ start) ⊎ (start + length bytes ≤ address)
    → word_there (with_bytes memory start bytes) address ≡ word_there memory address
unfolding word_there
word_apart memory address start bytes apart = ap (from_be_bytes w32) (bytes_at-with_bytes_apart memory start bytes address 4 apart)

-- so its row is kept
pub kept_apart : (row : Row) (areas : List Area) (memory : Memory) (address start : ℕ) (bytes : List ℕ) → (address + 4 ≤ start) ⊎ (start + length bytes ≤ address)
    → IsKeptRow row areas memory address → IsKeptRow row areas (with_bytes memory start bytes) address
kept_apart row areas memory address start bytes apart is = record {
  registers = is.registers;
  free = is.free;
  spelled = λ some. subst (λ (w : ℕ). IsRowOf row (decoded w)) (sym (word_apart memory address start bytes apart)) (is.spelled some);
}

-- a word that may be fetched is the one that is there
pub fetched_there : (areas : List Area) (memory : Memory) (address word : ℕ) → fetched areas memory address ≡ Ok word → (access_fault (is_readable areas) address 4 ≡ None) × (word ≡ word_there memory address)
unfolding fetched word_there
fetched_there areas memory address word found = at (access_fault (is_readable areas) address 4) found
  where
    at : (fault : Option BusFault) → unless_refused fault (from_be_bytes w32 (bytes_at memory address 4)) ≡ Ok word → (fault ≡ None) × (word ≡ from_be_bytes w32 (bytes_at memory address 4))
    at None same = (refl, cc)
    at (Some fault) same = absurd cc

-- its row is kept of it
pub made_kept : (row : Row) (areas : List Area) (memory : Memory) (address word : ℕ) → fetched areas memory address ≡ Ok word → IsRowFor word row → IsKeptRow row areas memory address
made_kept row areas memory address word found made =
    let there = fetched_there areas memory address word found in
    record {
      registers = made.registers;
      free = λ some. there.0;
      spelled = λ some. subst (λ (w : ℕ). IsRowOf row (decoded w)) there.1 made.spelled;
    }

-- a row that is not empty is that of the word, which may be fetched
pub row_used : (row : Row) (areas : List Area) (memory : Memory) (address : ℕ) → is_unmade row.kind ≡ false → IsKeptRow row areas memory address → IsRowFor (word_there memory address) row
row_used row areas memory address some is = record { spelled = is.spelled some; registers = is.registers }

pub row_stands : (row : Row) (areas : List Area) (memory : Memory) (address : ℕ) → is_unmade row.kind ≡ false → IsKeptRow row areas memory address → fetched areas memory address ≡ Ok (word_there memory address)
unfolding fetched word_there
row_stands row areas memory address some is = ap (λ (fault : Option BusFault). unless_refused fault (from_be_bytes w32 (bytes_at memory address 4))) (is.free some)
