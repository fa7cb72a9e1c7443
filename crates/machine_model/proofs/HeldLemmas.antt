-- Words that are put into a memory are held by it.
use Rattle.std.proofs.Common.{◌≡◌, ℕ, ◌+◌, ◌^◌, ◌≤◌, ◌<◌, List, [], ◌∷◌, length, None, Ok, refl, ap, ◌∙◌, arith, inr}
use Rattle.std.specs.Prelude.{map}
use Rattle.std.specs.Int.{from_be_bytes, to_be_bytes, w32}
use Rattle.std.proofs.lemmas.Nat.{from_be_bytes-to_be_bytes_4}
use Rattle.guest_bus.specs.Access.{access_fault, fetched, unless_refused}
use Rattle.guest_bus.specs.Memory.{Memory, bytes_at, is_readable, with_bytes}
use Rattle.guest_bus.specs.lemmas.MemoryLemmas.{bytes_at-with_bytes, bytes_at-with_bytes_apart}
use Rattle.xm_conf.specs.Configuration.{Part}
use Rattle.guest_memory.specs.Loading.{area_of}
use Rattle.machine_model.specs.rows.Rows.{CanHold, Holds, HoldsAll, plain_part, with_words}
use Rattle.machine_model.specs.rows.CallRows.{caller}
use Rattle.machine_model.specs.rows.HealthRows.{part_with_action, raise_words, raising}
use Rattle.machine_model.specs.rows.SlotRows.{first_part, loop_words, planner, second_part}
use Rattle.machine_model.specs.rows.TrapRows.{saver, saves, stray_load}
use Rattle.machine_model.specs.rows.WholeRows.{other_caller}
use Rattle.machine_model.specs.rows.WordRows.{WordsCanBeHeld}

-- each of these is a word, and may be fetched at its address
abbrev MayBeFetched : Part → ℕ → List ℕ → Type 0
MayBeFetched part address [] = Unit {0}
MayBeFetched part address (word ∷ words) =
    (word < 2 ^ 32) × (access_fault (is_readable (map area_of part.areas)) address 4 ≡ None) × MayBeFetched part (address + 4) words

-- what stands above bytes that are put in is held as before
held_above : (part : Part) (memory : Memory) (at q : ℕ) (bytes : List ℕ) (word : ℕ) → at + length bytes ≤ q → Holds part memory q word → Holds part (with_bytes memory at bytes) q word
unfolding fetched
held_above part memory at q bytes word above held =
    ap (λ found. unless_refused (access_fault (is_readable (map area_of part.areas)) q 4) (from_be_bytes w32 found)) (bytes_at-with_bytes_apart memory at bytes q 4 (inr above)) ∙ held

all_held_above : (part : Part) (memory : Memory) (at q : ℕ) (bytes words : List ℕ) → at + length bytes ≤ q → HoldsAll part memory q words → HoldsAll part (with_bytes memory at bytes) q words
all_held_above part memory at q bytes [] above held = tt
all_held_above part memory at q bytes (word ∷ words) above held =
    (held_above part memory at q bytes word above held.0, all_held_above part memory at (q + 4) bytes words (omega arith) held.1)

-- a word that is put in is held
held_here : (part : Part) (memory : Memory) (address word : ℕ) → word < 2 ^ 32 → access_fault (is_readable (map area_of part.areas)) address 4 ≡ None
    → Holds part (with_bytes memory address (to_be_bytes w32 word)) address word
unfolding fetched
held_here part memory address word small allowed =
    ap (λ fault. unless_refused fault (from_be_bytes w32 (bytes_at (with_bytes memory address (to_be_bytes w32 word)) address 4))) allowed
    ∙ ap (λ bytes. unless_refused None (from_be_bytes w32 bytes)) (bytes_at-with_bytes memory address (to_be_bytes w32 word))
    ∙ ap Ok (from_be_bytes-to_be_bytes_4 word small)

-- words that may be fetched can be held
can_hold : (part : Part) (address : ℕ) (words : List ℕ) → MayBeFetched part address words → CanHold part address words
can_hold part address [] may memory = tt
can_hold part address (word ∷ words) may memory = (
  held_here part (with_words memory (address + 4) words) address word may.0 may.1,
  all_held_above part (with_words memory (address + 4) words) address (address + 4) (to_be_bytes w32 word) words (omega arith) (can_hold part (address + 4) words may.2 memory),
)

pub words_can_be_held : WordsCanBeHeld
words_can_be_held = record {
  first_loops = can_hold first_part 0x40000000 loop_words (omega arith, refl, (omega arith, refl, tt));
  second_loops = can_hold second_part 0x40000100 loop_words (omega arith, refl, (omega arith, refl, tt));
  first_loads = can_hold first_part 0x40000000 stray_load (omega arith, refl, (omega arith, refl, tt));
  plans = can_hold planner 0x40000000 (0x91d02070 ∷ []) (omega arith, refl, tt);
  is_illegal = λ an_action. can_hold (part_with_action an_action) 0x40000000 (0 ∷ []) (omega arith, refl, tt);
  raises = can_hold raising 0x40100000 raise_words (omega arith, refl, (omega arith, refl, (omega arith, refl, tt)));
  traps = can_hold (plain_part 0x40000000 4) 0x40000000 (0 ∷ []) (omega arith, refl, tt);
  saves = can_hold saver 0x40000000 saves (omega arith, refl, (omega arith, refl, (omega arith, refl, (omega arith, refl, (omega arith, refl, (omega arith, refl, (omega arith, refl, tt)))))));
  calls = λ is_system. can_hold (caller is_system) 0x40000000 (0x91d02070 ∷ []) (omega arith, refl, tt);
  other_calls = can_hold other_caller 0x40000100 (0x91d02070 ∷ []) (omega arith, refl, tt);
}
