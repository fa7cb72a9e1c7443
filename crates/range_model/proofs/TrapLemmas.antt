-- A spill, a fill, the delivery of a trap and the return from one leave words in the registers and bytes in the memory.
use Rattle.std.proofs.Common.{◌≡◌, ℕ, zero, suc, ◌<◌, ◌≤◌, ◌+◌, ◌*◌, Bool, true, false, List, [], ◌∷◌, Some, Result, Ok, Err, refl, arith}
use Rattle.std.specs.Prelude.{◌%◌, ◌^◌, ◌==◌, if◌then◌else◌, slice_set}
use Rattle.guest_bus.specs.Memory.{Area, Memory, is_readable, is_writable, with_bytes}
use Rattle.guest_bus.specs.Words.{bytes_of, words_at}
use Rattle.sparc_step.specs.Execution.{Turned, turned}
use Rattle.sparc_step.specs.Registers.{Registers, in_window, place_in_windows, register_at, with_register}
use Rattle.sparc_step.specs.declared.outcome.Turn.{Turn}
use Rattle.sparc_step.specs.declared.outcome.Turn.TheVariants.{Went, Trap, Call}
use Rattle.virt_traps.specs.Delivery.{Delivered, Returned, are_aligned, at_entry, brought_above, delivered, delivered_below, entered_below, freed_below, restored, returned, returned_above, virtual_psr}
use Rattle.virt_traps.specs.Moves.{Moved, fill_address, filled, move_made, move_refused, spill_address, spill_window, spilled}
use Rattle.virt_traps.specs.SaveArea.{is_usable, saved, with_registers}
use Rattle.virt_traps.specs.Settled.{after_trap, again_or_trap, answered, made_again, settled}
use Rattle.virt_traps.specs.Virtual.{VirtualTraps, due, first_due, is_interrupt_due}
use Rattle.virt_traps.specs.declared.windows.StackFault.{StackFault}
use Rattle.range_model.specs.Instructions.{IsTrapByte, IsTurnedInRange}
use Rattle.range_model.specs.Numbers.{AreBelow, IsByteMemory}
use Rattle.range_model.specs.Registers.{AreWordRegisters}
use Rattle.range_model.proofs.NumberLemmas.{bytes_of_bytes, memory_words, set_below, written_bytes}
use Rattle.range_model.proofs.StepLemmas.{in_window_words, is_refused, placed_words, register_word, turned_in_range, with_register_word}

-- what a move of a window leaves is in its ranges
pub record IsMovedInRange (m : Moved) : Type 0 where
  pub core : AreWordRegisters m.core
  pub memory : IsByteMemory m.memory

moves : (m : Moved) → AreWordRegisters m.core → IsByteMemory m.memory → IsMovedInRange m
moves m has bytes = record { core = has; memory = bytes }

either_moves : (b : Bool) (one other : Moved) → IsMovedInRange one → IsMovedInRange other → IsMovedInRange (if b then one else other)
either_moves true one other first second = first
either_moves false one other first second = second

-- registers with other windows, and another one invalid
with_windows : (core : Registers) (windows : List ℕ) (inv : ℕ) → AreBelow (2 ^ 32) windows → AreWordRegisters core → AreWordRegisters (record core { windows = windows; inv = inv })
with_windows core windows inv each has = record {
  pc = has.pc;
  npc = has.npc;
  y = has.y;
  icc = has.icc;
  cwp = has.cwp;
  globals = has.globals;
  windows = each;
}

values_below : (windows : List ℕ) (window n : ℕ) (values : List ℕ) → AreBelow (2 ^ 32) values → AreBelow (2 ^ 32) windows → AreBelow (2 ^ 32) (with_registers windows window n values)
unfolding with_registers
values_below windows window n [] small each = each
values_below windows window n (value ∷ values) small each =
    values_below (slice_set windows (place_in_windows window n) value) window (suc n) values (λ i. small (suc i))
    (set_below (2 ^ 32) windows (place_in_windows window n) value (small zero) each)

pub spill_in_range : (areas : List Area) (core : Registers) (memory : Memory) → AreWordRegisters core → IsByteMemory memory → IsMovedInRange (spilled areas core memory)
unfolding spilled
spill_in_range areas core memory has bytes =
    either_moves (is_usable (is_writable areas) (spill_address core))
    (move_made (record core { inv = spill_window core }) (with_bytes memory (spill_address core) (bytes_of (saved core.windows (spill_window core))))) (move_refused core memory)
    (moves _ (with_windows core core.windows (spill_window core) has.windows has)
    (written_bytes memory (spill_address core) (bytes_of (saved core.windows (spill_window core))) (bytes_of_bytes (saved core.windows (spill_window core))) bytes))
    (moves _ has bytes)

pub fill_in_range : (areas : List Area) (core : Registers) (memory : Memory) → AreWordRegisters core → IsByteMemory memory → IsMovedInRange (filled areas core memory)
unfolding filled
fill_in_range areas core memory has bytes =
    either_moves (is_usable (is_readable areas) (fill_address core))
    (move_made (record core { windows = with_registers core.windows core.inv 16 (words_at memory (fill_address core) 16); inv = (core.inv + 1) % 8 }) memory) (move_refused core memory)
    (moves _ (with_windows core (with_registers core.windows core.inv 16 (words_at memory (fill_address core) 16)) ((core.inv + 1) % 8)
    (values_below core.windows core.inv 16 (words_at memory (fill_address core) 16) (memory_words memory (fill_address core) 16 bytes) has.windows) has) bytes)
    (moves _ has bytes)

-- one instruction with the spill or the fill that it needs
again_in_range : (answer : Result (Unit {0}) StackFault) (type : ℕ) (areas : List Area) (core : Registers) (memory : Memory) → type < 256 → AreWordRegisters core → IsByteMemory memory
    → IsTurnedInRange (again_or_trap answer type areas core memory)
again_in_range (Ok made) type areas core memory byte has bytes = turned_in_range areas core memory has bytes
again_in_range (Err fault) type areas core memory byte has bytes = is_refused type core memory byte has bytes

made_in_range : (type : ℕ) (areas : List Area) (moved : Moved) → type < 256 → IsMovedInRange moved → IsTurnedInRange (made_again type areas moved)
unfolding made_again
made_in_range type areas moved byte is = again_in_range moved.answer type areas moved.core moved.memory byte is.core is.memory

either_turns : (b : Bool) (one other : Turned) → IsTurnedInRange one → IsTurnedInRange other → IsTurnedInRange (if b then one else other)
either_turns true one other first second = first
either_turns false one other first second = second

after_trap_in_range : (type : ℕ) (areas : List Area) (core : Registers) (memory : Memory) → type < 256 → AreWordRegisters core → IsByteMemory memory → IsTurnedInRange (after_trap type areas core memory)
unfolding after_trap
after_trap_in_range type areas core memory byte has bytes =
    either_turns (type == 5) _ _ (made_in_range 5 areas (spilled areas core memory) (omega arith) (spill_in_range areas core memory has bytes))
    (either_turns (type == 6) _ _ (made_in_range 6 areas (filled areas core memory) (omega arith) (fill_in_range areas core memory has bytes)) (is_refused type core memory byte has bytes))

answered_in_range : (turn : Turn) (first : Turned) (areas : List Area) (core : Registers) (memory : Memory) → IsTrapByte turn → IsTurnedInRange first → AreWordRegisters core → IsByteMemory memory
    → IsTurnedInRange (answered turn first areas core memory)
answered_in_range Went first areas core memory byte is has bytes = is
answered_in_range (Trap type) first areas core memory byte is has bytes = after_trap_in_range type areas core memory byte has bytes
answered_in_range Call first areas core memory byte is has bytes = is

pub settled_in_range : (areas : List Area) (core : Registers) (memory : Memory) → AreWordRegisters core → IsByteMemory memory → IsTurnedInRange (settled areas core memory)
unfolding settled
settled_in_range areas core memory has bytes =
    let first = turned_in_range areas core memory has bytes in
    answered_in_range (turned areas core memory).turn (turned areas core memory) areas core memory first.turn first has bytes

-- the delivery of a trap of a type of one byte, whose table ends among the addresses
pub record IsDeliveredInRange (d : Delivered) (v : VirtualTraps) : Type 0 where
  pub core : AreWordRegisters d.core
  pub memory : IsByteMemory d.memory
  pub base : d.traps.base ≡ v.base

psr_word : (enabled : Bool) (icc cwp : ℕ) → icc < 16 → cwp < 8 → virtual_psr enabled icc cwp < 2 ^ 32
unfolding virtual_psr
psr_word true icc cwp four few = omega (arith, four, few)
psr_word false icc cwp four few = omega (arith, four, few)

entered_words : (enabled : Bool) (core : Registers) → AreWordRegisters core → AreWordRegisters (entered_below enabled core)
unfolding entered_below
entered_words enabled core has =
    let below = in_window core ((core.cwp + 7) % 8) in
    let first = with_register_word below 16 (virtual_psr enabled core.icc core.cwp) (psr_word enabled core.icc core.cwp has.icc has.cwp) (in_window_words core ((core.cwp + 7) % 8) (omega arith) has) in
    let second = with_register_word (with_register below 16 (virtual_psr enabled core.icc core.cwp)) 17 core.pc has.pc first in
    with_register_word (with_register (with_register below 16 (virtual_psr enabled core.icc core.cwp)) 17 core.pc) 18 core.npc has.npc second

entry_words : (base type : ℕ) (core : Registers) → base + 4096 ≤ 2 ^ 32 → type < 256 → AreWordRegisters core → AreWordRegisters (at_entry base type core)
unfolding at_entry
entry_words base type core ends byte has = placed_words core (base + 16 * type) (base + 16 * type + 4) (omega (arith, ends, byte)) (omega (arith, ends, byte)) has

delivered_below_in_range : (answer : Result (Unit {0}) StackFault) (v : VirtualTraps) (core : Registers) (memory : Memory) (type : ℕ) → v.base + 4096 ≤ 2 ^ 32 → type < 256 → AreWordRegisters core → IsByteMemory memory
    → IsDeliveredInRange (delivered_below answer v core memory type) v
delivered_below_in_range (Ok free) v core memory type ends byte has bytes = record {
  core = entry_words v.base type (entered_below v.enabled core) ends byte (entered_words v.enabled core has);
  memory = bytes;
  base = refl;
}
delivered_below_in_range (Err fault) v core memory type ends byte has bytes = record { core = has; memory = bytes; base = refl }

freed_in_range : (areas : List Area) (core : Registers) (memory : Memory) → AreWordRegisters core → IsByteMemory memory → IsMovedInRange (freed_below areas core memory)
unfolding freed_below
freed_in_range areas core memory has bytes =
    either_moves ((core.cwp + 7) % 8 == core.inv) (spilled areas core memory) (move_made core memory) (spill_in_range areas core memory has bytes) (moves (move_made core memory) has bytes)

pub delivered_in_range : (areas : List Area) (v : VirtualTraps) (core : Registers) (memory : Memory) (type : ℕ) → v.base + 4096 ≤ 2 ^ 32 → type < 256 → AreWordRegisters core → IsByteMemory memory
    → IsDeliveredInRange (delivered areas v core memory type) v
unfolding delivered
delivered_in_range areas v core memory type ends byte has bytes =
    let free = freed_in_range areas core memory has bytes in
    delivered_below_in_range (freed_below areas core memory).answer v (freed_below areas core memory).core (freed_below areas core memory).memory type ends byte free.core free.memory

-- the return from a trap
pub record IsReturnedInRange (r : Returned) (v : VirtualTraps) : Type 0 where
  pub core : AreWordRegisters r.core
  pub base : r.traps.base ≡ v.base

restored_words : (psr pc npc : ℕ) (core : Registers) → pc < 2 ^ 32 → npc < 2 ^ 32 → AreWordRegisters core → AreWordRegisters (restored psr pc npc core)
unfolding restored
restored_words psr pc npc core one two has = record {
  pc = one;
  npc = two;
  y = has.y;
  icc = omega arith;
  cwp = omega arith;
  globals = has.globals;
  windows = has.windows;
}

returned_above_in_range : (answer : Result (Unit {0}) StackFault) (psr pc npc : ℕ) (v : VirtualTraps) (core : Registers) → pc < 2 ^ 32 → npc < 2 ^ 32 → AreWordRegisters core
    → IsReturnedInRange (returned_above answer psr pc npc v core) v
returned_above_in_range (Ok there) psr pc npc v core one two has = record { core = restored_words psr pc npc core one two has; base = refl }
returned_above_in_range (Err fault) psr pc npc v core one two has = record { core = has; base = refl }

brought_words : (areas : List Area) (core : Registers) (memory : Memory) → AreWordRegisters core → IsByteMemory memory → IsMovedInRange (brought_above areas core memory)
unfolding brought_above
brought_words areas core memory has bytes =
    either_moves ((core.cwp + 1) % 8 == core.inv) (filled areas core memory) (move_made core memory) (fill_in_range areas core memory has bytes) (moves (move_made core memory) has bytes)

either_returns : (b : Bool) (one other : Returned) (v : VirtualTraps) → IsReturnedInRange one v → IsReturnedInRange other v → IsReturnedInRange (if b then one else other) v
either_returns true one other v first second = first
either_returns false one other v first second = second

pub returned_in_range : (areas : List Area) (v : VirtualTraps) (core : Registers) (memory : Memory) → AreWordRegisters core → IsByteMemory memory → IsReturnedInRange (returned areas v core memory) v
unfolding returned
returned_in_range areas v core memory has bytes =
    let brought = brought_words areas core memory has bytes in
    either_returns (are_aligned core) _ _ v
    (returned_above_in_range (brought_above areas core memory).answer (register_at core 16) (register_at core 17) (register_at core 18) v (brought_above areas core memory).core
    (register_word core 17 has) (register_word core 18 has) brought.core)
    (record { core = has; base = refl })

-- an interrupt that is due is one of 32
first_small : (from count n : ℕ) (v : VirtualTraps) → first_due from count v ≡ Some n → n < from + count
first_small from zero n v is = absurd cc
first_small from (suc count) n v is = by (is_interrupt_due from v) is (λ later. first_small (suc from) count n v later)
  where
    by : (b : Bool) → (if b then Some from else first_due (suc from) count v) ≡ Some n → (first_due (suc from) count v ≡ Some n → n < suc from + count) → n < from + suc count
    by true here further = let same : from ≡ n = cc in omega (arith, same)
    by false later further = let small = further later in omega (arith, small)

pub due_small : (n : ℕ) (v : VirtualTraps) → due v ≡ Some n → n < 32
unfolding due
due_small n v is = first_small 0 32 n v is
