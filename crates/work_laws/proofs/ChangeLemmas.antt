-- Changes of a memory, and those that an instruction, a window or a delivery makes.
use Rattle.std.proofs.Common.{◌≡◌, ◌≢◌, ℕ, zero, suc, ◌+◌, ◌≤◌, Bool, true, false, List, [], ◌∷◌, ◌++◌, length, Option, None, Some, Result, Ok, Err, refl, ap, ◌∙◌, arith}
use Rattle.std.specs.Prelude.{◌==◌, ◌||◌, ◌%◌, if◌then◌else◌}
use Rattle.std.specs.FinMap.{get, insert}
use Rattle.std.specs.Int.{byte_len, to_be_bytes}
use Rattle.std.proofs.lemmas.Bool.Decides.{nat_tests}
use Rattle.std.proofs.lemmas.List.{length-append}
use Rattle.guest_bus.specs.Access.{after_store, fetched, loaded, memory_unless_refused, store_fault, width_of}
use Rattle.guest_bus.specs.Memory.{Area, Memory, is_readable, is_writable, with_bytes}
use Rattle.guest_bus.specs.Words.{bytes_of}
use Rattle.guest_bus.specs.declared.bus.BusFault.{BusFault}
use Rattle.guest_bus.specs.declared.bus.Size.{Size}
use Rattle.guest_bus.specs.declared.bus.Size.TheVariants.{One, Two, Four, Eight}
use Rattle.guest_bus.specs.lemmas.AccessLemmas.{length-bytes_high_first, length-bytes_of}
use Rattle.guest_bus.specs.lemmas.MemoryLemmas.{get-insert_other}
use Rattle.sparc_code.specs.Decoded.{decoded}
use Rattle.sparc_code.specs.declared.instruction.Instr.{Instr}
use Rattle.sparc_code.specs.declared.instruction.Instr.TheVariants as instr
use Rattle.sparc_code.specs.declared.instruction.MemOp.{MemOp}
use Rattle.sparc_code.specs.declared.instruction.MemOp.TheVariants as transfers
use Rattle.sparc_step.specs.Execution.{Turned, executed, turned, turned_after}
use Rattle.sparc_step.specs.Operands.{sum_of}
use Rattle.sparc_step.specs.Registers.{Registers, register_at}
use Rattle.sparc_step.specs.Transfers.{exchange_of, exchanged, loaded_into, low_word, pair_at, pair_loaded, signed_byte, signed_half, store_of, stored_from, transfer}
use Rattle.sparc_step.specs.declared.outcome.Turn.{Turn}
use Rattle.sparc_step.specs.declared.outcome.Turn.TheVariants.{Went, Trap, Call}
use Rattle.virt_traps.specs.Delivery.{delivered, delivered_below, freed_below}
use Rattle.virt_traps.specs.Moves.{Moved, fill_address, filled, move_made, move_refused, spill_address, spill_window, spilled}
use Rattle.virt_traps.specs.SaveArea.{is_usable, registers_from, saved}
use Rattle.virt_traps.specs.Settled.{after_trap, again_or_trap, answered, made_again, settled}
use Rattle.virt_traps.specs.Virtual.{VirtualTraps}
use Rattle.virt_traps.specs.declared.windows.StackFault.{StackFault}
use Rattle.machine_model.specs.View.{has_number}
use Rattle.work_laws.specs.Changes.{ChangesFew}

-- nothing changed
pub stays : (most : ℕ) (memory : Memory) → ChangesFew most memory memory
stays most memory = record { addresses = []; few = omega arith; others = λ address none. refl }

pub stays_as : (most : ℕ) (before after : Memory) → after ≡ before → ChangesFew most before after
stays_as most before after same = record { addresses = []; few = omega arith; others = λ address none. ap (λ (m : Memory). get m address) same }

pub more : (few most : ℕ) (before after : Memory) → few ≤ most → ChangesFew few before after → ChangesFew most before after
more few most before after below changes = record { addresses = changes.addresses; few = omega (arith, below, changes.few); others = changes.others }

-- neither of two tests holds
neither : (a b : Bool) → (a || b) ≡ false → (a ≡ false) × (b ≡ false)
neither false false none = (refl, refl)
neither false true none = absurd cc
neither true b none = absurd cc

apart : (one other : List ℕ) (n : ℕ) → has_number (one ++ other) n ≡ false → (has_number one n ≡ false) × (has_number other n ≡ false)
apart [] other n none = (refl, none)
apart (first ∷ one) other n none =
    let its = neither (first == n) (has_number (one ++ other) n) none in
    let rest = apart one other n its.1 in
    (ap (λ (b : Bool). b || has_number one n) its.0 ∙ rest.0, rest.1)

-- one change after another
pub both : (first second : ℕ) (a b c : Memory) → ChangesFew first a b → ChangesFew second b c → ChangesFew (first + second) a c
both first second a b c one other =
    let e = length-append one.addresses other.addresses in
    record {
      addresses = one.addresses ++ other.addresses;
      few = omega (arith, e, one.few, other.few);
      others = λ address none. other.others address (apart one.addresses other.addresses address none).1 ∙ one.others address (apart one.addresses other.addresses address none).0;
    }

-- bytes that are written
unlike : (k n : ℕ) → (k == n) ≡ false → n ≢ k
unlike k n other = grind (arith, nat_tests)

pub insert_few : (memory : Memory) (address byte : ℕ) → ChangesFew 1 memory (insert memory address byte)
insert_few memory address byte = record {
  addresses = address ∷ [];
  few = omega arith;
  others = λ n none. get-insert_other memory address byte n (unlike address n (neither (address == n) false none).0);
}

pub bytes_few : (memory : Memory) (address : ℕ) (bytes : List ℕ) → ChangesFew (length bytes) memory (with_bytes memory address bytes)
bytes_few memory address [] = stays 0 memory
bytes_few memory address (byte ∷ bytes) =
    more (1 + length bytes) (suc (length bytes)) memory (with_bytes (insert memory address byte) (suc address) bytes) (omega arith)
    (both 1 (length bytes) memory (insert memory address byte) _ (insert_few memory address byte) (bytes_few (insert memory address byte) (suc address) bytes))

pub bytes_within : (most : ℕ) (memory : Memory) (address : ℕ) (bytes : List ℕ) → length bytes ≤ most → ChangesFew most memory (with_bytes memory address bytes)
bytes_within most memory address bytes short = more (length bytes) most memory _ short (bytes_few memory address bytes)

-- loads, stores and exchanges
load_few : (r : Result ℕ BusFault) (extended : ℕ → ℕ) (rd : ℕ) (core : Registers) (memory : Memory) → ChangesFew 8 memory (loaded_into r extended rd core memory).memory
load_few (Ok value) extended rd core memory = stays 8 memory
load_few (Err fault) extended rd core memory = stays 8 memory

pair_few : (r : Result ℕ BusFault) (rd : ℕ) (core : Registers) (memory : Memory) → ChangesFew 8 memory (pair_loaded r rd core memory).memory
pair_few (Ok value) rd core memory = stays 8 memory
pair_few (Err fault) rd core memory = stays 8 memory

narrow : (size : Size) → byte_len (width_of size) ≤ 8
narrow One = omega arith
narrow Two = omega arith
narrow Four = omega arith
narrow Eight = omega arith

after_few : (areas : List Area) (memory : Memory) (address : ℕ) (size : Size) (value : ℕ) → ChangesFew 8 memory (after_store areas memory address size value)
unfolding after_store
after_few areas memory address size value = by (store_fault areas address size) _ (bytes_within 8 memory address (to_be_bytes (width_of size) value) (let e = length-bytes_high_first (byte_len (width_of size)) value in let f = narrow size in omega (arith, e, f)))
  where
    by : (o : Option BusFault) (new : Memory) → ChangesFew 8 memory new → ChangesFew 8 memory (memory_unless_refused o memory new)
    by None new few = few
    by (Some fault) new few = stays 8 memory

stored_few : (o : Option BusFault) (core : Registers) (old new : Memory) → ChangesFew 8 old new → ChangesFew 8 old (stored_from o core old new).memory
stored_few None core old new few = few
stored_few (Some fault) core old new few = stays 8 old

store_few : (value address : ℕ) (size : Size) (areas : List Area) (core : Registers) (memory : Memory) → ChangesFew 8 memory (store_of value address size areas core memory).memory
unfolding store_of
store_few value address size areas core memory =
    stored_few (store_fault areas address size) core memory (after_store areas memory address size value) (after_few areas memory address size value)

exchanged_few : (r : Result ℕ BusFault) (o : Option BusFault) (rd : ℕ) (core : Registers) (old new : Memory) → ChangesFew 8 old new → ChangesFew 8 old (exchanged r o rd core old new).memory
exchanged_few (Ok found) None rd core old new few = few
exchanged_few (Ok found) (Some fault) rd core old new few = stays 8 old
exchanged_few (Err fault) o rd core old new few = stays 8 old

exchange_few : (value address : ℕ) (size : Size) (rd : ℕ) (areas : List Area) (core : Registers) (memory : Memory) → ChangesFew 8 memory (exchange_of value address size rd areas core memory).memory
unfolding exchange_of
exchange_few value address size rd areas core memory =
    exchanged_few (loaded areas memory address size) (store_fault areas address size) rd core memory (after_store areas memory address size value) (after_few areas memory address size value)

transfer_few : (operation : MemOp) (rd address : ℕ) (areas : List Area) (core : Registers) (memory : Memory) → ChangesFew 8 memory (transfer operation rd address areas core memory).memory
transfer_few transfers.Ld rd address areas core memory = load_few (loaded areas memory address Four) low_word rd core memory
transfer_few transfers.LdUb rd address areas core memory = load_few (loaded areas memory address One) low_word rd core memory
transfer_few transfers.LdUh rd address areas core memory = load_few (loaded areas memory address Two) low_word rd core memory
transfer_few transfers.LdD rd address areas core memory = pair_few (loaded areas memory address Eight) rd core memory
transfer_few transfers.St rd address areas core memory = store_few (register_at core rd) address Four areas core memory
transfer_few transfers.StB rd address areas core memory = store_few (register_at core rd) address One areas core memory
transfer_few transfers.StH rd address areas core memory = store_few (register_at core rd) address Two areas core memory
transfer_few transfers.StD rd address areas core memory = store_few (pair_at core rd) address Eight areas core memory
transfer_few transfers.LdSb rd address areas core memory = load_few (loaded areas memory address One) signed_byte rd core memory
transfer_few transfers.LdSh rd address areas core memory = load_few (loaded areas memory address Two) signed_half rd core memory
transfer_few transfers.LdStUb rd address areas core memory = exchange_few 0xFF address One rd areas core memory
transfer_few transfers.Swap rd address areas core memory = exchange_few (register_at core rd) address Four rd areas core memory

-- an instruction
executed_few : (i : Instr) (areas : List Area) (core : Registers) (memory : Memory) → ChangesFew 8 memory (executed i areas core memory).memory
executed_few (instr.Call disp) areas core memory = stays 8 memory
executed_few (instr.Branch condition annul disp) areas core memory = stays 8 memory
executed_few (instr.Sethi rd imm) areas core memory = stays 8 memory
executed_few (instr.Arith operation rd rs1 source) areas core memory = stays 8 memory
executed_few (instr.ReadY rd) areas core memory = stays 8 memory
executed_few instr.Barrier areas core memory = stays 8 memory
executed_few (instr.WriteY rs1 source) areas core memory = stays 8 memory
executed_few (instr.Jump rd rs1 source) areas core memory = stays 8 memory
executed_few (instr.Trap condition rs1 source) areas core memory = stays 8 memory
executed_few instr.Flush areas core memory = stays 8 memory
executed_few (instr.Save rd rs1 source) areas core memory = stays 8 memory
executed_few (instr.Restore rd rs1 source) areas core memory = stays 8 memory
executed_few (instr.Mem operation rd rs1 source) areas core memory = transfer_few operation rd (sum_of rs1 source core) areas core memory
executed_few instr.Privileged areas core memory = stays 8 memory
executed_few instr.Float areas core memory = stays 8 memory
executed_few instr.Coproc areas core memory = stays 8 memory
executed_few instr.Illegal areas core memory = stays 8 memory

turned_few : (areas : List Area) (core : Registers) (memory : Memory) → ChangesFew 8 memory (turned areas core memory).memory
unfolding turned
turned_few areas core memory = by (fetched areas memory core.pc)
  where
    by : (r : Result ℕ BusFault) → ChangesFew 8 memory (turned_after r areas core memory).memory
    by (Ok word) = executed_few (decoded word) areas core memory
    by (Err fault) = stays 8 memory

-- windows
length-from : (windows : List ℕ) (window n count : ℕ) → length (registers_from windows window n count) ≡ count
unfolding registers_from
length-from windows window n zero = refl
length-from windows window n (suc count) = ap suc (length-from windows window (suc n) count)

saved_bytes : (windows : List ℕ) (window : ℕ) → length (bytes_of (saved windows window)) ≤ 64
unfolding saved
saved_bytes windows window =
    let e = length-bytes_of (registers_from windows window 16 16) in let f = length-from windows window 16 16 in omega (arith, e, f)

either : (b : Bool) (most : ℕ) (memory : Memory) (one other : Moved) → ChangesFew most memory one.memory → ChangesFew most memory other.memory → ChangesFew most memory (if b then one else other).memory
either true most memory one other first second = first
either false most memory one other first second = second

pub spilled_few : (areas : List Area) (core : Registers) (memory : Memory) → ChangesFew 64 memory (spilled areas core memory).memory
unfolding spilled
spilled_few areas core memory =
    either (is_usable (is_writable areas) (spill_address core)) 64 memory
    (move_made (record core { inv = spill_window core }) (with_bytes memory (spill_address core) (bytes_of (saved core.windows (spill_window core))))) (move_refused core memory)
    (bytes_within 64 memory (spill_address core) (bytes_of (saved core.windows (spill_window core))) (saved_bytes core.windows (spill_window core)))
    (stays 64 memory)

filled_few : (areas : List Area) (core : Registers) (memory : Memory) → ChangesFew 64 memory (filled areas core memory).memory
unfolding filled
filled_few areas core memory = by (is_usable (is_readable areas) (fill_address core)) _
  where
    by : (b : Bool) (there : Registers) → ChangesFew 64 memory (if b then move_made there memory else move_refused core memory).memory
    by true there = stays 64 memory
    by false there = stays 64 memory

-- an instruction with the window that it needs
again_few : (answer : Result (Unit {0}) StackFault) (type : ℕ) (areas : List Area) (core : Registers) (memory : Memory) → ChangesFew 8 memory (again_or_trap answer type areas core memory).memory
again_few (Ok made) type areas core memory = turned_few areas core memory
again_few (Err fault) type areas core memory = stays 8 memory

made_few : (type : ℕ) (areas : List Area) (memory : Memory) (moved : Moved) → ChangesFew 64 memory moved.memory → ChangesFew 72 memory (made_again type areas moved).memory
unfolding made_again
made_few type areas memory moved few = both 64 8 memory moved.memory _ few (again_few moved.answer type areas moved.core moved.memory)

either_turn : (b : Bool) (memory : Memory) (one other : Turned) → ChangesFew 72 memory one.memory → ChangesFew 72 memory other.memory → ChangesFew 72 memory (if b then one else other).memory
either_turn true memory one other first second = first
either_turn false memory one other first second = second

trapped_few : (type : ℕ) (areas : List Area) (core : Registers) (memory : Memory) → ChangesFew 72 memory (after_trap type areas core memory).memory
unfolding after_trap
trapped_few type areas core memory =
    either_turn (type == 5) memory _ _ (made_few 5 areas memory (spilled areas core memory) (spilled_few areas core memory))
    (either_turn (type == 6) memory _ _ (made_few 6 areas memory (filled areas core memory) (filled_few areas core memory)) (stays 72 memory))

answered_few : (turn : Turn) (areas : List Area) (core : Registers) (memory : Memory) → ChangesFew 72 memory (answered turn (turned areas core memory) areas core memory).memory
answered_few Went areas core memory = more 8 72 memory _ (omega arith) (turned_few areas core memory)
answered_few (Trap type) areas core memory = trapped_few type areas core memory
answered_few Call areas core memory = more 8 72 memory _ (omega arith) (turned_few areas core memory)

pub settled_few : (areas : List Area) (core : Registers) (memory : Memory) → ChangesFew 72 memory (settled areas core memory).memory
unfolding settled
settled_few areas core memory = answered_few (turned areas core memory).turn areas core memory

-- a delivery
below_few : (answer : Result (Unit {0}) StackFault) (v : VirtualTraps) (core : Registers) (memory before : Memory) (type : ℕ) → ChangesFew 64 before memory → ChangesFew 64 before (delivered_below answer v core memory type).memory
below_few (Ok free) v core memory before type few = few
below_few (Err fault) v core memory before type few = few

freed_few : (areas : List Area) (core : Registers) (memory : Memory) → ChangesFew 64 memory (freed_below areas core memory).memory
unfolding freed_below
freed_few areas core memory = either ((core.cwp + 7) % 8 == core.inv) 64 memory (spilled areas core memory) (move_made core memory) (spilled_few areas core memory) (stays 64 memory)

pub delivered_few : (areas : List Area) (v : VirtualTraps) (core : Registers) (memory : Memory) (type : ℕ) → ChangesFew 64 memory (delivered areas v core memory type).memory
unfolding delivered
delivered_few areas v core memory type =
    let free = freed_below areas core memory in below_few free.answer v free.core free.memory memory type (freed_few areas core memory)
