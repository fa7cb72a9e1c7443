-- For proofs and private clauses: what the rows have in common: a trap changes nothing, and a call of the hypervisor only goes on after it.
use Rattle.std.proofs.Common.{◌∙◌, sym}
use Rattle.std.specs.Prelude.{◌≡◌, ◌≢◌, ℕ, List, Option, Some, None, Result, Ok, Err, Bool, true, false, refl, ◌==◌, if◌then◌else◌}
use Rattle.guest_bus.specs.Access.{fetched, loaded, store_fault}
use Rattle.guest_bus.specs.Memory.{Area, Memory}
use Rattle.guest_bus.specs.declared.bus.BusFault.{BusFault}
use Rattle.guest_bus.specs.declared.bus.BusFault.TheVariants.{Outside, Unaligned}
use Rattle.guest_bus.specs.declared.bus.Size.{Size}
use Rattle.guest_bus.specs.declared.bus.Size.TheVariants.{One, Two, Four, Eight}
use Rattle.sparc_code.specs.Decoded.{decoded}
use Rattle.sparc_code.specs.declared.instruction.Arith.{Arith}
use Rattle.sparc_code.specs.declared.instruction.Arith.TheVariants as arith
use Rattle.sparc_code.specs.declared.instruction.Instr.{Instr}
use Rattle.sparc_code.specs.declared.instruction.Instr.TheVariants as instr
use Rattle.sparc_code.specs.declared.instruction.MemOp.{MemOp}
use Rattle.sparc_code.specs.declared.instruction.MemOp.TheVariants as memory
use Rattle.sparc_step.specs.Arithmetic.{divided_by, tagged_difference_overflows, tagged_sum_overflows, unless_overflow, arith_outcome}
use Rattle.sparc_step.specs.Execution.{Turned, executed, keeping_memory, refused, turned, turned_after}
use Rattle.sparc_step.specs.Flow.{jumped, left_by, moved, trap_turn, window_above, window_below, window_entered}
use Rattle.sparc_step.specs.Operands.{sum_of, value_of}
use Rattle.sparc_step.specs.Outcome.{RegisterOutcome, trapped, went}
use Rattle.sparc_step.specs.Registers.{Registers, advanced, register_at}
use Rattle.sparc_step.specs.Transfers.{exchange_of, exchanged, exchanged_with, fault_type, loaded_into, pair_at, pair_loaded, store_of, stored_from, transfer}
use Rattle.sparc_step.specs.declared.outcome.Turn.{Turn}
use Rattle.sparc_step.specs.declared.outcome.Turn.TheVariants.{Went, Trap, Call}
use Rattle.sparc_step.specs.Undone.{IsUndone}

-- a trap changes nothing, and a call of the hypervisor only goes on after it
pub record IsOrderly (core : Registers) (memory : Memory) (t : Turned) : Type 0 where
  pub undone : IsUndone t.turn core t.core memory t.memory
  pub called : t.turn ≡ Call → t.core ≡ advanced core

-- no trap of a window
abbrev pub NoWindowTrap : Turn → Type 0
NoWindowTrap Went = Unit {0}
NoWindowTrap (Trap type) = (type ≢ 5) × (type ≢ 6)
NoWindowTrap Call = Unit {0}

-- so it is after an instruction that knows no windows, and the trap that it may raise is none of theirs
pub record IsPlain (core : Registers) (memory : Memory) (t : Turned) : Type 0 where
  pub orderly : IsOrderly core memory t
  pub windows : NoWindowTrap t.turn

-- orderly is an instruction that only went
went_orderly : (core after : Registers) (old new : Memory) → IsOrderly core old record { turn = Went; core = after; memory = new }
went_orderly core after old new = record { undone = tt; called = λ is_call. cc }

-- and one that only trapped
trapped_orderly : (type : ℕ) (core : Registers) (memory : Memory) → IsOrderly core memory record { turn = Trap type; core = core; memory = memory }
trapped_orderly type core memory = record { undone = (refl, refl); called = λ is_call. cc }

-- plain is one that only went
went_plain : (core after : Registers) (old new : Memory) → IsPlain core old record { turn = Went; core = after; memory = new }
went_plain core after old new = record { orderly = went_orderly core after old new; windows = tt }

-- and one that only trapped, with the type of no window trap
trapped_plain : (type : ℕ) (core : Registers) (memory : Memory) → (type ≢ 5) × (type ≢ 6) → IsPlain core memory record { turn = Trap type; core = core; memory = memory }
trapped_plain type core memory other = record { orderly = trapped_orderly type core memory; windows = other }

-- and one whose access was refused
fault_plain : (fault : BusFault) (core : Registers) (memory : Memory) → IsPlain core memory (refused (fault_type fault) core memory)
fault_plain Unaligned core memory = trapped_plain 7 core memory (λ is. cc, λ is. cc)
fault_plain Outside core memory = trapped_plain 9 core memory (λ is. cc, λ is. cc)

-- so it is after one that traps or goes, as a test says
either_plain : (b : Bool) (core : Registers) (memory : Memory) (one other : RegisterOutcome) → IsPlain core memory (keeping_memory memory one) → IsPlain core memory (keeping_memory memory other) → IsPlain core memory (keeping_memory memory (if b then one else other))
either_plain true core memory one other first second = first
either_plain false core memory one other first second = second

-- so it is after a division
divided_plain : (divisor : ℕ) (core after : Registers) (memory : Memory) → IsPlain core memory (keeping_memory memory (divided_by divisor core (went after)))
divided_plain divisor core after memory =
    either_plain (divisor == 0) core memory (trapped 0x2A core) (went after) (trapped_plain 0x2A core memory (λ is. cc, λ is. cc)) (went_plain core after memory memory)

-- so it is after tagged work
tagged_plain : (overflows : Bool) (core after : Registers) (memory : Memory) → IsPlain core memory (keeping_memory memory (unless_overflow overflows core (went after)))
tagged_plain overflows core after memory =
    either_plain overflows core memory (trapped 0x0A core) (went after) (trapped_plain 0x0A core memory (λ is. cc, λ is. cc)) (went_plain core after memory memory)

-- so it is after work on registers
pub worked_plain : (operation : Arith) (rd a b : ℕ) (core : Registers) (memory : Memory) → IsPlain core memory (keeping_memory memory (arith_outcome operation rd a b core))
worked_plain arith.UDiv rd a b core memory = divided_plain b core _ memory
worked_plain arith.SDiv rd a b core memory = divided_plain b core _ memory
worked_plain arith.UDivCc rd a b core memory = divided_plain b core _ memory
worked_plain arith.SDivCc rd a b core memory = divided_plain b core _ memory
worked_plain arith.TAddCcTv rd a b core memory = tagged_plain (tagged_sum_overflows a b) core _ memory
worked_plain arith.TSubCcTv rd a b core memory = tagged_plain (tagged_difference_overflows a b) core _ memory
worked_plain arith.Add rd a b core memory = went_plain core _ memory memory
worked_plain arith.And rd a b core memory = went_plain core _ memory memory
worked_plain arith.Or rd a b core memory = went_plain core _ memory memory
worked_plain arith.Xor rd a b core memory = went_plain core _ memory memory
worked_plain arith.Sub rd a b core memory = went_plain core _ memory memory
worked_plain arith.AndN rd a b core memory = went_plain core _ memory memory
worked_plain arith.OrN rd a b core memory = went_plain core _ memory memory
worked_plain arith.XNor rd a b core memory = went_plain core _ memory memory
worked_plain arith.AddX rd a b core memory = went_plain core _ memory memory
worked_plain arith.UMul rd a b core memory = went_plain core _ memory memory
worked_plain arith.SMul rd a b core memory = went_plain core _ memory memory
worked_plain arith.SubX rd a b core memory = went_plain core _ memory memory
worked_plain arith.AddCc rd a b core memory = went_plain core _ memory memory
worked_plain arith.AndCc rd a b core memory = went_plain core _ memory memory
worked_plain arith.OrCc rd a b core memory = went_plain core _ memory memory
worked_plain arith.XorCc rd a b core memory = went_plain core _ memory memory
worked_plain arith.SubCc rd a b core memory = went_plain core _ memory memory
worked_plain arith.AndNCc rd a b core memory = went_plain core _ memory memory
worked_plain arith.OrNCc rd a b core memory = went_plain core _ memory memory
worked_plain arith.XNorCc rd a b core memory = went_plain core _ memory memory
worked_plain arith.AddXCc rd a b core memory = went_plain core _ memory memory
worked_plain arith.UMulCc rd a b core memory = went_plain core _ memory memory
worked_plain arith.SMulCc rd a b core memory = went_plain core _ memory memory
worked_plain arith.SubXCc rd a b core memory = went_plain core _ memory memory
worked_plain arith.TAddCc rd a b core memory = went_plain core _ memory memory
worked_plain arith.TSubCc rd a b core memory = went_plain core _ memory memory
worked_plain arith.MulSCc rd a b core memory = went_plain core _ memory memory
worked_plain arith.Sll rd a b core memory = went_plain core _ memory memory
worked_plain arith.Srl rd a b core memory = went_plain core _ memory memory
worked_plain arith.Sra rd a b core memory = went_plain core _ memory memory

-- so it is after a jump
pub jumped_plain : (rd to : ℕ) (core : Registers) (memory : Memory) → IsPlain core memory (keeping_memory memory (jumped rd to core))
unfolding jumped
jumped_plain rd to core memory =
    either_plain _ core memory (went _) (trapped 0x07 core) (went_plain core _ memory memory) (trapped_plain 0x07 core memory (λ is. cc, λ is. cc))

-- so it is after a load
loaded_plain : (r : Result ℕ BusFault) (extended : ℕ → ℕ) (rd : ℕ) (core : Registers) (memory : Memory) → IsPlain core memory (loaded_into r extended rd core memory)
loaded_plain (Ok value) extended rd core memory = went_plain core _ memory memory
loaded_plain (Err fault) extended rd core memory = fault_plain fault core memory

-- so it is after LDD
pair_plain : (r : Result ℕ BusFault) (rd : ℕ) (core : Registers) (memory : Memory) → IsPlain core memory (pair_loaded r rd core memory)
pair_plain (Ok value) rd core memory = went_plain core _ memory memory
pair_plain (Err fault) rd core memory = fault_plain fault core memory

-- so it is after a store
stored_plain : (o : Option BusFault) (core : Registers) (old new : Memory) → IsPlain core old (stored_from o core old new)
stored_plain None core old new = went_plain core _ old new
stored_plain (Some fault) core old new = fault_plain fault core old

-- at any address
store_plain : (value address : ℕ) (size : Size) (areas : List Area) (core : Registers) (memory : Memory) → IsPlain core memory (store_of value address size areas core memory)
unfolding store_of
store_plain value address size areas core memory = stored_plain (store_fault areas address size) core memory _

-- so it is after an exchange
exchanged_with_plain : (o : Option BusFault) (found rd : ℕ) (core : Registers) (old new : Memory) → IsPlain core old (exchanged_with o found rd core old new)
exchanged_with_plain None found rd core old new = went_plain core _ old new
exchanged_with_plain (Some fault) found rd core old new = fault_plain fault core old

exchanged_plain : (r : Result ℕ BusFault) (o : Option BusFault) (rd : ℕ) (core : Registers) (old new : Memory) → IsPlain core old (exchanged r o rd core old new)
exchanged_plain (Ok found) o rd core old new = exchanged_with_plain o found rd core old new
exchanged_plain (Err fault) o rd core old new = fault_plain fault core old

-- at any address
exchange_plain : (value address : ℕ) (size : Size) (rd : ℕ) (areas : List Area) (core : Registers) (memory : Memory) → IsPlain core memory (exchange_of value address size rd areas core memory)
unfolding exchange_of
exchange_plain value address size rd areas core memory =
    exchanged_plain (loaded areas memory address size) (store_fault areas address size) rd core memory _

-- so it is after work on memory
pub transfer_plain : (operation : MemOp) (rd address : ℕ) (areas : List Area) (core : Registers) (memory : Memory) → IsPlain core memory (transfer operation rd address areas core memory)
transfer_plain memory.Ld rd address areas core m = loaded_plain (loaded areas m address Four) _ rd core m
transfer_plain memory.LdUb rd address areas core m = loaded_plain (loaded areas m address One) _ rd core m
transfer_plain memory.LdUh rd address areas core m = loaded_plain (loaded areas m address Two) _ rd core m
transfer_plain memory.LdD rd address areas core m = pair_plain (loaded areas m address Eight) rd core m
transfer_plain memory.St rd address areas core m = store_plain (register_at core rd) address Four areas core m
transfer_plain memory.StB rd address areas core m = store_plain (register_at core rd) address One areas core m
transfer_plain memory.StH rd address areas core m = store_plain (register_at core rd) address Two areas core m
transfer_plain memory.StD rd address areas core m = store_plain (pair_at core rd) address Eight areas core m
transfer_plain memory.LdSb rd address areas core m = loaded_plain (loaded areas m address One) _ rd core m
transfer_plain memory.LdSh rd address areas core m = loaded_plain (loaded areas m address Two) _ rd core m
transfer_plain memory.LdStUb rd address areas core m = exchange_plain 0xFF address One rd areas core m
transfer_plain memory.Swap rd address areas core m = exchange_plain (register_at core rd) address Four rd areas core m

-- orderly is a move to another window, which may raise a window's trap
moved_orderly : (window type rd value : ℕ) (core : Registers) (memory : Memory) → IsOrderly core memory (keeping_memory memory (moved window type rd value core))
unfolding moved
moved_orderly window type rd value core memory = at (window == core.inv)
  where
    at : (b : Bool) → IsOrderly core memory (keeping_memory memory (if b then trapped type core else went (window_entered window rd value core)))
    at true = trapped_orderly type core memory
    at false = went_orderly core _ memory memory

-- and a Ticc
left_orderly : (t : Turn) (core : Registers) (memory : Memory) → IsOrderly core memory record { turn = t; core = left_by t core; memory = memory }
left_orderly Went core memory = went_orderly core _ memory memory
left_orderly (Trap type) core memory = trapped_orderly type core memory
left_orderly Call core memory = record { undone = tt; called = λ is_call. refl }

-- so it is after each instruction
executed_orderly : (i : Instr) (areas : List Area) (core : Registers) (memory : Memory) → IsOrderly core memory (executed i areas core memory)
executed_orderly (instr.Call disp) areas core m = went_orderly core _ m m
executed_orderly (instr.Branch condition annul disp) areas core m = went_orderly core _ m m
executed_orderly (instr.Sethi rd imm) areas core m = went_orderly core _ m m
executed_orderly (instr.Arith operation rd rs1 source) areas core m = (worked_plain operation rd (register_at core rs1) (value_of source core) core m).orderly
executed_orderly (instr.ReadY rd) areas core m = went_orderly core _ m m
executed_orderly instr.Barrier areas core m = went_orderly core _ m m
executed_orderly (instr.WriteY rs1 source) areas core m = went_orderly core _ m m
executed_orderly (instr.Jump rd rs1 source) areas core m = (jumped_plain rd (sum_of rs1 source core) core m).orderly
executed_orderly (instr.Trap condition rs1 source) areas core m = left_orderly (trap_turn condition rs1 source core) core m
executed_orderly instr.Flush areas core m = went_orderly core _ m m
executed_orderly (instr.Save rd rs1 source) areas core m = moved_orderly (window_below core) 0x05 rd (sum_of rs1 source core) core m
executed_orderly (instr.Restore rd rs1 source) areas core m = moved_orderly (window_above core) 0x06 rd (sum_of rs1 source core) core m
executed_orderly (instr.Mem operation rd rs1 source) areas core m = (transfer_plain operation rd (sum_of rs1 source core) areas core m).orderly
executed_orderly instr.Privileged areas core m = trapped_orderly _ core m
executed_orderly instr.Float areas core m = trapped_orderly _ core m
executed_orderly instr.Coproc areas core m = trapped_orderly _ core m
executed_orderly instr.Illegal areas core m = trapped_orderly _ core m

-- so it is whatever the fetch answered
turned_after_orderly : (r : Result ℕ BusFault) (areas : List Area) (core : Registers) (memory : Memory) → IsOrderly core memory (turned_after r areas core memory)
turned_after_orderly (Ok word) areas core memory = executed_orderly (decoded word) areas core memory
turned_after_orderly (Err fault) areas core memory = trapped_orderly 0x01 core memory

-- an instruction that traps changes nothing, and one that calls the hypervisor goes on after it
pub turned-IsOrderly : (areas : List Area) (core : Registers) (memory : Memory) → IsOrderly core memory (turned areas core memory)
unfolding turned
turned-IsOrderly areas core memory = turned_after_orderly (fetched areas memory core.pc) areas core memory

-- so the outcome of an instruction is orderly, piece by piece
pub undone_pieces : (areas : List Area) (core after : Registers) (old new : Memory) (t : Turn) → t ≡ (turned areas core old).turn → after ≡ (turned areas core old).core → new ≡ (turned areas core old).memory → IsUndone t core after old new
undone_pieces areas core after old new t turn_is core_is memory_is = rw (turn_is, core_is, memory_is) (turned-IsOrderly areas core old).undone

-- and a call goes on after it
pub called_pieces : (areas : List Area) (core after : Registers) (old : Memory) (t : Turn) → t ≡ (turned areas core old).turn → after ≡ (turned areas core old).core → t ≡ Call → after ≡ advanced core
called_pieces areas core after old t turn_is core_is is_call = core_is ∙ (turned-IsOrderly areas core old).called (sym turn_is ∙ is_call)
