-- Rows on traps: those that a partition takes, and those that halt it.
use Rattle.std.specs.Prelude.{ℕ, Bool, true, false, [], ◌∷◌, map, replicate, Some, slice_get, List}
use Rattle.guest_bus.specs.Memory.{Memory}
use Rattle.sparc_step.specs.Registers.{register_at}
use Rattle.virt_clocks.specs.Clocks.{no_clocks}
use Rattle.virt_traps.specs.Virtual.{VirtualTraps}
use Rattle.xm_base.specs.declared.partition.State.TheVariants.{Ready, Suspended, Halted}
use Rattle.xm_conf.specs.Configuration.{Part}
use Rattle.xm_conf.specs.declared.health.Action.TheVariants as action
use Rattle.xm_conf.specs.declared.health.Event.TheVariants as event
use Rattle.xm_report.specs.Report.{HealthLine, MovedLine, EndPart, EndWhole}
use Rattle.xm_report.specs.declared.line.Move.TheVariants as move
use Rattle.machine_model.specs.Machine.{Machine}
use Rattle.machine_model.specs.Partition.{PartitionState}
use Rattle.machine_model.specs.rows.Rows.{Holds, HoldsAll, Leaves, Prints, at, small_conf, machine, of_part, plain_part, slot, whole_frame}
use Rattle.machine_model.specs.rows.SlotRows.{Loops, first_part, suspended_partition, two_parts}

-- virtual traps with a table at 0x40001000: enabled or not, with these interrupts pending and masked
abbrev pub with_table : Bool → ℕ → ℕ → VirtualTraps
with_table enabled pending mask = record { enabled = enabled; base = 0x40001000; pending = pending; mask = mask }

-- a partition alone that takes traps, in the second tick of its slot
abbrev pub taking_traps : Memory → Machine
taking_traps memory =
    machine (small_conf (whole_frame ∷ []) (plain_part 0x40000000 4 ∷ []) []) (0x40000000 ∷ []) 1
    (record (at 0x40000000 memory) { traps = with_table true 0 0xffff_ffff } ∷ [])

-- an illegal instruction that goes on to the partition as trap 2: its program is at entry 2 of the table, in the window below, whose first
-- locals have the virtual PSR and the two program counters, and takes no traps
abbrev pub TakesTrap : Type 0
TakesTrap = (memory : Memory) → Holds (plain_part 0x40000000 4) memory 0x40000000 0
    → Prints (taking_traps memory) 1
    (HealthLine 1 0 event.SparcIllegalInstruction 0x40000000 action.Propagate ∷ EndPart 0 Ready 0 1 0x40001020 ∷ EndWhole false 0 2 2 ∷ [])
    × Leaves (of_part (λ ps. ps.core.cwp) 0) (taking_traps memory) 1 (Some 6)
    × Leaves (of_part (λ ps. map (register_at ps.core) (16 ∷ 17 ∷ 18 ∷ [])) 0) (taking_traps memory) 1 (Some (0xa7 ∷ 0x40000000 ∷ 0x40000004 ∷ []))
    × Leaves (of_part (λ ps. ps.traps) 0) (taking_traps memory) 1 (Some (with_table false 0 0xffff_ffff))

-- a partition that takes traps, with interrupt 0 alone unmasked and a hardware timer of this deadline
abbrev pub timed_trap : ℕ → Memory → PartitionState
timed_trap deadline memory = record (at 0x40000000 memory) {
  traps = with_table true 0 0xffff_fffe;
  clocks = record no_clocks { hardware_timer = Some (record { deadline = deadline; interval = 0 }) };
}

-- a timer that is due in the partition's own slot is delivered in that tick, instead of an instruction
abbrev pub TimerIsDelivered : Type 0
TimerIsDelivered = (one other : Memory)
    → Prints (two_parts 1 (timed_trap 1 one) (suspended_partition other)) 1 (EndPart 0 Ready 0 1 0x40001e00 ∷ EndPart 1 Suspended 0 0 0x40000100 ∷ EndWhole false 0 2 2 ∷ [])
    × Leaves (of_part (λ ps. ps.traps) 0) (two_parts 1 (timed_trap 1 one) (suspended_partition other)) 1 (Some (with_table false 0 0xffff_fffe))

-- a partition that takes no traps, with interrupt 0 pending and alone unmasked
abbrev pub with_interrupt : Memory → PartitionState
with_interrupt memory = record (at 0x40000000 memory) { traps = with_table false 1 0xffff_fffe }

-- where traps are disabled an interrupt that is due is not delivered: the instruction is executed, and the interrupt still waits
abbrev pub WaitsWhileDisabled : Type 0
WaitsWhileDisabled = (one other : Memory) → Loops first_part one 0x40000000
    → Prints (two_parts 1 (with_interrupt one) (suspended_partition other)) 1 (EndPart 0 Ready 0 1 0x40000004 ∷ EndPart 1 Suspended 0 0 0x40000100 ∷ EndWhole false 0 2 2 ∷ [])
    × Leaves (of_part (λ ps. ps.traps) 0) (two_parts 1 (with_interrupt one) (suspended_partition other)) 1 (Some (with_table false 1 0xffff_fffe))

-- one that is due in another one's slot is delivered with the first tick of the partition's next slot, the start of which is pending then, too
abbrev pub TimerWaitsForSlot : Type 0
TimerWaitsForSlot = (one other : Memory)
    → Prints (two_parts 2 (timed_trap 2 one) (suspended_partition other)) 2 (EndPart 0 Ready 0 0 0x40000000 ∷ EndPart 1 Suspended 0 0 0x40000100 ∷ EndWhole false 0 4 4 ∷ [])
    × Leaves (of_part (λ ps. ps.traps.pending) 0) (two_parts 2 (timed_trap 2 one) (suspended_partition other)) 2 (Some 1)
    × Prints (two_parts 2 (timed_trap 2 one) (suspended_partition other)) 3 (EndPart 0 Ready 0 1 0x40001e00 ∷ EndPart 1 Suspended 0 0 0x40000100 ∷ EndWhole false 0 5 5 ∷ [])
    × Leaves (of_part (λ ps. ps.traps) 0) (two_parts 2 (timed_trap 2 one) (suspended_partition other)) 3 (Some (with_table false 32 0xffff_fffe))

-- a partition of seven words, alone in a frame of ten ticks
abbrev pub saver : Part
saver = plain_part 0x40000000 28

abbrev pub saving : Memory → Machine
saving memory = machine (small_conf (record { frame = 10; slots = slot 0 10 0 ∷ [] } ∷ []) (saver ∷ []) []) (0x40000000 ∷ []) 0 (at 0x40000000 memory ∷ [])

-- seven times SAVE %sp, -96, %sp
abbrev pub saves : List ℕ
saves = replicate 7 0x9de3bfa0

-- the stack pointer is 0, so the seventh, which would spill, has nowhere to, and the partition halts at it
abbrev pub HaltsAtSpill : Type 0
HaltsAtSpill = (memory : Memory) → HoldsAll saver memory 0x40000000 saves
    → Prints (saving memory) 10
    (HealthLine 6 0 event.MemProtection 0x40000018 action.Halt ∷ MovedLine 6 0 move.Halt ∷ EndPart 0 Halted 0 7 0x40000018 ∷ EndWhole false 0 10 10 ∷ [])

-- a load from 0x40000100, by way of %o1
abbrev pub stray_load : List ℕ
stray_load = 0x13100000 ∷ 0xd4026100 ∷ []

-- a load from the memory of the other partition is refused and halts the one that made it, and the other one is as it was
abbrev pub HaltsAtStrayLoad : Type 0
HaltsAtStrayLoad = (one other : Memory) → HoldsAll first_part one 0x40000000 stray_load
    → Prints (two_parts 0 (at 0x40000000 one) (at 0x40000100 other)) 2
    (HealthLine 1 0 event.SparcDataAccess 0x40000004 action.Halt ∷ MovedLine 1 0 move.Halt
    ∷ EndPart 0 Halted 0 2 0x40000004 ∷ EndPart 1 Ready 0 0 0x40000100 ∷ EndWhole false 0 2 2 ∷ [])
    × Leaves (λ g. slice_get g.parts 1) (two_parts 0 (at 0x40000000 one) (at 0x40000100 other)) 2 (Some (at 0x40000100 other))
