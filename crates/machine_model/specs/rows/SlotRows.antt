-- Rows on slots, plans and clocks.
use Rattle.std.specs.Prelude.{ℕ, true, false, List, [], ◌∷◌, Option, Some, None}
use Rattle.cyclic_plans.specs.PlanClock.{frame_from}
use Rattle.guest_bus.specs.Memory.{Memory}
use Rattle.virt_clocks.specs.Clocks.{no_clocks}
use Rattle.virt_clocks.specs.declared.timer.Timer.{Timer}
use Rattle.virt_traps.specs.Virtual.{VirtualTraps, no_traps}
use Rattle.xm_base.specs.declared.partition.State.{State}
use Rattle.xm_base.specs.declared.partition.State.TheVariants.{Ready, Idle, Suspended, Halted}
use Rattle.xm_conf.specs.Configuration.{Conf, Part, Plan}
use Rattle.xm_report.specs.Report.{PlanLine, EndPart, EndWhole}
use Rattle.machine_model.specs.Machine.{Machine}
use Rattle.machine_model.specs.Partition.{PartitionState}
use Rattle.machine_model.specs.rows.Rows.{Holds, HoldsAll, Leaves, Prints, at, calling, small_conf, halves, machine, of_part, short_frame, plain_part, slot}

-- the two partitions of the rows
abbrev pub first_part : Part
first_part = plain_part 0x40000000 8

abbrev pub second_part : Part
second_part = plain_part 0x40000100 8

-- each of them in two ticks of four
abbrev pub in_turns : Conf
in_turns = small_conf (halves ∷ []) (first_part ∷ second_part ∷ []) []

-- a machine of two such partitions at a tick
abbrev pub two_parts : ℕ → PartitionState → PartitionState → Machine
two_parts tick one other = machine in_turns (0x40000000 ∷ 0x40000100 ∷ []) tick (one ∷ other ∷ [])

-- the words of a loop: a branch to itself, and a word that does nothing
abbrev pub loop_words : List ℕ
loop_words = 0x10800000 ∷ 0x01000000 ∷ []

abbrev pub Loops : Part → Memory → ℕ → Type 0
Loops part memory entry = HoldsAll part memory entry loop_words

-- each of two partitions that loop runs in its own slot, and its execution clock counts the ticks of that slot alone
abbrev pub RunInTheirSlots : Type 0
RunInTheirSlots = (one other : Memory) → Loops first_part one 0x40000000 → Loops second_part other 0x40000100
    → Prints (two_parts 0 (at 0x40000000 one) (at 0x40000100 other)) 4
    (EndPart 0 Ready 0 2 0x40000000 ∷ EndPart 1 Ready 0 2 0x40000100 ∷ EndWhole false 0 4 4 ∷ [])

-- a partition that waits, after five ticks of its own
abbrev pub waiting : Memory → PartitionState
waiting memory = record (at 0x40000000 memory) { state = Idle; clocks = record no_clocks { execution = 5 } }

-- a partition that waits, and that nothing wakes in its own slot: nothing of it changes, and its execution clock stays
abbrev pub WaitsOn : Type 0
WaitsOn = (one other : Memory)
    → Prints (two_parts 1 (waiting one) (at 0x40000100 other)) 1
    (EndPart 0 Idle 0 5 0x40000000 ∷ EndPart 1 Ready 0 0 0x40000100 ∷ EndWhole false 0 2 2 ∷ [])
    × Leaves (λ g. g.parts) (two_parts 1 (waiting one) (at 0x40000100 other)) 1 (waiting one ∷ at 0x40000100 other ∷ [])

-- a partition that waits is woken by the first tick of its slot, and executes an instruction in it
abbrev pub WakesInItsSlot : Type 0
WakesInItsSlot = (one other : Memory) → Loops first_part one 0x40000000
    → Prints (two_parts 0 (waiting one) (at 0x40000100 other)) 1
    (EndPart 0 Ready 0 6 0x40000004 ∷ EndPart 1 Ready 0 0 0x40000100 ∷ EndWhole false 0 1 1 ∷ [])

-- a partition that waits with interrupt 0 pending under this mask, and takes no traps
abbrev pub waiting_under : ℕ → Memory → PartitionState
waiting_under mask memory = record (waiting memory) { traps = record no_traps { pending = 1; mask = mask } }

-- a partition that waits is woken in the middle of its slot by an interrupt that is due, executes an instruction, and the interrupt still waits; where the
-- interrupt is masked the partition waits on
abbrev pub WakesByInterrupt : Type 0
WakesByInterrupt = (one other : Memory) → Loops first_part one 0x40000000
    → Prints (two_parts 1 (waiting_under 0xffff_fffe one) (at 0x40000100 other)) 1
    (EndPart 0 Ready 0 6 0x40000004 ∷ EndPart 1 Ready 0 0 0x40000100 ∷ EndWhole false 0 2 2 ∷ [])
    × Leaves (of_part (λ ps. ps.traps) 0) (two_parts 1 (waiting_under 0xffff_fffe one) (at 0x40000100 other)) 1 (Some (record no_traps { pending = 1; mask = 0xffff_fffe }))
    × Prints (two_parts 1 (waiting_under 0xffff_ffff one) (at 0x40000100 other)) 1
    (EndPart 0 Idle 0 5 0x40000000 ∷ EndPart 1 Ready 0 0 0x40000100 ∷ EndWhole false 0 2 2 ∷ [])
    × Leaves (of_part (λ ps. ps) 0) (two_parts 1 (waiting_under 0xffff_ffff one) (at 0x40000100 other)) 1 (Some (waiting_under 0xffff_ffff one))

-- a partition with a hardware timer of this deadline and interval
abbrev pub timed : ℕ → ℕ → Memory → PartitionState
timed deadline interval memory = record (at 0x40000000 memory) {
  clocks = record no_clocks { hardware_timer = Some (record { deadline = deadline; interval = interval }) };
}

-- a partition that is suspended
abbrev pub suspended_partition : Memory → PartitionState
suspended_partition memory = record (at 0x40000100 memory) { state = Suspended }

-- interrupt 0 waits
abbrev pub timer_pending : VirtualTraps
timer_pending = record no_traps { pending = 1 }

-- the hardware timer of a partition is due in a tick of another one's slot: its interrupt is pending, and the timer is disarmed
-- or, with an interval, moved on. The other one is suspended, and its execution clock stays
abbrev pub IsDueInAnothersSlot : Type 0
IsDueInAnothersSlot = (one other : Memory)
    → Leaves (λ g. g.parts) (two_parts 3 (timed 3 0 one) (suspended_partition other)) 1 (record (at 0x40000000 one) { traps = timer_pending } ∷ suspended_partition other ∷ [])
    × Leaves (λ g. g.parts) (two_parts 3 (timed 3 5 one) (suspended_partition other)) 1 (record (timed 8 5 one) { traps = timer_pending } ∷ suspended_partition other ∷ [])
    × Leaves (λ g. g.parts) (two_parts 2 (timed 3 0 one) (suspended_partition other)) 1 (timed 3 0 one ∷ suspended_partition other ∷ [])

-- the hardware timer of a partition in this state is due in a tick of another one's slot
abbrev pub RestsIn : State → Type 0
RestsIn state = (one other : Memory)
    → Leaves (of_part (λ ps. ps) 0) (two_parts 3 (record (timed 3 5 one) { state = state }) (suspended_partition other)) 1
    (Some (record (timed 8 5 one) { state = state; traps = timer_pending }))

-- so it is in each state but one; the timer of a suspended partition is looked at in its own slot, too, and that of one that has halted never
pub record RestRows : Type 0 where
  pub ready : RestsIn Ready
  pub idle : RestsIn Idle
  pub suspended : RestsIn Suspended
  pub own_slot : (one other : Memory)
      → Leaves (of_part (λ ps. ps) 0) (two_parts 1 (record (timed 1 5 one) { state = Suspended }) (at 0x40000100 other)) 1
      (Some (record (timed 6 5 one) { state = Suspended; traps = timer_pending }))
  pub halted : (one other : Memory)
      → Leaves (of_part (λ ps. ps) 0) (two_parts 3 (record (timed 3 5 one) { state = Halted }) (suspended_partition other)) 1
      (Some (record (timed 3 5 one) { state = Halted }))

-- a partition with an execution timer of this deadline and interval, after five ticks of its own
abbrev pub execution_timed : ℕ → ℕ → Memory → PartitionState
execution_timed deadline interval memory = record (at 0x40000000 memory) {
  clocks = record no_clocks { execution = 5; execution_timer = Some (record { deadline = deadline; interval = interval }) };
}

-- the execution timer of a partition that executes an instruction is looked at first: the interrupts that then wait, and what is left of the timer
abbrev pub TimesExecution : ℕ → ℕ → ℕ → Option Timer → Type 0
TimesExecution deadline interval pending timer = (one other : Memory) → Loops first_part one 0x40000000
    → Leaves (of_part (λ ps. ps.traps) 0) (two_parts 1 (execution_timed deadline interval one) (at 0x40000100 other)) 1 (Some (record no_traps { pending = pending }))
    × Leaves (of_part (λ ps. ps.clocks) 0) (two_parts 1 (execution_timed deadline interval one) (at 0x40000100 other)) 1
    (Some (record { execution = 6; hardware_timer = None; execution_timer = timer }))

-- it is due at its deadline, where interrupt 1 becomes pending and the timer is moved on by its interval, or disarmed without one; and not a tick earlier
pub record ExecutionTimerRows : Type 0 where
  pub moved_on : TimesExecution 5 3 2 (Some (record { deadline = 8; interval = 3 }))
  pub disarmed : TimesExecution 5 0 2 None
  pub early : TimesExecution 6 3 0 (Some (record { deadline = 6; interval = 3 }))

-- three plans of 2000 ticks, whose last ticks are in no slot
abbrev pub three_plans : List Plan
three_plans =
    record { frame = 2000; slots = slot 0 100 0 ∷ [] } ∷ record { frame = 2000; slots = slot 0 100 0 ∷ [] }
    ∷ record { frame = 2000; slots = slot 0 100 0 ∷ [] } ∷ []

-- a system partition with room for a word after its instruction
abbrev pub planner : Part
planner = record (plain_part 0x40000000 8) { system = true }

-- the system partition at a tick, about to ask for a plan, where this plan is asked for already
abbrev pub planning : ℕ → ℕ → Option ℕ → Memory → Machine
planning tick plan asked memory =
    record (machine (small_conf three_plans (planner ∷ []) []) (0x40000000 ∷ []) tick (calling 0x40000000 (14 ∷ plan ∷ 0x40000004 ∷ []) memory ∷ [])) {
      clock = record (frame_from 0 0) { asked = asked };
    }

-- the plan that was asked for last starts when the frame ends: plan 1 is asked for in tick 10 and plan 2 in tick 20, neither of which
-- prints a line, and with tick 1999 plan 2 is the next
abbrev pub LastAskedStarts : Type 0
LastAskedStarts = (memory : Memory) → Holds planner memory 0x40000000 0x91d02070
    → Prints (planning 10 1 None memory) 1 (EndPart 0 Ready 0 1 0x40000004 ∷ EndWhole false 0 11 11 ∷ [])
    × Leaves (λ g. g.clock) (planning 10 1 None memory) 1 (record (frame_from 0 0) { asked = Some 1 })
    × Prints (planning 20 2 (Some 1) memory) 1 (EndPart 0 Ready 0 1 0x40000004 ∷ EndWhole false 0 21 21 ∷ [])
    × Leaves (λ g. g.clock) (planning 20 2 (Some 1) memory) 1 (record (frame_from 0 0) { asked = Some 2 })
    × Prints (planning 1999 0 (Some 2) memory) 1 (PlanLine 1999 2 ∷ EndPart 0 Ready 0 0 0x40000000 ∷ EndWhole false 2 2000 2000 ∷ [])
    × Leaves (λ g. g.clock) (planning 1999 0 (Some 2) memory) 1 (frame_from 2 2000)

-- two plans of one tick
abbrev pub short_plans : Conf
short_plans = small_conf (short_frame ∷ short_frame ∷ []) (planner ∷ []) []

-- a plan that is asked for in the last tick of a frame starts with the next tick
abbrev pub AskedInLastTick : Type 0
AskedInLastTick = (memory : Memory) → Holds planner memory 0x40000000 0x91d02070
    → Prints (machine short_plans (0x40000000 ∷ []) 0 (calling 0x40000000 (14 ∷ 1 ∷ 0x40000004 ∷ []) memory ∷ [])) 1
    (PlanLine 0 1 ∷ EndPart 0 Ready 0 1 0x40000004 ∷ EndWhole false 1 1 1 ∷ [])
    × Leaves (λ g. g.clock) (machine short_plans (0x40000000 ∷ []) 0 (calling 0x40000000 (14 ∷ 1 ∷ 0x40000004 ∷ []) memory ∷ [])) 1 (frame_from 1 1)
