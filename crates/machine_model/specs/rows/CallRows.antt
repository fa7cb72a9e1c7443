-- Rows on hypercalls: what a call answers, and what it does to others.
use Rattle.std.specs.Prelude.{ℕ, ◌-◌, ◌^◌, Bool, true, false, List, [], ◌∷◌, Option, Some}
use Rattle.guest_bus.specs.Memory.{Memory, with_bytes}
use Rattle.health_monitor.specs.declared.entry.HealthEntry.{HealthEntry}
use Rattle.sparc_step.specs.Registers.{advanced, register_at, with_register}
use Rattle.virt_clocks.specs.Clocks.{no_clocks}
use Rattle.virt_traps.specs.Virtual.{no_traps}
use Rattle.xm_base.specs.declared.partition.State.TheVariants.{Ready, Idle, Suspended, Halted}
use Rattle.xm_conf.specs.Configuration.{Part}
use Rattle.xm_conf.specs.declared.health.Action.TheVariants as action
use Rattle.xm_conf.specs.declared.health.Event.TheVariants as event
use Rattle.xm_ports.specs.Ports.{no_ports, with_port}
use Rattle.xm_report.specs.Report.{MovedLine, EndPart, EndWhole}
use Rattle.xm_report.specs.declared.line.Move.TheVariants as move
use Rattle.xm_traces.specs.Ring.{Kept, kept_of}
use Rattle.xm_traces.specs.declared.entry.TraceEntry.{TraceEntry}
use Rattle.machine_model.specs.Machine.{Machine}
use Rattle.machine_model.specs.Partition.{PartitionState, loaded_memory}
use Rattle.machine_model.specs.rows.Rows.{Holds, Leaves, Prints, at, calling, small_conf, halves, machine, of_part, plain_part}
use Rattle.machine_model.specs.View.{view_of}

-- a memory has the instruction that calls the hypervisor, where its partition begins
abbrev pub Calls : Part → Memory → Type 0
Calls part memory = Holds part memory 0x40000000 0x91d02070

-- the partition of the rows that calls: an instruction, and 20 bytes after it
abbrev pub caller : Bool → Part
caller is_system = record (plain_part 0x40000000 24) { system = is_system }

-- the other one
abbrev pub other_part : Part
other_part = plain_part 0x40000100 8

-- both, in the second tick of a frame
abbrev pub in_second_tick : Bool → PartitionState → PartitionState → Machine
in_second_tick is_system one other =
    machine (small_conf (halves ∷ []) (caller is_system ∷ other_part ∷ []) []) (0x40000000 ∷ 0x40000100 ∷ []) 1 (one ∷ other ∷ [])

-- partition p's %o0
abbrev pub o0_of : ℕ → Machine → Option ℕ
o0_of p g = of_part (λ ps. register_at ps.core 8) p g

-- a partition after a call that answered so in a tick of its slot
abbrev pub after_answer : ℕ → PartitionState → PartitionState
after_answer value ps = record ps { core = with_register (advanced ps.core) 8 value; clocks = record ps.clocks { execution = 1 } }

-- a system partition suspends another one: the order is reported under the other one's number, and the caller is answered 0
abbrev pub SuspendsAnother : Type 0
SuspendsAnother = (one other : Memory) → Calls (caller true) one
    → Prints (in_second_tick true (calling 0x40000000 (4 ∷ 1 ∷ []) one) (at 0x40000100 other)) 1
    (MovedLine 1 1 move.Suspend ∷ EndPart 0 Ready 0 1 0x40000004 ∷ EndPart 1 Suspended 0 0 0x40000100 ∷ EndWhole false 0 2 2 ∷ [])
    × Leaves (o0_of 0) (in_second_tick true (calling 0x40000000 (4 ∷ 1 ∷ []) one) (at 0x40000100 other)) 1 (Some 0)

-- a system partition gives another one an order by the call of this number, with these further arguments
abbrev pub orders : ℕ → List ℕ → Memory → PartitionState
orders number arguments memory = calling 0x40000000 (number ∷ 1 ∷ arguments) memory

-- another partition with a timer armed, after 7 ticks of its own
abbrev pub with_timer_armed : Memory → PartitionState
with_timer_armed memory = record (at 0x40000100 memory) { clocks = record no_clocks { execution = 7; hardware_timer = Some (record { deadline = 900; interval = 0 }) } }

-- HALT on another one: it is halted, its timer is disarmed, and its clock stays
abbrev pub HaltsAnother : Type 0
HaltsAnother = (one other : Memory) → Calls (caller true) one
    → Prints (in_second_tick true (orders 2 [] one) (with_timer_armed other)) 1
    (MovedLine 1 1 move.Halt ∷ EndPart 0 Ready 0 1 0x40000004 ∷ EndPart 1 Halted 0 7 0x40000100 ∷ EndWhole false 0 2 2 ∷ [])
    × Leaves (λ g. g.parts) (in_second_tick true (orders 2 [] one) (with_timer_armed other)) 1
    (after_answer 0 (orders 2 [] one) ∷ record (at 0x40000100 other) { state = Halted; clocks = record no_clocks { execution = 7 } } ∷ [])

-- RESUME on another one that is suspended
abbrev pub ResumesAnother : Type 0
ResumesAnother = (one other : Memory) → Calls (caller true) one
    → Prints (in_second_tick true (orders 5 [] one) (record (at 0x40000100 other) { state = Suspended })) 1
    (MovedLine 1 1 move.Resume ∷ EndPart 0 Ready 0 1 0x40000004 ∷ EndPart 1 Ready 0 0 0x40000100 ∷ EndWhole false 0 2 2 ∷ [])

-- RESUME on one that is not suspended is answered 0, too, reports nothing and changes nothing
abbrev pub ResumesNothing : Type 0
ResumesNothing = (one other : Memory) → Calls (caller true) one
    → Prints (in_second_tick true (orders 5 [] one) (with_timer_armed other)) 1
    (EndPart 0 Ready 0 1 0x40000004 ∷ EndPart 1 Ready 0 7 0x40000100 ∷ EndWhole false 0 2 2 ∷ [])
    × Leaves (λ g. g.parts) (in_second_tick true (orders 5 [] one) (with_timer_armed other)) 1 (after_answer 0 (orders 5 [] one) ∷ with_timer_armed other ∷ [])

-- SHUTDOWN on another one reports nothing, and its interrupt 2 waits
abbrev pub ShutsDownAnother : Type 0
ShutsDownAnother = (one other : Memory) → Calls (caller true) one
    → Prints (in_second_tick true (orders 6 [] one) (with_timer_armed other)) 1
    (EndPart 0 Ready 0 1 0x40000004 ∷ EndPart 1 Ready 0 7 0x40000100 ∷ EndWhole false 0 2 2 ∷ [])
    × Leaves (λ g. g.parts) (in_second_tick true (orders 6 [] one) (with_timer_armed other)) 1
    (after_answer 0 (orders 6 [] one) ∷ record (with_timer_armed other) { traps = record no_traps { pending = 4 } } ∷ [])

-- a warm RESET on another one, with status 9, begins its clocks again and disarms its timer
abbrev pub ResetsAnother : Type 0
ResetsAnother = (one other : Memory) → Calls (caller true) one
    → Prints (in_second_tick true (orders 3 (1 ∷ 9 ∷ []) one) (with_timer_armed other)) 1
    (MovedLine 1 1 move.Warm ∷ EndPart 0 Ready 0 1 0x40000004 ∷ EndPart 1 Ready 1 0 0x40000100 ∷ EndWhole false 0 2 2 ∷ [])
    × Leaves (λ g. g.parts) (in_second_tick true (orders 3 (1 ∷ 9 ∷ []) one) (with_timer_armed other)) 1
    (after_answer 0 (orders 3 (1 ∷ 9 ∷ []) one) ∷ record (at 0x40000100 other) { resets = 1; reset_status = 9 } ∷ [])

-- a partition without the system flag may order no other: it is answered -4, and the other one is as it was
abbrev pub OrdersNone : Type 0
OrdersNone = (one other : Memory) → Calls (caller false) one
    → Leaves (λ g. g.parts) (in_second_tick false (orders 2 [] one) (with_timer_armed other)) 1 (after_answer (2 ^ 32 - 4) (orders 2 [] one) ∷ with_timer_armed other ∷ [])

-- another partition that waits, after 7 ticks of its own, and was reset twice, the last time with status 9
abbrev pub watched : Memory → PartitionState
watched memory = record (at 0x40000100 memory) { state = Idle; resets = 2; reset_status = 9; clocks = record no_clocks { execution = 7 } }

-- its status: the state, the resets, the status of the last reset, and the execution clock in eight bytes
abbrev pub watched_status : List ℕ
watched_status = 0 ∷ 0 ∷ 0 ∷ 1 ∷ 0 ∷ 0 ∷ 0 ∷ 2 ∷ 0 ∷ 0 ∷ 0 ∷ 9 ∷ 0 ∷ 0 ∷ 0 ∷ 0 ∷ 0 ∷ 0 ∷ 0 ∷ 7 ∷ []

-- a system partition is shown the status of another one, in its memory
abbrev pub SeesAnother : Type 0
SeesAnother = (one other : Memory) → Calls (caller true) one
    → Leaves (λ g. g.parts) (in_second_tick true (calling 0x40000000 (8 ∷ 1 ∷ 0x40000004 ∷ []) one) (watched other)) 1
    (record (after_answer 0 (calling 0x40000000 (8 ∷ 1 ∷ 0x40000004 ∷ []) one)) { memory = with_bytes one 0x40000004 watched_status } ∷ watched other ∷ [])

-- one without the system flag is answered -4, and nothing is written
abbrev pub IsRefusedAnother : Type 0
IsRefusedAnother = (one other : Memory) → Calls (caller false) one
    → Leaves (λ g. g.parts) (in_second_tick false (calling 0x40000000 (8 ∷ 1 ∷ 0x40000004 ∷ []) one) (watched other)) 1
    (after_answer (2 ^ 32 - 4) (calling 0x40000000 (8 ∷ 1 ∷ 0x40000004 ∷ []) one) ∷ watched other ∷ [])

-- a partition whose port 0 is made
abbrev pub with_its_port : PartitionState → PartitionState
with_its_port ps = record ps { made = with_port 0 no_ports }

-- a trace entry and a health entry of a partition
abbrev pub traces : Kept TraceEntry
traces = kept_of 1 (record { time = 0; bits = 1; seq = 0; load = 1 ∷ 2 ∷ 3 ∷ 4 ∷ 5 ∷ 6 ∷ 7 ∷ 8 ∷ [] } ∷ [])

abbrev pub healths : Kept HealthEntry
healths = kept_of 1 (record { time = 0; seq = 0; event = event.SparcIllegalInstruction; action = action.Ignore; word = 0x40000000 } ∷ [])

-- a partition with both and an input word, reset five times, of which port 0 is made, and which resets itself in this way with status 9
abbrev pub resetting : ℕ → Memory → PartitionState
resetting mode memory = record (with_its_port (calling 0x40000000 (3 ∷ 0 ∷ mode ∷ 9 ∷ []) memory)) {
  resets = 5;
  traces = traces;
  health = healths;
  inputs = 0x2a ∷ [];
}

-- a partition as it begins again, after this many resets and with this memory
abbrev pub restarted : ℕ → Memory → PartitionState
restarted resets memory = record (at 0x40000000 memory) { resets = resets; reset_status = 9; traces = traces; health = healths; inputs = 0x2a ∷ [] }

-- a cold reset of a partition by itself keeps its traces, its health log and its input words; the memory is loaded again, and no reset is counted
abbrev pub KeepsLogsCold : Type 0
KeepsLogsCold = (one other : Memory) → Calls (caller false) one
    → Prints (in_second_tick false (resetting 0 one) (at 0x40000100 other)) 1
    (MovedLine 1 0 move.Cold ∷ EndPart 0 Ready 0 0 0x40000000 ∷ EndPart 1 Ready 0 0 0x40000100 ∷ EndWhole false 0 2 2 ∷ [])
    × Leaves (λ g. g.parts) (in_second_tick false (resetting 0 one) (at 0x40000100 other)) 1
    (restarted 0 (loaded_memory (view_of (in_second_tick false (resetting 0 one) (at 0x40000100 other)).system 0)) ∷ at 0x40000100 other ∷ [])

-- a warm one keeps the memory, too, and is counted
abbrev pub CountsWarm : Type 0
CountsWarm = (one other : Memory) → Calls (caller false) one
    → Prints (in_second_tick false (resetting 1 one) (at 0x40000100 other)) 1
    (MovedLine 1 0 move.Warm ∷ EndPart 0 Ready 6 0 0x40000000 ∷ EndPart 1 Ready 0 0 0x40000100 ∷ EndWhole false 0 2 2 ∷ [])
    × Leaves (λ g. g.parts) (in_second_tick false (resetting 1 one) (at 0x40000100 other)) 1 (restarted 6 one ∷ at 0x40000100 other ∷ [])
