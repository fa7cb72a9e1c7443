-- Rows on health events: an illegal instruction under the actions that a table may have for it.
use Rattle.std.specs.Prelude.{ℕ, true, false, List, [], ◌∷◌, Option, Some}
use Rattle.cyclic_plans.specs.PlanClock.{frame_from}
use Rattle.guest_bus.specs.Memory.{Memory}
use Rattle.health_monitor.specs.declared.entry.HealthEntry.{HealthEntry}
use Rattle.virt_clocks.specs.Clocks.{no_clocks}
use Rattle.virt_traps.specs.Virtual.{no_traps}
use Rattle.xm_base.specs.declared.partition.State.TheVariants.{Ready, Halted}
use Rattle.xm_conf.specs.Configuration.{Chan, Part}
use Rattle.xm_conf.specs.declared.channel.ChanKind.TheVariants.{Queuing as QueueOf}
use Rattle.xm_conf.specs.declared.health.Action.{Action}
use Rattle.xm_conf.specs.declared.health.Action.TheVariants as action
use Rattle.xm_conf.specs.declared.health.Event.TheVariants as event
use Rattle.xm_conf.specs.declared.port.Kind.TheVariants as kind
use Rattle.xm_conf.specs.declared.port.Port.{Port}
use Rattle.xm_conf.specs.declared.port.Way.{Way}
use Rattle.xm_conf.specs.declared.port.Way.TheVariants as way
use Rattle.xm_ports.specs.Channels.{Queuing}
use Rattle.xm_report.specs.Report.{ReportLine, HealthLine, MovedLine, WholeLine, PlanLine, EndPart, EndWhole}
use Rattle.xm_report.specs.declared.line.Move.TheVariants as move
use Rattle.machine_model.specs.Machine.{Machine}
use Rattle.machine_model.specs.rows.Rows.{Holds, HoldsAll, Leaves, Prints, at, small_conf, halves, machine, of_part, short_frame, plain_part, slot, actions_table, whole_frame, with_answers, with_illegal}

-- a partition whose table has this action for an illegal instruction
abbrev pub part_with_action : Action → Part
part_with_action an_action = record (plain_part 0x40000000 4) { hm = actions_table (with_illegal an_action) }

-- it alone, at a tick
abbrev pub alone_at_tick : Action → ℕ → Memory → Machine
alone_at_tick an_action tick memory = machine (small_conf (whole_frame ∷ []) (part_with_action an_action ∷ []) []) (0x40000000 ∷ []) tick (at 0x40000000 memory ∷ [])

-- its memory has a word that is no instruction where it begins
abbrev pub IsIllegal : Action → Memory → Type 0
IsIllegal an_action memory = Holds (part_with_action an_action) memory 0x40000000 0

-- the line and the entry of an illegal instruction in tick 0, with the action that was taken
abbrev pub illegal_line : Action → ReportLine
illegal_line an_action = HealthLine 0 0 event.SparcIllegalInstruction 0x40000000 an_action

abbrev pub illegal_entry : Action → HealthEntry
illegal_entry an_action = record { time = 0; seq = 0; event = event.SparcIllegalInstruction; action = an_action; word = 0x40000000 }

-- the entries of a partition's health log
abbrev pub log_of : ℕ → Machine → Option (List HealthEntry)
log_of p g = of_part (λ ps. ps.health.entries) p g

-- HALT: the partition halts at the instruction, and has the event in its health log
abbrev pub HaltsAtIllegal : Type 0
HaltsAtIllegal = (memory : Memory) → IsIllegal action.Halt memory
    → Prints (alone_at_tick action.Halt 0 memory) 1
    (illegal_line action.Halt ∷ MovedLine 0 0 move.Halt ∷ EndPart 0 Halted 0 1 0x40000000 ∷ EndWhole false 0 1 1 ∷ [])
    × Leaves (log_of 0) (alone_at_tick action.Halt 0 memory) 1 (Some (illegal_entry action.Halt ∷ []))

-- IGNORE: the partition goes on after the instruction
abbrev pub IgnoresIllegal : Type 0
IgnoresIllegal = (memory : Memory) → IsIllegal action.Ignore memory
    → Prints (alone_at_tick action.Ignore 0 memory) 1 (illegal_line action.Ignore ∷ EndPart 0 Ready 0 1 0x40000004 ∷ EndWhole false 0 1 1 ∷ [])
    × Leaves (log_of 0) (alone_at_tick action.Ignore 0 memory) 1 (Some (illegal_entry action.Ignore ∷ []))

-- PROPAGATE, where traps are disabled: the partition halts, and the line and the entry have HALT
abbrev pub PropagatesToHalt : Type 0
PropagatesToHalt = (memory : Memory) → IsIllegal action.Propagate memory
    → Prints (alone_at_tick action.Propagate 0 memory) 1
    (illegal_line action.Halt ∷ MovedLine 0 0 move.Halt ∷ EndPart 0 Halted 0 1 0x40000000 ∷ EndWhole false 0 1 1 ∷ [])
    × Leaves (log_of 0) (alone_at_tick action.Propagate 0 memory) 1 (Some (illegal_entry action.Halt ∷ []))

-- a port of a queue
abbrev pub queue_port : Way → Port
queue_port a_way = record { name = []; kind = kind.Queuing; way = a_way }

-- a queue of two messages of at most eight bytes, from partition 0 to partition 1
abbrev pub queue : Chan
queue = record { kind = QueueOf 2; length = 8; source = record { part = 0; port = 0 }; dests = record { part = 1; port = 0 } ∷ [] }

-- the partitions at its ends; the first has this action for an illegal instruction
abbrev pub parts_at_ends : Action → List Part
parts_at_ends an_action =
    record (part_with_action an_action) { ports = queue_port way.Source ∷ [] } ∷ record (plain_part 0x40000100 8) { ports = queue_port way.Destination ∷ [] } ∷ []

-- both, where the queue holds a message
abbrev pub ends_of_queue : Action → Memory → Memory → Machine
ends_of_queue an_action one other =
    record (machine (small_conf (halves ∷ []) (parts_at_ends an_action) (queue ∷ []))
    (0x40000000 ∷ 0x40000100 ∷ []) 0 (at 0x40000000 one ∷ record (at 0x40000100 other) { clocks = record no_clocks { execution = 3 } } ∷ [])) {
      channels = Queuing ((0x68 ∷ 0x69 ∷ []) ∷ []) ∷ [];
    }

-- HYPERVISOR_WARM_RESET: each partition is reset, not only the one that met the event, the queue is empty, the hardware clock begins again,
-- and the tick is counted
abbrev pub ResetsAllWarm : Type 0
ResetsAllWarm = (one other : Memory) → IsIllegal action.HypervisorWarmReset one
    → Prints (ends_of_queue action.HypervisorWarmReset one other) 1
    (illegal_line action.HypervisorWarmReset ∷ WholeLine 0 move.Warm ∷ MovedLine 0 0 move.Warm ∷ MovedLine 0 1 move.Warm
    ∷ EndPart 0 Ready 1 0 0x40000000 ∷ EndPart 1 Ready 1 0 0x40000100 ∷ EndWhole false 0 0 1 ∷ [])
    × Leaves (λ g. g.channels) (ends_of_queue action.HypervisorWarmReset one other) 1 (Queuing [] ∷ [])
    × Leaves (log_of 0) (ends_of_queue action.HypervisorWarmReset one other) 1 (Some (illegal_entry action.HypervisorWarmReset ∷ []))
    × Leaves (λ g. g.resets) (ends_of_queue action.HypervisorWarmReset one other) 1 1

-- HYPERVISOR_HALT: the tick is not counted, no further tick does anything, and the queue keeps its message
abbrev pub HaltsAll : Type 0
HaltsAll = (one other : Memory) → IsIllegal action.HypervisorHalt one
    → Prints (ends_of_queue action.HypervisorHalt one other) 4
    (illegal_line action.HypervisorHalt ∷ WholeLine 0 move.Halt ∷ EndPart 0 Ready 0 1 0x40000000 ∷ EndPart 1 Ready 0 3 0x40000100 ∷ EndWhole true 0 0 0 ∷ [])
    × Leaves (λ g. g.channels) (ends_of_queue action.HypervisorHalt one other) 4 (Queuing ((0x68 ∷ 0x69 ∷ []) ∷ []) ∷ [])

-- two plans of one tick, under which a partition halts the hypervisor in the last tick of a frame, with plan 1 asked for
abbrev pub halting_in_last_tick : Memory → Machine
halting_in_last_tick memory =
    record (machine (small_conf (short_frame ∷ short_frame ∷ []) (part_with_action action.HypervisorHalt ∷ []) []) (0x40000000 ∷ []) 0 (at 0x40000000 memory ∷ [])) {
      clock = record (frame_from 0 0) { asked = Some 1 };
    }

-- no frame ends where the hypervisor halts: the plan stays, and what is asked for
abbrev pub HaltsInLastTick : Type 0
HaltsInLastTick = (memory : Memory) → IsIllegal action.HypervisorHalt memory
    → Prints (halting_in_last_tick memory) 1 (illegal_line action.HypervisorHalt ∷ WholeLine 0 move.Halt ∷ EndPart 0 Ready 0 1 0x40000000 ∷ EndWhole true 0 0 0 ∷ [])
    × Leaves (λ g. g.clock) (halting_in_last_tick memory) 1 (record (frame_from 0 0) { asked = Some 1 })

-- a partition that raises an event of its own with the code 42, which resets the whole system warm
abbrev pub raising : Part
raising = record (plain_part 0x40100000 12) { hm = actions_table (with_answers action.HypervisorWarmReset action.Propagate) }

-- it, and another one, each in a thousand ticks of two thousand
abbrev pub raised_at : Memory → Memory → Machine
raised_at one other =
    machine (small_conf (record { frame = 2000; slots = slot 0 1000 0 ∷ slot 1000 1000 1 ∷ [] } ∷ []) (raising ∷ plain_part 0x40180000 8 ∷ []) [])
    (0x40100000 ∷ 0x40180000 ∷ []) 0 (at 0x40100000 one ∷ at 0x40180000 other ∷ [])

-- call 27 with the code 42
abbrev pub raise_words : List ℕ
raise_words = 0x9010201b ∷ 0x9210202a ∷ 0x91d02070 ∷ []

-- a raised event has its code as word; all is reset with it, and the partition begins again in the fourth tick, its memory kept
abbrev pub ResetsAllByCall : Type 0
ResetsAllByCall = (one other : Memory) → HoldsAll raising one 0x40100000 raise_words
    → Prints (raised_at one other) 4
    (HealthLine 2 0 event.PartitionError 42 action.HypervisorWarmReset ∷ WholeLine 2 move.Warm ∷ MovedLine 2 0 move.Warm ∷ MovedLine 2 1 move.Warm
    ∷ EndPart 0 Ready 1 1 0x40100004 ∷ EndPart 1 Ready 1 0 0x40180000 ∷ EndWhole false 0 1 4 ∷ [])

-- a partition alone in the second tick of a frame of four, under three plans of which plan 2 is asked for
abbrev pub in_mid_frame : Action → Memory → Machine
in_mid_frame an_action memory =
    record (machine (small_conf (whole_frame ∷ whole_frame ∷ whole_frame ∷ []) (part_with_action an_action ∷ []) []) (0x40000000 ∷ []) 1 (at 0x40000000 memory ∷ [])) {
      clock = record (frame_from 0 0) { asked = Some 2 };
    }

-- SWITCH_TO_MAINTENANCE: plan 1 begins with the next tick, in the middle of the frame, and nothing is asked any more
abbrev pub SwitchesInMidFrame : Type 0
SwitchesInMidFrame = (memory : Memory) → IsIllegal action.SwitchToMaintenance memory
    → Prints (in_mid_frame action.SwitchToMaintenance memory) 1
    (HealthLine 1 0 event.SparcIllegalInstruction 0x40000000 action.SwitchToMaintenance ∷ PlanLine 1 1
    ∷ EndPart 0 Ready 0 1 0x40000004 ∷ EndWhole false 1 2 2 ∷ [])
    × Leaves (λ g. g.clock) (in_mid_frame action.SwitchToMaintenance memory) 1 (frame_from 1 2)

-- two partitions, of which the first halts the hypervisor in a tick in which the second one's hardware timer is due
abbrev pub halting_at_deadline : Memory → Memory → Machine
halting_at_deadline one other =
    machine (small_conf (whole_frame ∷ []) (part_with_action action.HypervisorHalt ∷ plain_part 0x40000100 4 ∷ []) []) (0x40000000 ∷ 0x40000100 ∷ []) 1
    (at 0x40000000 one ∷ record (at 0x40000100 other) { clocks = record no_clocks { hardware_timer = Some (record { deadline = 1; interval = 0 }) } } ∷ [])

-- a partition rests in the tick in which the hypervisor halts, too: its timer is looked at
abbrev pub RestsInHaltingTick : Type 0
RestsInHaltingTick = (one other : Memory) → IsIllegal action.HypervisorHalt one
    → Leaves (of_part (λ ps. ps.traps) 1) (halting_at_deadline one other) 1 (Some (record no_traps { pending = 1 }))
    × Leaves (of_part (λ ps. ps.clocks) 1) (halting_at_deadline one other) 1 (Some no_clocks)
