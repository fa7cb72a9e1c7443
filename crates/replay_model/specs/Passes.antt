-- One tick of one partition in isolation, in passes over the machine. What becomes of the others is left open.
use Rattle.std.specs.Prelude.{ℕ, ◌+◌, true, map}
use Rattle.cyclic_plans.specs.PlanClock.{ended, started}
use Rattle.xm_ports.specs.Channels.{cleared}
use Rattle.machine_model.specs.Alone.{Alone}
use Rattle.machine_model.specs.Cue.{Cue}
use Rattle.machine_model.specs.Health.{Worked}
use Rattle.machine_model.specs.Laws.{part}
use Rattle.machine_model.specs.Machine.{Machine, obeyed}
use Rattle.machine_model.specs.Partition.{reset, rested}
use Rattle.machine_model.specs.Emission.{OwnPuts, OwnSignals, OwnStill, OwnTakes, OwnTraffic}
use Rattle.machine_model.specs.Traffic.{hearing, puts_at, takes_at}
use Rattle.machine_model.specs.View.{named, view_of}
use Rattle.machine_model.specs.Whole.{AllHalted, AllReset, NoEvent, WholeEvent, event_of}
use Rattle.span_model.specs.Passes.{part_at, traded, traffic_in, with_part}

-- partition p's part of a machine
abbrev pub part_in : Machine → ℕ → Alone
part_in g p = part g p (part_at p g)

-- the machine after traffic of others on channels that go by partition p's names, or after a signal to the partition
abbrev pub traffic_received : ℕ → OwnTraffic → Machine → Machine
traffic_received p OwnStill g = g
traffic_received p (OwnPuts name bytes) g = traded (puts_at (named g.system.conf p name) bytes) g
traffic_received p (OwnTakes name) g = traded (takes_at (named g.system.conf p name)) g
traffic_received p (OwnSignals number) g = with_part p (hearing (view_of g.system p) (OwnSignals number) (part_at p g)) g

-- the machine after a hypervisor event, as partition p meets it: it is reset, and all channels are empty
abbrev pub event_met : ℕ → WholeEvent → Machine → Machine
event_met p NoEvent g = g
event_met p (AllReset mode) g =
    record (with_part p (reset (view_of g.system p) mode 0 (part_at p g)) g) { channels = map cleared g.channels }
event_met p AllHalted g = record g { halted = true }

-- the machine with its clocks past a tick with a hypervisor event
abbrev pub tick_past : WholeEvent → Machine → Machine
tick_past NoEvent g = record g { clock = ended g.system.conf g.clock g.time; time = g.time + 1; ticks = g.ticks + 1 }
tick_past (AllReset mode) g = record g { clock = started; time = 0; ticks = g.ticks + 1 }
tick_past AllHalted g = g

-- the machine in which partition p rests
abbrev pub rested_in : ℕ → Machine → Machine
rested_in p g = with_part p (rested g.time (part_at p g)) g

-- the machine in which partition p obeyed an order that another one gave it
abbrev pub obeyed_by : ℕ → Cue → Machine → Machine
obeyed_by p cue g = with_part p (obeyed (view_of g.system p) cue.order (part_at p g)) g

-- the machine after a tick in the slot of another partition, or in a gap
abbrev pub away_passed : ℕ → Cue → Machine → Machine
away_passed p cue g = tick_past cue.whole (rested_in p (event_met p cue.whole (obeyed_by p cue (traffic_received p cue.traffic g))))

-- the machine after a tick of partition p that did this work
abbrev pub work_passed : ℕ → Worked → Machine → Machine
work_passed p work g =
    tick_past (event_of work.act) (event_met p (event_of work.act) (traded (traffic_in g p work.act) (with_part p work.after g)))
