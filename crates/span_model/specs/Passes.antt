-- One tick of a machine in passes: the work of a partition, its traffic, its order on another, a hypervisor event, the rest of all
-- others, and the clocks.
use Rattle.std.specs.Prelude.{ℕ, true, if◌then◌else◌, List, [], ◌++◌, map, Option, Some, None, slice_index_or, slice_set}
use Rattle.xm_ports.specs.Channels.{cleared}
use Rattle.xm_report.specs.Report.{ReportLine}
use Rattle.machine_model.specs.Health.{Worked}
use Rattle.machine_model.specs.Lines.{plan_lines}
use Rattle.machine_model.specs.Lists.{all_of, each, is_number}
use Rattle.machine_model.specs.Machine.{Machine, booted_part, clock_after}
use Rattle.machine_model.specs.Partition.{PartitionState, ordered, ordered_emissions, reset, rested, resets_after}
use Rattle.machine_model.specs.Emission.{Act, AllHalted, AllReset, Directed, NoEvent, WholeEvent, line_of, reach_of}
use Rattle.machine_model.specs.Traffic.{Puts, Signals, Still, Takes, Traffic, after_traffic, heard_as, hearing, traffic_as, traffic_of}
use Rattle.machine_model.specs.View.{view_of}
use Rattle.machine_model.specs.Whole.{event_lines, event_of, ticks_after, time_after, whole_lines}

-- the state of a partition; where there is none, one that boots
abbrev pub part_at : ℕ → Machine → PartitionState
part_at p g = slice_index_or g.parts p (booted_part g.system p)

-- the machine with another state of one partition
abbrev pub with_part : ℕ → PartitionState → Machine → Machine
with_part p ps g = record g { parts = slice_set g.parts p ps }

-- the machine after traffic: what the channel holds, and the interrupt at each partition that hears of a message or a signal
abbrev pub with_traffic : Traffic → Machine → Machine
with_traffic traffic g = record g {
  parts = each (λ q ps. hearing (view_of g.system q) (heard_as g.system.conf q traffic) ps) g.parts;
  channels = each (after_traffic g.time traffic) g.channels;
}

-- the same, and a machine without traffic as it is
abbrev pub traded : Traffic → Machine → Machine
traded Still g = g
traded (Puts channel bytes) g = with_traffic (Puts channel bytes) g
traded (Takes channel) g = with_traffic (Takes channel) g
traded (Signals source number) g = with_traffic (Signals source number) g

-- the machine after an order on a partition
abbrev pub obeyed_in : Option Directed → Machine → Machine
obeyed_in None g = g
obeyed_in (Some directed) g =
    with_part directed.id (ordered (view_of g.system directed.id) directed.order (part_at directed.id g)) g

-- the lines of that order
abbrev pub obeyed_lines : Option Directed → Machine → List ReportLine
obeyed_lines None g = []
obeyed_lines (Some directed) g = map (line_of g.ticks directed.id) (ordered_emissions directed.order (part_at directed.id g))

-- the machine after a hypervisor event, but for its clocks
abbrev pub evented : WholeEvent → Machine → Machine
evented NoEvent g = g
evented (AllReset mode) g = record g {
  parts = each (λ q ps. reset (view_of g.system q) mode 0 ps) g.parts;
  channels = map cleared g.channels;
  resets = resets_after mode g.resets;
}
evented AllHalted g = record g { halted = true }

-- the machine in which all rest at this time, but for one where it is named
abbrev pub rest_but : Option ℕ → ℕ → Machine → Machine
rest_but p time g = record g { parts = each (λ q ps. if is_number p q then ps else rested time ps) g.parts }

-- the machine with its clocks past the tick of an act
abbrev pub tick_ended : Act → Machine → Machine
tick_ended act g = record g {
  clock = clock_after (event_of act) g.system.conf act g.clock g.time;
  time = time_after (event_of act) g.time;
  ticks = ticks_after (event_of act) g.ticks;
}

-- the traffic of a partition's act under the system's numbers
abbrev pub traffic_in : Machine → ℕ → Act → Traffic
traffic_in g p act = traffic_as g.system.conf p (traffic_of act)

-- the machine after a tick of a partition that did this work
abbrev pub worked_through : ℕ → Worked → Machine → Machine
worked_through p work g =
    tick_ended work.act (rest_but (Some p) g.time (evented (event_of work.act) (obeyed_in (reach_of work.act).directed (traded (traffic_in g p work.act) (with_part p work.after g)))))

-- the lines of that tick
abbrev pub worked_lines : ℕ → Worked → Machine → List ReportLine
worked_lines p work g =
    map (line_of g.ticks p) work.emitted ++ obeyed_lines (reach_of work.act).directed (with_part p work.after g)
    ++ whole_lines g.ticks (event_of work.act) ++ all_of (λ q ps. event_lines g.ticks (event_of work.act) q) g.parts
    ++ plan_lines g.ticks g.clock.plan (clock_after (event_of work.act) g.system.conf work.act g.clock g.time).plan
