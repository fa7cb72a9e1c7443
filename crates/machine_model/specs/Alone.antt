-- One partition in isolation: what it does where it receives these cues.
use Rattle.std.specs.Prelude.{ℕ, ◌==◌, if◌then◌else◌, List, [], ◌∷◌, ◌++◌, map, Option, Some, None, is_some}
use Rattle.xm_ports.specs.Channels.{Content, empty}
use Rattle.xm_report.specs.Report.{ReportLine}
use Rattle.machine_model.specs.Cue.{Away, Cue, Mine, CueSlot}
use Rattle.machine_model.specs.Lines.{local_lines, local_said}
use Rattle.xm_base.specs.Options.{on}
use Rattle.machine_model.specs.Lists.{each}
use Rattle.machine_model.specs.LocalTick.{LocalTick, local_tick}
use Rattle.machine_model.specs.Machine.{after_tick, obeyed_emissions, worked_in}
use Rattle.machine_model.specs.Partition.{PartitionState, booted, takes_turns}
use Rattle.machine_model.specs.Emission.{OwnTraffic, Sight, line_of}
use Rattle.machine_model.specs.Traffic.{copies_after, heard_of_own, traffic_of}
use Rattle.machine_model.specs.View.{PartitionView, PortChannel}
use Rattle.machine_model.specs.Whole.{content_after, event_lines, ticks_after, time_after}

-- the state of one partition alone: its own state, a copy of each of its channels under its own names, the ticks done, and the hardware clock
pub record Alone : Type 0 where
  pub state : PartitionState
  pub copies : List (Option Content)
  pub ticks : ℕ
  pub time : ℕ

-- an empty channel under each name
abbrev pub empty_copy : ℕ → Option PortChannel → Option Content
empty_copy q None = None
empty_copy q (Some channel) = if channel.name == q then Some (empty channel.shape) else None

-- one partition as it boots
unfoldable pub alone_start : PartitionView → Alone
alone_start view = record { state = booted view; copies = each empty_copy view.channels; ticks = 0; time = 0 }

-- the local tick, where the slot is the partition's own and it takes its turn
abbrev pub alone_local_in : CueSlot → PartitionView → Alone → Sight → Option LocalTick
alone_local_in Away view a seen = None
alone_local_in (Mine first) view a seen =
    if takes_turns a.state.state then Some (local_tick view a.state a.copies a.ticks a.time first seen) else None

unfoldable pub alone_local : PartitionView → Alone → Cue → Option LocalTick
alone_local view a cue = alone_local_in cue.mine view a cue.seen

-- the traffic of a tick: what it hears of its own where it did its own work, else that of others
abbrev pub alone_traffic : Option LocalTick → OwnTraffic → OwnTraffic
alone_traffic None others = others
alone_traffic (Some tick) others = heard_of_own (traffic_of tick.act)

-- one partition after its work and all that it received
unfoldable pub alone_after : PartitionView → Alone → Cue → Option LocalTick → Alone
alone_after view a cue tick = record {
  state = after_tick view a.time (is_some tick) (alone_traffic tick cue.traffic) cue.order cue.whole (worked_in tick a.state);
  copies = map (on (content_after cue.whole)) (copies_after a.time (alone_traffic tick cue.traffic) a.copies);
  ticks = ticks_after cue.whole a.ticks;
  time = time_after cue.whole a.time;
}

-- one tick of one partition
unfoldable pub alone_step : PartitionView → Alone → Cue → Alone
alone_step view a cue = alone_after view a cue (alone_local view a cue)

-- the ticks of a script
abbrev pub alone_from : PartitionView → Alone → List Cue → Alone
alone_from view a [] = a
alone_from view a (cue ∷ cues) = alone_from view (alone_step view a cue) cues

-- the lines of one tick of one partition
unfoldable pub alone_lines_of : PartitionView → Alone → Cue → Option LocalTick → List ReportLine
alone_lines_of view a cue tick =
    local_lines tick ++ map (line_of a.ticks view.id) (obeyed_emissions cue.order (worked_in tick a.state)) ++ event_lines a.ticks cue.whole view.id

unfoldable pub alone_step_lines : PartitionView → Alone → Cue → List ReportLine
alone_step_lines view a cue = alone_lines_of view a cue (alone_local view a cue)

-- the lines of a script
abbrev pub alone_lines : PartitionView → Alone → List Cue → List ReportLine
alone_lines view a [] = []
alone_lines view a (cue ∷ cues) = alone_step_lines view a cue ++ alone_lines view (alone_step view a cue) cues

-- the console bytes of one tick of one partition, and of a script
unfoldable pub alone_step_said : PartitionView → Alone → Cue → List ℕ
alone_step_said view a cue = local_said (alone_local view a cue)

abbrev pub alone_said : PartitionView → Alone → List Cue → List ℕ
alone_said view a [] = []
alone_said view a (cue ∷ cues) = alone_step_said view a cue ++ alone_said view (alone_step view a cue) cues
