-- The laws on one tick of one partition in isolation: what its passes leave of the partition's part, and what it emits.
use Rattle.std.specs.Prelude.{◌≡◌, ℕ, ◌<◌, false, true, Bool, List, [], ◌++◌, length, map, None, Some}
use Rattle.std.specs.List.{flat_map}
use Rattle.xm_conf.specs.Configuration.{Conf}
use Rattle.machine_model.specs.Alone.{alone_step, alone_step_lines, alone_step_said}
use Rattle.machine_model.specs.Cue.{Away, Cue, Mine}
use Rattle.machine_model.specs.Health.{Worked}
use Rattle.machine_model.specs.LocalTick.{bounded, said_in, worked}
use Rattle.machine_model.specs.Machine.{Machine, copies, obeyed_emissions}
use Rattle.machine_model.specs.Partition.{takes_turns}
use Rattle.machine_model.specs.Emission.{OwnPuts, OwnSignals, OwnStill, OwnTakes, OwnTraffic, line_of}
use Rattle.machine_model.specs.View.{named, view_of}
use Rattle.machine_model.specs.Whole.{NoEvent, event_lines, event_of}
use Rattle.span_model.specs.Passes.{part_at}
use Rattle.xm_report.specs.Report.{ReportLine}
use Rattle.replay_model.specs.Passes.{away_passed, part_in, rested_in, tick_past, traffic_received, work_passed}

-- a message that others put is on a channel that the partition has under this name
abbrev pub IsOwnChannel : Conf → ℕ → OwnTraffic → Type 0
IsOwnChannel conf p OwnStill = Unit {0}
IsOwnChannel conf p (OwnPuts name bytes) = (c : ℕ) × (named conf p name ≡ Some c)
IsOwnChannel conf p (OwnTakes name) = Unit {0}
IsOwnChannel conf p (OwnSignals number) = Unit {0}

-- a tick leaves of partition p's part what the partition alone makes of it under this cue, with these lines and console bytes
pub record IsTickAlone (p : ℕ) (cue : Cue) (old new : Machine) (emitted : List ReportLine) (bytes : List ℕ) : Type 0 where
  pub part : part_in new p ≡ alone_step (view_of old.system p) (part_in old p) cue
  pub lines : alone_step_lines (view_of old.system p) (part_in old p) cue ≡ emitted
  pub said : alone_step_said (view_of old.system p) (part_in old p) cue ≡ bytes

-- the lines of a tick in the slot of another partition, or in a gap
abbrev pub away_lines : ℕ → Cue → Machine → List ReportLine
away_lines p cue g = map (line_of g.ticks p) (obeyed_emissions cue.order (part_at p (traffic_received p cue.traffic g))) ++ event_lines g.ticks cue.whole p

-- a tick in the slot of another partition, or in a gap
abbrev pub AwayTicks : Type 0
AwayTicks =
    (g : Machine) (p : ℕ) (cue : Cue) → p < length g.parts → cue.mine ≡ Away → IsOwnChannel g.system.conf p cue.traffic →
    IsTickAlone p cue g (away_passed p cue g) (away_lines p cue g) []

-- a tick in a slot of a partition that takes no turns
abbrev pub RestingTicksAlone : Type 0
RestingTicksAlone =
    (g : Machine) (p : ℕ) (first : Bool) (cue : Cue) → p < length g.parts → cue.mine ≡ Mine first → cue.traffic ≡ OwnStill → cue.order ≡ None →
    cue.whole ≡ NoEvent → takes_turns (part_at p g).state ≡ false → IsTickAlone p cue g (tick_past NoEvent (rested_in p g)) [] []

-- a tick in which a partition takes its turn and did this work
abbrev pub WorkingTicks : Type 0
WorkingTicks =
    (g : Machine) (p : ℕ) (first : Bool) (cue : Cue) (work : Worked) → p < length g.parts → cue.mine ≡ Mine first → cue.order ≡ None →
    cue.whole ≡ event_of work.act → takes_turns (part_at p g).state ≡ true →
    work ≡ worked (view_of g.system p) (copies g p) g.time first cue.seen (part_at p g) → bounded (view_of g.system p) work.act ≡ work.act →
    IsTickAlone p cue g (work_passed p work g) (map (line_of g.ticks p) work.emitted ++ event_lines g.ticks cue.whole p) (flat_map said_in work.emitted)
