-- What a partition's work does not read: its name, its console and its requirement.
use Rattle.std.specs.Prelude.{◌≡◌, ℕ, ◌≤◌, List, Option, Some, slice_get}
use Rattle.xm_conf.specs.declared.part.Need.{Need}
use Rattle.machine_model.specs.Alone.{Alone, alone_start, alone_step, alone_step_lines, alone_step_said}
use Rattle.machine_model.specs.CoreFile.{core_file}
use Rattle.machine_model.specs.Cue.{Cue, script}
use Rattle.machine_model.specs.Laws.{alone_part_at, core_file_of}
use Rattle.machine_model.specs.Lines.{lines, own, said}
use Rattle.machine_model.specs.Machine.{Machine, run}
use Rattle.machine_model.specs.Partition.{PartitionState}
use Rattle.machine_model.specs.View.{PartitionView, view_of}

-- the name of a partition, the UART of its console, and the time that it requires
pub record Labels : Type 0 where
  pub name : List ℕ
  pub console : Option ℕ
  pub need : Option Need

-- what a partition has of its own, with other labels
abbrev pub labelled : Labels → PartitionView → PartitionView
labelled labels view = record view { part = record view.part { name = labels.name; console = labels.console; need = labels.need } }

-- a tick of a partition alone is the same under other labels: its state with its copies of channels and its clocks, its lines, and the bytes for its console
pub record IsSameTick (labels : Labels) (view : PartitionView) (a : Alone) (cue : Cue) : Type 0 where
  pub state : alone_step (labelled labels view) a cue ≡ alone_step view a cue
  pub lines : alone_step_lines (labelled labels view) a cue ≡ alone_step_lines view a cue
  pub said : alone_step_said (labelled labels view) a cue ≡ alone_step_said view a cue

abbrev pub TickIgnoresLabels : Type 0
TickIgnoresLabels = (labels : Labels) (view : PartitionView) (a : Alone) (cue : Cue) → IsSameTick labels view a cue

-- it boots the same, and so does its core file read
pub record IsSameAtRest (labels : Labels) (view : PartitionView) : Type 0 where
  pub start : alone_start (labelled labels view) ≡ alone_start view
  pub core_file : (ps : PartitionState) → core_file (labelled labels view) ps ≡ core_file view ps

abbrev pub RestIgnoresLabels : Type 0
RestIgnoresLabels = (labels : Labels) (view : PartitionView) → IsSameAtRest labels view

-- two machines in which a partition is the same, with its copies of channels, the ticks done and the hardware clock; in which it has the same things of its
-- own but for its labels; and from which it receives the same in this many ticks
pub record AreAlikeButLabels (labels : Labels) (one other : Machine) (p count : ℕ) : Type 0 where
  pub state : PartitionState
  pub there : slice_get one.parts p ≡ Some state
  pub part : alone_part_at other p ≡ alone_part_at one p
  pub view : view_of other.system p ≡ labelled labels (view_of one.system p)
  pub script : script other p count ≡ script one p count

-- after this many ticks it is the same in both, and it has printed the same lines, written the same console bytes and has the same core file
pub record AreEqualBy (one other : Machine) (p count : ℕ) : Type 0 where
  pub state : alone_part_at (run other count) p ≡ alone_part_at (run one count) p
  pub lines : own p (lines other count) ≡ own p (lines one count)
  pub said : said other count p ≡ said one count p
  pub core_file : core_file_of (run other count) p ≡ core_file_of (run one count) p

-- so it is after each of the ticks, whatever the others are and do
abbrev pub RunsIgnoreLabels : Type 0
RunsIgnoreLabels = (labels : Labels) (one other : Machine) (p count fewer : ℕ) → fewer ≤ count → AreAlikeButLabels labels one other p count → AreEqualBy one other p fewer
