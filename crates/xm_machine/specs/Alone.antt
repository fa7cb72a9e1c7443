-- What ticks and runs leave of each partition: what it is alone, under what it received.
use Rattle.std.specs.Prelude.{◌≡◌, ℕ, ◌<◌, ◌≤◌, [], ◌∷◌, ◌++◌, length, Some, Result, Ok, Err, slice_get}
use Rattle.xm_report.specs.declared.output.WriteFault.{WriteFault}
use Rattle.machine_model.specs.Alone.{alone_from, alone_lines, alone_said, alone_start}
use Rattle.machine_model.specs.Cue.{script}
use Rattle.machine_model.specs.Laws.{part, alone_part_at}
use Rattle.machine_model.specs.Lines.{end_line, lines, own, said}
use Rattle.machine_model.specs.Machine.{Machine, run, start}
use Rattle.machine_model.specs.Partition.{PartitionState}
use Rattle.machine_model.specs.View.{view_of}
use Rattle.xm_machine.specs.Outcome.{report_of}
use Rattle.xm_machine.specs.declared.run.Ran.{Ran}

-- this many ticks left of partition p what they leave of it alone under its script of them; its own lines of them and its console bytes are
-- those that it has alone
pub record IsAlone (count : ℕ) (old new : Machine) (p : ℕ) (ps : PartitionState) : Type 0 where
  pub state : alone_part_at new p ≡ Some (alone_from (view_of old.system p) (part old p ps) (script old p count))
  pub lines : own p (lines old count) ≡ alone_lines (view_of old.system p) (part old p ps) (script old p count)
  pub said : said old count p ≡ alone_said (view_of old.system p) (part old p ps) (script old p count)

-- this holds of each partition
abbrev pub AreAlone : ℕ → Machine → Machine → Type 0
AreAlone count old new = (p : ℕ) (ps : PartitionState) → slice_get old.parts p ≡ Some ps → IsAlone count old new p ps

-- a run that did this many of the ticks asked
pub record AreAloneUpTo (asked : ℕ) (old new : Machine) : Type 0 where
  pub ticks : ℕ
  pub within : ticks ≤ asked
  pub state : new ≡ run old ticks
  pub alone : AreAlone ticks old new

-- what a run leaves of each partition, whether its whole report went out or not
abbrev pub RunsEachAlone : Result Ran WriteFault → ℕ → Machine → Machine → Type 0
RunsEachAlone (Ok ran) asked old new = AreAlone asked old new
RunsEachAlone (Err fault) asked old new = AreAloneUpTo asked old new

-- a machine that was only booted: partition p's part of it is that of the partition alone at its boot, and its own lines of the whole
-- report of a run are its lines alone and the line of its end alone
pub record IsBootedAlone (g : Machine) (asked p : ℕ) : Type 0 where
  pub part : alone_part_at g p ≡ Some (alone_start (view_of g.system p))
  pub lines : own p (report_of g asked)
      ≡ alone_lines (view_of g.system p) (alone_start (view_of g.system p)) (script g p asked)
      ++ end_line p (alone_from (view_of g.system p) (alone_start (view_of g.system p)) (script g p asked)).state ∷ []

-- this holds of each partition, where the machine was only booted
abbrev pub AreBootedAlone : Machine → ℕ → Type 0
AreBootedAlone g asked = g ≡ start g.system → (p : ℕ) → p < length g.system.conf.parts → IsBootedAlone g asked p
