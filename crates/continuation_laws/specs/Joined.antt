-- A run with a file of upsets and its continuation with another one: together they are the run with the lines of both.
use Rattle.std.specs.Prelude.{◌≡◌, ℕ, ◌+◌, ◌<◌, ◌≤◌, List, [], ◌∷◌, ◌++◌, length}
use Rattle.xm_report.specs.Report.{SystemLine}
use Rattle.machine_model.specs.Lines.{end_lines}
use Rattle.machine_model.specs.Machine.{Machine, start}
use Rattle.machine_model.specs.View.{System}
use Rattle.upset_model.specs.Places.{due, schedule_of, upsets_of}
use Rattle.upset_model.specs.Reports.{reported, upset_console, upset_report}
use Rattle.upset_model.specs.Upsets.{upset_run, upset_said, upset_script}
use Rattle.upset_model.specs.declared.upset_line.UpsetLine.{UpsetLine}
use Rattle.continuation_laws.specs.Continued.{continued_run, from_tick}

-- each line is of a tick before this one, or each is of this tick or one after it
abbrev pub AreBefore : ℕ → List UpsetLine → Type 0
AreBefore tick [] = Unit {0}
AreBefore tick (line ∷ lines) = (line.tick < tick) × AreBefore tick lines

abbrev pub AreFrom : ℕ → List UpsetLine → Type 0
AreFrom tick [] = Unit {0}
AreFrom tick (line ∷ lines) = (tick ≤ line.tick) × AreFrom tick lines

-- of a run with the lines of two files the first ticks are those with the lines of the first file, and what comes after them are the lines of the second one
pub record AreJoined (first last : List UpsetLine) (g : Machine) (done : ℕ) : Type 0 where
  pub state : upset_run (schedule_of (first ++ last)) g done ≡ upset_run (schedule_of first) g done
  pub report : reported (due (first ++ last)) g done ≡ reported (due first) g done
  pub said : (p : ℕ) → upset_said (schedule_of (first ++ last)) g done p ≡ upset_said (schedule_of first) g done p
  pub console : (uart : ℕ) → upset_console (schedule_of (first ++ last)) g done uart ≡ upset_console (schedule_of first) g done uart
  pub script : (p : ℕ) → upset_script (schedule_of (first ++ last)) g p done ≡ upset_script (schedule_of first) g p done
  pub rest : from_tick done (due (first ++ last)) ≡ from_tick done (due last)

abbrev pub FilesAreJoined : Type 0
FilesAreJoined = (first last : List UpsetLine) (g : Machine) (done : ℕ) → AreBefore done first → AreFrom done last → AreJoined first last g done

-- so the report of a run with both is what the first ticks report with the first file, and what the continuation does with the second one
abbrev pub ReportsAreJoined : Type 0
ReportsAreJoined = (first last : List UpsetLine) (system : System) (done count : ℕ) → AreBefore done first → AreFrom done last →
    upset_report (first ++ last) system (done + count)
    ≡ SystemLine (length system.conf.parts) (length system.conf.plans) (done + count) ∷ reported (due first) (start system) done
    ++ reported (from_tick done (due last)) (continued_run first system done) count
    ++ end_lines (upset_run (upsets_of (from_tick done (due last))) (continued_run first system done) count)
