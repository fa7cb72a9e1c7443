-- A run from any machine, with the upsets of a file: from one that boots, and from one that goes on.
use Rattle.std.specs.Prelude.{◌≡◌, ℕ, ◌+◌, List, ◌∷◌, ◌++◌, length}
use Rattle.xm_report.specs.Report.{ReportLine, SystemLine}
use Rattle.machine_model.specs.Cue.{Cue}
use Rattle.machine_model.specs.Laws.{core_file_of}
use Rattle.machine_model.specs.Lines.{end_lines}
use Rattle.machine_model.specs.Machine.{Machine, start}
use Rattle.machine_model.specs.View.{System}
use Rattle.upset_model.specs.Places.{Timetable, due, schedule_of, upsets_of}
use Rattle.upset_model.specs.Reports.{after_run, received_in, reported, reported_to, upset_console, upset_report}
use Rattle.upset_model.specs.Upsets.{upset_run, upset_script}
use Rattle.upset_model.specs.declared.upset_line.UpsetLine.{UpsetLine}
use Rattle.continuation_laws.specs.Continued.{continued_run, from_tick}
use Rattle.continuation_laws.specs.Given.{with_left}
use Rattle.continuation_laws.specs.Joined.{AreBefore, AreFrom}

-- the lines of a file before each tick of a run from this machine: they name the ticks since the boot
abbrev pub coming : List UpsetLine → Machine → Timetable
coming lines g = from_tick g.ticks (due lines)

-- the machine after this many ticks
abbrev pub after_ticks : List UpsetLine → Machine → ℕ → Machine
after_ticks lines g count = upset_run (upsets_of (coming lines g)) g count

-- what a partition receives in them
abbrev pub received_from : List UpsetLine → Machine → ℕ → ℕ → List Cue
received_from lines g p count = upset_script (upsets_of (coming lines g)) g p count

-- the whole report of a run: its first line has the ticks since the boot that it goes to
unfoldable pub report_from : List UpsetLine → Machine → ℕ → List ReportLine
report_from lines g count =
    SystemLine (length g.system.conf.parts) (length g.system.conf.plans) (g.ticks + count) ∷ reported (coming lines g) g count ++ end_lines (after_ticks lines g count)

-- as far as its first this many ticks, and the upsets before the next one, without an end
abbrev pub report_from_to : List UpsetLine → Machine → ℕ → ℕ → List ReportLine
report_from_to lines g count done =
    SystemLine (length g.system.conf.parts) (length g.system.conf.plans) (g.ticks + count) ∷ reported_to (coming lines g) g done

-- the bytes that each UART gets in this many ticks
abbrev pub console_from : List UpsetLine → Machine → ℕ → ℕ → List ℕ
console_from lines g count uart = upset_console (upsets_of (coming lines g)) g count uart

-- a run from the boot on is one from the machine that boots
pub record BootRunsAlike (lines : List UpsetLine) (system : System) (count : ℕ) : Type 0 where
  pub report : report_from lines (start system) count ≡ upset_report lines system count
  pub after : after_ticks lines (start system) count ≡ after_run lines system count
  pub received : (p : ℕ) → received_from lines (start system) p count ≡ received_in lines system p count
  pub console : (uart : ℕ) → console_from lines (start system) count uart ≡ upset_console (schedule_of lines) (start system) count uart

abbrev pub BootsAreBeginnings : Type 0
BootsAreBeginnings = (lines : List UpsetLine) (system : System) (count : ℕ) → BootRunsAlike lines system count

-- a run of all ticks with the upsets of two files, and the run of the last of them with those of the second file, from the machine after the first with the words
-- that are left as those that were given. The machines after them are the same but for these words, and so are core files and lines of the end; the report, each
-- UART's bytes and what each partition receives are those of the first ticks, and then those of the last
pub record GoesOnAfter (first last : List UpsetLine) (system : System) (done count : ℕ) : Type 0 where
  pub report : upset_report (first ++ last) system (done + count)
      ≡ SystemLine (length system.conf.parts) (length system.conf.plans) (done + count) ∷ reported (due first) (start system) done
      ++ reported (coming last (continued_run first system done)) (continued_run first system done) count
      ++ end_lines (after_ticks last (continued_run first system done) count)
  pub core_file : (p : ℕ) → core_file_of (after_run (first ++ last) system (done + count)) p ≡ core_file_of (after_ticks last (continued_run first system done) count) p
  pub console : (uart : ℕ) → upset_console (schedule_of (first ++ last)) (start system) (done + count) uart
      ≡ upset_console (schedule_of first) (start system) done uart ++ console_from last (continued_run first system done) count uart
  pub received : (p : ℕ) → received_in (first ++ last) system p (done + count) ≡ received_in first system p done ++ received_from last (continued_run first system done) p count
  pub again : with_left (after_run (first ++ last) system (done + count)) ≡ with_left (after_ticks last (continued_run first system done) count)

-- so it is where the lines of the first file are before the tick, and the others are from it on
abbrev pub RunsGoOn : Type 0
RunsGoOn = (first last : List UpsetLine) (system : System) (done count : ℕ) → AreBefore done first → AreFrom done last → GoesOnAfter first last system done count
