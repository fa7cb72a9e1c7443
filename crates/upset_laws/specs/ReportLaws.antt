-- The laws of reports with upsets: a partition's own lines, those of its upsets among them, are those of that partition alone.
use Rattle.std.specs.Prelude.{◌≡◌, ℕ, ◌<◌, ◌≤◌, List, [], ◌∷◌, ◌++◌, length, Some, slice_get}
use Rattle.machine_model.specs.Alone.{Alone, alone_start}
use Rattle.machine_model.specs.CoreFile.{core_file}
use Rattle.machine_model.specs.Cue.{script}
use Rattle.machine_model.specs.Laws.{alone_part_at, core_file_of, part}
use Rattle.machine_model.specs.Lines.{console, end_line, own, report}
use Rattle.machine_model.specs.Machine.{Machine, run, start}
use Rattle.machine_model.specs.Partition.{PartitionState}
use Rattle.machine_model.specs.View.{System, view_of}
use Rattle.upset_model.specs.Places.{Timetable, lines_for, schedule_of, upsets_of}
use Rattle.upset_model.specs.Reports.{after_run, alone_reported, own_due, received_in, reported, upset_console, upset_report}
use Rattle.upset_model.specs.Upsets.{alone_upset_from, no_upsets, own_strikes, upset_script}
use Rattle.upset_model.specs.declared.upset_line.UpsetLine.{UpsetLine}

-- of what ticks with upsets report, a partition's own lines are those of that partition alone under its script, with its own upsets
abbrev pub TicksReportAlone : Type 0
TicksReportAlone = (t : Timetable) (g : Machine) (p : ℕ) (ps : PartitionState) (count : ℕ) → slice_get g.parts p ≡ Some ps →
    own p (reported t g count) ≡ alone_reported (view_of g.system p) (λ k. lines_for p (t k)) (part g p ps) (upset_script (upsets_of t) g p count)

-- partition p of a system alone, after this many ticks: from its boot on its own upsets strike it, and it receives what it received in the run
abbrev pub alone_after : List UpsetLine → System → ℕ → ℕ → Alone
alone_after lines system p ticks =
    alone_upset_from (view_of system p) (own_strikes p (schedule_of lines)) (alone_start (view_of system p)) (received_in lines system p ticks)

-- so it is with the report of a run of a system with the upsets of a file: the lines of the ticks and of the upsets, and the line of the end
abbrev pub OwnReports : Type 0
OwnReports = (lines : List UpsetLine) (system : System) (p ticks : ℕ) → p < length system.conf.parts →
    own p (upset_report lines system ticks)
    ≡ alone_reported (view_of system p) (own_due p lines) (alone_start (view_of system p)) (received_in lines system p ticks)
    ++ end_line p (alone_after lines system p ticks).state ∷ []

-- with the partition's part of the machine after the run,
abbrev pub SameUpsetPart : Type 0
SameUpsetPart = (lines : List UpsetLine) (system : System) (p ticks : ℕ) → p < length system.conf.parts →
    alone_part_at (after_run lines system ticks) p ≡ Some (alone_after lines system p ticks)

-- and with its core file
abbrev pub SameUpsetCoreFile : Type 0
SameUpsetCoreFile = (lines : List UpsetLine) (system : System) (p ticks : ℕ) → p < length system.conf.parts →
    core_file_of (after_run lines system ticks) p ≡ Some (core_file (view_of system p) (alone_after lines system p ticks).state)

-- a run with a file of no upsets is the run without any: the report, the machine after it, and what each partition receives in it
pub record PlainReports : Type 0 where
  pub report : (system : System) (ticks : ℕ) → upset_report [] system ticks ≡ report system ticks
  pub after : (system : System) (ticks : ℕ) → after_run [] system ticks ≡ run (start system) ticks
  pub received : (system : System) (p ticks : ℕ) → received_in [] system p ticks ≡ script (start system) p ticks

-- and each UART gets what it gets without any
abbrev pub PlainConsoles : Type 0
PlainConsoles = (g : Machine) (count uart : ℕ) → upset_console no_upsets g count uart ≡ console g count uart

-- two machines and lines of upsets before each of this many ticks, in which a partition is the same, has the same view, the same lines and the same script
pub record AreAlikeReported (t : Timetable) (one : Machine) (u : Timetable) (other : Machine) (p count : ℕ) : Type 0 where
  pub state : PartitionState
  pub there : slice_get one.parts p ≡ Some state
  pub part : alone_part_at one p ≡ alone_part_at other p
  pub view : view_of one.system p ≡ view_of other.system p
  pub own_lines : (k : ℕ) → k < count → lines_for p (t k) ≡ lines_for p (u k)
  pub script : upset_script (upsets_of t) one p count ≡ upset_script (upsets_of u) other p count

-- it prints the same own lines in both, after each of the ticks
abbrev pub TwoReports : Type 0
TwoReports = (t : Timetable) (one : Machine) (u : Timetable) (other : Machine) (p count fewer : ℕ) → fewer ≤ count →
    AreAlikeReported t one u other p count → own p (reported t one fewer) ≡ own p (reported u other fewer)
