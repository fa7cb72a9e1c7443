-- What a run with the upsets of a file reports: a line for each upset that strikes, before the lines of its tick.
use Rattle.std.specs.Prelude.{ℕ, zero, suc, Bool, true, false, List, [], ◌∷◌, ◌++◌, length, map}
use Rattle.xm_report.specs.Report.{ReportLine, StruckLine, SystemLine}
use Rattle.machine_model.specs.Alone.{Alone, alone_step, alone_step_lines}
use Rattle.machine_model.specs.Cue.{Cue}
use Rattle.machine_model.specs.Lines.{end_lines, step_console, step_lines}
use Rattle.machine_model.specs.Machine.{Machine, start, step}
use Rattle.machine_model.specs.View.{PartitionView, System}
use Rattle.upset_model.specs.Places.{Timetable, due, lines_for, schedule_of, strike_of, upset_of, upsets_of}
use Rattle.upset_model.specs.Upsets.{Schedule, alone_struck, later, ready, upset_run, upset_script}
use Rattle.upset_model.specs.declared.upset_line.UpsetLine.{UpsetLine}

-- the report's line of an upset
abbrev pub struck_line : UpsetLine → ReportLine
struck_line line = StruckLine line.tick line.part line.place line.bit

-- those of the upsets that strike: a machine that has halted is not struck
abbrev pub struck_lines : Bool → List UpsetLine → List ReportLine
struck_lines true lines = []
struck_lines false lines = map struck_line lines

-- the report's lines of this many ticks, and of the upsets before each of them
abbrev pub reported : Timetable → Machine → ℕ → List ReportLine
reported t g zero = []
reported t g (suc count) =
    struck_lines g.halted (t 0) ++ step_lines (ready (map upset_of (t 0)) g) ++ reported (later t) (step (ready (map upset_of (t 0)) g)) count

-- and of the upsets before the tick that comes next
abbrev pub reported_to : Timetable → Machine → ℕ → List ReportLine
reported_to t g count = reported t g count ++ struck_lines (upset_run (upsets_of t) g count).halted (t count)

-- the bytes that a UART gets in this many ticks
abbrev pub upset_console : Schedule → Machine → ℕ → ℕ → List ℕ
upset_console s g zero uart = []
upset_console s g (suc count) uart = step_console (ready (s 0) g) uart ++ upset_console (later s) (step (ready (s 0) g)) count uart

-- a run of a system with the upsets of a file: the machine after it, what a partition receives in it, and its report
abbrev pub after_run : List UpsetLine → System → ℕ → Machine
after_run lines system ticks = upset_run (schedule_of lines) (start system) ticks

abbrev pub received_in : List UpsetLine → System → ℕ → ℕ → List Cue
received_in lines system p ticks = upset_script (schedule_of lines) (start system) p ticks

unfoldable pub upset_report : List UpsetLine → System → ℕ → List ReportLine
upset_report lines system ticks =
    SystemLine (length system.conf.parts) (length system.conf.plans) ticks ∷ reported (due lines) (start system) ticks
    ++ end_lines (after_run lines system ticks)

-- the lines of a file for one partition, before each tick
abbrev pub own_due : ℕ → List UpsetLine → Timetable
own_due p lines k = lines_for p (due lines k)

-- the lines of a script of one partition alone, and of its own upsets before each of its ticks
abbrev pub alone_reported : PartitionView → Timetable → Alone → List Cue → List ReportLine
alone_reported view own a [] = []
alone_reported view own a (cue ∷ cues) =
    map struck_line (own 0) ++ alone_step_lines view (alone_struck (map strike_of (own 0)) a) cue
    ++ alone_reported view (later own) (alone_step view (alone_struck (map strike_of (own 0)) a) cue) cues
