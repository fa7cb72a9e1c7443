-- Continuation: a run that goes on from the machine after some of its ticks, with other input words as those that its partitions were given.
use Rattle.std.specs.Prelude.{◌≡◌, ℕ, ◌+◌, List, ◌∷◌, ◌++◌, length}
use Rattle.xm_report.specs.Report.{SystemLine}
use Rattle.machine_model.specs.Laws.{core_file_of}
use Rattle.machine_model.specs.Lines.{end_lines}
use Rattle.machine_model.specs.Machine.{Machine, start}
use Rattle.machine_model.specs.View.{System}
use Rattle.upset_model.specs.Places.{Timetable, due, upsets_of}
use Rattle.upset_model.specs.Reports.{after_run, reported, reported_to, upset_console, upset_report}
use Rattle.upset_model.specs.Upsets.{upset_run, upset_said, upset_script}
use Rattle.upset_model.specs.declared.upset_line.UpsetLine.{UpsetLine}
use Rattle.continuation_laws.specs.Given.{with_given, with_left}

-- what comes before each tick of a continuation, by the ticks that it has done: this many were done first
abbrev pub from_tick : {X : Type 0} → ℕ → (ℕ → X) → ℕ → X
from_tick done f k = f (done + k)

-- the machine from which a run is continued: the one that it has after this many ticks, with these words as those that its partitions were given
abbrev pub continued : List (List ℕ) → Timetable → Machine → ℕ → Machine
continued inputs t g done = with_given inputs (upset_run (upsets_of t) g done)

-- a run of all ticks in one piece, and its continuation after the first of them, whatever words it has as those that were given: after the last tick the
-- machines are the same but for these words. What the run reports, what each UART gets, what each partition writes to its console and what it receives
-- is that of the first ticks, and then that of the continuation; the lines of the end and each core file are the same, and so is the machine from which
-- either would be continued again with the words that are left
pub record IsContinued (inputs : List (List ℕ)) (t : Timetable) (g : Machine) (done count : ℕ) : Type 0 where
  pub state : with_given inputs (upset_run (upsets_of t) g (done + count)) ≡ upset_run (upsets_of (from_tick done t)) (continued inputs t g done) count
  pub report : reported t g (done + count) ≡ reported t g done ++ reported (from_tick done t) (continued inputs t g done) count
  pub to_next : reported_to t g (done + count) ≡ reported t g done ++ reported_to (from_tick done t) (continued inputs t g done) count
  pub console : (uart : ℕ) → upset_console (upsets_of t) g (done + count) uart
      ≡ upset_console (upsets_of t) g done uart ++ upset_console (upsets_of (from_tick done t)) (continued inputs t g done) count uart
  pub said : (p : ℕ) → upset_said (upsets_of t) g (done + count) p
      ≡ upset_said (upsets_of t) g done p ++ upset_said (upsets_of (from_tick done t)) (continued inputs t g done) count p
  pub script : (p : ℕ) → upset_script (upsets_of t) g p (done + count)
      ≡ upset_script (upsets_of t) g p done ++ upset_script (upsets_of (from_tick done t)) (continued inputs t g done) p count
  pub end : end_lines (upset_run (upsets_of t) g (done + count)) ≡ end_lines (upset_run (upsets_of (from_tick done t)) (continued inputs t g done) count)
  pub core_file : (p : ℕ) → core_file_of (upset_run (upsets_of t) g (done + count)) p
      ≡ core_file_of (upset_run (upsets_of (from_tick done t)) (continued inputs t g done) count) p
  pub again : with_left (upset_run (upsets_of t) g (done + count)) ≡ with_left (upset_run (upsets_of (from_tick done t)) (continued inputs t g done) count)

abbrev pub RunsAreContinued : Type 0
RunsAreContinued = (inputs : List (List ℕ)) (t : Timetable) (g : Machine) (done count : ℕ) → IsContinued inputs t g done count

-- the machine after a run of a system with the upsets of a file, with the input words that are left as those that were given
abbrev pub continued_run : List UpsetLine → System → ℕ → Machine
continued_run lines system done = with_left (after_run lines system done)

-- so the report of a run is its first line, what its first ticks report, and what the continuation does, with the lines of its end
abbrev pub ReportsAreContinued : Type 0
ReportsAreContinued = (lines : List UpsetLine) (system : System) (done count : ℕ) →
    upset_report lines system (done + count)
    ≡ SystemLine (length system.conf.parts) (length system.conf.plans) (done + count) ∷ reported (due lines) (start system) done
    ++ reported (from_tick done (due lines)) (continued_run lines system done) count
    ++ end_lines (upset_run (upsets_of (from_tick done (due lines))) (continued_run lines system done) count)
