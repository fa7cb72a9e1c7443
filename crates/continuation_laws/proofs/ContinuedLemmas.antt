-- A continuation is the rest of a run.
use Rattle.std.proofs.Common.{◌≡◌, ℕ, ◌+◌, List, ◌∷◌, ◌++◌, length, sym, ap, ◌∙◌}
use Rattle.xm_report.specs.Report.{ReportLine, SystemLine}
use Rattle.machine_model.specs.Cue.{Cue}
use Rattle.machine_model.specs.Laws.{core_file_of}
use Rattle.machine_model.specs.Lines.{end_lines}
use Rattle.machine_model.specs.Machine.{Machine, start}
use Rattle.upset_model.specs.Places.{Timetable, due, upsets_of}
use Rattle.upset_model.specs.Reports.{after_run, reported, reported_to, upset_console, upset_report}
use Rattle.upset_model.specs.Upsets.{Schedule, upset_run, upset_said, upset_script}
use Rattle.upset_model.specs.lemmas.Segments.{from, from_at, reported_add, reported_to_add, timed_console_add, timed_run_add, upset_said_add, upset_script_add}
use Rattle.continuation_laws.specs.Given.{with_given, with_left, words_left}
use Rattle.continuation_laws.specs.Continued.{ReportsAreContinued, RunsAreContinued, continued, continued_run, from_tick}
use Rattle.continuation_laws.proofs.MachineLemmas.{core_same, end_same}
use Rattle.continuation_laws.proofs.RunLemmas.{reported_same, reported_to_same, run_console_same, run_said_same, run_same, run_script_same}

-- what comes after a number of ticks, in both words
from_same : {X : Type 0} (done : ℕ) (f : ℕ → X) → from done f ≡ from_tick done f
from_same done f = λ i k. from_at done k f i

-- two pieces, with the second one's timetable in both words
pieces : {X : Type 0} (f : Timetable → X) (done : ℕ) (t : Timetable) → f (from done t) ≡ f (from_tick done t)
pieces f done t = ap f (from_same done t)

run_continued : (inputs : List (List ℕ)) (t : Timetable) (g : Machine) (done count : ℕ)
    → with_given inputs (upset_run (upsets_of t) g (done + count)) ≡ upset_run (upsets_of (from_tick done t)) (continued inputs t g done) count
run_continued inputs t g done count =
    let mid = upset_run (upsets_of t) g done in
    ap (with_given inputs) (timed_run_add done count t g ∙ pieces (λ (rest : Timetable). upset_run (upsets_of rest) mid count) done t)
    ∙ sym (run_same count inputs (upsets_of (from_tick done t)) mid)

report_continued : (inputs : List (List ℕ)) (t : Timetable) (g : Machine) (done count : ℕ)
    → reported t g (done + count) ≡ reported t g done ++ reported (from_tick done t) (continued inputs t g done) count
report_continued inputs t g done count =
    let mid = upset_run (upsets_of t) g done in
    reported_add done count t g ∙ ap (λ (rest : List ReportLine). reported t g done ++ rest)
    (pieces (λ (rest : Timetable). reported rest mid count) done t ∙ sym (reported_same count inputs (from_tick done t) mid))

to_next_continued : (inputs : List (List ℕ)) (t : Timetable) (g : Machine) (done count : ℕ)
    → reported_to t g (done + count) ≡ reported t g done ++ reported_to (from_tick done t) (continued inputs t g done) count
to_next_continued inputs t g done count =
    let mid = upset_run (upsets_of t) g done in
    reported_to_add done count t g ∙ ap (λ (rest : List ReportLine). reported t g done ++ rest)
    (pieces (λ (rest : Timetable). reported_to rest mid count) done t ∙ sym (reported_to_same count inputs (from_tick done t) mid))

console_continued : (inputs : List (List ℕ)) (t : Timetable) (g : Machine) (done count uart : ℕ)
    → upset_console (upsets_of t) g (done + count) uart
    ≡ upset_console (upsets_of t) g done uart ++ upset_console (upsets_of (from_tick done t)) (continued inputs t g done) count uart
console_continued inputs t g done count uart =
    let mid = upset_run (upsets_of t) g done in
    timed_console_add done count t g uart ∙ ap (λ (rest : List ℕ). upset_console (upsets_of t) g done uart ++ rest)
    (pieces (λ (rest : Timetable). upset_console (upsets_of rest) mid count uart) done t ∙ sym (run_console_same count inputs (upsets_of (from_tick done t)) mid uart))

again_continued : (inputs : List (List ℕ)) (t : Timetable) (g : Machine) (done count : ℕ)
    → with_left (upset_run (upsets_of t) g (done + count)) ≡ with_left (upset_run (upsets_of (from_tick done t)) (continued inputs t g done) count)
again_continued inputs t g done count = ap with_left (run_continued inputs t g done count)

-- the upsets of what comes later, as a schedule
schedule_same : (done : ℕ) (t : Timetable) → from done (upsets_of t) ≡ upsets_of (from_tick done t)
schedule_same done t = from_same done (upsets_of t)

said_continued : (inputs : List (List ℕ)) (t : Timetable) (g : Machine) (done count p : ℕ)
    → upset_said (upsets_of t) g (done + count) p
    ≡ upset_said (upsets_of t) g done p ++ upset_said (upsets_of (from_tick done t)) (continued inputs t g done) count p
said_continued inputs t g done count p =
    let mid = upset_run (upsets_of t) g done in
    upset_said_add done count (upsets_of t) g p ∙ ap (λ (rest : List ℕ). upset_said (upsets_of t) g done p ++ rest)
    (ap (λ (rest : Schedule). upset_said rest mid count p) (schedule_same done t) ∙ sym (run_said_same count inputs (upsets_of (from_tick done t)) mid p))

script_continued : (inputs : List (List ℕ)) (t : Timetable) (g : Machine) (done count p : ℕ)
    → upset_script (upsets_of t) g p (done + count)
    ≡ upset_script (upsets_of t) g p done ++ upset_script (upsets_of (from_tick done t)) (continued inputs t g done) p count
script_continued inputs t g done count p =
    let mid = upset_run (upsets_of t) g done in
    upset_script_add done count (upsets_of t) g p ∙ ap (λ (rest : List Cue). upset_script (upsets_of t) g p done ++ rest)
    (ap (λ (rest : Schedule). upset_script rest mid p count) (schedule_same done t) ∙ sym (run_script_same count inputs (upsets_of (from_tick done t)) mid p))

end_continued : (inputs : List (List ℕ)) (t : Timetable) (g : Machine) (done count : ℕ)
    → end_lines (upset_run (upsets_of t) g (done + count)) ≡ end_lines (upset_run (upsets_of (from_tick done t)) (continued inputs t g done) count)
end_continued inputs t g done count = sym (end_same inputs (upset_run (upsets_of t) g (done + count))) ∙ ap end_lines (run_continued inputs t g done count)

core_continued : (inputs : List (List ℕ)) (t : Timetable) (g : Machine) (done count p : ℕ)
    → core_file_of (upset_run (upsets_of t) g (done + count)) p ≡ core_file_of (upset_run (upsets_of (from_tick done t)) (continued inputs t g done) count) p
core_continued inputs t g done count p =
    sym (core_same inputs (upset_run (upsets_of t) g (done + count)) p) ∙ ap (λ (m : Machine). core_file_of m p) (run_continued inputs t g done count)

pub runs_are_continued : RunsAreContinued
runs_are_continued inputs t g done count = record {
  state = run_continued inputs t g done count;
  report = report_continued inputs t g done count;
  to_next = to_next_continued inputs t g done count;
  console = console_continued inputs t g done count;
  said = said_continued inputs t g done count;
  script = script_continued inputs t g done count;
  end = end_continued inputs t g done count;
  core_file = core_continued inputs t g done count;
  again = again_continued inputs t g done count;
}

-- the report of a run of a system
pub reports_are_continued : ReportsAreContinued
unfolding upset_report
reports_are_continued lines system done count =
    let left = words_left (after_run lines system done) in
    let first : ReportLine = SystemLine (length system.conf.parts) (length system.conf.plans) (done + count) in
    ap (λ (all : List ReportLine). first ∷ all ++ end_lines (after_run lines system (done + count))) (report_continued left (due lines) (start system) done count)
    ∙ ap (λ (last : List ReportLine). first ∷ reported (due lines) (start system) done ++ reported (from_tick done (due lines)) (continued_run lines system done) count ++ last)
    (end_continued left (due lines) (start system) done count)
