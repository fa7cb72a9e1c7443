-- Two files of upsets, of which one is for the first ticks of a run and one for those after them.
use Rattle.std.proofs.Common.{◌≡◌, ℕ, zero, suc, ◌+◌, ◌<◌, ◌≤◌, Bool, true, false, List, [], ◌∷◌, ◌++◌, length, map, refl, ap, ◌∙◌, arith}
use Rattle.std.specs.Prelude.{◌==◌, if◌then◌else◌}
use Rattle.std.proofs.lemmas.Bool.Decides.{nat_tests}
use Rattle.std.proofs.lemmas.List.{append-nil}
use Rattle.xm_report.specs.Report.{ReportLine, SystemLine}
use Rattle.machine_model.specs.Cue.{cue, script_unless}
use Rattle.machine_model.specs.Lines.{end_lines, step_console, step_lines, step_said}
use Rattle.machine_model.specs.Machine.{Machine, start, step}
use Rattle.upset_model.specs.Places.{Timetable, due, schedule_of, upset_of, upsets_of}
use Rattle.upset_model.specs.Reports.{reported, struck_lines, upset_console}
use Rattle.upset_model.specs.Upsets.{Schedule, Upset, later, ready, upset_run, upset_said, upset_script}
use Rattle.upset_model.specs.declared.upset_line.UpsetLine.{UpsetLine}
use Rattle.continuation_laws.specs.Given.{with_left}
use Rattle.continuation_laws.specs.Continued.{continued_run, from_tick}
use Rattle.continuation_laws.specs.Joined.{AreBefore, AreFrom, FilesAreJoined, ReportsAreJoined}
use Rattle.continuation_laws.proofs.ContinuedLemmas.{reports_are_continued}

-- the lines of two files
due_of_both : (first last : List UpsetLine) (k : ℕ) → due (first ++ last) k ≡ due first k ++ due last k
due_of_both [] last k = refl
due_of_both (line ∷ first) last k = at (line.tick == k) (due_of_both first last k)
  where
    at : (b : Bool) → due (first ++ last) k ≡ due first k ++ due last k
        → (if b then line ∷ due (first ++ last) k else due (first ++ last) k) ≡ (if b then line ∷ due first k else due first k) ++ due last k
    at true more = ap (λ rest. line ∷ rest) more
    at false more = more

none_after : (tick k : ℕ) (lines : List UpsetLine) → AreBefore tick lines → tick ≤ k → due lines k ≡ []
none_after tick k [] before above = refl
none_after tick k (line ∷ lines) before above =
    let other : (line.tick == k) ≡ false = grind (arith, nat_tests, before.0, above) in
    ap (λ b. if b then line ∷ due lines k else due lines k) other ∙ none_after tick k lines before.1 above

none_before : (tick k : ℕ) (lines : List UpsetLine) → AreFrom tick lines → k < tick → due lines k ≡ []
none_before tick k [] from below = refl
none_before tick k (line ∷ lines) from below =
    let other : (line.tick == k) ≡ false = grind (arith, nat_tests, from.0, below) in
    ap (λ b. if b then line ∷ due lines k else due lines k) other ∙ none_before tick k lines from.1 below

first_due : (tick k : ℕ) (first last : List UpsetLine) → AreFrom tick last → k < tick → due (first ++ last) k ≡ due first k
first_due tick k first last from below =
    due_of_both first last k ∙ ap (λ rest. due first k ++ rest) (none_before tick k last from below) ∙ append-nil (due first k)

last_due : (tick k : ℕ) (first last : List UpsetLine) → AreBefore tick first → tick ≤ k → due (first ++ last) k ≡ due last k
last_due tick k first last before above =
    due_of_both first last k ∙ ap (λ front. front ++ due last k) (none_after tick k first before above)

last_from : (tick : ℕ) (first last : List UpsetLine) → AreBefore tick first → from_tick tick (due (first ++ last)) ≡ from_tick tick (due last)
last_from tick first last before = λ i k. last_due tick (tick + k) first last before (omega arith) i

-- timetables and schedules that are equal for this many ticks
abbrev AreEqualFor : {X : Type 0} → ℕ → (one other : ℕ → X) → Type 0
AreEqualFor count one other = (k : ℕ) → k < count → one k ≡ other k

later_equal : {X : Type 0} (count : ℕ) (one other : ℕ → X) → AreEqualFor (suc count) one other → AreEqualFor count (later one) (later other)
later_equal count one other equal k below = equal (suc k) (omega (arith, below))

run_equal : (count : ℕ) (one other : Schedule) (g : Machine) → AreEqualFor count one other → upset_run one g count ≡ upset_run other g count
run_equal zero one other g equal = refl
run_equal (suc count) one other g equal =
    ap (λ (us : List Upset). upset_run (later one) (step (ready us g)) count) (equal 0 (omega arith))
    ∙ run_equal count (later one) (later other) (step (ready (other 0) g)) (later_equal count one other equal)

said_equal : (count : ℕ) (one other : Schedule) (g : Machine) (p : ℕ) → AreEqualFor count one other → upset_said one g count p ≡ upset_said other g count p
said_equal zero one other g p equal = refl
said_equal (suc count) one other g p equal =
    ap (λ (us : List Upset). step_said (ready us g) p ++ upset_said (later one) (step (ready us g)) count p) (equal 0 (omega arith))
    ∙ ap (λ rest. step_said (ready (other 0) g) p ++ rest) (said_equal count (later one) (later other) (step (ready (other 0) g)) p (later_equal count one other equal))

console_equal : (count : ℕ) (one other : Schedule) (g : Machine) (uart : ℕ) → AreEqualFor count one other → upset_console one g count uart ≡ upset_console other g count uart
console_equal zero one other g uart equal = refl
console_equal (suc count) one other g uart equal =
    ap (λ (us : List Upset). step_console (ready us g) uart ++ upset_console (later one) (step (ready us g)) count uart) (equal 0 (omega arith))
    ∙ ap (λ rest. step_console (ready (other 0) g) uart ++ rest)
    (console_equal count (later one) (later other) (step (ready (other 0) g)) uart (later_equal count one other equal))

script_equal : (count : ℕ) (one other : Schedule) (g : Machine) (p : ℕ) → AreEqualFor count one other → upset_script one g p count ≡ upset_script other g p count
script_equal zero one other g p equal = refl
script_equal (suc count) one other g p equal =
    ap (λ (us : List Upset). script_unless g.halted (cue (ready us g) p) (upset_script (later one) (step (ready us g)) p count)) (equal 0 (omega arith))
    ∙ ap (λ rest. script_unless g.halted (cue (ready (other 0) g) p) rest)
    (script_equal count (later one) (later other) (step (ready (other 0) g)) p (later_equal count one other equal))

reported_equal : (count : ℕ) (one other : Timetable) (g : Machine) → AreEqualFor count one other → reported one g count ≡ reported other g count
reported_equal zero one other g equal = refl
reported_equal (suc count) one other g equal =
    let us = map upset_of (other 0) in
    ap (λ (lines : List UpsetLine). struck_lines g.halted lines ++ step_lines (ready (map upset_of lines) g) ++ reported (later one) (step (ready (map upset_of lines) g)) count) (equal 0 (omega arith))
    ∙ ap (λ rest. struck_lines g.halted (other 0) ++ step_lines (ready us g) ++ rest)
    (reported_equal count (later one) (later other) (step (ready us g)) (later_equal count one other equal))

pub files_are_joined : FilesAreJoined
files_are_joined first last g done before from =
    let lines : AreEqualFor done (due (first ++ last)) (due first) = λ k below. first_due done k first last from below in
    let upsets : AreEqualFor done (schedule_of (first ++ last)) (schedule_of first) = λ k below. ap (map upset_of) (lines k below) in
    record {
      state = run_equal done (schedule_of (first ++ last)) (schedule_of first) g upsets;
      report = reported_equal done (due (first ++ last)) (due first) g lines;
      said = λ p. said_equal done (schedule_of (first ++ last)) (schedule_of first) g p upsets;
      console = λ uart. console_equal done (schedule_of (first ++ last)) (schedule_of first) g uart upsets;
      script = λ p. script_equal done (schedule_of (first ++ last)) (schedule_of first) g p upsets;
      rest = last_from done first last before;
    }

pub reports_are_joined : ReportsAreJoined
reports_are_joined first last system done count before from =
    let both = files_are_joined first last (start system) done before from in
    let head : ReportLine = SystemLine (length system.conf.parts) (length system.conf.plans) (done + count) in
    reports_are_continued (first ++ last) system done count
    ∙ ap (λ (front : List ReportLine). head ∷ front ++ reported (from_tick done (due (first ++ last))) (continued_run (first ++ last) system done) count
    ++ end_lines (upset_run (upsets_of (from_tick done (due (first ++ last)))) (continued_run (first ++ last) system done) count)) both.report
    ∙ ap (λ (m : Machine). head ∷ reported (due first) (start system) done ++ reported (from_tick done (due (first ++ last))) (with_left m) count
    ++ end_lines (upset_run (upsets_of (from_tick done (due (first ++ last)))) (with_left m) count)) both.state
    ∙ ap (λ (t : Timetable). head ∷ reported (due first) (start system) done ++ reported t (continued_run first system done) count
    ++ end_lines (upset_run (upsets_of t) (continued_run first system done) count)) both.rest
