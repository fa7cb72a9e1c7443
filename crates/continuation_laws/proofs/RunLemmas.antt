-- Runs are the same whatever input words partitions were given.
use Rattle.std.proofs.Common.{◌≡◌, ℕ, zero, suc, Bool, true, false, List, [], ◌∷◌, ◌++◌, map, refl, ap, ◌∙◌}
use Rattle.xm_report.specs.Report.{ReportLine}
use Rattle.machine_model.specs.Cue.{Cue, cue, script_unless}
use Rattle.machine_model.specs.Lines.{step_console, step_lines, step_said}
use Rattle.machine_model.specs.Machine.{Machine, step}
use Rattle.upset_model.specs.Places.{Timetable, upset_of, upsets_of}
use Rattle.upset_model.specs.Reports.{reported, reported_to, struck_lines, upset_console}
use Rattle.upset_model.specs.Upsets.{Schedule, Upset, later, ready, ready_unless, upset, upset_lines, upset_run, upset_said, upset_script, upsets}
use Rattle.continuation_laws.specs.Given.{ReportIgnoresGiven, RunsIgnoreGiven, with_given}
use Rattle.continuation_laws.proofs.MachineLemmas.{console_same, cue_same, lines_same, said_same, step_same}

-- upsets strike it alike
upset_same : (u : Upset) (inputs : List (List ℕ)) (g : Machine) → upset u (with_given inputs g) ≡ with_given inputs (upset u g)
unfolding upset
upset_same u inputs g = refl

upsets_same : (us : List Upset) (inputs : List (List ℕ)) (g : Machine) → upsets us (with_given inputs g) ≡ with_given inputs (upsets us g)
upsets_same [] inputs g = refl
upsets_same (u ∷ us) inputs g = ap (upsets us) (upset_same u inputs g) ∙ upsets_same us inputs (upset u g)

ready_by : (b : Bool) (us : List Upset) (inputs : List (List ℕ)) (g : Machine) → ready_unless b us (with_given inputs g) ≡ with_given inputs (ready_unless b us g)
ready_by true us inputs g = refl
ready_by false us inputs g = upsets_same us inputs g

ready_same : (us : List Upset) (inputs : List (List ℕ)) (g : Machine) → ready us (with_given inputs g) ≡ with_given inputs (ready us g)
unfolding ready
ready_same us inputs g = ready_by g.halted us inputs g

next_same : (us : List Upset) (inputs : List (List ℕ)) (g : Machine) → step (ready us (with_given inputs g)) ≡ with_given inputs (step (ready us g))
next_same us inputs g = ap step (ready_same us inputs g) ∙ step_same inputs (ready us g)

-- what one tick adds is the same where it is the same of a machine without upsets
adds_same : {X : Type 0} (adds : Machine → X) → ((inputs : List (List ℕ)) (g : Machine) → adds (with_given inputs g) ≡ adds g)
    → (us : List Upset) (inputs : List (List ℕ)) (g : Machine) → adds (ready us (with_given inputs g)) ≡ adds (ready us g)
adds_same adds same us inputs g = ap adds (ready_same us inputs g) ∙ same inputs (ready us g)

-- runs
pub run_same : (count : ℕ) (inputs : List (List ℕ)) (s : Schedule) (g : Machine) → upset_run s (with_given inputs g) count ≡ with_given inputs (upset_run s g count)
run_same zero inputs s g = refl
run_same (suc count) inputs s g =
    ap (λ (m : Machine). upset_run (later s) m count) (next_same (s 0) inputs g) ∙ run_same count inputs (later s) (step (ready (s 0) g))

run_lines_same : (count : ℕ) (inputs : List (List ℕ)) (s : Schedule) (g : Machine) → upset_lines s (with_given inputs g) count ≡ upset_lines s g count
run_lines_same zero inputs s g = refl
run_lines_same (suc count) inputs s g =
    ap (λ (front : List ReportLine). front ++ upset_lines (later s) (step (ready (s 0) (with_given inputs g))) count) (adds_same step_lines lines_same (s 0) inputs g)
    ∙ ap (λ (m : Machine). step_lines (ready (s 0) g) ++ upset_lines (later s) m count) (next_same (s 0) inputs g)
    ∙ ap (λ rest. step_lines (ready (s 0) g) ++ rest) (run_lines_same count inputs (later s) (step (ready (s 0) g)))

pub run_said_same : (count : ℕ) (inputs : List (List ℕ)) (s : Schedule) (g : Machine) (p : ℕ) → upset_said s (with_given inputs g) count p ≡ upset_said s g count p
run_said_same zero inputs s g p = refl
run_said_same (suc count) inputs s g p =
    ap (λ (front : List ℕ). front ++ upset_said (later s) (step (ready (s 0) (with_given inputs g))) count p)
    (adds_same (λ m. step_said m p) (λ words m. said_same words m p) (s 0) inputs g)
    ∙ ap (λ (m : Machine). step_said (ready (s 0) g) p ++ upset_said (later s) m count p) (next_same (s 0) inputs g)
    ∙ ap (λ rest. step_said (ready (s 0) g) p ++ rest) (run_said_same count inputs (later s) (step (ready (s 0) g)) p)

pub run_console_same : (count : ℕ) (inputs : List (List ℕ)) (s : Schedule) (g : Machine) (uart : ℕ) → upset_console s (with_given inputs g) count uart ≡ upset_console s g count uart
run_console_same zero inputs s g uart = refl
run_console_same (suc count) inputs s g uart =
    ap (λ (front : List ℕ). front ++ upset_console (later s) (step (ready (s 0) (with_given inputs g))) count uart)
    (adds_same (λ m. step_console m uart) (λ words m. console_same words m uart) (s 0) inputs g)
    ∙ ap (λ (m : Machine). step_console (ready (s 0) g) uart ++ upset_console (later s) m count uart) (next_same (s 0) inputs g)
    ∙ ap (λ rest. step_console (ready (s 0) g) uart ++ rest) (run_console_same count inputs (later s) (step (ready (s 0) g)) uart)

pub run_script_same : (count : ℕ) (inputs : List (List ℕ)) (s : Schedule) (g : Machine) (p : ℕ) → upset_script s (with_given inputs g) p count ≡ upset_script s g p count
run_script_same zero inputs s g p = refl
run_script_same (suc count) inputs s g p =
    ap (λ (first : Cue). script_unless g.halted first (upset_script (later s) (step (ready (s 0) (with_given inputs g))) p count))
    (adds_same (λ m. cue m p) (λ words m. cue_same words m p) (s 0) inputs g)
    ∙ ap (λ (m : Machine). script_unless g.halted (cue (ready (s 0) g) p) (upset_script (later s) m p count)) (next_same (s 0) inputs g)
    ∙ ap (λ rest. script_unless g.halted (cue (ready (s 0) g) p) rest) (run_script_same count inputs (later s) (step (ready (s 0) g)) p)

pub runs_ignore_given : RunsIgnoreGiven
runs_ignore_given inputs s g count = record {
  state = run_same count inputs s g;
  lines = run_lines_same count inputs s g;
  said = run_said_same count inputs s g;
  console = run_console_same count inputs s g;
  script = run_script_same count inputs s g;
}

-- reports
pub reported_same : (count : ℕ) (inputs : List (List ℕ)) (t : Timetable) (g : Machine) → reported t (with_given inputs g) count ≡ reported t g count
reported_same zero inputs t g = refl
reported_same (suc count) inputs t g =
    let us = map upset_of (t 0) in
    ap (λ (front : List ReportLine). struck_lines g.halted (t 0) ++ front ++ reported (later t) (step (ready us (with_given inputs g))) count) (adds_same step_lines lines_same us inputs g)
    ∙ ap (λ (m : Machine). struck_lines g.halted (t 0) ++ step_lines (ready us g) ++ reported (later t) m count) (next_same us inputs g)
    ∙ ap (λ rest. struck_lines g.halted (t 0) ++ step_lines (ready us g) ++ rest) (reported_same count inputs (later t) (step (ready us g)))

pub reported_to_same : (count : ℕ) (inputs : List (List ℕ)) (t : Timetable) (g : Machine) → reported_to t (with_given inputs g) count ≡ reported_to t g count
reported_to_same count inputs t g =
    ap (λ (front : List ReportLine). front ++ struck_lines (upset_run (upsets_of t) (with_given inputs g) count).halted (t count)) (reported_same count inputs t g)
    ∙ ap (λ (m : Machine). reported t g count ++ struck_lines m.halted (t count)) (run_same count inputs (upsets_of t) g)

pub reports_ignore_given : ReportIgnoresGiven
reports_ignore_given inputs t g count = record { lines = reported_same count inputs t g; to_next = reported_to_same count inputs t g }
