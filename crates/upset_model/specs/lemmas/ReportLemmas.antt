-- For proofs: what a machine that has halted does with upsets.
use Rattle.std.proofs.Common.{◌≡◌, ℕ, zero, suc, true, List, [], ◌++◌, map, refl, ap, ◌∙◌}
use Rattle.xm_report.specs.Report.{ReportLine}
use Rattle.machine_model.specs.lemmas.TickLemmas.{step_halted}
use Rattle.machine_model.specs.Lines.{lines_unless, step_lines}
use Rattle.machine_model.specs.Machine.{Machine, step}
use Rattle.upset_model.specs.Places.{Timetable, upset_of}
use Rattle.upset_model.specs.Reports.{reported, struck_lines}
use Rattle.upset_model.specs.Upsets.{Upset, later, ready, ready_unless}

-- it is not struck
ready_halted : (us : List Upset) (g : Machine) → g.halted ≡ true → ready us g ≡ g
unfolding ready
ready_halted us g halts = ap (λ b. ready_unless b us g) halts

-- it prints nothing
lines_halted : (g : Machine) → g.halted ≡ true → step_lines g ≡ []
unfolding step_lines
lines_halted g halts = ap (λ b. lines_unless b g) halts

-- and reports nothing
pub halted_reported : (count : ℕ) (t : Timetable) (g : Machine) → g.halted ≡ true → reported t g count ≡ []
halted_reported zero t g halts = refl
halted_reported (suc count) t g halts =
    let us : List Upset = map upset_of (t 0) in
    ap (λ b. struck_lines b (t 0) ++ step_lines (ready us g) ++ reported (later t) (step (ready us g)) count) halts
    ∙ ap (λ m. step_lines m ++ reported (later t) (step (ready us g)) count) (ready_halted us g halts)
    ∙ ap (λ (l : List ReportLine). l ++ reported (later t) (step (ready us g)) count) (lines_halted g halts)
    ∙ ap (λ m. reported (later t) (step m) count) (ready_halted us g halts)
    ∙ ap (λ m. reported (later t) m count) (step_halted g halts)
    ∙ halted_reported count (later t) g halts
