use Rattle.std.proofs.Common.{◌≡◌, Bool, true, false, List, [], ◌∷◌, ◌++◌, refl, ap, ◌∙◌}
use Rattle.std.specs.Prelude.{codes}
use Rattle.std.proofs.lemmas.List.{append-nil}
use Rattle.std.specs.Fmt.{digits}
use Rattle.hex.specs.Hex.{encode_with}
use Rattle.machine_model.specs.Lines.{lines_unless, step_lines}
use Rattle.machine_model.specs.Machine.{Machine, step}
use Rattle.xm_report.specs.Report.{ReportLine, StruckLine, struck_text, text_of}
use Rattle.xm_report.specs.declared.place.Place.TheVariants.{Mask, MemoryByte, Pc}
use Rattle.upset_model.specs.Places.{due}
use Rattle.upset_model.specs.Reports.{reported, struck_line, struck_lines}
use Rattle.upset_model.specs.Upsets.{Upset, later, ready, ready_unless}
use Rattle.upset_model.specs.lemmas.ReportLemmas.{halted_reported}
use Rattle.upset_model.specs.rows.ReportRows.{first_ready, second_ready, two_lines}
use Rattle.upset_model.specs.rows.StrikeRows.{line}
use Rattle.upset_model.proofs.rows.reports_what_strikes.Goals as goal

text_is : text_of (struck_line (line 10 1 (MemoryByte 0x40100010) 3)) ≡ codes "[10] P1 UPSET 40100010 bit 3\n"
unfolding digits encode_with struck_text
text_is = refl

-- what the second tick adds
second : Bool → Machine → List ReportLine
second b g = struck_lines b (due two_lines 1) ++ step_lines (second_ready g) ++ []

first_is : (g : Machine) → g.halted ≡ false → reported (due two_lines) g 2 ≡ (StruckLine 0 1 Pc 2 ∷ step_lines (first_ready g)) ++ second (step (first_ready g)).halted g
unfolding second
first_is g goes = ap (λ b. struck_lines b (due two_lines 0) ++ step_lines (first_ready g) ++ (struck_lines (step (first_ready g)).halted (due two_lines 1) ++ step_lines (second_ready g) ++ [])) goes

second_is : (g : Machine) → second false g ≡ StruckLine 1 0 Mask 31 ∷ step_lines (second_ready g)
unfolding second
second_is g = append-nil (StruckLine 1 0 Mask 31 ∷ step_lines (second_ready g))

two : (g : Machine) → g.halted ≡ false → (step (first_ready g)).halted ≡ false
    → reported (due two_lines) g 2 ≡ (StruckLine 0 1 Pc 2 ∷ step_lines (first_ready g)) ++ (StruckLine 1 0 Mask 31 ∷ step_lines (second_ready g))
two g goes on =
    first_is g goes ∙ ap (λ b. (StruckLine 0 1 Pc 2 ∷ step_lines (first_ready g)) ++ second b g) on
    ∙ ap (λ l. (StruckLine 0 1 Pc 2 ∷ step_lines (first_ready g)) ++ l) (second_is g)

one : (g : Machine) → g.halted ≡ false → reported (due two_lines) g 1 ≡ StruckLine 0 1 Pc 2 ∷ step_lines (first_ready g)
one g goes =
    ap (λ b. struck_lines b (due two_lines 0) ++ step_lines (first_ready g) ++ []) goes ∙ append-nil (StruckLine 0 1 Pc 2 ∷ step_lines (first_ready g))

next : (g : Machine) → g.halted ≡ false → (step (first_ready g)).halted ≡ false
    → reported (due two_lines) g 1 ++ struck_lines (step (first_ready g)).halted (due two_lines 1) ≡ (StruckLine 0 1 Pc 2 ∷ step_lines (first_ready g)) ++ (StruckLine 1 0 Mask 31 ∷ [])
next g goes on =
    ap (λ l. l ++ struck_lines (step (first_ready g)).halted (due two_lines 1)) (one g goes)
    ∙ ap (λ b. (StruckLine 0 1 Pc 2 ∷ step_lines (first_ready g)) ++ struck_lines b (due two_lines 1)) on

halts : (g : Machine) → g.halted ≡ false → (step (first_ready g)).halted ≡ true → reported (due two_lines) g 2 ≡ StruckLine 0 1 Pc 2 ∷ step_lines (first_ready g)
halts g goes halted =
    ap (λ b. struck_lines b (due two_lines 0) ++ step_lines (first_ready g) ++ reported (later (due two_lines)) (step (first_ready g)) 1) goes
    ∙ ap (λ l. (StruckLine 0 1 Pc 2 ∷ step_lines (first_ready g)) ++ l) (halted_reported 1 (later (due two_lines)) (step (first_ready g)) halted)
    ∙ append-nil (StruckLine 0 1 Pc 2 ∷ step_lines (first_ready g))

pub returns : goal.returns
returns c = record { reports = record { text = text_is; two = two; next = next; halts = halts; halted = λ g halted. halted_reported 2 (due two_lines) g halted } }
