-- Rows on what a run with upsets reports, worked by hand.
use Rattle.std.specs.Prelude.{◌≡◌, true, false, List, [], ◌∷◌, ◌++◌, codes}
use Rattle.machine_model.specs.Lines.{step_lines}
use Rattle.machine_model.specs.Machine.{Machine, step}
use Rattle.xm_report.specs.Report.{StruckLine, text_of}
use Rattle.xm_report.specs.declared.place.Place.TheVariants.{Mask, MemoryByte, Pc}
use Rattle.upset_model.specs.Places.{due, upset_of}
use Rattle.upset_model.specs.Reports.{reported, reported_to, struck_line}
use Rattle.upset_model.specs.Upsets.{ready}
use Rattle.upset_model.specs.declared.upset_line.UpsetLine.{UpsetLine}
use Rattle.upset_model.specs.rows.StrikeRows.{line}

-- an upset before tick 0, and one before tick 1
abbrev pub two_lines : List UpsetLine
two_lines = line 0 1 Pc 2 ∷ line 1 0 Mask 31 ∷ []

-- the machine as the first tick finds it, and the machine as the second one does
abbrev pub first_ready : Machine → Machine
first_ready g = ready (upset_of (line 0 1 Pc 2) ∷ []) g

abbrev pub second_ready : Machine → Machine
second_ready g = ready (upset_of (line 1 0 Mask 31) ∷ []) (step (first_ready g))

-- the line of an upset says its tick, its partition, the place and the bit; it stands before the lines of its tick, and after those of the ticks before;
-- an upset of a machine that has halted has none
pub record ReportRows : Type 0 where
  pub text : text_of (struck_line (line 10 1 (MemoryByte 0x40100010) 3)) ≡ codes "[10] P1 UPSET 40100010 bit 3\n"
  pub two : (g : Machine) → g.halted ≡ false → (step (first_ready g)).halted ≡ false →
      reported (due two_lines) g 2 ≡ (StruckLine 0 1 Pc 2 ∷ step_lines (first_ready g)) ++ (StruckLine 1 0 Mask 31 ∷ step_lines (second_ready g))
  pub next : (g : Machine) → g.halted ≡ false → (step (first_ready g)).halted ≡ false →
      reported_to (due two_lines) g 1 ≡ (StruckLine 0 1 Pc 2 ∷ step_lines (first_ready g)) ++ (StruckLine 1 0 Mask 31 ∷ [])
  pub halts : (g : Machine) → g.halted ≡ false → (step (first_ready g)).halted ≡ true →
      reported (due two_lines) g 2 ≡ StruckLine 0 1 Pc 2 ∷ step_lines (first_ready g)
  pub halted : (g : Machine) → g.halted ≡ true → reported (due two_lines) g 2 ≡ []
