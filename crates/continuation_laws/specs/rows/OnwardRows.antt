-- Rows on a run from a machine that has done ticks, worked by hand.
use Rattle.std.specs.Prelude.{◌≡◌, ℕ, true, false, [], ◌∷◌, ◌++◌, length}
use Rattle.guest_bus.specs.Memory.{Memory}
use Rattle.xm_base.specs.declared.partition.State.TheVariants.{Ready}
use Rattle.xm_report.specs.Report.{EndPart, EndWhole, StruckLine, SystemLine}
use Rattle.xm_report.specs.declared.place.Place.TheVariants.{YRegister}
use Rattle.machine_model.specs.Lines.{end_lines, step_lines}
use Rattle.machine_model.specs.Machine.{Machine, step}
use Rattle.machine_model.specs.rows.Rows.{at, machine}
use Rattle.upset_model.specs.Places.{upset_of}
use Rattle.upset_model.specs.Upsets.{ready}
use Rattle.continuation_laws.specs.Onward.{after_ticks, coming, report_from, report_from_to}
use Rattle.continuation_laws.specs.rows.GivenRows.{second_line, single_conf, third_line, three_lines}

-- a machine of one partition after two ticks
abbrev pub two_done : Memory → Machine
two_done memory = machine single_conf (0x40000000 ∷ []) 2 (at 0x40000004 memory ∷ [])

-- the machine as the tick finds it that the upset of tick 2 is before
abbrev pub second_struck : Machine → Machine
second_struck g = ready (upset_of second_line ∷ []) g

-- of upsets before the ticks 1, 2 and 3 a run from a machine that has done two ticks begins with the second one. Where it goes on for five ticks its first
-- line has seven; without a tick it has a first line and an end. A machine that has halted is not struck, prints nothing and stays as it is
pub record GoesOnAtItsTick : Type 0 where
  pub first : (memory : Memory) → coming three_lines (two_done memory) 0 ≡ second_line ∷ []
  pub second : (memory : Memory) → coming three_lines (two_done memory) 1 ≡ third_line ∷ []
  pub next : (memory : Memory) → report_from_to three_lines (two_done memory) 5 0 ≡ SystemLine 1 1 7 ∷ StruckLine 2 0 YRegister 0 ∷ []
  pub no_ticks : (memory : Memory) → report_from three_lines (two_done memory) 0 ≡ SystemLine 1 1 2 ∷ EndPart 0 Ready 0 0 0x40000004 ∷ EndWhole false 0 2 2 ∷ []
  pub one_tick : (memory : Memory) → report_from three_lines (two_done memory) 1
      ≡ SystemLine 1 1 3 ∷ StruckLine 2 0 YRegister 0 ∷ step_lines (second_struck (two_done memory)) ++ end_lines (step (second_struck (two_done memory)))
  pub halted : (memory : Memory) → report_from three_lines (record (two_done memory) { halted = true }) 5
      ≡ SystemLine 1 1 7 ∷ EndPart 0 Ready 0 0 0x40000004 ∷ EndWhole true 0 2 2 ∷ []
  pub stays : (g : Machine) → g.halted ≡ true → after_ticks three_lines g 5 ≡ g
