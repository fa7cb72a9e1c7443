-- The rows on input words that are left, on upsets of a continuation, and on runs from any machine.
use Rattle.std.proofs.Common.{◌≡◌, List, ◌∷◌, ◌++◌, refl, ap, arith}
use Rattle.std.proofs.lemmas.List.{append-nil}
use Rattle.guest_bus.specs.Memory.{Memory}
use Rattle.sparc_step.specs.Registers.{registers_started}
use Rattle.virt_clocks.specs.Clocks.{no_clocks}
use Rattle.xm_report.specs.Report.{ReportLine, StruckLine, SystemLine}
use Rattle.xm_report.specs.declared.place.Place.TheVariants.{YRegister}
use Rattle.machine_model.specs.Lines.{end_lines, step_lines}
use Rattle.machine_model.specs.Machine.{start, step}
use Rattle.machine_model.specs.Partition.{booted}
use Rattle.machine_model.specs.View.{view_of}
use Rattle.upset_model.specs.Places.{upsets_of}
use Rattle.upset_model.specs.Upsets.{ready}
use Rattle.upset_model.specs.lemmas.Segments.{upset_run_halted}
use Rattle.continuation_laws.specs.Onward.{coming, report_from}
use Rattle.continuation_laws.specs.rows.GivenRows.{OneIsLeft, SplitAtTick, StrikesAtItsTick, three_lines}
use Rattle.continuation_laws.specs.rows.OnwardRows.{GoesOnAtItsTick, second_struck, two_done}

pub one_is_left : OneIsLeft
unfolding start booted view_of
one_is_left = record {
  left = λ memory. refl;
  continued = λ memory. refl;
  again = λ inputs others g. refl;
  itself = λ g. refl;
  boots = λ memory. refl;
  boots_again = λ memory. refl;
}

pub strikes_at_its_tick : StrikesAtItsTick
strikes_at_its_tick = record { first = refl; second = refl; third = refl }

pub split_at_tick : SplitAtTick
split_at_tick = record {
  before = (omega arith, tt);
  from = (omega arith, (omega arith, tt));
  not_before = λ before. absurd (omega (arith, before.0));
  not_from = λ from. absurd (omega (arith, from.0));
}

one_tick_on : (memory : Memory) → report_from three_lines (two_done memory) 1
    ≡ SystemLine 1 1 3 ∷ StruckLine 2 0 YRegister 0 ∷ step_lines (second_struck (two_done memory)) ++ end_lines (step (second_struck (two_done memory)))
unfolding report_from
one_tick_on memory =
    ap (λ (lines : List ReportLine). SystemLine 1 1 3 ∷ StruckLine 2 0 YRegister 0 ∷ lines ++ end_lines (step (second_struck (two_done memory))))
    (append-nil (step_lines (second_struck (two_done memory))))

pub goes_on_at_its_tick : GoesOnAtItsTick
unfolding report_from end_lines step_lines step ready no_clocks registers_started
goes_on_at_its_tick = record {
  first = λ memory. refl;
  second = λ memory. refl;
  next = λ memory. refl;
  no_ticks = λ memory. refl;
  one_tick = one_tick_on;
  halted = λ memory. refl;
  stays = λ g halts. upset_run_halted 5 (upsets_of (coming three_lines g)) g halts;
}
