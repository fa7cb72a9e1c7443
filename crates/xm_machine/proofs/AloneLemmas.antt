-- Out of the laws of one tick, of all ticks and of own lines: what ticks of the machine leave of each partition.
use Rattle.std.proofs.Common.{◌≡◌, ℕ, ◌≤◌, ◌<◌, true, List, length, Option, refl, sym, ap, ◌∙◌, subst, arith}
use Rattle.std.specs.Prelude.{Result, Ok, Err}
use Rattle.xm_report.specs.declared.output.WriteFault.{WriteFault}
use Rattle.machine_model.specs.lemmas.TickLemmas.{step_halted}
use Rattle.machine_model.specs.Laws as laws
use Rattle.machine_model.specs.Laws.{AllTicks, BootsAlone, OwnLines, alone_part_at}
use Rattle.machine_model.specs.Lines.{own, report}
use Rattle.machine_model.specs.Machine.{Machine, run, start}
use Rattle.machine_model.specs.View.{System}
use Rattle.xm_machine.specs.Alone.{AreAlone, AreBootedAlone, IsBootedAlone, RunsEachAlone}
use Rattle.uart_board.specs.Views.{BoardView}
use Rattle.xm_machine.specs.Outcome.{IsRun, report_of}
use Rattle.xm_machine.specs.lemmas.StepsTerms.{IsStep}
use Rattle.xm_machine.specs.Steps.{IsStepCut}
use Rattle.xm_machine.specs.declared.run.Ran.{Ran}

-- ticks that were done
pub ticks_alone : AllTicks → (count : ℕ) (old new : Machine) → new ≡ run old count → AreAlone count old new
ticks_alone law count old new is p ps there =
    let alone : laws.RunsAlone old p ps count = law count old p ps there in
    record {
      state = ap (λ (g : Machine). alone_part_at g p) is ∙ alone.state;
      lines = alone.lines;
      said = alone.said;
    }

-- one tick, where this many ticks at most were done
one_alone : AllTicks → (done : ℕ) (old new : Machine) → 0 < done → done ≤ 1 → new ≡ run old done → AreAlone 1 old new
one_alone law done old new some within is =
    let one : done ≡ 1 = omega (arith, some, within) in
    ticks_alone law 1 old new (is ∙ ap (run old) one)

pub tick_alone : AllTicks → (printed : ℕ) (old new : Machine) (had got : Option (List ℕ)) → IsStep printed 1 old new had got → AreAlone 1 old new
tick_alone law printed old new had got step = one_alone law step.done old new step.some step.within step.are.state

pub cut_tick_alone : AllTicks → (old new : Machine) (had got : Option (List ℕ)) → IsStepCut 1 old new had got → AreAlone 1 old new
cut_tick_alone law old new had got step = one_alone law step.done old new step.some step.within step.are.state

pub halted_tick_alone : AllTicks → (g : Machine) → g.halted ≡ true → AreAlone 1 g g
halted_tick_alone law g halts = ticks_alone law 1 g g (sym (step_halted g halts))

-- a run, by what it answers
pub run_alone : AllTicks → (result : Result Ran WriteFault) (asked : ℕ) (old new : Machine) (had got : Option (List ℕ)) (before after : BoardView) → IsRun result asked old new had got before after → RunsEachAlone result asked old new
run_alone law (Ok ran) asked old new had got before after done = ticks_alone law asked old new done.state
run_alone law (Err fault) asked old new had got before after cut = record {
  ticks = cut.ticks;
  within = cut.within;
  state = cut.state;
  alone = ticks_alone law cut.ticks old new cut.state;
}

-- the whole report of a machine that was only booted
report_booted : (system : System) (asked : ℕ) → report_of (start system) asked ≡ report system asked
unfolding report_of report start
report_booted system asked = refl

booted_of : BootsAlone → OwnLines → (system : System) (asked p : ℕ) → p < length system.conf.parts → IsBootedAlone (start system) asked p
unfolding start
booted_of boots law system asked p there = record {
  part = boots system p there;
  lines = ap (own p) (report_booted system asked) ∙ law system p asked there;
}

pub booted_alone : BootsAlone → OwnLines → (g : Machine) (asked : ℕ) → AreBootedAlone g asked
booted_alone boots law g asked is p there =
    subst (λ (x : Machine). IsBootedAlone x asked p) (sym is) (booted_of boots law g.system asked p there)
