-- Many ticks of one partition of a machine in isolation, in each of which it receives nothing but whether a slot of its own runs.
use Rattle.std.specs.Prelude.{ℕ, ◌-◌, Bool, List, Option, Result, replicate}
use Rattle.cue_scripts.specs.Entries.{bare_cue}
use Rattle.machine_model.specs.Machine.{Machine}
use Rattle.uart_board.specs.Views.{BoardView}
use Rattle.replay_tick.specs.LoneSpan.{AreSilent}
use Rattle.xm_machine.specs.AloneStep.{IsSaidAlone, StepsAlone}
use Rattle.xm_machine.specs.declared.alone_span.AloneFault.{AloneFault}

-- all but the last were silent, and the last answers this
pub record SpansAlone {T : Type 0} (ended : Result T AloneFault) (ticks p : ℕ) (own : Bool) (old new : Machine) (had got : Option (List ℕ)) (first board : BoardView) : Type 0 where
  pub before : Machine
  pub silent : AreSilent p (replicate (ticks - 1) (bare_cue own)) old before
  pub step : StepsAlone ended p (bare_cue own) before new had got
  pub heard : IsSaidAlone ended p (bare_cue own) before first board
