-- What ticks and runs leave of what each partition received.
use Rattle.std.specs.Prelude.{◌≡◌, ℕ, ◌≤◌, List, [], ◌∷◌, Result, Ok, Err}
use Rattle.xm_report.specs.declared.output.WriteFault.{WriteFault}
use Rattle.machine_model.specs.Cue.{Cue, script}
use Rattle.machine_model.specs.Machine.{run}
use Rattle.tick_steps.specs.Kept.{kept_cue}
use Rattle.xm_machine.specs.Machine.{Meaning}
use Rattle.xm_machine.specs.declared.run.Ran.{Ran}

-- what partition p received in the last tick
abbrev pub last_received : Meaning → ℕ → Cue
last_received machine p = kept_cue machine.state.system.conf machine.kept p

-- the last of a list, or else this
abbrev pub last_or : {X : Type 0} → X → List X → X
last_or x [] = x
last_or x (next ∷ rest) = last_or next rest

-- what each partition received last is the last cue of its script of `count` ticks; where that is empty it is what it received before
abbrev pub AreCued : ℕ → Meaning → Meaning → Type 0
AreCued count old new = (p : ℕ) → last_received new p ≡ last_or (last_received old p) (script old.state p count)

-- this holds of a run that did this many of the ticks asked
pub record AreCuedUpTo (asked : ℕ) (old new : Meaning) : Type 0 where
  pub ticks : ℕ
  pub within : ticks ≤ asked
  pub state : new.state ≡ run old.state ticks
  pub cued : AreCued ticks old new

-- what a run leaves of what each partition received, whether its whole report went out or not
abbrev pub RunsCued : Result Ran WriteFault → ℕ → Meaning → Meaning → Type 0
RunsCued (Ok ran) asked old new = AreCued asked old new
RunsCued (Err fault) asked old new = AreCuedUpTo asked old new
