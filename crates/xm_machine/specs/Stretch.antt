-- Stretches: ticks of one slot or gap, up to the first that reaches beyond its partition by more than a message.
use Rattle.std.specs.Prelude.{◌≡◌, ◌⊎◌, ℕ, ◌-◌, ◌<◌, ◌≤◌, true, List, Option, Result, Ok, Err, min}
use Rattle.cyclic_plans.specs.PlanClock.{ticks_left}
use Rattle.xm_outside.specs.Growth.{grown}
use Rattle.xm_report.specs.Report.{texts}
use Rattle.xm_report.specs.declared.output.WriteFault.{WriteFault}
use Rattle.machine_model.specs.Lines.{lines}
use Rattle.machine_model.specs.Machine.{Machine, run}
use Rattle.xm_machine.specs.Alone.{AreAlone, AreAloneUpTo}
use Rattle.xm_machine.specs.Cues.{AreCued, AreCuedUpTo}
use Rattle.xm_machine.specs.Machine.{Meaning}
use Rattle.tick_steps.specs.Quiet.{AreQuiet, ends_in}
use Rattle.xm_machine.specs.Steps.{IsStepCut}

-- the ticks that are left of the slot or gap, but at most this many
unfoldable pub left_of : ℕ → Machine → ℕ
left_of most g = min most (ticks_left g.system.conf g.clock g.time)

-- how many ticks a stretch has that may have this many: the least of these, of those that are left of the slot or gap, and of those up to and
-- with the first whose act ends it
pub record IsLeast (done most : ℕ) (g : Machine) : Type 0 where
  pub some : 0 < done
  pub within : done ≤ most
  pub left : done ≤ ticks_left g.system.conf g.clock g.time
  pub quiet : AreQuiet done g
  pub whole : (done ≡ most) ⊎ ((done ≡ ticks_left g.system.conf g.clock g.time) ⊎ (ends_in (run g (done - 1)) ≡ true))

-- the ticks of a stretch were done, and their lines went out
pub record IsStretched (done most : ℕ) (old new : Machine) (had got : Option (List ℕ)) : Type 0 where
  pub least : IsLeast done most old
  pub state : new ≡ run old done
  pub report : got ≡ grown had (texts (lines old done))

-- ticks were done, of which only the last may have an act that ends a stretch, up to one whose lines did not all go out
pub record IsStretchCut (most : ℕ) (old new : Machine) (had got : Option (List ℕ)) : Type 0 where
  pub cut : IsStepCut most old new had got
  pub quiet : AreQuiet cut.done old

-- what a stretch answers that may have this many ticks
abbrev pub Stretches : Result ℕ WriteFault → ℕ → Machine → Machine → Option (List ℕ) → Option (List ℕ) → Type 0
Stretches (Ok done) most old new had got = IsStretched done most old new had got
Stretches (Err fault) most old new had got = IsStretchCut (left_of most old) old new had got

-- what it leaves of each partition
abbrev pub StretchesAlone : Result ℕ WriteFault → ℕ → Machine → Machine → Type 0
StretchesAlone (Ok done) most old new = AreAlone done old new
StretchesAlone (Err fault) most old new = AreAloneUpTo most old new

-- and of what each received
abbrev pub StretchesCued : Result ℕ WriteFault → ℕ → Meaning → Meaning → Type 0
StretchesCued (Ok done) most old new = AreCued done old new
StretchesCued (Err fault) most old new = AreCuedUpTo most old new
