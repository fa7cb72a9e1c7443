-- For proofs and private clauses: stretches: ticks of one slot or gap, up to the first that reaches beyond its partition by more than a message.
use Rattle.std.specs.Prelude.{◌≡◌, ℕ, ◌-◌, Bool, false, List, Option, Result, Ok, Err}
use Rattle.xm_report.specs.declared.output.WriteFault.{WriteFault}
use Rattle.machine_model.specs.Lines.{lines}
use Rattle.machine_model.specs.Machine.{Machine, run}
use Rattle.xm_machine.specs.lemmas.CuesTerms.{KeepsLastTick}
use Rattle.tick_steps.specs.lemmas.KeptTerms.{kept_after}
use Rattle.xm_machine.specs.Machine.{Meaning}
use Rattle.tick_steps.specs.Quiet.{AreQuiet, ends_in}
use Rattle.xm_machine.specs.lemmas.StepsTerms.{IsStep}
use Rattle.xm_machine.specs.declared.stretch.Stepped.{Stepped}
use Rattle.xm_machine.specs.Stretch.{IsStretchCut}

-- ticks were done, of which only the last may have an act that ends a stretch, and printed this number of lines, which went out
pub record AreStepped (stepped : Stepped) (most : ℕ) (old new : Machine) (had got : Option (List ℕ)) : Type 0 where
  pub step : IsStep stepped.lines most old new had got
  pub ticks : step.done ≡ stepped.ticks
  pub quiet : AreQuiet stepped.ticks old
  pub ends : ends_in (run old (stepped.ticks - 1)) ≡ stepped.ends

-- what such ticks answer, at most this many
abbrev pub Steps : Result Stepped WriteFault → ℕ → Machine → Machine → Option (List ℕ) → Option (List ℕ) → Type 0
Steps (Ok stepped) most old new had got = AreStepped stepped most old new had got
Steps (Err fault) most old new had got = IsStretchCut most old new had got

-- the same, by what was printed of them
abbrev pub stepped_by : Result ℕ WriteFault → ℕ → Bool → Result Stepped WriteFault
stepped_by (Ok lines) ticks ends = Ok (record { ticks = ticks; lines = lines; ends = ends })
stepped_by (Err fault) ticks ends = Err fault

-- the last of them is kept
abbrev pub KeepsStepped : Result Stepped WriteFault → ℕ → Meaning → Meaning → Type 0
KeepsStepped (Ok stepped) most old new = new.kept ≡ kept_after old.state stepped.ticks old.kept
KeepsStepped (Err fault) most old new = KeepsLastTick most old new

-- they are all that the stretch has, at most this many
abbrev pub AreAllOfStretch : Result Stepped WriteFault → ℕ → Type 0
AreAllOfStretch (Ok stepped) most = stepped.ends ≡ false → stepped.ticks ≡ most
AreAllOfStretch (Err fault) most = Unit {0}
