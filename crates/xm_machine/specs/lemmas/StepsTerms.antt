-- For proofs and private clauses: ticks of a run that were done, and what the sink got of their lines.
use Rattle.std.specs.Prelude.{◌≡◌, ℕ, ◌<◌, ◌≤◌, List, length, Option, Result, Ok, Err}
use Rattle.xm_outside.specs.Growth.{grown, GrewByPrefix}
use Rattle.xm_report.specs.Report.{ReportLine, texts}
use Rattle.xm_report.specs.declared.output.WriteFault.{WriteFault}
use Rattle.machine_model.specs.Lines.{lines}
use Rattle.machine_model.specs.Machine.{Machine, run}
use Rattle.xm_machine.specs.Steps.{IsStepCut}

-- lines go out, and their number is known
abbrev pub Prints : Result ℕ WriteFault → List ReportLine → Option (List ℕ) → Option (List ℕ) → Type 0
Prints (Ok count) lines had got = (count ≡ length lines) × (got ≡ grown had (texts lines))
Prints (Err _) lines had got = GrewByPrefix had (texts lines) got

-- the first this many ticks from a state were done, and their lines went out
pub record AreRun (done printed : ℕ) (old new : Machine) (had got : Option (List ℕ)) : Type 0 where
  pub state : new ≡ run old done
  pub count : printed ≡ length (lines old done)
  pub report : got ≡ grown had (texts (lines old done))

-- at least one tick and at most this many
pub record IsStep (printed most : ℕ) (old new : Machine) (had got : Option (List ℕ)) : Type 0 where
  pub done : ℕ
  pub some : 0 < done
  pub within : done ≤ most
  pub are : AreRun done printed old new had got

-- this many ticks
abbrev pub RunsTicks : Result ℕ WriteFault → ℕ → Machine → Machine → Option (List ℕ) → Option (List ℕ) → Type 0
RunsTicks (Ok printed) ticks old new had got = AreRun ticks printed old new had got
RunsTicks (Err _) ticks old new had got = IsStepCut ticks old new had got
