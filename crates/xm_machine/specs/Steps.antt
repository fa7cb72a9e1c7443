-- Ticks of a run that were done, and what the sink got of their lines.
use Rattle.std.specs.Prelude.{◌≡◌, ℕ, ◌<◌, ◌≤◌, List, length, Option}
use Rattle.xm_outside.specs.Growth.{GrewByPrefix}
use Rattle.xm_report.specs.Report.{texts}
use Rattle.machine_model.specs.Lines.{lines}
use Rattle.machine_model.specs.Machine.{Machine, run}

-- the first this many ticks were done; the sink took the lines of all but the last, and not those of the last whole
pub record AreCut (done : ℕ) (old new : Machine) (had got : Option (List ℕ)) : Type 0 where
  pub state : new ≡ run old done
  pub report : GrewByPrefix had (texts (lines old done)) got
  pub whole : (k : ℕ) → k < done → length (texts (lines old k)) ≤ report.count
  pub cut : report.count < length (texts (lines old done))

pub record IsStepCut (most : ℕ) (old new : Machine) (had got : Option (List ℕ)) : Type 0 where
  pub done : ℕ
  pub some : 0 < done
  pub within : done ≤ most
  pub are : AreCut done old new had got
