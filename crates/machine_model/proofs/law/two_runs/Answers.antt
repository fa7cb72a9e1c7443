use Rattle.machine_model.proofs.StartLemmas.{two_runs}
use Rattle.machine_model.proofs.law.two_runs.Goals as goal

pub returns : goal.returns
returns c = record { law = two_runs }
