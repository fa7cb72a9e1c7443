use Rattle.machine_model.proofs.SightLemmas.{sees_nothing}
use Rattle.machine_model.proofs.law.sees_nothing.Goals as goal

pub returns : goal.returns
returns c = record { law = sees_nothing }
