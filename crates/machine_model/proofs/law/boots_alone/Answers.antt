use Rattle.machine_model.proofs.StartLemmas.{boots_alone}
use Rattle.machine_model.proofs.law.boots_alone.Goals as goal

pub returns : goal.returns
returns c = record { law = boots_alone }
