use Rattle.machine_model.proofs.SightLemmas.{never_upon_itself}
use Rattle.machine_model.proofs.law.never_upon_itself.Goals as goal

pub returns : goal.returns
returns c = record { law = never_upon_itself }
