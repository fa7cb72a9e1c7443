use Rattle.machine_model.proofs.SightLemmas.{has_own_tag}
use Rattle.machine_model.proofs.law.has_own_tag.Goals as goal

pub returns : goal.returns
returns c = record { law = has_own_tag }
