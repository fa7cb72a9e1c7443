use Rattle.machine_model.specs.lemmas.AloneLemmas.{alone_local_is}
use Rattle.machine_laws.proofs.law.acts_alone.Goals as goal

pub returns : goal.returns
returns c = record { law = alone_local_is }
