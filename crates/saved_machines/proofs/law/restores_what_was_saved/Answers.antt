use Rattle.saved_machines.proofs.ConfLemmas.{conf_saved}
use Rattle.saved_machines.proofs.KeptLemmas.{restores}
use Rattle.saved_machines.proofs.law.restores_what_was_saved.Goals as goal

pub returns-clause-law : goal.returns-clause-law
returns-clause-law c = restores

pub returns-clause-conf : goal.returns-clause-conf
returns-clause-conf c = conf_saved
