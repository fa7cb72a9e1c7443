use Rattle.machine_model.proofs.RunLemmas.{all_ticks}
use Rattle.machine_model.proofs.law.all_ticks.Goals as goal

pub returns : goal.returns
returns c = record { law = all_ticks }
