use Rattle.machine_model.proofs.RunLemmas.{one_tick}
use Rattle.machine_model.proofs.law.one_tick.Goals as goal

pub returns : goal.returns
returns c = record { law = one_tick }
