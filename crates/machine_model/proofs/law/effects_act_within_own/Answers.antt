use Rattle.machine_model.proofs.WithinLemmas.{effects_act_within_own}
use Rattle.machine_model.proofs.law.effects_act_within_own.Goals as goal

pub returns : goal.returns
returns c = record { law = effects_act_within_own }
