use Rattle.replay_model.proofs.KeptLemmas.{passes_keep}
use Rattle.replay_model.proofs.law.passes_keep.Goals as goal

pub returns : goal.returns
returns c = record { law = passes_keep c.keeps_plans.ensures.ticks }
