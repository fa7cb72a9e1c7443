use Rattle.replay_model.proofs.TickLemmas.{working_ticks}
use Rattle.replay_model.proofs.law.working_ticks.Goals as goal

pub returns : goal.returns
returns c = record { law = working_ticks }
