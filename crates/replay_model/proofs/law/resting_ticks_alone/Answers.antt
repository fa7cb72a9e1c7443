use Rattle.replay_model.proofs.TickLemmas.{resting_ticks}
use Rattle.replay_model.proofs.law.resting_ticks_alone.Goals as goal

pub returns : goal.returns
returns c = record { law = resting_ticks }
