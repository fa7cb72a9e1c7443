use Rattle.replay_model.proofs.TickLemmas.{away_ticks}
use Rattle.replay_model.proofs.law.away_ticks.Goals as goal

pub returns : goal.returns
returns c = record { law = away_ticks }
