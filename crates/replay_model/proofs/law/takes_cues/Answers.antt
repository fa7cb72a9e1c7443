use Rattle.replay_model.proofs.TakingLemmas.{takes_away, takes_resting, takes_working}
use Rattle.replay_model.proofs.law.takes_cues.Goals as goal

pub returns : goal.returns
returns c = record { away = takes_away; resting = takes_resting; working = takes_working }
