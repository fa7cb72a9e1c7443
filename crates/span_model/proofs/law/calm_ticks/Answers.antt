use Rattle.span_model.proofs.LastLemmas.{gone_calm, idle_calm, resting_calm}
use Rattle.span_model.proofs.law.calm_ticks.Goals as goal

pub returns : goal.returns
returns c = record { resting = resting_calm; idle = idle_calm; gone = gone_calm }
