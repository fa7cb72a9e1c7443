use Rattle.span_model.proofs.RestingLemmas.{resting_ticks}
use Rattle.span_model.proofs.law.resting_ticks.Goals as goal

pub returns : goal.returns
returns c = record { law = resting_ticks }
