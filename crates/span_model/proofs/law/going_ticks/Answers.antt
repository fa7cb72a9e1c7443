use Rattle.span_model.proofs.GoingLemmas.{going_ticks}
use Rattle.span_model.proofs.law.going_ticks.Goals as goal

pub returns : goal.returns
returns c = record { law = going_ticks }
