use Rattle.span_model.proofs.IdleLemmas.{idle_ticks}
use Rattle.span_model.proofs.law.idle_ticks.Goals as goal

pub returns : goal.returns
returns c = record { law = idle_ticks }
