use Rattle.span_model.proofs.TickPassLemmas.{all_rest, others_rest, others_rest_later, passed_next, tick_in_passes}
use Rattle.span_model.proofs.law.tick_in_passes.Goals as goal

pub returns : goal.returns
returns c = record { law = tick_in_passes; next = passed_next; all = all_rest; others = others_rest; later = others_rest_later }
