use Rattle.span_model.proofs.GoingOnLemmas.{gap_goes_on, left_are_span, slot_goes_on, span_goes_on}
use Rattle.span_model.proofs.law.slot_goes_on.Goals as goal

pub returns : goal.returns
returns c = record { left = left_are_span; span = span_goes_on; slot = slot_goes_on; gap = gap_goes_on }
