use Rattle.span_model.proofs.NextLemmas.{met_tick, next_tick, emitting_tick}
use Rattle.span_model.proofs.law.next_tick.Goals as goal

pub returns : goal.returns
returns c = record { met = met_tick; law = next_tick; emitted = emitting_tick }
