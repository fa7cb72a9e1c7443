use Rattle.span_model.proofs.UndisturbedLemmas.{undisturbed_idle, undisturbed_next, undisturbed_ticks, undisturbed_emitting}
use Rattle.span_model.proofs.law.undisturbed_ticks.Goals as goal

pub returns : goal.returns
returns c = record { law = undisturbed_ticks; next = undisturbed_next; emitted = undisturbed_emitting; idle = undisturbed_idle }
