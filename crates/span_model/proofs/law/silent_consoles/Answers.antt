use Rattle.span_model.proofs.GoingOnLemmas.{silent_consoles}
use Rattle.span_model.proofs.law.silent_consoles.Goals as goal

pub returns : goal.returns
returns c = record { law = silent_consoles }
