use Rattle.machine_model.proofs.AllowedLemmas.{answers_calls, hears_what_is_allowed}
use Rattle.machine_model.proofs.law.received_as_allowed.Goals as goal

pub returns : goal.returns
returns c = record { traffic = hears_what_is_allowed; answers = answers_calls }
