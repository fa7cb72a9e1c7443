use Rattle.machine_model.specs.lemmas.CallLemmas.{call_is_numbered, number_is_call}
use Rattle.machine_model.proofs.law.calls_have_numbers.Goals as goal

pub returns : goal.returns
returns c = record { own = number_is_call; only = call_is_numbered }
