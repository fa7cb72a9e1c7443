use Rattle.machine_model.proofs.LogCallRowLemmas.{log_call_rows}
use Rattle.machine_model.proofs.calls.log_calls.Goals as goal

pub returns : goal.returns
returns c = record { rows = log_call_rows }
