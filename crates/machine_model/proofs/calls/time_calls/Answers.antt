use Rattle.machine_model.proofs.TimeCallRowLemmas.{time_call_rows}
use Rattle.machine_model.proofs.calls.time_calls.Goals as goal

pub returns : goal.returns
returns c = record { rows = time_call_rows }
