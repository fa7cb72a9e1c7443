use Rattle.machine_model.proofs.PortCallRowLemmas.{port_call_rows}
use Rattle.machine_model.proofs.calls.port_calls.Goals as goal

pub returns : goal.returns
returns c = record { rows = port_call_rows }
