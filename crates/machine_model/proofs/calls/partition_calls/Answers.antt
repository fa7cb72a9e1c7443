use Rattle.machine_model.proofs.PartitionCallRowLemmas.{partition_call_rows}
use Rattle.machine_model.proofs.calls.partition_calls.Goals as goal

pub returns : goal.returns
returns c = record { rows = partition_call_rows }
