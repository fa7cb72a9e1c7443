-- The rows on calls 1 to 11: each is computed.
use Rattle.std.proofs.Common.{refl}
use Rattle.machine_model.specs.rows.PartitionCallRows.{PartitionCallRows}
use Rattle.machine_model.proofs.Computing.{computing}

pub partition_call_rows : PartitionCallRows
unfolding computing
partition_call_rows = record {
  get_self = λ memory. (refl, refl);
  halt_partition = λ memory. (refl, refl, refl, refl, refl, refl, refl);
  reset_partition = λ memory. (refl, refl, refl, refl, refl, refl, refl);
  suspend_partition = λ memory. (refl, refl, refl, refl, refl, refl, refl);
  resume_partition = λ memory. (refl, refl, refl, refl, refl, refl, refl);
  shutdown_partition = λ memory. (refl, refl, refl, refl, refl, refl, refl);
  idle_self = λ memory. refl;
  get_partition_status = λ memory. (refl, refl, refl, refl, refl, refl, refl, refl, refl);
  halt_system = λ memory. (refl, refl);
  reset_system = λ memory. (refl, refl, refl, refl);
  get_system_status = λ memory. (refl, refl, refl, refl);
}
