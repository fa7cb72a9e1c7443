-- The rows on calls 12 to 15: each is computed.
use Rattle.std.proofs.Common.{refl}
use Rattle.machine_model.specs.rows.TimeCallRows.{TimeCallRows}
use Rattle.machine_model.proofs.Computing.{computing}

pub time_call_rows : TimeCallRows
unfolding computing
time_call_rows = record {
  get_time = λ memory. (refl, refl, refl, refl, refl);
  set_timer = λ memory. (refl, refl, refl, refl, refl, refl, refl, refl);
  switch_sched_plan = λ memory. (refl, refl, refl, refl, refl, refl);
  get_plan_status = λ memory. (refl, refl, refl, refl);
}
