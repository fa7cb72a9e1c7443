-- The rows on calls 24 to 29: each is computed.
use Rattle.std.proofs.Common.{refl}
use Rattle.machine_model.specs.rows.LogCallRows.{LogCallRows}
use Rattle.machine_model.proofs.Computing.{computing}

pub log_call_rows : LogCallRows
unfolding computing
log_call_rows = record {
  trace_event = λ memory. (refl, refl, refl, refl, refl, refl);
  trace_read = λ memory. (refl, refl, refl, refl, refl, refl, refl, refl);
  trace_read_of_another = λ memory. (refl, refl, refl, refl, refl);
  trace_read_edge = λ memory. (refl, refl);
  trace_status = λ memory. (refl, refl, refl, refl, refl, refl, refl);
  hm_raise_event = λ memory. refl;
  hm_read = λ memory. (refl, refl, refl, refl, refl, refl, refl, refl);
  hm_read_of_another = λ memory. (refl, refl, refl, refl, refl);
  hm_read_edge = λ memory. (refl, refl);
  hm_status = λ memory. (refl, refl, refl, refl, refl, refl, refl);
}
