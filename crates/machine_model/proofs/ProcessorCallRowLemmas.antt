-- The rows on calls 30 to 37: each is computed.
use Rattle.std.proofs.Common.{refl}
use Rattle.machine_model.specs.rows.ProcessorCallRows.{ProcessorCallRows}
use Rattle.machine_model.proofs.Computing.{computing}

pub processor_call_rows : ProcessorCallRows
unfolding computing
processor_call_rows = record {
  set_irqmask = λ memory. (refl, refl);
  clear_irqmask = λ memory. (refl, refl);
  write_console = λ memory. (refl, refl, refl, refl, refl, refl);
  read_input = λ memory. (refl, refl, refl, refl);
  iret = λ memory. (refl, refl, refl, refl, refl, refl, refl);
  set_psr = λ memory. (refl, refl);
  set_tbr = λ memory. (refl, refl);
  flush_regwin = λ memory. (refl, refl, refl, refl, refl, refl);
}
