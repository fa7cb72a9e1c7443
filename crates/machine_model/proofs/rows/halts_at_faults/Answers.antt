use Rattle.machine_model.proofs.TrapRowLemmas.{halts_at_spill, halts_at_stray_load}
use Rattle.machine_model.proofs.rows.halts_at_faults.Goals as goal

pub returns : goal.returns
returns c = record { spill = halts_at_spill; load = halts_at_stray_load }
