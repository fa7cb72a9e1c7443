use Rattle.machine_model.proofs.OwnRowLemmas.{traces_in_mask, traces_not_else}
use Rattle.machine_model.proofs.rows.traces_in_mask.Goals as goal

pub returns : goal.returns
returns c = record { emitted = traces_in_mask; refused = traces_not_else }
