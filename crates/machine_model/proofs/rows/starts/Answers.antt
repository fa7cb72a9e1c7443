use Rattle.machine_model.proofs.StartRowLemmas.{begins_with_inputs, reports_two}
use Rattle.machine_model.proofs.rows.starts.Goals as goal

pub returns : goal.returns
returns c = record { inputs = begins_with_inputs; report = reports_two }
