use Rattle.machine_model.proofs.CallRowLemmas.{is_refused_another, sees_another}
use Rattle.machine_model.proofs.rows.observes_another.Goals as goal

pub returns : goal.returns
returns c = record { shown = sees_another; refused = is_refused_another }
