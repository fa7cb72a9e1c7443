use Rattle.machine_model.proofs.HealthRowLemmas.{switches_in_mid_frame}
use Rattle.machine_model.proofs.rows.switches_to_maintenance.Goals as goal

pub returns : goal.returns
returns c = record { switched = switches_in_mid_frame }
