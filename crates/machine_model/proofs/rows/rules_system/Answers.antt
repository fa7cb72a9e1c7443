use Rattle.machine_model.proofs.OwnRowLemmas.{halts_system, reaches_not_all, resets_system_cold, sees_system}
use Rattle.machine_model.proofs.rows.rules_system.Goals as goal

pub returns : goal.returns
returns c = record { halted = halts_system; reset = resets_system_cold; shown = sees_system; refused = reaches_not_all }
