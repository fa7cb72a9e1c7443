use Rattle.machine_model.proofs.SlotRowLemmas.{run_in_their_slots}
use Rattle.machine_model.proofs.rows.runs_in_slots.Goals as goal

pub returns : goal.returns
returns c = record { turns = run_in_their_slots }
