use Rattle.machine_model.proofs.SlotRowLemmas.{execution_timer_rows, is_due_in_anothers_slot, rest_rows}
use Rattle.machine_model.proofs.rows.timer_goes_on.Goals as goal

pub returns : goal.returns
returns c = record { due = is_due_in_anothers_slot; rests = rest_rows; execution = execution_timer_rows }
