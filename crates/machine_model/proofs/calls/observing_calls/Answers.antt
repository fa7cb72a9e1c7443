use Rattle.machine_model.proofs.ObservedRowLemmas.{answer_rows, asking_rows, plan_status_rows, room_rows, sees_plan, silent_rows}
use Rattle.machine_model.proofs.calls.observing_calls.Goals as goal

pub returns : goal.returns
returns c = record { asked = asking_rows; answered = answer_rows; plan = plan_status_rows; room = room_rows; shown = sees_plan; silent = silent_rows }
