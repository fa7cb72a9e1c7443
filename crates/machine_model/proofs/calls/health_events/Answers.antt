use Rattle.machine_model.proofs.EventRowLemmas.{action_rows, delivery_rows, events_pass_over, raised_rows, traps_have_events, undone_rows}
use Rattle.machine_model.proofs.calls.health_events.Goals as goal

pub returns : goal.returns
returns c = record { events = traps_have_events; passed = events_pass_over; actions = action_rows; raised = raised_rows; deliveries = delivery_rows; undone = undone_rows }
