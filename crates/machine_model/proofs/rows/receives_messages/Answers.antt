use Rattle.machine_model.proofs.PortRowLemmas.{empty_queue_refuses, no_room_keeps_message, oldest_is_received}
use Rattle.machine_model.proofs.rows.receives_messages.Goals as goal

pub returns : goal.returns
returns c = record { oldest = oldest_is_received; no_room = no_room_keeps_message; empty = empty_queue_refuses }
