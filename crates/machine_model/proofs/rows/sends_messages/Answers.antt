use Rattle.machine_model.proofs.PortRowLemmas.{full_queue_refuses, queue_takes_message}
use Rattle.machine_model.proofs.rows.sends_messages.Goals as goal

pub returns : goal.returns
returns c = record { full = full_queue_refuses; taken = queue_takes_message }
