use Rattle.replay_model.proofs.RowLemmas.{asked_rows, event_rows, queue_rows, sight_rows}
use Rattle.replay_model.proofs.law.takes_by_row.Goals as goal

pub returns : goal.returns
returns c = record { queues = queue_rows; sights = sight_rows; asked = asked_rows; events = event_rows }
