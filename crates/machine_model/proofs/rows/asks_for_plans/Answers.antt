use Rattle.machine_model.proofs.SlotRowLemmas.{asked_in_last_tick, last_asked_starts}
use Rattle.machine_model.proofs.rows.asks_for_plans.Goals as goal

pub returns : goal.returns
returns c = record { last = last_asked_starts; at_once = asked_in_last_tick }
