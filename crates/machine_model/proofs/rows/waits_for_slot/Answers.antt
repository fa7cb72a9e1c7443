use Rattle.machine_model.proofs.SlotRowLemmas.{waits_on, wakes_by_interrupt, wakes_in_its_slot}
use Rattle.machine_model.proofs.rows.waits_for_slot.Goals as goal

pub returns : goal.returns
returns c = record { waits = waits_on; wakes = wakes_in_its_slot; interrupted = wakes_by_interrupt }
