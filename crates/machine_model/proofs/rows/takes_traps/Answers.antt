use Rattle.machine_model.proofs.TrapRowLemmas.{takes_trap, timer_is_delivered, timer_waits_for_slot, waits_while_disabled}
use Rattle.machine_model.proofs.rows.takes_traps.Goals as goal

pub returns : goal.returns
returns c = record { trap = takes_trap; delivered = timer_is_delivered; later = timer_waits_for_slot; disabled = waits_while_disabled }
