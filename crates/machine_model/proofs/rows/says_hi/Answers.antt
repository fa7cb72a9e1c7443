use Rattle.machine_model.proofs.StartRowLemmas.{begins_at_entry, halts_after_hi, reports_hi, stays_halted}
use Rattle.machine_model.proofs.rows.says_hi.Goals as goal

pub returns : goal.returns
returns c = record { begins = begins_at_entry; halts = halts_after_hi; stays = stays_halted; report = reports_hi }
