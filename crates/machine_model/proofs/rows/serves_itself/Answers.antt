use Rattle.machine_model.proofs.OwnRowLemmas.{idles, reads_input, reads_own_log, returns_from_trap, unknown_call}
use Rattle.machine_model.proofs.rows.serves_itself.Goals as goal

pub returns : goal.returns
returns c = record { input = reads_input; idle = idles; log = reads_own_log; back = returns_from_trap; unknown = unknown_call }
