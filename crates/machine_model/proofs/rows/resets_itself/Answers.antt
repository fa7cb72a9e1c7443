use Rattle.machine_model.proofs.CallRowLemmas.{counts_warm, keeps_logs_cold}
use Rattle.machine_model.proofs.rows.resets_itself.Goals as goal

pub returns : goal.returns
returns c = record { cold = keeps_logs_cold; warm = counts_warm }
