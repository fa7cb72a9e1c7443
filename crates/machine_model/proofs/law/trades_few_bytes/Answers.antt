use Rattle.machine_model.proofs.LengthLemmas.{puts_few_bytes, shows_few_bytes}
use Rattle.machine_model.proofs.law.trades_few_bytes.Goals as goal

pub returns : goal.returns
returns c = record { messages = puts_few_bytes; sights = shows_few_bytes }
