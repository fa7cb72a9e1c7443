use Rattle.saved_machines.proofs.RestoreLemmas.{pages_restore}
use Rattle.saved_machines.proofs.law.saved_pages_restore.Goals as goal

pub returns : goal.returns
returns c = record { law = pages_restore }
