use Rattle.saved_machines.proofs.KeptLemmas.{restorable_facts}
use Rattle.saved_machines.proofs.RestorableLemmas.{read_restorable}
use Rattle.saved_machines.proofs.law.restorable_machines_keep_facts.Goals as goal

pub returns-clause-read : goal.returns-clause-read
returns-clause-read c = read_restorable

pub returns-clause-law : goal.returns-clause-law
returns-clause-law c = restorable_facts
