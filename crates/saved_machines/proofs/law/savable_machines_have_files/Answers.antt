use Rattle.saved_machines.proofs.SavableLemmas.{savable_fits, savable_reads_back}
use Rattle.saved_machines.proofs.law.savable_machines_have_files.Goals as goal

pub returns-clause-law : goal.returns-clause-law
returns-clause-law c = savable_fits

pub returns-clause-read : goal.returns-clause-read
returns-clause-read c = savable_reads_back
