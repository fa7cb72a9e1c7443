use Rattle.saved_machines.proofs.FormatLemmas.{saved_cut, saved_lawful, saved_one_file, saved_prefix_free}
use Rattle.saved_machines.proofs.law.saved_files_are_lawful.Goals as goal

pub returns-clause-law : goal.returns-clause-law
returns-clause-law c = saved_lawful

pub returns-clause-prefix : goal.returns-clause-prefix
returns-clause-prefix c = saved_prefix_free

pub returns-clause-one : goal.returns-clause-one
returns-clause-one c = saved_one_file

pub returns-clause-cut : goal.returns-clause-cut
returns-clause-cut c = saved_cut
