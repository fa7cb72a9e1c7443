use Rattle.upset_files.proofs.FirstLemmas.{faults_first}
use Rattle.upset_files.proofs.ReadingLemmas.{one_spelling, read_spelled, spelled_read}
use Rattle.upset_files.proofs.law.upsets_are_spelled.Goals as goal

pub returns-clause-read : goal.returns-clause-read
returns-clause-read c = spelled_read

pub returns-clause-spelled : goal.returns-clause-spelled
returns-clause-spelled c = read_spelled

pub returns-clause-one : goal.returns-clause-one
returns-clause-one c = one_spelling

pub returns-clause-first : goal.returns-clause-first
returns-clause-first c = faults_first
