use Rattle.continuation_laws.proofs.JoinedLemmas.{files_are_joined, reports_are_joined}
use Rattle.continuation_laws.proofs.law.joins_files.Goals as goal

pub returns : goal.returns
returns c = record { law = files_are_joined; reports = reports_are_joined }
