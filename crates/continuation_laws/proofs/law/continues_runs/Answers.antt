use Rattle.continuation_laws.proofs.ContinuedLemmas.{reports_are_continued, runs_are_continued}
use Rattle.continuation_laws.proofs.law.continues_runs.Goals as goal

pub returns : goal.returns
returns c = record { law = runs_are_continued; reports = reports_are_continued }
