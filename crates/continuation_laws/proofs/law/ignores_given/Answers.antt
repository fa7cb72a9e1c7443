use Rattle.continuation_laws.proofs.RunLemmas.{reports_ignore_given, runs_ignore_given}
use Rattle.continuation_laws.proofs.MachineLemmas.{rest_ignores_given, tick_ignores_given}
use Rattle.continuation_laws.proofs.law.ignores_given.Goals as goal

pub returns : goal.returns
returns c = record { tick = tick_ignores_given; rest = rest_ignores_given; runs = runs_ignore_given; reports = reports_ignore_given }
