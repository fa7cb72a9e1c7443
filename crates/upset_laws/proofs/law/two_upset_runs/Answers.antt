use Rattle.upset_laws.specs.UpsetLaws.{TwoUpsetRuns}
use Rattle.upset_laws.proofs.UpsetLemmas as lemmas
use Rattle.upset_laws.proofs.UpsetLemmas.{two_runs_from}
use Rattle.upset_laws.proofs.law.two_upset_runs.Goals as goal

pub returns : goal.returns
returns c =
    let law : TwoUpsetRuns = lemmas.two_upset_runs c.contains_upsets.ensures.ticks c.keeps_numbers.ensures.ticks in
    record { law = law; plain = two_runs_from law }
