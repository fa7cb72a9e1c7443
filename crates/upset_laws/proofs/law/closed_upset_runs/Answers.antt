use Rattle.upset_laws.specs.GroupLaws.{ClosedUpsetRunsAlike}
use Rattle.upset_laws.proofs.GroupLemmas as lemmas
use Rattle.upset_laws.proofs.GroupLemmas.{unsteered_upset_runs}
use Rattle.upset_laws.proofs.law.closed_upset_runs.Goals as goal

pub returns : goal.returns
returns c =
    let law : ClosedUpsetRunsAlike = lemmas.closed_upset_runs (record {
      struck = c.contains_upsets.ensures.tick;
      runs = c.two_upset_runs.ensures.law;
      numbers = c.keeps_numbers.ensures.ticks;
      start = c.go_together.ensures.start;
      tick = c.go_together.ensures.tick;
      agree = c.go_together.ensures.agree;
    }) in
    record { law = law; unsteered = unsteered_upset_runs c.go_together.ensures.unsteered c.keeps_numbers.ensures.ticks law }
