use Rattle.flow_laws.specs.Steerers.{SteerersAlike}
use Rattle.flow_laws.proofs.SteererLemmas as lemmas
use Rattle.flow_laws.proofs.SteererLemmas.{steered_runs}
use Rattle.flow_laws.proofs.law.steerers_alike.Goals as goal

pub returns : goal.returns
returns c =
    let law : SteerersAlike = lemmas.steerers_alike (record {
      rights = c.acts_by_right.ensures.law;
      acts = c.acts_alone.ensures.law;
      earlier = c.earlier_ticks.ensures.runs;
      numbers = c.keeps_numbers.ensures.runs;
    }) in
    record { law = law; closed = steered_runs c.closed_runs.ensures.law law }
