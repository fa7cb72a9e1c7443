use Rattle.xm_flows.specs.lemmas.ActLemmas.{acts_by_right}
use Rattle.xm_flows.proofs.law.acts_by_right.Goals as goal

pub returns : goal.returns
returns c = record { law = acts_by_right c.acts_within_bounds.ensures.own }
