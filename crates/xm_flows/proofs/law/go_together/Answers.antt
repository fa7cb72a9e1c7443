use Rattle.xm_flows.proofs.AgreeLemmas.{agree_of}
use Rattle.xm_flows.specs.lemmas.CalmLemmas.{unsteered_ticks}
use Rattle.xm_flows.proofs.RunLemmas.{start_together}
use Rattle.xm_flows.proofs.TickLemmas.{ticks_together}
use Rattle.xm_flows.proofs.law.go_together.Goals as goal

pub returns : goal.returns
returns c = record {
  start = start_together c.boots_alone.ensures.law;
  tick = ticks_together c.one_tick.ensures.law c.acts_by_right.ensures.law c.sees_nothing.ensures.law;
  agree = agree_of;
  unsteered = unsteered_ticks c.acts_by_right.ensures.law;
}
