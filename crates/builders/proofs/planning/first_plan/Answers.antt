use Rattle.std.proofs.Common.{arith}
use Rattle.builders.proofs.PlanningLemmas.{has_plan, is_first}
use Rattle.builders.proofs.planning.first_plan.Goals as goal

pub index-requires : goal.index-requires
index-requires c = (let some = has_plan c.args.conf.now c.raw.ensures.fits in let plans = rw (← c.raw.ensures.value, ← c.behind-conf.view_is) at some in omega (arith, plans))

pub returns-clause-value : goal.returns-clause-value
returns-clause-value c = (is_first c.args.conf.now c.index.result.now c.raw.ensures.fits (rw (← c.raw.ensures.value, ← c.behind-conf.view_is) c.index.ensures)).value

pub returns-clause-frame : goal.returns-clause-frame
returns-clause-frame c = (is_first c.args.conf.now c.index.result.now c.raw.ensures.fits (rw (← c.raw.ensures.value, ← c.behind-conf.view_is) c.index.ensures)).frame

pub returns-clause-inside : goal.returns-clause-inside
returns-clause-inside c = (is_first c.args.conf.now c.index.result.now c.raw.ensures.fits (rw (← c.raw.ensures.value, ← c.behind-conf.view_is) c.index.ensures)).inside

pub returns-clause-in_turn : goal.returns-clause-in_turn
returns-clause-in_turn c = (is_first c.args.conf.now c.index.result.now c.raw.ensures.fits (rw (← c.raw.ensures.value, ← c.behind-conf.view_is) c.index.ensures)).in_turn
