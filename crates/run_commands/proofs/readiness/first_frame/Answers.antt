-- A configuration has a plan.
use Rattle.std.proofs.Common.{ap, arith, sym, ◌∙◌}
use Rattle.xm_conf.specs.Configuration.{Plan}
use Rattle.cyclic_plans.specs.lemmas.PlanLemmas.{stands_at}
use Rattle.run_commands.proofs.WorkLemmas.{has_plan}
use Rattle.run_commands.proofs.readiness.first_frame.Goals as goal

pub index-requires : goal.index-requires
index-requires c = (let some = has_plan c.args.conf.now c.raw.ensures.fits in let plans = rw (← c.raw.ensures.value, ← c.behind-conf.view_is) at some in omega (arith, plans))

pub returns : goal.returns
returns c =
    let plan = stands_at c.args.conf.now 0 c.index.result.now c.raw.ensures.fits (has_plan c.args.conf.now c.raw.ensures.fits)
    (rw (← c.raw.ensures.value, ← c.behind-conf.view_is) c.index.ensures) in
    ap (λ (p : Plan). p.frame) c.behind-raw.view_is ∙ sym plan.frame
