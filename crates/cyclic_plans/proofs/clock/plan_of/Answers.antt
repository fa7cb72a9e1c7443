-- The element of the slice is the plan of the configuration.
use Rattle.cyclic_plans.specs.lemmas.PlanLemmas.{stands_at}
use Rattle.cyclic_plans.proofs.clock.plan_of.Goals as goal

pub returns : goal.returns
returns c =
    let plan = stands_at c.args.conf.now c.args.plan c.index.result.now c.raw.ensures.fits c.requires
    (rw (← c.raw.ensures.value, ← c.behind-conf.view_is, ← c.from.ensures) c.index.ensures) in
    record { slots = plan.slots; frame = plan.frame; few = plan.few; fits = c.raw.ensures.fits }
