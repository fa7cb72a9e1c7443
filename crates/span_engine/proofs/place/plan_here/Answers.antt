use Rattle.std.proofs.Common.{◌<◌, ap, arith, length, sym, ◌∙◌}
use Rattle.cyclic_plans.specs.PlanClock.{CyclicClock}
use Rattle.cyclic_plans.specs.lemmas.PlanLemmas.{stands_at}
use Rattle.cyclic_plans.specs.Slots.{slots_of}
use Rattle.xm_conf.specs.Configuration.{Conf}
use Rattle.span_engine.proofs.place.plan_here.Goals as goal

pub returns : goal.returns
returns c =
    let number = c.plan-plan.ensures.value ∙ ap (λ (clock : CyclicClock). clock.plan) c.plan_clock.ensures.value in
    let below : c.plan-plan.result < length c.conf.result.now.plans = omega (arith, c.requires.plan, number, ap (λ (conf : Conf). length conf.plans) c.conf.ensures.value) in
    let plan = stands_at c.conf.result.now c.plan-plan.result c.index.result.now c.raw.ensures.fits below (rw (← c.raw.ensures.value, ← c.behind-conf.view_is, ← c.from.ensures) c.index.ensures) in
    sym plan.slots ∙ ap (λ (conf : Conf). slots_of conf c.plan-plan.result) c.conf.ensures.value ∙ ap (slots_of c.args.sys.now.machine.system.conf) number
