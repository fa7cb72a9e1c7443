-- The slot or gap ends after the moment.
use Rattle.std.proofs.Common.{◌<◌, arith}
use Rattle.cyclic_plans.proofs.StretchLemmas.{stretch_end-past}
use Rattle.cyclic_plans.proofs.clock.PlanClock.ticks_left.Goals as goal

pub overflow_sub-result : goal.overflow_sub-result
overflow_sub-result c =
    let plan = c.plan_of.result.now in
    let before_end : c.moment-moment.result < plan.frame = rw (c.moment-moment.ensures.value, ← c.plan_of.ensures.frame, c.plan.ensures.value) (omega arith) in
    omega (arith, c.stretch_end.ensures.value, stretch_end-past plan.frame c.moment-moment.result plan.slots before_end)
