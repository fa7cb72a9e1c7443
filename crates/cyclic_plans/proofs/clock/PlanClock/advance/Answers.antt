-- A new frame begins with the next tick.
use Rattle.cyclic_plans.proofs.ClockLemmas.{entered_in_frame}
use Rattle.cyclic_plans.proofs.clock.PlanClock.advance.Goals as goal

pub returns-clause-kept : goal.returns-clause-kept
returns-clause-kept c =
    λ asks. rw (c.begin_frame.ensures.value, c.next_plan-new.ensures.value)
    (entered_in_frame c.args.conf.now c.args.self.now c.args.now c.ends_frame.ensures.fits c.requires.in_frame asks)
