-- The plan so far is that of its tick.
use Rattle.std.proofs.Common.{◌-◌, ◌≤◌}
use Rattle.plan_maker.specs.lemmas.Turns.{IsMoment}
use Rattle.plan_maker.proofs.making.frame_slots.Given as goal

abbrev pub invariant-loop-moment : goal.invariant-loop-moment
invariant-loop-moment l = IsMoment l.frame l.requirements l.moment × (l.moment.tick ≤ l.frame)

abbrev pub decreases-loop-moment : goal.decreases-loop-moment
decreases-loop-moment l = l.frame - l.moment.tick
