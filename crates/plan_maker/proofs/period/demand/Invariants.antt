-- The demand of the requirements so far.
use Rattle.std.proofs.Common.{◌≡◌, ◌*◌, ◌≤◌, sum_by, take}
use Rattle.plan_maker.specs.Needed.{demanded}
use Rattle.plan_maker.proofs.period.demand.Given as goal

abbrev pub invariant-loop-requirement : goal.invariant-loop-requirement
invariant-loop-requirement l =
    (l.total ≡ sum_by (demanded l.period) (take l.requirement-index l.requirements)) × (l.total ≤ l.requirement-index * 1000000)
