-- The common period so far, and that of the requirements that follow.
use Rattle.std.proofs.Common.{◌≡◌, ◌<◌, ◌≤◌, drop}
use Rattle.plan_maker.specs.Needed.{common_from}
use Rattle.plan_maker.proofs.period.common_period.Given as goal

abbrev pub invariant-loop-requirement : goal.invariant-loop-requirement
invariant-loop-requirement l =
    (common_from l.common (drop l.requirement-index l.requirements) ≡ common_from 1 l.requirements) × (0 < l.common) × (l.common ≤ 1000000)
