use Rattle.std.proofs.Common.{◌≡◌, ap}
use Rattle.xm_conf.specs.Configuration.{Plan}
use Rattle.builders.proofs.PlanningLemmas.{checked_not}
use Rattle.builders.proofs.planning.verdicts_by.Goals as goal

pub returns-then-plan-gt-LONGEST_CHECKED : goal.returns-then-plan-gt-LONGEST_CHECKED
returns-then-plan-gt-LONGEST_CHECKED c =
    let same : c.plan.inside.frame ≡ c.args.plan.now.frame = ap (λ (p : Plan). p.frame) c.plan.view_is in
    checked_not c.args.plan.now c.args.parts.now c.too_long.result c.plan.inside.frame same c.if-plan-gt-LONGEST_CHECKED.true c.too_long.ensures
