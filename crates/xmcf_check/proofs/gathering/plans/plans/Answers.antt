use Rattle.std.proofs.Common.{◌∙◌, ap, map, arith}
use Rattle.xmcf_check.specs.lemmas.Capped.{capped_plan}
use Rattle.xmcf_check.specs.Described.{children, described_plan, plan_of_children, plans_of}
use Rattle.xmcf_check.specs.Elements.{element_frame}
use Rattle.xmcf_check.proofs.PassLemmas.{each-all, one_pass}
use Rattle.xmcf_check.proofs.PlanLemmas.{plan_makes}
use Rattle.xmcf_check.proofs.gathering.plans.plans.Goals as goal

pub loop-number-preserved : goal.loop-number-preserved
loop-number-preserved c =
    one_pass capped_plan (described_plan c.args.entries.now) (λ n. plan_of_children (children n c.args.entries.now)) element_frame c.loop-number.number c.args.entries.now _ _ (plan_makes c.args.entries.now) c.loop-number.invariant c.in_ok-push_plan.ensures

pub returns : goal.returns
unfolding plans_of
returns c = c.loop-number.invariant ∙ ap (map capped_plan) (each-all (described_plan c.args.entries.now) c.loop-number.number c.args.entries.now (omega arith))
