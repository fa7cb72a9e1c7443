use Rattle.std.proofs.Common.{◌∙◌, arith}
use Rattle.xmcf_check.specs.Described.{children, plan_ids_at, plan_ids_with, plans_ids_of}
use Rattle.xmcf_check.specs.Elements.{plan_id_of}
use Rattle.xmcf_check.proofs.PassLemmas.{each-all, plain_pass}
use Rattle.xmcf_check.proofs.PlanLemmas.{plan_ids_makes}
use Rattle.xmcf_check.proofs.gathering.id_lists.plan_ids.Goals as goal

pub loop-number-preserved : goal.loop-number-preserved
loop-number-preserved c =
    plain_pass (plan_ids_at c.args.entries.now) (λ n. plan_ids_with (children n c.args.entries.now)) plan_id_of c.loop-number.number c.args.entries.now _ _ (plan_ids_makes c.args.entries.now) c.loop-number.invariant c.in_ok-push_plan_ids.ensures

pub returns : goal.returns
unfolding plans_ids_of
returns c = c.loop-number.invariant ∙ each-all (plan_ids_at c.args.entries.now) c.loop-number.number c.args.entries.now (omega arith)
