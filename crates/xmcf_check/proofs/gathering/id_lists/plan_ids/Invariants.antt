use Rattle.std.proofs.Common.{◌≡◌, take}
use Rattle.xm_conf.specs.Along.{added_by_each}
use Rattle.xmcf_check.specs.Described.{plan_ids_at}
use Rattle.xmcf_check.proofs.gathering.id_lists.plan_ids.Given as goal

abbrev pub invariant-loop-number : goal.invariant-loop-number
invariant-loop-number l = l.plans.items ≡ added_by_each (plan_ids_at l.entries) (take l.number l.entries)
