use Rattle.std.proofs.Common.{◌≡◌, map, take}
use Rattle.xm_conf.specs.Along.{added_by_each}
use Rattle.xmcf_check.specs.lemmas.Capped.{capped_plan}
use Rattle.xmcf_check.specs.Described.{described_plan}
use Rattle.xmcf_check.proofs.gathering.plans.plans.Given as goal

abbrev pub invariant-loop-number : goal.invariant-loop-number
invariant-loop-number l = l.plans.items ≡ map capped_plan (added_by_each (described_plan l.entries) (take l.number l.entries))
