use Rattle.std.proofs.Common.{◌≡◌, map, take}
use Rattle.xm_conf.specs.Along.{added_by_each}
use Rattle.xmcf_check.specs.lemmas.Capped.{capped_part}
use Rattle.xmcf_check.specs.Described.{described_part}
use Rattle.xmcf_check.proofs.gathering.partitions.parts.Given as goal

abbrev pub invariant-loop-number : goal.invariant-loop-number
invariant-loop-number l = l.parts.items ≡ map capped_part (added_by_each (described_part l.uarts l.entries) (take l.number l.entries))
