use Rattle.std.proofs.Common.{◌≡◌, map, take}
use Rattle.xm_conf.specs.Along.{added_by_each}
use Rattle.xmcf_check.specs.Described.{described_monitor}
use Rattle.xmcf_check.proofs.gathering.monitors.monitors.Given as goal

abbrev pub invariant-loop-number : goal.invariant-loop-number
invariant-loop-number l = map (λ answers. answers.items) l.monitors.items ≡ map (λ monitor. monitor.answers) (added_by_each (described_monitor l.entries) (take l.number l.entries))
