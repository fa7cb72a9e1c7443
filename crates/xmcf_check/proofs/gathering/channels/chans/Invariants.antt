use Rattle.std.proofs.Common.{◌≡◌, map, take}
use Rattle.xm_conf.specs.Along.{added_by_each}
use Rattle.xmcf_check.specs.lemmas.Capped.{capped_chan}
use Rattle.xmcf_check.specs.Described.{described_chan, port_names}
use Rattle.xmcf_check.proofs.gathering.channels.chans.Given as goal

abbrev pub invariant-loop-number : goal.invariant-loop-number
invariant-loop-number l = l.chans.items ≡ map capped_chan (added_by_each (described_chan (port_names l.parts) l.entries) (take l.number l.entries))
