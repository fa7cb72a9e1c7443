-- Each round adds a partition.
use Rattle.std.proofs.Common.{◌-◌, ◌<◌, ◌^◌}
use Rattle.xm_flows.proofs.ClosureLemmas.{IsRound}
use Rattle.xm_flows.proofs.closure.closed.Given as goal

abbrev pub invariant-loop-wider : goal.invariant-loop-wider
invariant-loop-wider l = record { round : IsRound l.chans l.links l.mask l.members l.wider; fits : l.wider < 2 ^ 32 }

abbrev pub decreases-loop-wider : goal.decreases-loop-wider
decreases-loop-wider l = 2 ^ 32 - l.members
