-- The ends that are still to be seen.
use Rattle.std.proofs.Common.{◌≡◌, drop}
use Rattle.xm_flows.specs.Masks.{with_ends}
use Rattle.xm_flows.proofs.mask.with_ends.Given as goal

abbrev pub invariant-loop-end : goal.invariant-loop-end
invariant-loop-end l = with_ends l.joined (drop l.end-index l.ends) ≡ with_ends l.mask l.ends
