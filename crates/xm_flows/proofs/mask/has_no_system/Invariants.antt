-- The partitions that are still to be seen.
use Rattle.std.proofs.Common.{◌≡◌, drop}
use Rattle.xm_flows.specs.Masks.{has_no_system}
use Rattle.xm_flows.proofs.mask.has_no_system.Given as goal

abbrev pub invariant-loop-p : goal.invariant-loop-p
invariant-loop-p l = has_no_system l.mask l.p (drop l.p l.parts) ≡ has_no_system l.mask 0 l.parts
