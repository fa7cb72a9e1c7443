-- The channels that are still to be seen.
use Rattle.std.proofs.Common.{◌≡◌, drop}
use Rattle.xm_flows.specs.Masks.{widened}
use Rattle.xm_flows.proofs.closure.widened.Given as goal

abbrev pub invariant-loop-chan : goal.invariant-loop-chan
invariant-loop-chan l = widened (drop l.chan-index l.chans) l.wider ≡ widened l.chans l.mask
