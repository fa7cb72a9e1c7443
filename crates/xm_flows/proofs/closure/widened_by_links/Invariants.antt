-- The links that are still to be seen.
use Rattle.std.proofs.Common.{◌≡◌, drop}
use Rattle.xm_flows.specs.Masks.{widened_by_links}
use Rattle.xm_flows.proofs.closure.widened_by_links.Given as goal

abbrev pub invariant-loop-link : goal.invariant-loop-link
invariant-loop-link l = widened_by_links (drop l.link-index l.links) l.wider ≡ widened_by_links l.links l.mask
