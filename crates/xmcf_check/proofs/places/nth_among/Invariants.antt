use Rattle.std.proofs.Common.{◌≡◌, drop, filter}
use Rattle.xmcf_check.specs.Places.{is_item, place_nth}
use Rattle.xmcf_check.proofs.places.nth_among.Given as goal

abbrev pub invariant-loop-entry : goal.invariant-loop-entry
invariant-loop-entry l = place_nth l.left (filter (is_item l.all l.sort l.owner) (drop l.entry-index l.entries)) ≡ place_nth l.n (filter (is_item l.all l.sort l.owner) l.entries)
