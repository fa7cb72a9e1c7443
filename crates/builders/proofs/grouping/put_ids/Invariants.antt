-- The ids so far.
use Rattle.std.proofs.Common.{◌≡◌, ◌+◌, ◌*◌, ◌≤◌, ◌++◌, length}
use Rattle.builders.specs.Grouping.{ids_below, joined_by_commas}
use Rattle.builders.proofs.GroupingLemmas.{is_none_yet}
use Rattle.builders.proofs.grouping.put_ids.Given as goal

abbrev pub invariant-loop-p : goal.invariant-loop-p
invariant-loop-p l = record {
  text : l.pen ≡ l.fn.pen ++ joined_by_commas (ids_below l.found.members l.p);
  first : l.first ≡ is_none_yet (ids_below l.found.members l.p);
  room : length l.pen ≤ length l.fn.pen + 21 * l.p;
}
