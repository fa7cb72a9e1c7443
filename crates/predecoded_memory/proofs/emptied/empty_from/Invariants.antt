use Rattle.std.proofs.Common.{◌-◌, ◌+◌, ◌≤◌}
use Rattle.predecoded_memory.specs.lemmas.SharesTerms.{AreGone}
use Rattle.predecoded_memory.proofs.emptied.empty_from.Given as goal

abbrev pub invariant-loop-done : goal.invariant-loop-done
invariant-loop-done l = record {
  few : l.done ≤ l.count;
  gone : AreGone l.begin (l.begin + l.done) l.fn.rows l.rows;
}

abbrev pub decreases-loop-done : goal.decreases-loop-done
decreases-loop-done l = l.count - l.done
