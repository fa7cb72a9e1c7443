use Rattle.std.proofs.Common.{◌≡◌, ◌-◌, ◌≤◌, false, true}
use Rattle.span_engine.proofs.SilentLemmas.{AreSilent, HaveEnded}
use Rattle.span_engine.proofs.slot.run_span.Given as goal

abbrev pub invariant-loop-goes : goal.invariant-loop-goes
invariant-loop-goes l = record {
  within : l.left ≤ l.most;
  begun : l.goes ≡ true → AreSilent (l.most - l.left) l.most l.at l.fn.sys l.sys l.lines;
  ended : l.goes ≡ false → HaveEnded (l.most - l.left) l.most l.at l.span l.fn.sys l.sys l.lines;
}

abbrev pub decreases-loop-goes : goal.decreases-loop-goes
decreases-loop-goes l = l.left
