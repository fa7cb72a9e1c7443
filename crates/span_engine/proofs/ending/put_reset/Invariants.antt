use Rattle.std.proofs.Common.{◌≡◌, ◌+◌, ◌≤◌, ◌++◌, length}
use Rattle.tick_steps.specs.lemmas.WorkTerms.{reset_lines}
use Rattle.span_engine.proofs.ending.put_reset.Given as goal

abbrev pub invariant-loop-p : goal.invariant-loop-p
invariant-loop-p l = record {
  lines : l.lines ≡ l.fn.lines ++ reset_lines l.n l.p l.fn.mode;
  few : length l.lines ≤ length l.fn.lines + 1 + l.p;
}
