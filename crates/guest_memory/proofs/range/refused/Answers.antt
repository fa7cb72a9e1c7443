use Rattle.std.proofs.Common.{◌∙◌, arith}
use Rattle.guest_memory.specs.Flat.{listed}
use Rattle.guest_memory.specs.lemmas.MemoriesTerms.{allows_byte}
use Rattle.guest_memory.proofs.RangeLemmas.{all_from-front, first_refused-on}
use Rattle.guest_memory.proofs.range.refused.Goals as goal

pub loop-left-preserved : goal.loop-left-preserved
loop-left-preserved c = record {
  rest = first_refused-on (allows_byte c.args.access (listed c.args.entries.now)) c.loop-left.at c.min-piece.result c.loop-left.left
      (all_from-front (allows_byte c.args.access (listed c.args.entries.now)) c.loop-left.at c.in-Some.room c.min-piece.result c.in-Some.ensures.allowed (omega arith)) (omega arith)
      ∙ c.loop-left.invariant.rest;
  sum = omega arith;
  below = omega (arith, c.in-Some.ensures.ends);
}
