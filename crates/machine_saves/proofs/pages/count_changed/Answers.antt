use Rattle.std.proofs.Common.{arith}
use Rattle.machine_saves.specs.lemmas.SaveTerms.{changed_bytes}
use Rattle.machine_saves.proofs.PageLemmas.{counted_all, counted_more}
use Rattle.machine_saves.proofs.pages.count_changed.Goals as goal

pub loop-number-preserved : goal.loop-number-preserved
loop-number-preserved c = record {
  counted = λ start. counted_more c.args.loaded.now c.args.now.now start c.loop-number.number _ c.loop-number.count c.changes-count.result _ c.loop-number-test.true (c.changes-count.ensures.value start)
      (c.loop-number.invariant.counted start);
  few = omega (arith, c.changes-count.ensures.few, c.loop-number.invariant.few);
}

pub returns : goal.returns
unfolding changed_bytes
returns c = λ start. counted_all c.args.loaded.now c.args.now.now start c.loop-number.number _ c.loop-number.count _ c.loop-number-test.false (c.loop-number.invariant.counted start)
