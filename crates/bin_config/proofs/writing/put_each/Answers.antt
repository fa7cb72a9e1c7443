use Rattle.std.proofs.Common.{refl, arith}
use Rattle.bin_config.specs.lemmas.Puts.{WasPut}
use Rattle.bin_config.proofs.PutsLemmas.{put_more, put_within}
use Rattle.bin_config.proofs.writing.put_each.Goals as goal

pub loop-element-preserved : goal.loop-element-preserved
loop-element-preserved g c = record {
  bytes = λ spell stated. put_more spell c.args.elements.now c.loop-element.element-index c.element-item.result c.element-item.result _ _ _ c.loop-element-test.true c.element-item.is (stated _ _ _ _ c.in_ok-put_one.ensures) (c.loop-element.invariant.bytes spell stated);
  each = put_within (WasPut (goal.F-post g c.args.put_one)) c.args.elements.now c.loop-element.element-index c.element-item.result c.element-item.result c.loop-element-test.true c.element-item.is
      (record { old = _; shown = _; given = _; new = _; met = c.in_ok-put_one.ensures; is = refl }) c.loop-element.invariant.each;
}

pub returns-clause-each : goal.returns-clause-each
returns-clause-each g c = λ k d below. c.loop-element.invariant.each k d (omega arith) (omega (arith, below, c.loop-element-test.false))
