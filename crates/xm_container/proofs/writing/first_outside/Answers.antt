use Rattle.std.proofs.Common.{length, sym, rules}
use Rattle.loaded_system.specs.Inside.{first_outside}
use Rattle.xm_container.specs.Pack.{in_order}
use Rattle.xm_container.proofs.PackLemmas.{outside_on, outside_here, outside_done, loads_on, loads_done}
use Rattle.xm_container.proofs.writing.first_outside.Goals as goal

pub returns-in-Some-clause-value : goal.returns-in-Some-clause-value
unfolding first_outside
returns-in-Some-clause-value c =
    outside_here c.args.parts.now c.args.images.now c.loop-id.id c.index-parts-id.result c.image_at-xef.result.now c.in-Some.address _ c.loop-id-test.true
    c.index-parts-id.is c.image_at-xef.ensures (sym c.in-Some.ensures.value) c.loop-id.invariant.rest

pub loop-id-preserved : goal.loop-id-preserved
loop-id-preserved c = record {
  rest = outside_on c.args.parts.now c.args.images.now c.loop-id.id c.index-parts-id.result c.image_at-xef.result.now _ c.loop-id-test.true
      c.index-parts-id.is c.image_at-xef.ensures (search rules) c.loop-id.invariant.rest;
  images = loads_on c.args.images.now (length c.args.parts.now) c.loop-id.id c.image_at-xef.result.now (in_order c.args.images.now 0 (length c.args.parts.now)) c.loop-id-test.true
      c.image_at-xef.ensures c.outside_of.ensures.image c.loop-id.invariant.images;
}

pub returns-clause-value : goal.returns-clause-value
unfolding first_outside
returns-clause-value c = outside_done c.args.parts.now c.args.images.now c.loop-id.id _ c.loop-id-test.false c.loop-id.invariant.rest

pub returns-clause-images : goal.returns-clause-images
returns-clause-images c = λ _. loads_done c.args.images.now (length c.args.parts.now) c.loop-id.id (in_order c.args.images.now 0 (length c.args.parts.now)) c.loop-id-test.false c.loop-id.invariant.images
