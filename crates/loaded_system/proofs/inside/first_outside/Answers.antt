use Rattle.std.specs.Prelude.{All}
use Rattle.std.proofs.Common.{sym, subst, arith, rules}
use Rattle.std.proofs.lemmas.List.{take_all}
use Rattle.std.proofs.lemmas.List.Elements.{All-more}
use Rattle.xef_images.specs.Image.{Image, IsImage}
use Rattle.loaded_system.specs.Inside.{first_outside}
use Rattle.loaded_system.specs.lemmas.InsideLemmas.{outside_on, outside_here, outside_done}
use Rattle.loaded_system.proofs.inside.first_outside.Goals as goal

pub returns-in-Some-clause-value : goal.returns-in-Some-clause-value
unfolding first_outside
returns-in-Some-clause-value c =
    outside_here c.args.parts.now c.args.images.now c.loop-id.id c.index-parts-id.result c.index-images-id.result c.in-Some.address _ (omega arith) c.loop-id-test.true
    c.index-parts-id.is c.index-images-id.is (sym c.in-Some.ensures.value) c.loop-id.invariant.rest

pub loop-id-preserved : goal.loop-id-preserved
loop-id-preserved c = record {
  rest = outside_on c.args.parts.now c.args.images.now c.loop-id.id c.index-parts-id.result c.index-images-id.result _ (omega arith) c.loop-id-test.true
      c.index-parts-id.is c.index-images-id.is (search rules) c.loop-id.invariant.rest;
  images = All-more IsImage c.args.images.now c.loop-id.id c.index-images-id.result c.loop-id-test.true c.loop-id.invariant.images
      (subst (λ (i : Image). IsImage i) c.index-images-id.is c.outside_of.ensures.image);
}

pub returns-clause-value : goal.returns-clause-value
unfolding first_outside
returns-clause-value c = outside_done c.args.parts.now c.args.images.now c.loop-id.id _ (omega arith) c.loop-id.invariant.rest

pub returns-clause-images : goal.returns-clause-images
returns-clause-images c = λ _. subst (λ xs. All IsImage xs) (take_all c.loop-id.id c.args.images.now c.loop-id-test.false) c.loop-id.invariant.images
