use Rattle.std.proofs.Common.{◌∙◌, ap, arith, length}
use Rattle.std.proofs.lemmas.List.{length-set}
use Rattle.guest_memory.specs.Loading.{areas_with_image}
use Rattle.guest_memory.specs.Memories.{Memories, areas_at}
use Rattle.guest_memory.specs.lemmas.LoadingLemmas.{image_lies}
use Rattle.machine_saves.proofs.LoadingLemmas.{image_more}
use Rattle.machine_saves.proofs.loading.load_images.Goals as goal

pub reload-requires-clause-inside : goal.reload-requires-clause-inside
reload-requires-clause-inside c =
    image_lies c.args.system.now c.loop-p.ram c.loop-p.p c.image.result.now c.image.ensures.system (c.loop-p.invariant.areas ∙ c.requires.areas) (omega (arith, c.count-p-end.ensures.value)) c.image.ensures.value

pub loop-p-preserved : goal.loop-p-preserved
loop-p-preserved c = record {
  areas = ap (λ (m : Memories). m.areas) c.reload.ensures.value ∙ c.loop-p.invariant.areas;
  held = ap (λ (m : Memories). length m.maps) c.reload.ensures.value ∙ length-set c.loop-p.ram.maps c.loop-p.p (areas_with_image (areas_at c.loop-p.p c.loop-p.ram) c.image.result.now) ∙ c.loop-p.invariant.held;
  loaded = image_more c.args.system.now.images c.loop-p.ram c.reload.new.self c.loop-p.p c.image.result.now (omega (arith, c.loop-p-test.true, c.count-p-end.ensures.value, c.loop-p.invariant.held)) c.image.ensures.value c.reload.ensures.value
      c.loop-p.invariant.loaded;
}

pub returns-clause-loaded : goal.returns-clause-loaded
returns-clause-loaded c = λ q below. c.loop-p.invariant.loaded q (omega (arith, below, c.loop-p-test.false, c.count-p-end.ensures.value))
