use Rattle.std.proofs.Common.{length, arith, ap, ◌∙◌}
use Rattle.std.proofs.lemmas.List.{length-set}
use Rattle.guest_memory.specs.Loading.{areas_with_image}
use Rattle.guest_memory.specs.lemmas.LoadingLemmas.{image_lies}
use Rattle.guest_memory.specs.Memories.{Memories, areas_at}
use Rattle.system_state.proofs.BootLemmas.{load_end, load_more}
use Rattle.system_state.proofs.starting.load_images.Goals as goal

pub reload-requires-clause-inside : goal.reload-requires-clause-inside
reload-requires-clause-inside c =
    image_lies c.args.system.now c.loop-p.ram c.loop-p.p c.image.result.now c.image.ensures.system (c.loop-p.invariant.areas ∙ c.requires.areas) (omega (arith, c.count-p-end.ensures.value)) c.image.ensures.value

pub loop-p-preserved : goal.loop-p-preserved
loop-p-preserved c = record {
  areas = ap (λ (m : Memories). m.areas) c.reload.ensures.value ∙ c.loop-p.invariant.areas;
  held = ap (λ (m : Memories). length m.maps) c.reload.ensures.value ∙ length-set c.loop-p.ram.maps c.loop-p.p (areas_with_image (areas_at c.loop-p.p c.loop-p.ram) c.image.result.now) ∙ c.loop-p.invariant.held;
  loaded = load_more c.args.system.now.conf.parts c.args.system.now.images c.loop-p.ram c.reload.new.self c.loop-p.p c.image.result.now (c.loop-p.invariant.areas ∙ c.requires.areas) c.loop-p.invariant.held c.image.ensures.system.counted
      (omega (arith, c.count-p-end.ensures.value)) c.image.ensures.value c.reload.ensures.value c.loop-p.invariant.loaded;
}

pub returns-clause-maps : goal.returns-clause-maps
returns-clause-maps c =
    load_end c.args.system.now.conf.parts c.args.system.now.images c.loop-p.ram c.loop-p.p c.loop-p.invariant.held c.count-p-end.ensures.system.counted (omega (arith, c.count-p-end.ensures.value)) c.loop-p.invariant.loaded
