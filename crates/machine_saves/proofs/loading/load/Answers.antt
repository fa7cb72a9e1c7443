use Rattle.std.proofs.Common.{◌∙◌, ap, length, map}
use Rattle.std.proofs.lemmas.List.{length-map}
use Rattle.guest_memory.specs.Loading.{memory_areas, zeros_in}
use Rattle.guest_memory.specs.Memories.{Memories}
use Rattle.xm_conf.specs.Configuration.{Conf}
use Rattle.machine_saves.proofs.LoadingLemmas.{images_loaded}
use Rattle.machine_saves.proofs.loading.load.Goals as goal

pub load_images-requires-clause-areas : goal.load_images-requires-clause-areas
load_images-requires-clause-areas c = ap (λ (m : Memories). m.areas) c.in_ok-ram.ensures.value ∙ ap (λ (conf : Conf). map memory_areas conf.parts) c.conf.ensures.value

pub load_images-requires-clause-held : goal.load_images-requires-clause-held
load_images-requires-clause-held c =
    ap (λ (m : Memories). length m.maps) c.in_ok-ram.ensures.value
    ∙ length-map (map memory_areas c.conf.result.now.parts) zeros_in ∙ length-map c.conf.result.now.parts memory_areas ∙ ap (λ (conf : Conf). length conf.parts) c.conf.ensures.value

pub returns : goal.returns
returns c =
    images_loaded c.args.system.now c.load_images.new.ram
    (c.load_images.ensures.areas ∙ ap (λ (m : Memories). m.areas) c.in_ok-ram.ensures.value ∙ ap (λ (conf : Conf). map memory_areas conf.parts) c.conf.ensures.value) c.load_images.ensures.loaded
