-- The memories of a system have their images.
use Rattle.std.proofs.Common.{◌≡◌, ◌≢◌, ℕ, ◌+◌, ◌<◌, ◌≤◌, List, [], length, map, get_or, Some, sym, ap, ◌∙◌, arith, below_more}
use Rattle.std.specs.Prelude.{slice_get}
use Rattle.std.specs.FinMap.{empty}
use Rattle.std.proofs.lemmas.List.{get_or-map, get_or-set_other, get_or-set_same}
use Rattle.std.proofs.lemmas.Option.{get_or_from_slice_get}
use Rattle.guest_bus.specs.Memory.{Area}
use Rattle.guest_memory.specs.Loading.{areas_with_image, memory_areas}
use Rattle.guest_memory.specs.Memories.{Memories, areas_at, map_at, with_map}
use Rattle.loaded_system.specs.System as loaded
use Rattle.machine_model.specs.Partition.{areas_of, loaded_memory}
use Rattle.machine_model.specs.View.{no_image, no_part, part_of, view_of}
use Rattle.system_state.specs.State.{with_inputs}
use Rattle.xef_images.specs.Image.{Image}
use Rattle.xm_conf.specs.Configuration.{Part}
use Rattle.machine_saves.specs.Loaded.{AreLoaded}
use Rattle.machine_saves.specs.lemmas.SaveTerms.{HasImage}

-- the memory of a partition below a number has its image
abbrev pub HaveImages : ℕ → List Image → Memories → Type 0
HaveImages n images memories = (q : ℕ) → q < n → map_at q memories ≡ areas_with_image (areas_at q memories) (get_or images q no_image)

-- one image more is loaded
pub image_more : (images : List Image) (memories new : Memories) (p : ℕ) (image : Image) → p < length memories.maps → slice_get images p ≡ Some image
    → new ≡ with_map p (areas_with_image (areas_at p memories) image) memories → HaveImages p images memories → HaveImages (p + 1) images new
image_more images memories new p image below there is before =
    below_more (λ q. map_at q new ≡ areas_with_image (areas_at q new) (get_or images q no_image)) p
    (λ q h.
    let differs : q ≢ p = omega arith in
    ap (λ (m : Memories). map_at q m) is ∙ get_or-set_other memories.maps p q (areas_with_image (areas_at p memories) image) empty differs ∙ before q h
    ∙ ap (λ (m : Memories). areas_with_image (areas_at q m) (get_or images q no_image)) (sym is))
    (ap (λ (m : Memories). map_at p m) is ∙ get_or-set_same memories.maps p (areas_with_image (areas_at p memories) image) empty below
    ∙ ap (areas_with_image (areas_at p memories)) (sym (get_or_from_slice_get images p image no_image there))
    ∙ ap (λ (m : Memories). areas_with_image (areas_at p m) (get_or images p no_image)) (sym is))

-- all are loaded
pub images_loaded : (system : loaded.System) (memories : Memories) → memories.areas ≡ map memory_areas system.conf.parts → ((q : ℕ) → HasImage q system.conf.parts system.images memories) → (inputs : List (List ℕ)) → AreLoaded (with_inputs system inputs) memories
unfolding loaded_memory areas_of view_of part_of
images_loaded system memories areas loaded inputs = record {
  areas = areas;
  maps = λ p below.
      loaded p below
      ∙ ap (λ (those : List Area). areas_with_image those (get_or system.images p no_image))
      (ap (λ (all : List (List Area)). get_or all p []) areas ∙ get_or-map memory_areas system.conf.parts p no_part [] below);
}
