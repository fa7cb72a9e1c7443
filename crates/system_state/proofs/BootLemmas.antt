-- The partitions as they boot.
use Rattle.std.proofs.Common.{◌≡◌, ℕ, zero, suc, ◌<◌, ◌≤◌, List, [], ◌∷◌, ◌++◌, length, map, take, get_or, refl, sym, ap, ◌∙◌, ◌+◌, ◌≢◌, arith, below_more}
use Rattle.std.proofs.lemmas.List.{get_or-set_other, get_or-set_same, get_or_default, length-map, map-append, same_lists, take_more}
use Rattle.std.proofs.lemmas.Option.{get_or_from_slice_get}
use Rattle.std.specs.Prelude.{Some, None, true, false, slice_get}
use Rattle.std.specs.FinMap.{empty}
use Rattle.std.specs.List.{list_any}
use Rattle.cyclic_plans.specs.PlanClock.{CyclicClock, started as plan_start}
use Rattle.guest_bus.specs.Memory.{Area, Memory}
use Rattle.guest_memory.specs.Loading.{memory_areas, areas_with_image}
use Rattle.guest_memory.specs.Memories.{Memories, areas_at, with_map}
use Rattle.loaded_system.specs.System.{IsSystem, System}
use Rattle.machine_model.specs.Lists.{table}
use Rattle.machine_model.specs.Machine.{booted_part, start}
use Rattle.machine_model.specs.Partition as model
use Rattle.machine_model.specs.Partition.{PartitionState}
use Rattle.machine_model.specs.View.{no_image, no_part, part_of, view_of}
use Rattle.virt_clocks.specs.Clocks.{no_clocks}
use Rattle.xef_images.specs.Image.{Image}
use Rattle.xm_conf.specs.Configuration.{Part}
use Rattle.xm_ports.specs.Channels as ports
use Rattle.xm_ports.specs.Channels.{ChannelTable, shapes_of}
use Rattle.system_state.specs.State.{IsKeptSo, NoneTimed, OwnState, is_timed, kept_so, with_inputs, with_memories, with_memory}
use Rattle.system_state.specs.lemmas.StateTerms.{booted_own, loaded_all}
use Rattle.system_state.proofs.PartsLemmas.{unarmed_from}

-- the partitions of some images as they boot, apart from their memories
abbrev pub booted_owns : List Image → List OwnState
booted_owns images = map (λ (image : Image). booted_own image.entry) images

-- a memory for each partition
pub loaded-length : (parts : List Part) (images : List Image) → length images ≡ length parts → length (loaded_all parts images) ≡ length parts
loaded-length [] images same = refl
loaded-length (part ∷ parts) [] same = absurd (omega (arith, same))
loaded-length (part ∷ parts) (image ∷ images) same = ap suc (loaded-length parts images (omega (arith, same)))

-- it has the image of the partition
pub loaded-there : (parts : List Part) (images : List Image) (p : ℕ) (image : Image) → p < length parts → image ≡ get_or images p image → p < length images
    → get_or (loaded_all parts images) p empty ≡ areas_with_image (get_or (map memory_areas parts) p []) image
loaded-there [] images p image below is within = absurd (omega (arith, below))
loaded-there (part ∷ parts) [] p image below is within = absurd (omega (arith, within))
loaded-there (part ∷ parts) (first ∷ images) zero image below is within = ap (areas_with_image (memory_areas part)) (sym is)
loaded-there (part ∷ parts) (first ∷ images) (suc p) image below is within = loaded-there parts images p image (omega (arith, below)) is (omega (arith, within))

-- one image more is loaded
pub load_more : (parts : List Part) (images : List Image) (memories new : Memories) (p : ℕ) (image : Image) → memories.areas ≡ map memory_areas parts → length memories.maps ≡ length parts → length images ≡ length parts → p < length parts → slice_get images p ≡ Some image
    → new ≡ with_map p (areas_with_image (areas_at p memories) image) memories → ((q : ℕ) → q < p → get_or memories.maps q empty ≡ get_or (loaded_all parts images) q empty)
    → (q : ℕ) → q < p + 1 → get_or new.maps q empty ≡ get_or (loaded_all parts images) q empty
load_more parts images memories new p image areas held same below there is before =
    below_more (λ q. get_or new.maps q empty ≡ get_or (loaded_all parts images) q empty) p
    (λ q h.
    let differs : q ≢ p = omega arith in
    ap (λ (m : Memories). get_or m.maps q empty) is ∙ get_or-set_other memories.maps p q (areas_with_image (areas_at p memories) image) empty differs ∙ before q h)
    (ap (λ (m : Memories). get_or m.maps p empty) is
    ∙ get_or-set_same memories.maps p (areas_with_image (areas_at p memories) image) empty (omega (arith, held))
    ∙ ap (λ (areas : List (List Area)). areas_with_image (get_or areas p []) image) areas
    ∙ sym (loaded-there parts images p image below (sym (get_or_from_slice_get images p image image there)) (omega (arith, same))))

-- all are loaded
pub load_end : (parts : List Part) (images : List Image) (memories : Memories) (p : ℕ) → length memories.maps ≡ length parts → length images ≡ length parts → length parts ≤ p
    → ((q : ℕ) → q < p → get_or memories.maps q empty ≡ get_or (loaded_all parts images) q empty) → memories.maps ≡ loaded_all parts images
load_end parts images memories p held same end before =
    same_lists memories.maps (loaded_all parts images) (held ∙ sym (loaded-length parts images same))
    (λ k d below.
    get_or_default memories.maps k d empty below
    ∙ before k (omega (arith, held))
    ∙ get_or_default (loaded_all parts images) k empty d (omega (arith, held, loaded-length parts images same)))

-- partitions with their memories and input words, by what each is
along_table : (parts : List Part) (images : List Image) (inputs : List (List ℕ)) (f : ℕ → PartitionState) → length images ≡ length parts → length inputs ≡ length parts
    → ((q : ℕ) → q < length parts → with_memory (booted_own (get_or images q no_image).entry) (areas_with_image (memory_areas (get_or parts q no_part)) (get_or images q no_image)) (get_or inputs q []) ≡ f q)
    → with_memories (booted_owns images) (loaded_all parts images) inputs ≡ table f (length parts)
along_table [] [] inputs f same given each = refl
along_table [] (image ∷ images) inputs f same given each = absurd (omega (arith, same))
along_table (part ∷ parts) [] inputs f same given each = absurd (omega (arith, same))
along_table (part ∷ parts) (image ∷ images) [] f same given each = absurd (omega (arith, given))
along_table (part ∷ parts) (image ∷ images) (words ∷ inputs) f same given each =
    ap (λ (ps : PartitionState). ps ∷ with_memories (booted_owns images) (loaded_all parts images) inputs) (each 0 (omega arith))
    ∙ ap (λ (rest : List PartitionState). f 0 ∷ rest) (along_table parts images inputs (λ (k : ℕ). f (suc k)) (omega (arith, same)) (omega (arith, given)) (λ q below. each (suc q) (omega (arith, below))))

-- one partition as it boots
part_boots : (system : System) (inputs : List (List ℕ)) (q : ℕ)
    → with_memory (booted_own (get_or system.images q no_image).entry) (areas_with_image (memory_areas (get_or system.conf.parts q no_part)) (get_or system.images q no_image)) (get_or inputs q []) ≡ booted_part (with_inputs system inputs) q
unfolding booted_own model.booted model.loaded_memory model.areas_of view_of part_of
part_boots system inputs q = refl

-- all of them
pub parts_boot : (system : System) (inputs : List (List ℕ)) → length system.images ≡ length system.conf.parts → length inputs ≡ length system.conf.parts
    → with_memories (booted_owns system.images) (loaded_all system.conf.parts system.images) inputs ≡ table (booted_part (with_inputs system inputs)) (length system.conf.parts)
parts_boot system inputs same given = along_table system.conf.parts system.images inputs (booted_part (with_inputs system inputs)) same given (λ q below. part_boots system inputs q)

-- the whole machine
pub machine_boots : (system : System) (inputs : List (List ℕ)) (owns : List OwnState) (memories : Memories) (channels : ChannelTable) (clock : CyclicClock) → IsSystem system → length inputs ≡ length system.conf.parts
    → owns ≡ booted_owns system.images → memories.maps ≡ loaded_all system.conf.parts system.images
    → channels ≡ record { shapes = shapes_of system.conf; contents = map ports.empty (shapes_of system.conf) } → clock ≡ plan_start
    → (kept_so system inputs owns memories channels clock 0 0 0 false).machine ≡ start (with_inputs system inputs)
unfolding start
machine_boots system inputs owns memories channels clock is given owns_is maps_is channels_is clock_is =
    let states =
    ap (λ (o : List OwnState). with_memories o memories.maps inputs) owns_is
    ∙ ap (λ (m : List Memory). with_memories (booted_owns system.images) m inputs) maps_is
    ∙ parts_boot system inputs is.counted given in
    λ i. record {
      system = with_inputs system inputs;
      parts = states i;
      channels = (channels_is i).contents;
      clock = clock_is i;
      time = 0;
      ticks = 0;
      resets = 0;
      halted = false;
    }

-- one partition more boots
pub boot_more : (images : List Image) (p : ℕ) (image : Image) (owns new : List OwnState) (own : OwnState) (entry : ℕ) → p < length images → slice_get images p ≡ Some image → owns ≡ booted_owns (take p images) → new ≡ owns ++ (own ∷ []) → own ≡ booted_own entry → entry ≡ image.entry
    → new ≡ booted_owns (take (p + 1) images)
boot_more images p image owns new own entry below there owns_is new_is own_is entry_is =
    new_is
    ∙ ap (λ (o : List OwnState). o ++ (own ∷ [])) owns_is
    ∙ ap (λ (o : OwnState). booted_owns (take p images) ++ (o ∷ [])) (own_is ∙ ap booted_own entry_is)
    ∙ sym (
    ap booted_owns (take_more images p image below)
    ∙ map-append (λ (image : Image). booted_own image.entry) (take p images) (get_or images p image ∷ [])
    ∙ ap (λ (i : Image). booted_owns (take p images) ++ (booted_own i.entry ∷ [])) (get_or_from_slice_get images p image image there)
    )

-- no timer is armed
none_boots : (images : List Image) → NoneTimed (booted_owns images)
unfolding booted_own no_clocks
none_boots [] = refl
none_boots (image ∷ images) = none_boots images

-- so all is kept as it is to be, and it is said that no timer is armed
pub boots_kept : (system : System) (inputs : List (List ℕ)) (owns : List OwnState) (memories : Memories) (least : ℕ) → IsSystem system → length inputs ≡ length system.conf.parts → owns ≡ booted_owns system.images
    → memories.areas ≡ map memory_areas system.conf.parts → memories.maps ≡ loaded_all system.conf.parts system.images → IsKeptSo system inputs owns memories true least None
boots_kept system inputs owns memories least is given owns_is areas_is maps_is =
    let unarmed = ap (list_any (λ (own : OwnState). is_timed own.clocks)) owns_is ∙ none_boots system.images in
    record {
      counted = ap length owns_is ∙ length-map system.images (λ image. booted_own image.entry) ∙ is.counted;
      given = given;
      areas = areas_is;
      held = ap length maps_is ∙ loaded-length system.conf.parts system.images is.counted;
      unarmed = unarmed;
      due = unarmed_from None least owns unarmed;
    }
