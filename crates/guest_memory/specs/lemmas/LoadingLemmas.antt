-- An image that lies inside its partition lies in the areas of the partition's memory.
use Rattle.std.proofs.Common.{◌≡◌, ℕ, zero, suc, ◌<◌, List, [], ◌∷◌, length, map, get_or, sym, ap, ◌∙◌, subst, arith}
use Rattle.std.specs.Prelude.{Any, Some, slice_get}
use Rattle.std.proofs.Math.ListN.{get_or-map}
use Rattle.std.proofs.lemmas.List.{length-map}
use Rattle.std.proofs.lemmas.Option.{get_or_from_slice_get}
use Rattle.loaded_system.specs.System.{AreInside, FitsInto, IsSystem, System}
use Rattle.loaded_system.specs.System as system_of
use Rattle.xef_images.specs.Image.{Image, Segment}
use Rattle.xm_conf.specs.Configuration.{Part}
use Rattle.xm_conf.specs.declared.part.Area as configured
use Rattle.guest_memory.specs.Loading.{HoldsSegment, LiesInAreas, area_of, memory_areas}
use Rattle.guest_memory.specs.Memories.{Memories, areas_at}

-- an area of a partition that has a segment is an area of its memory that has it
area_is_there : (segment : Segment) (areas : List configured.Area) → Any (system_of.HasSegment segment) areas → Any (HoldsSegment segment) (map area_of areas)
area_is_there segment areas some =
    let has : system_of.HasSegment segment some.1 = some.4 in
    (some.0, area_of some.1, omega (arith, some.2, length-map areas area_of), get_or-map area_of areas some.0 some.1 ∙ ap area_of some.3, record { start = has.start; end = has.end })

-- an image that fits into a partition lies in the areas of its memory
pub fits_lies : (part : Part) (image : Image) → FitsInto part image → LiesInAreas (memory_areas part) image
unfolding memory_areas
fits_lies part image fits = λ k d below. area_is_there (get_or image.segments k d) part.areas (fits k d below)

-- so does each of some images
lies_along : (parts : List Part) (images : List Image) (p : ℕ) (image : Image) → p < length parts → length images ≡ length parts → image ≡ get_or images p image → AreInside parts images
    → LiesInAreas (get_or (map memory_areas parts) p []) image
lies_along [] images p image below counted is inside = absurd (omega (arith, below))
lies_along (part ∷ parts) [] p image below counted is inside = absurd (omega (arith, counted))
lies_along (part ∷ parts) (first ∷ images) zero image below counted is inside =
    subst (λ (i : Image). LiesInAreas (memory_areas part) i) (sym is) (fits_lies part first inside.0)
lies_along (part ∷ parts) (first ∷ images) (suc p) image below counted is inside =
    lies_along parts images p image (omega (arith, below)) (omega (arith, counted)) is inside.1

-- the image of a system's partition lies in the areas that its memory has
pub image_lies : (system : System) (memories : Memories) (p : ℕ) (image : Image) → IsSystem system → memories.areas ≡ map memory_areas system.conf.parts → p < length system.conf.parts
    → slice_get system.images p ≡ Some image → LiesInAreas (areas_at p memories) image
image_lies system memories p image is same below there =
    rw same (lies_along system.conf.parts system.images p image below is.counted (sym (get_or_from_slice_get system.images p image image there)) is.inside)
