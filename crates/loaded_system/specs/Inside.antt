-- Which segments lie inside the areas of their partition, as tests.
use Rattle.std.specs.Prelude.{ℕ, ◌+◌, Bool, ◌&&◌, nat_le, if◌then◌else◌, List, [], ◌∷◌, Option, Some, None}
use Rattle.std.specs.List.{list_any}
use Rattle.xm_conf.specs.Configuration.{Part}
use Rattle.xm_conf.specs.declared.part.Area.{Area}
use Rattle.xef_images.specs.Image.{Image, Segment, end_of}
use Rattle.loaded_system.specs.declared.system.Outside.{Outside}

-- whether an area has all addresses of a segment
unfoldable pub has_segment : Segment → Area → Bool
has_segment segment area = nat_le area.start segment.address && nat_le (end_of segment) (area.start + area.size)

-- whether a segment lies inside one of these areas
unfoldable pub is_inside : List Area → Segment → Bool
is_inside areas segment = list_any (has_segment segment) areas

-- the address of the first segment that lies inside none of these areas
abbrev pub outside_in : List Area → List Segment → Option ℕ
outside_in areas [] = None
outside_in areas (segment ∷ later) = if is_inside areas segment then outside_in areas later else Some segment.address

-- a segment of a partition that lies outside, where there is one, or else a later one
abbrev pub outside_or : ℕ → Option ℕ → Option Outside → Option Outside
outside_or id None later = later
outside_or id (Some address) later = Some (record { id = id; address = address })

-- the first segment that lies inside no area of its partition, where the first partition has this number
abbrev pub first_outside_from : ℕ → List Part → List Image → Option Outside
first_outside_from id [] images = None
first_outside_from id (part ∷ parts) [] = None
first_outside_from id (part ∷ parts) (image ∷ images) =
    outside_or id (outside_in part.areas image.segments) (first_outside_from (id + 1) parts images)

-- the first segment that lies inside no area of its partition: the partition of the smallest number, and its first such segment
unfoldable pub first_outside : List Part → List Image → Option Outside
first_outside parts images = first_outside_from 0 parts images
