-- What a partition's memory holds when it starts: its image, and zeros in all other places of its areas.
use Rattle.std.specs.Prelude.{◌+◌, ◌≤◌, List, [], ◌∷◌, map, replicate, All, Any}
use Rattle.std.specs.FinMap.{empty}
use Rattle.guest_bus.specs.Memory.{Area, Memory, with_bytes}
use Rattle.xef_images.specs.Image.{Image, Segment, end_of}
use Rattle.xm_conf.specs.Configuration.{Part}
use Rattle.xm_conf.specs.declared.part.Area as configured

-- an area of the configuration as an area of a memory
abbrev pub area_of : configured.Area → Area
area_of area = record { start = area.start; size = area.size; read_only = area.read_only }

-- the areas of a partition's memory
unfoldable pub memory_areas : Part → List Area
memory_areas part = map area_of part.areas

-- a memory with a zero at each address of these areas
abbrev pub with_zeros : Memory → List Area → Memory
with_zeros memory [] = memory
with_zeros memory (area ∷ areas) = with_zeros (with_bytes memory area.start (replicate area.size 0)) areas

-- a memory with the bytes of these segments, each at its address
abbrev pub with_segments : Memory → List Segment → Memory
with_segments memory [] = memory
with_segments memory (segment ∷ segments) = with_segments (with_bytes memory segment.address segment.bytes) segments

-- an area has all addresses of a segment
pub record HoldsSegment (segment : Segment) (area : Area) : Type 0 where
  pub start : area.start ≤ segment.address
  pub end : end_of segment ≤ area.start + area.size

-- each segment of an image lies inside one of these areas
abbrev pub LiesInAreas : List Area → Image → Type 0
LiesInAreas areas image = All (λ segment. Any (HoldsSegment segment) areas) image.segments

-- a memory of zeros in these areas, and nothing else
abbrev pub zeros_in : List Area → Memory
zeros_in areas = with_zeros empty areas

-- these areas with an image loaded, and zeros in all other places
unfoldable pub areas_with_image : List Area → Image → Memory
areas_with_image areas image = with_segments (with_zeros empty areas) image.segments
