-- Images: what stands in a partition's memory when it starts, and where it starts.
use Rattle.std.specs.Prelude.{◌≡◌, ℕ, ◌+◌, ◌%◌, ◌^◌, ◌<◌, ◌≤◌, ◌⊎◌, List, [], ◌∷◌, length, sum_by}
use Rattle.std.specs.List.{AllByRecursion, flat_map}

-- a segment: where it begins, how much memory it has, and the bytes at its beginning; the rest is zeros
pub record Segment : Type 0 where
  pub address : ℕ
  pub memory : ℕ
  pub bytes : List ℕ

-- an image: the address where it starts, and its segments
pub record Image : Type 0 where
  pub entry : ℕ
  pub segments : List Segment

-- the first address after the memory of a segment
abbrev pub end_of : Segment → ℕ
end_of segment = segment.address + segment.memory

-- a segment has some memory, as much as a word can say, and all of it at addresses; its bytes fit into it
pub record IsSegment (segment : Segment) : Type 0 where
  pub some : 1 ≤ segment.memory
  pub said : segment.memory < 2 ^ 32
  pub ends : end_of segment ≤ 2 ^ 32
  pub fits : length segment.bytes ≤ segment.memory

-- each segment ends before all those after it begin
abbrev pub SegmentsApart : List Segment → Type 0
SegmentsApart [] = Unit {0}
SegmentsApart (segment ∷ later) = AllByRecursion (λ other. end_of segment ≤ other.address) later × SegmentsApart later

-- the address is in the memory of a segment
abbrev pub HasAddress : ℕ → Segment → Type 0
HasAddress address segment = (segment.address ≤ address) × (address < end_of segment)

-- the address is in the memory of one of the segments
abbrev pub IsInside : ℕ → List Segment → Type 0
IsInside address [] = ⊥
IsInside address (segment ∷ others) = HasAddress address segment ⊎ IsInside address others

-- the bytes of all segments, one after the other
abbrev pub contents : List Segment → List ℕ
contents segments = flat_map (λ segment. segment.bytes) segments

-- how much a segment takes of a file: a row of 12 bytes, and its bytes
abbrev pub share : Segment → ℕ
share segment = 12 + length segment.bytes

-- the length of an image's file: 31 bytes, and what each segment takes
abbrev pub xef_length : List Segment → ℕ
xef_length segments = 31 + sum_by share segments

-- what may be loaded: 1 to 8 segments that rise and are disjoint, an entry at a word in one of them, and a file whose length a word can say
pub record IsImage (image : Image) : Type 0 where
  pub some : 1 ≤ length image.segments
  pub most : length image.segments ≤ 8
  pub each : AllByRecursion IsSegment image.segments
  pub apart : SegmentsApart image.segments
  pub aligned : image.entry % 4 ≡ 0
  pub inside : IsInside image.entry image.segments
  pub short : xef_length image.segments < 2 ^ 32
