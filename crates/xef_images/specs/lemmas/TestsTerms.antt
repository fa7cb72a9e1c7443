-- For proofs and private clauses: what an image is, as tests.
use Rattle.std.specs.Prelude.{ℕ, ◌^◌, Bool, true, ◌&&◌, nat_le, nat_lt, List, [], ◌∷◌, length}
use Rattle.xef_images.specs.declared.xef.TheConstants.{MOST_BYTES}
use Rattle.xef_images.specs.Image.{Image, Segment, end_of, xef_length}
use Rattle.xef_images.specs.Tests.{is_entry}

-- whether a segment may stand after one that ends at the floor
abbrev pub is_placed : ℕ → Segment → Bool
is_placed floor segment =
    nat_le floor segment.address && nat_le 1 segment.memory && nat_lt segment.memory (2 ^ 32) && nat_le (end_of segment) (2 ^ 32)
    && nat_le (length segment.bytes) segment.memory

-- whether segments may stand one after the other, the first of them after the floor
abbrev pub are_placed : ℕ → List Segment → Bool
are_placed floor [] = true
are_placed floor (segment ∷ later) = is_placed floor segment && are_placed (end_of segment) later

-- whether this is an image
abbrev pub is_image : Image → Bool
is_image image =
    nat_le 1 (length image.segments) && nat_le (length image.segments) 8 && are_placed 0 image.segments
    && is_entry image.entry image.segments && nat_le (xef_length image.segments) MOST_BYTES
