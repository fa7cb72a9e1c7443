-- What an image is, as tests.
use Rattle.std.specs.Prelude.{ℕ, ◌%◌, ◌==◌, Bool, ◌&&◌, nat_le, nat_lt, List}
use Rattle.std.specs.List.{list_any}
use Rattle.xef_images.specs.Image.{Segment, end_of}

-- whether the address is in the memory of a segment
abbrev pub is_covered : ℕ → Segment → Bool
is_covered address segment = nat_le segment.address address && nat_lt address (end_of segment)

-- whether the address is in the memory of one of the segments
abbrev pub is_in_memory : ℕ → List Segment → Bool
is_in_memory address segments = list_any (is_covered address) segments

-- whether an image may start at the address
abbrev pub is_entry : ℕ → List Segment → Bool
is_entry address segments = (address % 4 == 0) && is_in_memory address segments
