use Rattle.std.proofs.Common.{◌≡◌, drop, length}
use Rattle.guest_memory.specs.Flat.{listed, memory_in}
use Rattle.guest_memory.specs.Loading.{areas_with_image, with_segments}
use Rattle.guest_memory.proofs.range.load_image.Given as goal

abbrev pub invariant-loop-segment : goal.invariant-loop-segment
invariant-loop-segment l = record {
  rest : with_segments (memory_in (listed l.entries) l.bytes) (drop l.segment-index l.image.segments) ≡ areas_with_image (listed l.entries) l.image;
  length : length l.bytes ≡ length l.fn.bytes;
}
