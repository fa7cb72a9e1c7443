use Rattle.std.proofs.Common.{◌≡◌, ◌++◌, take}
use Rattle.std.specs.List.{flat_map}
use Rattle.xef_images.specs.Texts.{segment_line}
use Rattle.xef_images.proofs.lines.put_segments.Given as goal

abbrev pub invariant-loop-segment : goal.invariant-loop-segment
invariant-loop-segment l = l.lines.items ≡ l.fn.lines.items ++ flat_map segment_line (take l.segment-index l.segments)
