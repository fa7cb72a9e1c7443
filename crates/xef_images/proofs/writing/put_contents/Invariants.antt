use Rattle.std.proofs.Common.{◌≡◌, ◌++◌, take}
use Rattle.xef_images.specs.Image.{contents}
use Rattle.xef_images.proofs.writing.put_contents.Given as goal

abbrev pub invariant-loop-segment : goal.invariant-loop-segment
invariant-loop-segment l = l.out.items ≡ l.fn.out.items ++ contents (take l.segment-index l.segments)
