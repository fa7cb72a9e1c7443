use Rattle.std.proofs.Common.{◌≡◌, ◌+◌, take, sum_by}
use Rattle.xef_images.specs.Image.{share}
use Rattle.xef_images.proofs.xef.file_length.Given as goal

abbrev pub invariant-loop-segment : goal.invariant-loop-segment
invariant-loop-segment l = l.length ≡ 31 + sum_by share (take l.segment-index l.segments)
