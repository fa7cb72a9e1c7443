use Rattle.std.proofs.Common.{◌≡◌, drop}
use Rattle.xef_images.specs.Elf.{overlap}
use Rattle.xef_images.proofs.elf.overlap.Given as goal

abbrev pub invariant-loop-segment : goal.invariant-loop-segment
invariant-loop-segment l = overlap l.floor (drop l.segment-index l.segments) ≡ overlap 0 l.segments
