use Rattle.std.proofs.Common.{◌≡◌, drop}
use Rattle.xef_images.specs.lemmas.TestsTerms.{are_placed}
use Rattle.xef_images.proofs.xef.are_placed.Given as goal

abbrev pub invariant-loop-segment : goal.invariant-loop-segment
invariant-loop-segment l = are_placed l.floor (drop l.segment-index l.segments) ≡ are_placed 0 l.segments
