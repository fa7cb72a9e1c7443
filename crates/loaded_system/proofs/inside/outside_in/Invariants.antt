use Rattle.std.proofs.Common.{◌≡◌, drop}
use Rattle.loaded_system.specs.Inside.{outside_in}
use Rattle.loaded_system.proofs.inside.outside_in.Given as goal

abbrev pub invariant-loop-segment : goal.invariant-loop-segment
invariant-loop-segment l = outside_in l.areas (drop l.segment-index l.segments) ≡ outside_in l.areas l.segments
