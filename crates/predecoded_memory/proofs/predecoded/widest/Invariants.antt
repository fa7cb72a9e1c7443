use Rattle.std.proofs.Common.{◌≡◌, map, drop}
use Rattle.guest_memory.specs.Loading.{memory_areas}
use Rattle.predecoded_memory.specs.Shares.{widest}
use Rattle.predecoded_memory.proofs.predecoded.widest.Given as goal

abbrev pub invariant-loop-part : goal.invariant-loop-part
invariant-loop-part l = widest l.most (map memory_areas (drop l.part-index l.parts)) ≡ widest 0 (map memory_areas l.parts)
