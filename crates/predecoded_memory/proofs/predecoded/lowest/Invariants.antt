use Rattle.std.proofs.Common.{◌≡◌, map, drop}
use Rattle.guest_memory.specs.Loading.{area_of}
use Rattle.predecoded_memory.specs.Shares.{lowest}
use Rattle.predecoded_memory.proofs.predecoded.lowest.Given as goal

abbrev pub invariant-loop-area : goal.invariant-loop-area
invariant-loop-area l = lowest l.least (map area_of (drop l.area-index l.areas)) ≡ lowest l.from (map area_of l.areas)
