use Rattle.std.proofs.Common.{◌≡◌, map, drop}
use Rattle.guest_memory.specs.Loading.{area_of}
use Rattle.predecoded_memory.specs.Shares.{highest}
use Rattle.predecoded_memory.proofs.predecoded.highest.Given as goal

abbrev pub invariant-loop-area : goal.invariant-loop-area
invariant-loop-area l = highest l.most (map area_of (drop l.area-index l.areas)) ≡ highest 0 (map area_of l.areas)
