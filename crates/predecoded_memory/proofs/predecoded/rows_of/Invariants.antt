use Rattle.std.proofs.Common.{◌≡◌, ◌*◌, ◌≤◌, length, map, vec_capacity}
use Rattle.guest_memory.specs.Loading.{memory_areas}
use Rattle.predecoded_memory.proofs.FirstLemmas.{AreFirstParts}
use Rattle.predecoded_memory.proofs.predecoded.rows_of.Given as goal

abbrev pub invariant-loop-part : goal.invariant-loop-part
invariant-loop-part l = record {
  reserved : length l.parts ≤ vec_capacity l.found;
  base : l.base ≡ l.part-index * l.share;
  found : AreFirstParts l.share l.part-index (map memory_areas l.parts) l.found.items;
}
