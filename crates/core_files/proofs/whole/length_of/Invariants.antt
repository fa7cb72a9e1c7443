use Rattle.std.proofs.Common.{◌≡◌, ◌+◌, ◌*◌, ◌≤◌, map, take}
use Rattle.std.specs.List.{sum_by}
use Rattle.guest_memory.specs.Loading.{area_of}
use Rattle.core_files.specs.Length.{area_length, head_length}
use Rattle.core_files.proofs.whole.length_of.Given as goal

abbrev pub invariant-loop-area : goal.invariant-loop-area
invariant-loop-area l = record {
  counted : l.length ≡ head_length + sum_by area_length (take l.area-index (map area_of l.areas));
  few : l.length ≤ 3471 + l.area-index * 4294967303;
}
