use Rattle.std.proofs.Common.{◌≡◌, ◌+◌, ◌++◌, length, map, take}
use Rattle.std.specs.List.{flat_map, sum_by}
use Rattle.guest_memory.specs.Loading.{area_of}
use Rattle.machine_model.specs.CoreFile.{area_bytes}
use Rattle.system_state.specs.State.{memory_of}
use Rattle.core_files.specs.Length.{area_length}
use Rattle.core_files.proofs.areas.put_each.Given as goal

abbrev pub invariant-loop-area : goal.invariant-loop-area
invariant-loop-area l = record {
  text : take l.after l.into ≡ take l.at l.fn.into ++ flat_map (area_bytes (memory_of l.p l.sys.machine)) (take l.area-index (map area_of l.areas));
  ends : l.after ≡ l.at + sum_by area_length (take l.area-index (map area_of l.areas));
  room : length l.into ≡ length l.fn.into;
}
