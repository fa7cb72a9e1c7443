use Rattle.std.proofs.Common.{◌≡◌, ◌≤◌, length, map, take, vec_capacity}
use Rattle.guest_memory.specs.Flat.{Follow, listed}
use Rattle.guest_memory.specs.Loading.{area_of}
use Rattle.guest_memory.specs.Memories.{areas_size}
use Rattle.guest_memory.proofs.table.Table.new.Given as goal

abbrev pub invariant-loop-area : goal.invariant-loop-area
invariant-loop-area l = record {
  reserved : length l.areas ≤ vec_capacity l.entries;
  counted : length l.entries.items ≡ l.area-index;
  areas : listed l.entries.items ≡ map area_of (take l.area-index l.areas);
  follow : Follow 0 l.entries.items;
  size : l.size ≡ areas_size (listed l.entries.items);
}
