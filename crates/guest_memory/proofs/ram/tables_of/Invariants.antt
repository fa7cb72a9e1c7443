use Rattle.std.proofs.Common.{◌≡◌, ◌≤◌, length, map, take, vec_capacity}
use Rattle.guest_memory.specs.Flat.{AreTables, areas_of_tables}
use Rattle.guest_memory.specs.Loading.{memory_areas}
use Rattle.guest_memory.specs.Memories.{whole_size}
use Rattle.guest_memory.proofs.ram.tables_of.Given as goal

abbrev pub invariant-loop-part : goal.invariant-loop-part
invariant-loop-part l = record {
  reserved : length l.parts ≤ vec_capacity l.tables;
  counted : length l.tables.items ≡ l.part-index;
  areas : areas_of_tables l.tables.items ≡ map memory_areas (take l.part-index l.parts);
  tables : AreTables 0 l.tables.items;
  place : l.place ≡ whole_size (areas_of_tables l.tables.items);
}
