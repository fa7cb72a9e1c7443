use Rattle.std.proofs.Common.{rules, ap, ◌∙◌, arith}
use Rattle.guest_memory.specs.Memories.{areas_size, whole_size}
use Rattle.guest_memory.proofs.TableLemmas.{part_more, parts_push, tables_more, whole_push}
use Rattle.guest_memory.proofs.ram.tables_of.Goals as goal

pub table_of-requires : goal.table_of-requires
table_of-requires c =
    let place = c.loop-part.invariant.place ∙ ap whole_size c.loop-part.invariant.areas in
    omega (arith, place, part_more c.args.parts.now c.loop-part.part-index c.part-item.result c.loop-part-test.true c.part-item.is, c.requires)

pub overflow_add-place : goal.overflow_add-place
overflow_add-place c =
    let place = c.loop-part.invariant.place ∙ ap whole_size c.loop-part.invariant.areas in
    omega (arith, place, part_more c.args.parts.now c.loop-part.part-index c.part-item.result c.loop-part-test.true c.part-item.is, c.size-place.ensures, c.in_ok-table.ensures.table.sized, ap areas_size c.in_ok-table.ensures.areas, c.requires)

pub loop-part-preserved : goal.loop-part-preserved
loop-part-preserved c = record {
  reserved = search rules;
  counted = search rules;
  areas = rw c.push_reserved.ensures.items (parts_push c.loop-part.tables.items c.in_ok-table.table c.args.parts.now c.loop-part.part-index c.part-item.result c.loop-part-test.true c.part-item.is c.loop-part.invariant.areas c.in_ok-table.ensures.areas);
  tables = rw c.push_reserved.ensures.items (tables_more c.loop-part.tables.items c.in_ok-table.table c.loop-part.place c.loop-part.invariant.tables c.loop-part.invariant.place c.in_ok-table.ensures.table);
  place = rw c.push_reserved.ensures.items (omega (arith, c.loop-part.invariant.place, c.size-place.ensures, c.in_ok-table.ensures.table.sized, whole_push c.loop-part.tables.items c.in_ok-table.table));
}
