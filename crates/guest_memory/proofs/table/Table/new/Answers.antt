use Rattle.std.proofs.Common.{rules, false, ap, ◌∙◌, arith}
use Rattle.guest_bus.specs.Memory.{Area}
use Rattle.guest_memory.specs.Memories.{areas_size}
use Rattle.guest_memory.proofs.TableLemmas.{area_more, areas_push, follow_more, size_push}
use Rattle.guest_memory.proofs.table.Table.new.Goals as goal

pub overflow_add-size : goal.overflow_add-size
overflow_add-size c =
    let sized = c.loop-area.invariant.size ∙ ap areas_size c.loop-area.invariant.areas in
    omega (arith, sized, area_more c.args.areas.now c.loop-area.area-index (record { start = 0; size = 0; read_only = false }) c.loop-area-test.true, c.requires)

pub loop-area-preserved : goal.loop-area-preserved
loop-area-preserved c = record {
  reserved = search rules;
  counted = search rules;
  areas = rw c.push_reserved.ensures.items (areas_push c.loop-area.entries.items c.new.result c.args.areas.now c.loop-area.area-index (record { start = 0; size = 0; read_only = false }) c.loop-area-test.true c.loop-area.invariant.areas c.new.ensures.area);
  follow = rw c.push_reserved.ensures.items (follow_more c.loop-area.entries.items c.new.result c.loop-area.size c.loop-area.invariant.follow c.loop-area.invariant.size c.new.ensures.place);
  size = rw c.push_reserved.ensures.items (let e = ap (λ (a : Area). a.size) c.new.ensures.area in omega (arith, e, c.loop-area.invariant.size, size_push c.loop-area.entries.items c.new.result));
}
