use Rattle.std.proofs.Common.{rules, ℕ, ◌*◌, List, [], get_or, map, sym, subst, arith}
use Rattle.std.proofs.lemmas.List.{length-map}
use Rattle.guest_bus.specs.Memory.{Area}
use Rattle.guest_memory.specs.Loading.{memory_areas}
use Rattle.guest_memory.specs.Memories.{ArePlaced}
use Rattle.predecoded_memory.specs.Shares.{ArePartRows}
use Rattle.predecoded_memory.proofs.FirstLemmas.{parts_push, part_areas}
use Rattle.predecoded_memory.proofs.predecoded.rows_of.Goals as goal

pub rows_in-requires-clause-placed : goal.rows_in-requires-clause-placed
rows_in-requires-clause-placed c =
    subst (λ (areas : List Area). ArePlaced areas) (part_areas c.args.parts.now c.loop-part.part-index c.part-item.result c.loop-part-test.true c.part-item.is)
    (c.requires.placed c.loop-part.part-index [] (omega (arith, length-map c.args.parts.now memory_areas, c.loop-part-test.true)))

pub loop-part-preserved : goal.loop-part-preserved
loop-part-preserved c =
    let areas = part_areas c.args.parts.now c.loop-part.part-index c.part-item.result c.loop-part-test.true c.part-item.is in
    let is : ArePartRows c.args.share (c.loop-part.part-index * c.args.share) (get_or (map memory_areas c.args.parts.now) c.loop-part.part-index []) c.rows_in.result =
    subst (λ (n : ℕ). ArePartRows c.args.share n (get_or (map memory_areas c.args.parts.now) c.loop-part.part-index []) c.rows_in.result) c.loop-part.invariant.base
    (subst (λ (a : List Area). ArePartRows c.args.share c.loop-part.base a c.rows_in.result) (sym areas) c.rows_in.ensures) in
    record {
      reserved = search rules;
      base = omega (arith, c.loop-part.invariant.base);
      found = rw c.push_reserved.ensures.items (parts_push c.args.share c.loop-part.part-index (map memory_areas c.args.parts.now) c.loop-part.found.items c.rows_in.result c.loop-part.invariant.found is);
    }
