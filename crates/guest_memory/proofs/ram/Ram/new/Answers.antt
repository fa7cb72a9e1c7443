use Rattle.std.proofs.Common.{List, ◌<◌, ◌≤◌, length, map, ap, ◌∙◌, arith}
use Rattle.std.proofs.lemmas.List.{length-map}
use Rattle.xm_conf.specs.Configuration.{Part}
use Rattle.xm_conf.specs.Limits.{most_parts}
use Rattle.guest_memory.specs.Loading.{memory_areas, zeros_in}
use Rattle.guest_memory.specs.Memories.{Memories}
use Rattle.guest_memory.proofs.NearLemmas.{near_selected, parts_counted}
use Rattle.guest_memory.proofs.ZeroLemmas.{kept_new, seen_new}
use Rattle.guest_memory.proofs.ram.Ram.new.Goals as goal

-- new memories of this many partitions
abbrev fresh : List Part → Memories
fresh parts = record { areas = map memory_areas parts; maps = map zeros_in (map memory_areas parts); selected = 0 }

pub invariant_of-result : goal.invariant_of-result
invariant_of-result c =
    let some : 0 < length (map memory_areas c.parts_of.result.now) = omega (arith, length-map c.parts_of.result.now memory_areas, c.parts_of.ensures.counted.some) in
    let few : length (map memory_areas c.parts_of.result.now) ≤ most_parts = omega (arith, length-map c.parts_of.result.now memory_areas, c.parts_of.ensures.counted.few) in
    let counted : 0 < length c.in_ok-made.made.0.items = parts_counted c.in_ok-made.made.0.items 0 (rw c.in_ok-made.ensures.areas some) in
    record {
      kept = kept_new c.in_ok-made.made.0.items (map memory_areas c.parts_of.result.now) c.in_ok-made.made.1 c.in_ok-bytes.bytes.items c.in_ok-made.ensures.areas c.in_ok-made.ensures.tables c.in_ok-made.ensures.size
          (omega (arith, c.in_ok-made.ensures.size, c.parts_of.ensures.few)) c.in_ok-bytes.ensures some few c.parts_of.ensures.placed;
      near = near_selected c.in_ok-made.made.0.items 0 c.index-first.result.now c.near-near.result counted c.index-first.ensures c.near-near.ensures;
    }

pub returns : goal.returns
returns c = record {
  value = seen_new c.in_ok-made.made.0.items (map memory_areas c.parts_of.result.now) c.in_ok-made.made.1 c.in_ok-bytes.bytes.items c.in_ok-made.ensures.areas c.in_ok-made.ensures.size c.in_ok-bytes.ensures
      ∙ ap fresh c.parts_of.ensures.value;
}
