use Rattle.std.proofs.Common.{◌≡◌, ◌++◌, length, take, drop, refl, ap, ◌∙◌, arith}
use Rattle.std.proofs.lemmas.Grind.{common_steps}
use Rattle.guest_memory.specs.Flat.{memories_in}
use Rattle.guest_memory.specs.lemmas.FlatTerms.{memory_of_part}
use Rattle.guest_bus.specs.Memory.{Memory}
use Rattle.guest_memory.specs.Memories.{with_map}
use Rattle.guest_memory.proofs.MemoriesLemmas.{kept_on, memories_changed, part_at}
use Rattle.guest_memory.proofs.NearLemmas.{near_selected, parts_counted}
use Rattle.guest_memory.proofs.ram.Ram.store_elsewhere.Goals as goal

pub invariant_of-self : goal.invariant_of-self
invariant_of-self c =
    let counted : length c.store.new.whole ≡ c.self.inside.bytes.len = grind (arith, common_steps) in
    let same : length c.store.new.whole ≡ length c.self.inside.bytes.items = grind (arith, common_steps) in
    let e : take c.self.inside.bytes.len (c.store.new.whole ++ drop (length c.store.new.whole) c.self.inside.bytes.items) ≡ c.store.new.whole = grind (arith, common_steps) in
    record { kept = rw e (kept_on c.self.inside.tables.items c.self.inside.bytes.items c.store.new.whole c.self.inside.selected c.self.invariant.kept same c.store.ensures.bytes); near = near_selected c.self.inside.tables.items c.self.inside.selected c.index-table.result.now c.store.new.near (parts_counted c.self.inside.tables.items c.self.inside.selected c.self.invariant.kept.memories.selected) (rw c.from.ensures at c.index-table.ensures) c.store.ensures.near }

pub returns : goal.returns
returns c =
    let below = c.self.invariant.kept.memories.selected in
    let here = rw c.from.ensures at c.index-table.ensures in
    let part = part_at c.self.inside.tables.items c.self.inside.bytes.items c.self.inside.selected c.self.inside.selected c.index-table.result.now c.self.invariant.kept below here in
    let counted : length c.store.new.whole ≡ c.self.inside.bytes.len = grind (arith, common_steps) in
    let same : length c.store.new.whole ≡ length c.self.inside.bytes.items = grind (arith, common_steps) in
    let e : take c.self.inside.bytes.len (c.store.new.whole ++ drop (length c.store.new.whole) c.self.inside.bytes.items) ≡ c.store.new.whole = grind (arith, common_steps) in
    let around = rw c.deref_mut.ensures.value at c.store.ensures.others in
    let put = rw c.deref_mut.ensures.value at c.store.ensures.memory in
    let changed = memories_changed c.self.inside.tables.items c.self.inside.bytes.items c.store.new.whole c.self.inside.selected c.self.inside.selected c.index-table.result.now (memory_of_part c.index-table.result.now c.store.new.whole) c.self.invariant.kept below here around same refl in
    record {
      fault = rw (← c.self.view_is, part.areas) c.store.ensures.fault;
      memory = rw (← c.self.view_is, e, part.areas, part.map) (changed ∙ ap (λ (m : Memory). with_map c.self.inside.selected m (memories_in c.self.inside.tables.items c.self.inside.bytes.items c.self.inside.selected)) put);
      memories = (invariant_of-self c).kept.memories;
    }

pub store-requires-clause-near : goal.store-requires-clause-near
store-requires-clause-near c =
    let here = rw c.from.ensures at c.index-table.ensures in
    c.self.invariant.near c.index-table.result.now here

pub store-requires-clause-part : goal.store-requires-clause-part
store-requires-clause-part c =
    let below = c.self.invariant.kept.memories.selected in
    let here = rw c.from.ensures at c.index-table.ensures in
    let part = part_at c.self.inside.tables.items c.self.inside.bytes.items c.self.inside.selected c.self.inside.selected c.index-table.result.now c.self.invariant.kept below here in
    rw c.deref_mut.ensures.value part.is

pub store-requires-clause-few : goal.store-requires-clause-few
store-requires-clause-few c = rw c.deref_mut.ensures.value c.self.invariant.kept.few
