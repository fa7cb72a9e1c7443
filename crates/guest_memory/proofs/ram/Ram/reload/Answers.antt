use Rattle.std.proofs.Common.{◌≡◌, ◌≢◌, ℕ, List, ◌++◌, length, take, drop, ap, ◌∙◌, arith}
use Rattle.std.proofs.lemmas.Grind.{common_steps}
use Rattle.guest_bus.specs.Memory.{Area}
use Rattle.guest_memory.specs.Flat.{memories_in}
use Rattle.guest_memory.specs.Memories.{map_at}
use Rattle.guest_memory.proofs.MemoriesLemmas.{kept_on, memories_changed, part_at, same_elsewhere}
use Rattle.guest_memory.proofs.ram.Ram.reload.Goals as goal
use Rattle.guest_memory.specs.Loading.{areas_with_image}

pub invariant_of-self : goal.invariant_of-self
invariant_of-self c =
    let counted : length c.reload.new.whole ≡ c.self.inside.bytes.len = grind (arith, common_steps) in
    let same : length c.reload.new.whole ≡ length c.self.inside.bytes.items = grind (arith, common_steps) in
    let e : take c.self.inside.bytes.len (c.reload.new.whole ++ drop (length c.reload.new.whole) c.self.inside.bytes.items) ≡ c.reload.new.whole = grind (arith, common_steps) in
    record { kept = rw e (kept_on c.self.inside.tables.items c.self.inside.bytes.items c.reload.new.whole c.self.inside.selected c.self.invariant.kept same c.reload.ensures.bytes); near = c.self.invariant.near }

pub reload-requires-clause-inside : goal.reload-requires-clause-inside
reload-requires-clause-inside c =
    let below = rw (← c.self.view_is) at c.requires.partition in
    let here = rw c.from.ensures at c.index.ensures in
    let part = part_at c.self.inside.tables.items c.self.inside.bytes.items c.self.inside.selected c.args.p c.index.result.now c.self.invariant.kept below here in
    let inside = rw (← c.self.view_is) at c.requires.inside in
    rw (← part.areas) inside

pub returns : goal.returns
returns c =
    let below = rw (← c.self.view_is) at c.requires.partition in
    let here = rw c.from.ensures at c.index.ensures in
    let part = part_at c.self.inside.tables.items c.self.inside.bytes.items c.self.inside.selected c.args.p c.index.result.now c.self.invariant.kept below here in
    let counted : length c.reload.new.whole ≡ c.self.inside.bytes.len = grind (arith, common_steps) in
    let same : length c.reload.new.whole ≡ length c.self.inside.bytes.items = grind (arith, common_steps) in
    let e : take c.self.inside.bytes.len (c.reload.new.whole ++ drop (length c.reload.new.whole) c.self.inside.bytes.items) ≡ c.reload.new.whole = grind (arith, common_steps) in
    let around = rw c.deref_mut.ensures.value at c.reload.ensures.others in
    let changed = memories_changed c.self.inside.tables.items c.self.inside.bytes.items c.reload.new.whole c.self.inside.selected c.args.p c.index.result.now _ c.self.invariant.kept below here around same c.reload.ensures.memory in
    let memory = ap (λ (as_seen : List Area). areas_with_image as_seen c.args.image.now) part.areas in
    record {
      value = rw (← c.self.view_is, e, part.areas) changed;
      others = rw (← c.self.view_is, e) (λ (other : ℕ) (differs : other ≢ c.args.p).
          ap (map_at other) changed ∙ same_elsewhere (memories_in c.self.inside.tables.items c.self.inside.bytes.items c.self.inside.selected) c.args.p _ other differs);
    }

pub reload-requires-clause-part : goal.reload-requires-clause-part
reload-requires-clause-part c =
    let below = rw (← c.self.view_is) at c.requires.partition in
    let here = rw c.from.ensures at c.index.ensures in
    let part = part_at c.self.inside.tables.items c.self.inside.bytes.items c.self.inside.selected c.args.p c.index.result.now c.self.invariant.kept below here in
    rw c.deref_mut.ensures.value part.is
