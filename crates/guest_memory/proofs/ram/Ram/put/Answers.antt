use Rattle.std.proofs.Common.{◌≡◌, ◌≢◌, ℕ, ◌++◌, length, take, drop, refl, ap, ◌∙◌, arith}
use Rattle.std.proofs.lemmas.Grind.{common_steps}
use Rattle.guest_bus.specs.Memory.{Memory}
use Rattle.guest_memory.specs.Flat.{memories_in}
use Rattle.guest_memory.specs.lemmas.FlatTerms.{memory_of_part}
use Rattle.guest_memory.specs.Memories.{map_at, with_map}
use Rattle.guest_memory.proofs.MemoriesLemmas.{kept_on, memories_changed, part_at, same_elsewhere}
use Rattle.guest_memory.proofs.ram.Ram.put.Goals as goal

pub invariant_of-self : goal.invariant_of-self
invariant_of-self c =
    let counted : length c.put.new.whole ≡ c.self.inside.bytes.len = grind (arith, common_steps) in
    let same : length c.put.new.whole ≡ length c.self.inside.bytes.items = grind (arith, common_steps) in
    let e : take c.self.inside.bytes.len (c.put.new.whole ++ drop (length c.put.new.whole) c.self.inside.bytes.items) ≡ c.put.new.whole = grind (arith, common_steps) in
    record { kept = rw e (kept_on c.self.inside.tables.items c.self.inside.bytes.items c.put.new.whole c.self.inside.selected c.self.invariant.kept same c.put.ensures.bytes); near = c.self.invariant.near }

pub returns : goal.returns
returns c =
    let below = rw (← c.self.view_is) at c.requires.partition in
    let here = rw c.from.ensures at c.index.ensures in
    let part = part_at c.self.inside.tables.items c.self.inside.bytes.items c.self.inside.selected c.args.p c.index.result.now c.self.invariant.kept below here in
    let counted : length c.put.new.whole ≡ c.self.inside.bytes.len = grind (arith, common_steps) in
    let same : length c.put.new.whole ≡ length c.self.inside.bytes.items = grind (arith, common_steps) in
    let e : take c.self.inside.bytes.len (c.put.new.whole ++ drop (length c.put.new.whole) c.self.inside.bytes.items) ≡ c.put.new.whole = grind (arith, common_steps) in
    let around = rw c.deref_mut.ensures.value at c.put.ensures.others in
    let changed = memories_changed c.self.inside.tables.items c.self.inside.bytes.items c.put.new.whole c.self.inside.selected c.args.p c.index.result.now (memory_of_part c.index.result.now c.put.new.whole) c.self.invariant.kept below here around same refl in
    let written = rw c.deref_mut.ensures.value at c.put.ensures.memory in
    record {
      value = rw (← c.self.view_is, e, part.map)
          (changed ∙ ap (λ (m : Memory). with_map c.args.p m (memories_in c.self.inside.tables.items c.self.inside.bytes.items c.self.inside.selected)) written);
      others = rw (← c.self.view_is, e) (λ (other : ℕ) (differs : other ≢ c.args.p).
          ap (map_at other) changed ∙ same_elsewhere (memories_in c.self.inside.tables.items c.self.inside.bytes.items c.self.inside.selected) c.args.p (memory_of_part c.index.result.now c.put.new.whole) other differs);
    }

pub put-requires-clause-part : goal.put-requires-clause-part
put-requires-clause-part c =
    let below = rw (← c.self.view_is) at c.requires.partition in
    let here = rw c.from.ensures at c.index.ensures in
    let part = part_at c.self.inside.tables.items c.self.inside.bytes.items c.self.inside.selected c.args.p c.index.result.now c.self.invariant.kept below here in
    rw c.deref_mut.ensures.value part.is

pub put-requires-clause-readable : goal.put-requires-clause-readable
put-requires-clause-readable c =
    let below = rw (← c.self.view_is) at c.requires.partition in
    let here = rw c.from.ensures at c.index.ensures in
    let readable = rw (← c.self.view_is) at c.requires.readable in
    let part = part_at c.self.inside.tables.items c.self.inside.bytes.items c.self.inside.selected c.args.p c.index.result.now c.self.invariant.kept below here in
    rw (← part.areas) readable
