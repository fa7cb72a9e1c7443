use Rattle.std.proofs.Common.{◌≡◌, ◌≢◌, ℕ, ◌++◌, length, take, drop, refl, ap, ◌∙◌, arith}
use Rattle.std.proofs.lemmas.Grind.{common_steps}
use Rattle.guest_bus.specs.Memory.{Memory}
use Rattle.guest_memory.specs.Flat.{memories_in}
use Rattle.guest_memory.specs.lemmas.FlatTerms.{memory_of_part}
use Rattle.guest_memory.specs.Memories.{map_at, with_map}
use Rattle.guest_memory.proofs.MemoriesLemmas.{kept_on, memories_changed, part_at, same_elsewhere}
use Rattle.guest_memory.proofs.ram.Ram.flip.Goals as goal

pub invariant_of-self : goal.invariant_of-self
invariant_of-self c =
    let counted : length c.flip.new.whole ≡ c.self.inside.bytes.len = grind (arith, common_steps) in
    let same : length c.flip.new.whole ≡ length c.self.inside.bytes.items = grind (arith, common_steps) in
    let e : take c.self.inside.bytes.len (c.flip.new.whole ++ drop (length c.flip.new.whole) c.self.inside.bytes.items) ≡ c.flip.new.whole = grind (arith, common_steps) in
    record { kept = rw e (kept_on c.self.inside.tables.items c.self.inside.bytes.items c.flip.new.whole c.self.inside.selected c.self.invariant.kept same c.flip.ensures.bytes); near = c.self.invariant.near }

pub returns : goal.returns
returns c =
    let below = rw (← c.self.view_is) at c.requires.partition in
    let here = rw c.from.ensures at c.index.ensures in
    let part = part_at c.self.inside.tables.items c.self.inside.bytes.items c.self.inside.selected c.args.p c.index.result.now c.self.invariant.kept below here in
    let counted : length c.flip.new.whole ≡ c.self.inside.bytes.len = grind (arith, common_steps) in
    let same : length c.flip.new.whole ≡ length c.self.inside.bytes.items = grind (arith, common_steps) in
    let e : take c.self.inside.bytes.len (c.flip.new.whole ++ drop (length c.flip.new.whole) c.self.inside.bytes.items) ≡ c.flip.new.whole = grind (arith, common_steps) in
    let around = rw c.deref_mut.ensures.value at c.flip.ensures.others in
    let changed = memories_changed c.self.inside.tables.items c.self.inside.bytes.items c.flip.new.whole c.self.inside.selected c.args.p c.index.result.now (memory_of_part c.index.result.now c.flip.new.whole) c.self.invariant.kept below here around same refl in
    let flipped = rw c.deref_mut.ensures.value at c.flip.ensures.memory in
    record {
      value = rw (← c.self.view_is, e, part.map)
          (changed ∙ ap (λ (m : Memory). with_map c.args.p m (memories_in c.self.inside.tables.items c.self.inside.bytes.items c.self.inside.selected)) flipped);
      others = rw (← c.self.view_is, e) (λ (other : ℕ) (differs : other ≢ c.args.p).
          ap (map_at other) changed ∙ same_elsewhere (memories_in c.self.inside.tables.items c.self.inside.bytes.items c.self.inside.selected) c.args.p (memory_of_part c.index.result.now c.flip.new.whole) other differs);
    }

pub flip-requires-clause-part : goal.flip-requires-clause-part
flip-requires-clause-part c =
    let below = rw (← c.self.view_is) at c.requires.partition in
    let here = rw c.from.ensures at c.index.ensures in
    let part = part_at c.self.inside.tables.items c.self.inside.bytes.items c.self.inside.selected c.args.p c.index.result.now c.self.invariant.kept below here in
    rw c.deref_mut.ensures.value part.is

pub flip-requires-clause-readable : goal.flip-requires-clause-readable
flip-requires-clause-readable c =
    let below = rw (← c.self.view_is) at c.requires.partition in
    let here = rw c.from.ensures at c.index.ensures in
    let readable = rw (← c.self.view_is) at c.requires.readable in
    let part = part_at c.self.inside.tables.items c.self.inside.bytes.items c.self.inside.selected c.args.p c.index.result.now c.self.invariant.kept below here in
    rw (← part.areas) readable
