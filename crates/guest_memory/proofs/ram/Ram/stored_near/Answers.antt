use Rattle.std.proofs.Common.{◌≡◌, Bool, true, false, List, ℕ, ◌++◌, length, take, drop, refl, ap, ◌∙◌, arith}
use Rattle.std.proofs.lemmas.Grind.{common_steps}
use Rattle.std.specs.Bool.{OnTrue}
use Rattle.guest_bus.specs.Memory.{Memory}
use Rattle.guest_memory.specs.Flat.{AllBytes, memories_in}
use Rattle.guest_memory.specs.lemmas.FlatTerms.{memory_of_part}
use Rattle.guest_memory.specs.Memories.{with_map}
use Rattle.guest_memory.proofs.MemoriesLemmas.{kept_on, memories_changed, part_at}
use Rattle.guest_memory.proofs.NearLemmas.{near_within}
use Rattle.guest_memory.proofs.ram.Ram.stored_near.Goals as goal

-- what follows from what was done
on_true : {P Q : Type 0} → (b : Bool) → OnTrue b P → (P → Q) → OnTrue b Q
on_true true done f = f done
on_true false done f = tt

-- bytes that were written, or that are as before
all_bytes : (b : Bool) (old new : List ℕ) → OnTrue b (AllBytes new) → (b ≡ false → new ≡ old) → AllBytes old → AllBytes new
all_bytes true old new written as_before before = written
all_bytes false old new written as_before before = rw (as_before refl) before

pub stored-requires : goal.stored-requires
stored-requires c =
    let here = rw c.from.ensures at c.index-table.ensures in
    let part = part_at c.self.inside.tables.items c.self.inside.bytes.items c.self.inside.selected c.self.inside.selected c.index-table.result.now c.self.invariant.kept c.self.invariant.kept.memories.selected here in
    rw c.deref_mut.ensures.value (near_within c.index-table.result.now c.self.inside.near c.self.inside.bytes.items (c.self.invariant.near c.index-table.result.now here) part.is c.self.invariant.kept.few)

pub invariant_of-self : goal.invariant_of-self
invariant_of-self c =
    let counted : length c.stored.new.whole ≡ c.self.inside.bytes.len = grind (arith, common_steps) in
    let same : length c.stored.new.whole ≡ length c.self.inside.bytes.items = grind (arith, common_steps) in
    let e : take c.self.inside.bytes.len (c.stored.new.whole ++ drop (length c.stored.new.whole) c.self.inside.bytes.items) ≡ c.stored.new.whole = grind (arith, common_steps) in
    let bytes = all_bytes c.stored.result c.self.inside.bytes.items c.stored.new.whole c.stored.ensures.bytes (rw c.deref_mut.ensures.value at c.stored.ensures.not_done) c.self.invariant.kept.small in
    record { kept = rw e (kept_on c.self.inside.tables.items c.self.inside.bytes.items c.stored.new.whole c.self.inside.selected c.self.invariant.kept same bytes); near = c.self.invariant.near }

pub returns-clause-fault : goal.returns-clause-fault
returns-clause-fault c =
    let here = rw c.from.ensures at c.index-table.ensures in
    let part = part_at c.self.inside.tables.items c.self.inside.bytes.items c.self.inside.selected c.self.inside.selected c.index-table.result.now c.self.invariant.kept c.self.invariant.kept.memories.selected here in
    let done = rw c.deref_mut.ensures.value at c.stored.ensures.done in
    rw (← c.self.view_is, part.areas) (on_true c.stored.result done (λ each. (each c.index-table.result.now (c.self.invariant.near c.index-table.result.now here) part.is).free))

pub returns-clause-memory : goal.returns-clause-memory
returns-clause-memory c =
    let below = c.self.invariant.kept.memories.selected in
    let here = rw c.from.ensures at c.index-table.ensures in
    let part = part_at c.self.inside.tables.items c.self.inside.bytes.items c.self.inside.selected c.self.inside.selected c.index-table.result.now c.self.invariant.kept below here in
    let counted : length c.stored.new.whole ≡ c.self.inside.bytes.len = grind (arith, common_steps) in
    let same : length c.stored.new.whole ≡ length c.self.inside.bytes.items = grind (arith, common_steps) in
    let e : take c.self.inside.bytes.len (c.stored.new.whole ++ drop (length c.stored.new.whole) c.self.inside.bytes.items) ≡ c.stored.new.whole = grind (arith, common_steps) in
    let done = rw c.deref_mut.ensures.value at c.stored.ensures.done in
    rw (← c.self.view_is, e, part.areas, part.map) (on_true c.stored.result done (λ each.
    let stored = each c.index-table.result.now (c.self.invariant.near c.index-table.result.now here) part.is in
    (memories_changed c.self.inside.tables.items c.self.inside.bytes.items c.stored.new.whole c.self.inside.selected c.self.inside.selected c.index-table.result.now (memory_of_part c.index-table.result.now c.stored.new.whole) c.self.invariant.kept below here stored.others same refl) ∙ ap (λ (m : Memory). with_map c.self.inside.selected m (memories_in c.self.inside.tables.items c.self.inside.bytes.items c.self.inside.selected)) stored.memory))

pub returns-clause-memories : goal.returns-clause-memories
returns-clause-memories c = (invariant_of-self c).kept.memories
