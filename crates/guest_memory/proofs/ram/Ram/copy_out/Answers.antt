use Rattle.std.proofs.Common.{◌≡◌, ◌≢◌, ℕ, List, ◌++◌, length, take, drop, refl, ap, ◌∙◌, arith}
use Rattle.std.proofs.lemmas.Grind.{common_steps}
use Rattle.guest_bus.specs.Memory.{Memory, with_bytes}
use Rattle.guest_memory.specs.Flat.{memories_in}
use Rattle.guest_memory.specs.lemmas.FlatTerms.{memory_of_part}
use Rattle.guest_memory.specs.Memories.{map_at, with_map}
use Rattle.guest_memory.proofs.MemoriesLemmas.{kept_on, memories_changed, on_err, on_ok, part_at, same_elsewhere}
use Rattle.guest_memory.proofs.ram.Ram.copy_out.Goals as goal

pub invariant_of-self : goal.invariant_of-self
invariant_of-self c =
    let counted : length c.copy_out.new.whole ≡ c.self.inside.bytes.len = grind (arith, common_steps) in
    let same : length c.copy_out.new.whole ≡ length c.self.inside.bytes.items = grind (arith, common_steps) in
    let e : take c.self.inside.bytes.len (c.copy_out.new.whole ++ drop (length c.copy_out.new.whole) c.self.inside.bytes.items) ≡ c.copy_out.new.whole = grind (arith, common_steps) in
    record { kept = rw e (kept_on c.self.inside.tables.items c.self.inside.bytes.items c.copy_out.new.whole c.self.inside.selected c.self.invariant.kept same c.copy_out.ensures.bytes); near = c.self.invariant.near }

pub returns : goal.returns
returns c =
    let below = rw (← c.self.view_is) at c.requires in
    let here = rw c.from.ensures at c.index.ensures in
    let part = part_at c.self.inside.tables.items c.self.inside.bytes.items c.self.inside.selected c.args.p c.index.result.now c.self.invariant.kept below here in
    let counted : length c.copy_out.new.whole ≡ c.self.inside.bytes.len = grind (arith, common_steps) in
    let same : length c.copy_out.new.whole ≡ length c.self.inside.bytes.items = grind (arith, common_steps) in
    let e : take c.self.inside.bytes.len (c.copy_out.new.whole ++ drop (length c.copy_out.new.whole) c.self.inside.bytes.items) ≡ c.copy_out.new.whole = grind (arith, common_steps) in
    let around = rw c.deref_mut.ensures.value at c.copy_out.ensures.others in
    let changed = memories_changed c.self.inside.tables.items c.self.inside.bytes.items c.copy_out.new.whole c.self.inside.selected c.args.p c.index.result.now (memory_of_part c.index.result.now c.copy_out.new.whole) c.self.invariant.kept below here around same refl in
    let written = rw c.deref_mut.ensures.value at c.copy_out.ensures.written in
    let unchanged = rw c.deref_mut.ensures.value at c.copy_out.ensures.unchanged in
    record {
      answer = rw (← c.self.view_is, part.areas) c.copy_out.ensures.answer;
      written = rw (← c.self.view_is, e, part.map) (on_ok _ _ c.copy_out.result (λ (put : memory_of_part c.index.result.now c.copy_out.new.whole ≡ with_bytes (memory_of_part c.index.result.now c.self.inside.bytes.items) c.args.address c.args.from.now).
          changed ∙ ap (λ (m : Memory). with_map c.args.p m (memories_in c.self.inside.tables.items c.self.inside.bytes.items c.self.inside.selected)) put) written);
      unchanged = rw (← c.self.view_is, e) (on_err _ _ c.copy_out.result (λ (put : c.copy_out.new.whole ≡ c.self.inside.bytes.items).
          ap (λ (bytes : List ℕ). memories_in c.self.inside.tables.items bytes c.self.inside.selected) put) unchanged);
      others = rw (← c.self.view_is, e) (λ (other : ℕ) (differs : other ≢ c.args.p).
          ap (map_at other) changed ∙ same_elsewhere (memories_in c.self.inside.tables.items c.self.inside.bytes.items c.self.inside.selected) c.args.p (memory_of_part c.index.result.now c.copy_out.new.whole) other differs);
    }

pub copy_out-requires : goal.copy_out-requires
copy_out-requires c =
    let below = rw (← c.self.view_is) at c.requires in
    let here = rw c.from.ensures at c.index.ensures in
    let part = part_at c.self.inside.tables.items c.self.inside.bytes.items c.self.inside.selected c.args.p c.index.result.now c.self.invariant.kept below here in
    rw c.deref_mut.ensures.value part.is
