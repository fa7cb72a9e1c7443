use Rattle.std.proofs.Common.{ℕ, ◌+◌, ap, ◌∙◌, arith}
use Rattle.guest_memory.specs.Flat.{memories_in}
use Rattle.guest_memory.specs.Memories.{place_at}
use Rattle.guest_memory.proofs.MemoriesLemmas.{part_at, place_of_area}
use Rattle.guest_memory.proofs.ram.Ram.place.Goals as goal

pub place_in-requires-clause-follow : goal.place_in-requires-clause-follow
place_in-requires-clause-follow c =
    let below = rw (← c.self.view_is) at c.requires.partition in
    let here = rw c.from.ensures at c.index-table.ensures in
    let part = part_at c.self.inside.tables.items c.self.inside.bytes.items c.self.inside.selected c.args.p c.index-table.result.now c.self.invariant.kept below here in
    rw c.entries.ensures part.is.space.follow

pub overflow_add-result : goal.overflow_add-result
overflow_add-result c =
    let below = rw (← c.self.view_is) at c.requires.partition in
    let here = rw c.from.ensures at c.index-table.ensures in
    let place = place_of_area c.self.inside.tables.items c.self.inside.bytes.items c.self.inside.selected c.args.p c.from-number.result c.index-table.result.now c.self.invariant.kept below here in
    let own = rw c.entries.ensures at c.place_in.ensures in
    omega (arith, c.place.ensures, own, place.1, c.self.invariant.kept.few)

pub returns : goal.returns
returns c =
    let below = rw (← c.self.view_is) at c.requires.partition in
    let here = rw c.from.ensures at c.index-table.ensures in
    let place = place_of_area c.self.inside.tables.items c.self.inside.bytes.items c.self.inside.selected c.args.p c.from-number.result c.index-table.result.now c.self.invariant.kept below here in
    let own = rw c.entries.ensures at c.place_in.ensures in
    record {
      value = rw (← c.self.view_is) ((λ i. c.place.ensures i + own i) ∙ place.0 ∙ ap (λ (k : ℕ). place_at c.args.p k (memories_in c.self.inside.tables.items c.self.inside.bytes.items c.self.inside.selected)) c.from-number.ensures);
    }
