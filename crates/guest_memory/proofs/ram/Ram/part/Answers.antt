use Rattle.std.proofs.Common.{take, drop, ◌∙◌, arith}
use Rattle.guest_memory.proofs.MemoriesLemmas.{part_at, part_shown}
use Rattle.guest_memory.proofs.ram.Ram.part.Goals as goal

pub part-requires : goal.part-requires
part-requires c =
    let below = rw (← c.self.view_is) at c.requires in
    let here = rw c.from.ensures at c.index-table.ensures in
    let part = part_at c.self.inside.tables.items c.self.inside.bytes.items c.self.inside.selected c.args.p c.index-table.result.now c.self.invariant.kept below here in
    rw c.deref.ensures.value (omega (arith, part.is.within, c.place.ensures, c.size.ensures))

pub returns-clause-size : goal.returns-clause-size
returns-clause-size c =
    let below = rw (← c.self.view_is) at c.requires in
    let here = rw c.from.ensures at c.index-table.ensures in
    let part = part_at c.self.inside.tables.items c.self.inside.bytes.items c.self.inside.selected c.args.p c.index-table.result.now c.self.invariant.kept below here in
    rw (← c.self.view_is) (part_shown c.self.inside.tables.items c.self.inside.bytes.items c.self.inside.selected c.args.p c.index-table.result.now c.part.result.now part
    (c.part.ensures ∙ (λ i. take (c.size.ensures i) (drop (c.place.ensures i) (c.deref.ensures.value i))))).0

pub returns-clause-map : goal.returns-clause-map
returns-clause-map c =
    let below = rw (← c.self.view_is) at c.requires in
    let here = rw c.from.ensures at c.index-table.ensures in
    let part = part_at c.self.inside.tables.items c.self.inside.bytes.items c.self.inside.selected c.args.p c.index-table.result.now c.self.invariant.kept below here in
    rw (← c.self.view_is) (part_shown c.self.inside.tables.items c.self.inside.bytes.items c.self.inside.selected c.args.p c.index-table.result.now c.part.result.now part
    (c.part.ensures ∙ (λ i. take (c.size.ensures i) (drop (c.place.ensures i) (c.deref.ensures.value i))))).1
