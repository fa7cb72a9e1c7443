use Rattle.std.proofs.Common.{subst, sym}
use Rattle.guest_memory.specs.Memories.{AreMemories, Memories}
use Rattle.predecoded_memory.specs.Shares.{AreKept}
use Rattle.predecoded_memory.proofs.KeptLemmas.{listed_at, part_at, selected_kept}
use Rattle.predecoded_memory.proofs.predecoded.PredecodedRam.select.Goals as goal

pub invariant_of-self : goal.invariant_of-self
invariant_of-self c =
    let below = rw (← c.self.view_is) at c.requires in
    let here = rw c.from.ensures at c.index.ensures in
    let part = part_at c.self.inside.ram c.self.inside.rows.items c.self.inside.lengths.items c.self.inside.parts.items c.self.inside.share c.self.inside.top c.self.inside.own c.args.p c.index.result.now c.self.invariant below here in
    subst (λ (m : Memories). AreKept m c.self.inside.rows.items c.self.inside.lengths.items c.self.inside.parts.items c.self.inside.share c.self.inside.top c.index.result.now) (sym c.select.ensures.value)
    (selected_kept c.self.inside.ram c.self.inside.rows.items c.self.inside.lengths.items c.self.inside.parts.items c.self.inside.share c.self.inside.top c.self.inside.own c.args.p c.index.result.now
    c.self.invariant (subst (λ (m : Memories). AreMemories m) c.select.ensures.value c.selected-now.ensures.memories) part
    (listed_at c.self.inside.ram c.self.inside.rows.items c.self.inside.lengths.items c.self.inside.parts.items c.self.inside.share c.self.inside.top c.self.inside.own c.args.p c.index.result.now c.self.invariant below here))
