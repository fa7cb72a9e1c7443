use Rattle.guest_memory.proofs.NearLemmas.{near_selected, parts_counted}
use Rattle.guest_memory.proofs.ram.Ram.remember.Goals as goal

pub invariant_of-self : goal.invariant_of-self
invariant_of-self c =
    let below = c.self.invariant.kept.memories.selected in
    let here = rw c.from.ensures at c.index-table.ensures in
    record {
      kept = c.self.invariant.kept;
      near = near_selected c.self.inside.tables.items c.self.inside.selected c.index-table.result.now c.near_at-self-inside.result (parts_counted c.self.inside.tables.items c.self.inside.selected below) here c.near_at-self-inside.ensures;
    }
