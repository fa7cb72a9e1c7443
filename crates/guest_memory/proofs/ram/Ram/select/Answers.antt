use Rattle.guest_memory.proofs.MemoriesLemmas.{kept_selected}
use Rattle.guest_memory.proofs.NearLemmas.{near_selected, parts_counted}
use Rattle.guest_memory.proofs.ram.Ram.select.Goals as goal

pub invariant_of-self : goal.invariant_of-self
invariant_of-self c =
    let below = rw (← c.self.view_is) at c.requires in
    let here = rw c.from.ensures at c.index-table.ensures in
    record {
      kept = kept_selected c.self.inside.tables.items c.self.inside.bytes.items c.self.inside.selected c.args.p c.self.invariant.kept below;
      near = near_selected c.self.inside.tables.items c.args.p c.index-table.result.now c.near-self-inside.result (parts_counted c.self.inside.tables.items c.args.p below) here c.near-self-inside.ensures;
    }
