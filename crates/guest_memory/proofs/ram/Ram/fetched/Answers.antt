use Rattle.guest_memory.proofs.MemoriesLemmas.{part_at}
use Rattle.guest_memory.proofs.NearLemmas.{near_within, parts_counted, there}
use Rattle.guest_memory.proofs.ram.Ram.fetched.Goals as goal

pub fetched-requires : goal.fetched-requires
fetched-requires c =
    let below = parts_counted c.self.inside.tables.items c.self.inside.selected c.self.invariant.kept.memories.selected in
    let own = there c.self.inside.tables.items c.self.inside.selected below in
    let part = part_at c.self.inside.tables.items c.self.inside.bytes.items c.self.inside.selected c.self.inside.selected own.table c.self.invariant.kept c.self.invariant.kept.memories.selected own.is in
    rw c.deref.ensures.value (near_within own.table c.self.inside.near c.self.inside.bytes.items (c.self.invariant.near own.table own.is) part.is c.self.invariant.kept.few)

pub returns-in-Some : goal.returns-in-Some
returns-in-Some c =
    let below = parts_counted c.self.inside.tables.items c.self.inside.selected c.self.invariant.kept.memories.selected in
    let own = there c.self.inside.tables.items c.self.inside.selected below in
    let part = part_at c.self.inside.tables.items c.self.inside.bytes.items c.self.inside.selected c.self.inside.selected own.table c.self.invariant.kept c.self.invariant.kept.memories.selected own.is in
    let value = rw c.deref.ensures.value at c.in-Some.ensures in
    record {
      value = rw (← c.self.view_is, part.areas, part.map) (value own.table (c.self.invariant.near own.table own.is) part.is);
      memories = rw (← c.self.view_is) c.self.invariant.kept.memories;
    }

pub returns-in-None : goal.returns-in-None
returns-in-None c = record { value = c.fetch_elsewhere.ensures.value; memories = rw (← c.self.view_is) c.self.invariant.kept.memories }
