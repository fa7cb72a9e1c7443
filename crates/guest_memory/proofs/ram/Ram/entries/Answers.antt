use Rattle.std.proofs.Common.{sym}
use Rattle.guest_memory.proofs.MemoriesLemmas.{part_at}
use Rattle.guest_memory.proofs.ram.Ram.entries.Goals as goal

pub returns : goal.returns
returns c =
    let below = rw (← c.self.view_is) at c.requires in
    let here = rw c.from.ensures at c.index.ensures in
    let part = part_at c.self.inside.tables.items c.self.inside.bytes.items c.self.inside.selected c.args.p c.index.result.now c.self.invariant.kept below here in
    record {
      areas = rw (← c.self.view_is, c.entries.ensures) (sym part.areas);
      placed = rw c.entries.ensures part.is.space.placed;
      follow = rw c.entries.ensures part.is.space.follow;
      memories = rw (← c.self.view_is) c.self.invariant.kept.memories;
    }
