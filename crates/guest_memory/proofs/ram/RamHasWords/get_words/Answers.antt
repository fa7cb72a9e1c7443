use Rattle.guest_memory.proofs.MemoriesLemmas.{part_at}
use Rattle.guest_memory.proofs.NearLemmas.{parts_counted, ready_within, there}
use Rattle.guest_memory.proofs.SixteenLemmas.{read_on}
use Rattle.guest_memory.proofs.ram.RamHasWords.get_words.Goals as goal

pub get_words-requires : goal.get_words-requires
get_words-requires c = rw c.deref.ensures.value (ready_within c.self.inside.tables.items c.self.inside.bytes.items c.self.inside.selected c.self.inside.near c.self.invariant)

pub returns : goal.returns
returns c =
    let below = c.self.invariant.kept.memories.selected in
    let own = there c.self.inside.tables.items c.self.inside.selected (parts_counted c.self.inside.tables.items c.self.inside.selected below) in
    let part = part_at c.self.inside.tables.items c.self.inside.bytes.items c.self.inside.selected c.self.inside.selected own.table c.self.invariant.kept below own.is in
    let read = rw c.deref.ensures.value at c.get_words.ensures in
    let on = read_on c.get_words.result c.self.inside.tables.items c.self.inside.bytes.items c.self.inside.selected c.args.address own.table part (read own.table (c.self.invariant.near own.table own.is) part.is) in
    record { free = rw (← c.self.view_is) on.free; words = rw (← c.self.view_is) on.words }
