use Rattle.std.proofs.Common.{◌≡◌, ◌++◌, length, take, drop, refl, arith}
use Rattle.std.proofs.lemmas.Grind.{common_steps}
use Rattle.guest_memory.proofs.MemoriesLemmas.{kept_on, part_at}
use Rattle.guest_memory.proofs.NearLemmas.{parts_counted, ready_within, there}
use Rattle.guest_memory.proofs.SixteenLemmas.{on_true, put_on}
use Rattle.guest_memory.proofs.ram.RamHasWords.put_words.Goals as goal

pub put_words-requires : goal.put_words-requires
put_words-requires c = rw c.deref_mut.ensures.value (ready_within c.self.inside.tables.items c.self.inside.bytes.items c.self.inside.selected c.self.inside.near c.self.invariant)

pub invariant_of-self : goal.invariant_of-self
invariant_of-self c =
    let counted : length c.put_words.new.whole ≡ c.self.inside.bytes.len = grind (arith, common_steps) in
    let same : length c.put_words.new.whole ≡ length c.self.inside.bytes.items = grind (arith, common_steps) in
    let e : take c.self.inside.bytes.len (c.put_words.new.whole ++ drop (length c.put_words.new.whole) c.self.inside.bytes.items) ≡ c.put_words.new.whole = grind (arith, common_steps) in
    let small = rw c.deref_mut.ensures.value at c.put_words.ensures.bytes in
    record { kept = rw e (kept_on c.self.inside.tables.items c.self.inside.bytes.items c.put_words.new.whole c.self.inside.selected c.self.invariant.kept same (small c.self.invariant.kept.small)); near = c.self.invariant.near }

pub returns : goal.returns
returns c =
    let below = c.self.invariant.kept.memories.selected in
    let own = there c.self.inside.tables.items c.self.inside.selected (parts_counted c.self.inside.tables.items c.self.inside.selected below) in
    let part = part_at c.self.inside.tables.items c.self.inside.bytes.items c.self.inside.selected c.self.inside.selected own.table c.self.invariant.kept below own.is in
    let counted : length c.put_words.new.whole ≡ c.self.inside.bytes.len = grind (arith, common_steps) in
    let same : length c.put_words.new.whole ≡ length c.self.inside.bytes.items = grind (arith, common_steps) in
    let e : take c.self.inside.bytes.len (c.put_words.new.whole ++ drop (length c.put_words.new.whole) c.self.inside.bytes.items) ≡ c.put_words.new.whole = grind (arith, common_steps) in
    let done = rw c.deref_mut.ensures.value at c.put_words.ensures.done in
    let not_written = rw c.deref_mut.ensures.value at c.put_words.ensures.not_done in
    let put = put_on c.put_words.result c.self.inside.tables.items c.self.inside.bytes.items c.put_words.new.whole c.self.inside.selected c.args.address c.args.words.now own.table c.self.invariant.kept below own.is same
    (on_true c.put_words.result _ _ (λ written. written own.table (c.self.invariant.near own.table own.is) part.is) done) not_written in
    record {
      free = rw (← c.self.view_is) put.free;
      done = rw (← c.self.view_is, e) put.done;
      not_done = rw (← c.self.view_is, e) put.not_done;
      areas = rw (← c.self.view_is) refl;
      others = rw (← c.self.view_is, e) put.others;
    }
