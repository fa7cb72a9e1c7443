use Rattle.guest_memory.proofs.NearLemmas.{spots_within}
use Rattle.guest_memory.proofs.SixteenLemmas.{near_part, near_written}
use Rattle.guest_memory.proofs.near.Near.put_words.Goals as goal

pub find_part-requires : goal.find_part-requires
find_part-requires c = spots_within c.args.self.now c.args.whole.now c.requires

pub put_words-requires : goal.put_words-requires
put_words-requires c = near_part c.args.self.now c.args.whole.now c.in-Some.found c.args.address c.requires c.in-Some.ensures

pub returns-else-found-clause-done : goal.returns-else-found-clause-done
returns-else-found-clause-done c =
    λ table is part. near_written table c.args.self.now c.args.whole.now c.put_words.new.bytes c.args.words.now c.in-Some.found c.args.address is part c.in-Some.ensures c.if-address-ne0.false c.if-found.false c.put_words.ensures.counted c.put_words.ensures.value
