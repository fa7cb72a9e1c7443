use Rattle.guest_memory.proofs.NearLemmas.{spots_within}
use Rattle.guest_memory.proofs.SixteenLemmas.{near_part, near_read}
use Rattle.guest_memory.proofs.near.Near.get_words.Goals as goal

pub find_part-requires : goal.find_part-requires
find_part-requires c = spots_within c.args.self.now c.args.whole.now c.requires

pub get_words-requires : goal.get_words-requires
get_words-requires c = near_part c.args.self.now c.args.whole.now c.in-Some.found c.args.address c.requires c.in-Some.ensures

pub returns-in-Some : goal.returns-in-Some
returns-in-Some c =
    λ table is part. near_read table c.args.self.now c.args.whole.now c.get_words.result c.in-Some.found c.args.address is part c.in-Some.ensures c.if-address-ne0.false c.get_words.ensures.counted c.get_words.ensures.each
