use Rattle.guest_bus.specs.declared.bus.Size.TheVariants.{Four}
use Rattle.guest_memory.proofs.NearLemmas.{near_fetched, near_room, spots_within}
use Rattle.guest_memory.proofs.near.Near.fetched.Goals as goal

pub find-requires : goal.find-requires
find-requires c = spots_within c.args.self.now c.args.whole.now c.requires

pub word-requires : goal.word-requires
word-requires c = near_room c.args.self.now c.args.whole.now c.in-Some.found c.args.address Four c.requires c.in-Some.ensures c.if-address-ne0.false

pub returns-in-Some : goal.returns-in-Some
returns-in-Some c = λ table is part. near_fetched table c.args.self.now c.args.whole.now c.in-Some.found c.args.address c.word.result is part c.in-Some.ensures c.if-address-ne0.false c.word.ensures
