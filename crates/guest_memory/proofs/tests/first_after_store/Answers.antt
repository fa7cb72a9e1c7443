use Rattle.guest_memory.proofs.TestLemmas.{some_after_store}
use Rattle.guest_memory.proofs.tests.first_after_store.Goals as goal

pub byte-requires : goal.byte-requires
byte-requires c = some_after_store c.args.ram.now c.store.new.self c.args.address c.in-Ok.ensures.fault c.in-Ok.ensures.areas
