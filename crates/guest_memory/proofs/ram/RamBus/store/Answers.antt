use Rattle.guest_memory.proofs.MemoriesLemmas.{others-with_map}
use Rattle.guest_memory.proofs.ram.RamBus.store.Goals as goal

pub returns-else-stored_near-clause-others : goal.returns-else-stored_near-clause-others
returns-else-stored_near-clause-others c =
    let same = c.stored_near.ensures.not_done c.if-stored_near.false in
    rw (c.store_elsewhere.ensures.memory, same) (others-with_map c.args.self.now _)
