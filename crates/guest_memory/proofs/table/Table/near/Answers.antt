use Rattle.guest_memory.proofs.table.Table.near.Goals as goal

pub returns : goal.returns
returns c = rw (← c.self.view_is) (2, c.self.invariant)
