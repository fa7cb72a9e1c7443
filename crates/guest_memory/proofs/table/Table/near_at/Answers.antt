use Rattle.guest_memory.proofs.table.Table.near_at.Goals as goal

pub returns-in-Some : goal.returns-in-Some
returns-in-Some c =
    let made = rw c.deref-in-Some.ensures.value at c.of.ensures in
    rw (← c.self.view_is) (c.in-Some.place.area, made)

pub returns-in-None : goal.returns-in-None
returns-in-None c = rw (← c.self.view_is) (2, c.self.invariant)
