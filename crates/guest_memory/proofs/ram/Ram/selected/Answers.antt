use Rattle.guest_memory.proofs.ram.Ram.selected.Goals as goal

pub returns-clause-memories : goal.returns-clause-memories
returns-clause-memories c = rw (← c.self.view_is) c.self.invariant.kept.memories
