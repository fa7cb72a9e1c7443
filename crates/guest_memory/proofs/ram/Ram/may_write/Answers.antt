use Rattle.guest_memory.proofs.ram.Ram.may_write.Goals as goal

pub returns : goal.returns
returns c = record { value = rw (← c.entries.ensures.areas) c.are_allowed.ensures }
