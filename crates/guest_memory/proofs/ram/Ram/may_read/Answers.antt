use Rattle.guest_memory.proofs.ram.Ram.may_read.Goals as goal

pub returns : goal.returns
returns c = record { value = rw (← c.entries.ensures.areas) c.are_allowed.ensures }
