-- For proofs and private clauses: one partition's part of a tick: interrupts, then the delivery of one, an instruction or a hypercall, and the event that it met.
use Rattle.machine_model.specs.Health.{Worked}
use Rattle.machine_model.specs.LocalTick.{clocked}

-- the part of a tick with the tick on the execution clock
abbrev pub with_clock : Worked → Worked
with_clock w = record w { after = clocked w.after }
