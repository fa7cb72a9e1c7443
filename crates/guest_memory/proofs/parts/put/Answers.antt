use Rattle.std.proofs.Common.{length, arith}
use Rattle.guest_memory.proofs.PutLemmas.{range_ends}
use Rattle.guest_memory.specs.Flat.{listed}
use Rattle.guest_memory.proofs.parts.put.Goals as goal

pub write-requires-clause-ends : goal.write-requires-clause-ends
write-requires-clause-ends c =
    let ends = range_ends (listed c.args.table.now.entries) c.args.address (length c.args.from.now) c.requires.part.space.placed (omega (arith, c.ranges.address.fits)) c.requires.readable in
    omega (arith, ends, c.from.ensures)

pub write-requires-clause-allowed : goal.write-requires-clause-allowed
write-requires-clause-allowed c = rw (c.from.ensures, c.entries.ensures) c.requires.readable
