use Rattle.std.proofs.Common.{length, sym}
use Rattle.guest_bus.specs.Memory.{is_writable}
use Rattle.guest_memory.specs.Flat.{listed}
use Rattle.guest_memory.proofs.AccessLemmas.{range_readable_where_writable}
use Rattle.guest_memory.proofs.RangeLemmas.{all_allowed}
use Rattle.guest_memory.proofs.space.copy_pieces_out.Goals as goal

pub write-requires-clause-allowed : goal.write-requires-clause-allowed
write-requires-clause-allowed c =
    rw c.from.ensures (range_readable_where_writable (listed c.args.entries.now) c.args.address (length c.args.from.now)
    (all_allowed (is_writable (listed c.args.entries.now)) c.args.address (length c.args.from.now) (sym c.in-None.ensures.value)))
