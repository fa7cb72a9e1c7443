use Rattle.std.proofs.Common.{length, sym}
use Rattle.guest_bus.specs.Memory.{is_readable}
use Rattle.guest_memory.specs.Flat.{listed}
use Rattle.guest_memory.proofs.RangeLemmas.{all_allowed}
use Rattle.guest_memory.proofs.space.copy_pieces_in.Goals as goal

pub read-requires-clause-allowed : goal.read-requires-clause-allowed
read-requires-clause-allowed c = rw c.from.ensures (all_allowed (is_readable (listed c.args.entries.now)) c.args.address (length c.args.into.now) (sym c.in-None.ensures.value))
