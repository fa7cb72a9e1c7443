use Rattle.std.proofs.Common.{length}
use Rattle.guest_bus.specs.Memory.{is_readable}
use Rattle.guest_memory.specs.Memories.{areas_at}
use Rattle.system_state.proofs.ExchangeLemmas.{never_refused}
use Rattle.system_state.proofs.sys.messages.read.Goals as goal

pub unreachable-requires : goal.unreachable-requires
unreachable-requires c =
    never_refused (is_readable (areas_at c.args.p c.args.ram.now)) c.args.address (length c.args.into.now) c.copy_in.result c.in-Err.field-0 c.requires.readable c.copy_in.ensures.answer c.in-Err.is
