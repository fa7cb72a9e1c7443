use Rattle.std.proofs.Common.{length}
use Rattle.guest_bus.specs.Memory.{is_writable}
use Rattle.guest_memory.specs.Memories.{areas_at}
use Rattle.system_state.proofs.ExchangeLemmas.{never_refused}
use Rattle.system_state.proofs.sys.messages.write.Goals as goal

pub unreachable-requires : goal.unreachable-requires
unreachable-requires c =
    never_refused (is_writable (areas_at c.args.p c.args.ram.now)) c.args.address (length c.args.bytes.now) c.copy_out.result c.in-Err.field-0 c.requires.room c.copy_out.ensures.answer c.in-Err.is
