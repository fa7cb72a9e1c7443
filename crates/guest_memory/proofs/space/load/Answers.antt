use Rattle.std.proofs.Common.{sym}
use Rattle.std.specs.Int.{byte_len}
use Rattle.guest_bus.specs.Access.{width_of}
use Rattle.guest_bus.specs.lemmas.AccessLemmas.{loaded_refused}
use Rattle.guest_memory.proofs.AccessLemmas.{bytes_within, loaded_in}
use Rattle.guest_memory.proofs.space.load.Goals as goal

pub value_at-requires : goal.value_at-requires
value_at-requires c = bytes_within c.args.entries.now c.args.bytes.now c.in-Ok.place c.args.address (byte_len (width_of c.args.size)) c.requires c.in-Ok.ensures.stands

pub returns-in-Ok : goal.returns-in-Ok
returns-in-Ok c = record { value = loaded_in c.args.entries.now c.args.bytes.now c.in-Ok.place c.args.address c.value_at.result c.args.size c.requires c.in-Ok.ensures c.value_at.ensures }

pub returns-in-Err : goal.returns-in-Err
returns-in-Err c = record { value = sym (loaded_refused _ _ _ _ c.args.size c.in-Err.ensures) }
