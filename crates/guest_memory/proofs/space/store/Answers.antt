use Rattle.std.specs.Int.{byte_len}
use Rattle.guest_bus.specs.Access.{width_of}
use Rattle.guest_memory.proofs.AccessLemmas.{bytes_within, stores_free, stores_refused, unstored, value_written}
use Rattle.guest_memory.proofs.space.store.Goals as goal

pub put_value-requires : goal.put_value-requires
put_value-requires c = bytes_within c.args.entries.now c.args.bytes.now c.in-Ok.place c.args.address (byte_len (width_of c.args.size)) c.requires c.in-Ok.ensures.stands

pub returns-in-Ok-clause-fault : goal.returns-in-Ok-clause-fault
returns-in-Ok-clause-fault c = stores_free _ c.args.address c.args.size c.in-Ok.ensures.free

pub returns-in-Ok-clause-memory : goal.returns-in-Ok-clause-memory
returns-in-Ok-clause-memory c =
    value_written c.args.entries.now c.args.bytes.now c.put_value.new.bytes c.in-Ok.place c.args.address c.args.value c.args.size c.requires c.in-Ok.ensures c.put_value.ensures.value

pub returns-in-Err-clause-fault : goal.returns-in-Err-clause-fault
returns-in-Err-clause-fault c = stores_refused _ c.args.address c.args.size c.in-Err.fault c.in-Err.ensures

pub returns-in-Err-clause-memory : goal.returns-in-Err-clause-memory
returns-in-Err-clause-memory c = unstored _ _ c.args.address c.args.value c.args.size c.in-Err.fault c.in-Err.ensures
