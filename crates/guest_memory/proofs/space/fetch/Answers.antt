use Rattle.std.proofs.Common.{sym}
use Rattle.guest_bus.specs.lemmas.AccessLemmas.{fetched_refused}
use Rattle.guest_memory.proofs.AccessLemmas.{bytes_within, fetched_in}
use Rattle.guest_memory.proofs.space.fetch.Goals as goal

pub word-requires : goal.word-requires
word-requires c = bytes_within c.args.entries.now c.args.bytes.now c.in-Ok.place c.args.address 4 c.requires c.in-Ok.ensures.stands

pub returns-in-Ok : goal.returns-in-Ok
returns-in-Ok c = record { value = fetched_in c.args.entries.now c.args.bytes.now c.in-Ok.place c.args.address c.word.result c.requires c.in-Ok.ensures c.word.ensures }

pub returns-in-Err : goal.returns-in-Err
returns-in-Err c = record { value = sym (fetched_refused _ _ _ _ c.in-Err.ensures) }
