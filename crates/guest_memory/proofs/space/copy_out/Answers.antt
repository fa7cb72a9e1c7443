use Rattle.std.proofs.Common.{◌∙◌, ap, length, refl, sym}
use Rattle.guest_bus.specs.Memory.{is_writable}
use Rattle.guest_memory.specs.Flat.{listed, memory_in}
use Rattle.guest_memory.specs.Memories.{answer_by}
use Rattle.guest_memory.proofs.AccessLemmas.{bytes_within, bytes_written}
use Rattle.guest_memory.proofs.RangeLemmas.{none_refused}
use Rattle.guest_memory.proofs.space.copy_out.Goals as goal

pub write_at-requires : goal.write_at-requires
write_at-requires c = bytes_within c.args.entries.now c.args.bytes.now c.in-Some.place c.args.address (length c.args.from.now) c.requires c.in-Some.ensures.stands

pub returns-in-Some-clause-answer : goal.returns-in-Some-clause-answer
returns-in-Some-clause-answer c = ap answer_by (sym (none_refused (is_writable (listed c.args.entries.now)) c.args.address (length c.args.from.now) c.in-Some.ensures.allowed))

pub returns-in-Some-clause-written : goal.returns-in-Some-clause-written
returns-in-Some-clause-written c =
    ap (memory_in (listed c.args.entries.now)) c.write_at.ensures.value
    ∙ bytes_written c.args.entries.now c.args.bytes.now c.args.from.now c.in-Some.place c.args.address (length c.args.from.now) c.requires c.in-Some.ensures.stands refl
