use Rattle.std.proofs.Common.{◌∙◌, Option, Some, None, ℕ, ap, length, sym}
use Rattle.guest_bus.specs.Memory.{is_readable}
use Rattle.guest_memory.specs.Flat.{listed}
use Rattle.guest_memory.specs.Memories.{answer_by}
use Rattle.guest_memory.proofs.AccessLemmas.{bytes_stand, bytes_within}
use Rattle.guest_memory.proofs.RangeLemmas.{none_refused}
use Rattle.guest_memory.proofs.space.copy_in.Goals as goal

pub copy_part-requires : goal.copy_part-requires
copy_part-requires c = bytes_within c.args.entries.now c.args.bytes.now c.in-Some.place c.args.address (length c.args.into.now) c.requires c.in-Some.ensures.stands

pub returns-in-Some-clause-answer : goal.returns-in-Some-clause-answer
returns-in-Some-clause-answer c = ap answer_by (sym (none_refused (is_readable (listed c.args.entries.now)) c.args.address (length c.args.into.now) c.in-Some.ensures.allowed))

pub returns-in-Some-clause-read : goal.returns-in-Some-clause-read
returns-in-Some-clause-read c = c.copy_part.ensures ∙ sym (bytes_stand c.args.entries.now c.args.bytes.now c.in-Some.place c.args.address (length c.args.into.now) c.requires c.in-Some.ensures.stands)
