use Rattle.std.proofs.Common.{◌∙◌, sym}
use Rattle.guest_memory.proofs.AccessLemmas.{bytes_stand, bytes_within}
use Rattle.guest_memory.proofs.space.bytes.Goals as goal

pub part-requires : goal.part-requires
part-requires c = bytes_within c.args.entries.now c.args.bytes.now c.in-Some.place c.args.address c.args.count c.requires c.in-Some.ensures.stands

pub returns-in-Some : goal.returns-in-Some
returns-in-Some c = c.part.ensures ∙ sym (bytes_stand c.args.entries.now c.args.bytes.now c.in-Some.place c.args.address c.args.count c.requires c.in-Some.ensures.stands)
