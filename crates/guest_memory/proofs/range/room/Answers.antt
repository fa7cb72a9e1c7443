use Rattle.std.proofs.Common.{refl, sym}
use Rattle.guest_memory.proofs.RangeLemmas.{nothing_allowed, room_allowed, room_ends, room_refused}
use Rattle.guest_memory.proofs.range.room.Goals as goal

pub returns-then-is_refused-clause-none : goal.returns-then-is_refused-clause-none
returns-then-is_refused-clause-none c = λ _. room_refused c.args.access c.args.entries.now c.in-Some.place c.args.address c.requires c.in-Some.ensures.at (sym c.if-is_refused.ensures)

pub returns-else-is_refused-clause-allowed : goal.returns-else-is_refused-clause-allowed
returns-else-is_refused-clause-allowed c = room_allowed c.args.access c.args.entries.now c.in-Some.place c.args.address c.requires c.in-Some.ensures.at (sym c.if-is_refused.ensures)

pub returns-else-is_refused-clause-ends : goal.returns-else-is_refused-clause-ends
returns-else-is_refused-clause-ends c = (room_ends c.args.entries.now c.in-Some.place c.args.address c.requires c.in-Some.ensures.at).1

pub returns-in-None-clause-none : goal.returns-in-None-clause-none
returns-in-None-clause-none c = λ _. nothing_allowed c.args.access _ c.args.address (c.in-None.ensures.none.0 refl)
