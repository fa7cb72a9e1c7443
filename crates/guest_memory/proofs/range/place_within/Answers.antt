use Rattle.std.proofs.Common.{arith, sym}
use Rattle.guest_memory.specs.Flat.{listed}
use Rattle.guest_memory.specs.lemmas.MemoriesTerms.{allows_byte}
use Rattle.guest_memory.proofs.RangeLemmas.{all_from-front, room_allowed, room_stands}
use Rattle.guest_memory.proofs.range.place_within.Goals as goal

pub returns-else-is_refused-clause-allowed : goal.returns-else-is_refused-clause-allowed
returns-else-is_refused-clause-allowed c =
    let at = rw c.from.ensures at c.in-Some.ensures.at in
    all_from-front (allows_byte c.args.access (listed c.args.entries.now)) c.args.address c.in-Some.place.room c.args.count
    (room_allowed c.args.access c.args.entries.now c.in-Some.place c.args.address c.requires at (sym c.if-is_refused.ensures)) (omega arith)

pub returns-else-is_refused-clause-stands : goal.returns-else-is_refused-clause-stands
returns-else-is_refused-clause-stands c =
    let at = rw c.from.ensures at c.in-Some.ensures.at in
    room_stands c.args.entries.now c.in-Some.place c.args.address c.args.count at (omega arith)
