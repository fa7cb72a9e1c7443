use Rattle.std.proofs.Common.{◌≡◌, length, take, arith, length-take}
use Rattle.guest_memory.proofs.AccessLemmas.{bytes_within}
use Rattle.guest_memory.proofs.RangeLemmas.{piece_written, room_stands}
use Rattle.guest_memory.proofs.range.write_piece.Goals as goal

pub write_at-requires : goal.write_at-requires
write_at-requires c =
    let counted : length (take c.min-count.result c.args.from.now) ≡ c.min-count.result = omega (arith, length-take c.min-count.result c.args.from.now, c.min-count.ensures) in
    let within = bytes_within c.args.entries.now c.args.bytes.now c.in-Some.place c.args.address c.min-count.result c.requires.space
    (room_stands c.args.entries.now c.in-Some.place c.args.address c.min-count.result c.in-Some.ensures.at (omega (arith, c.min-count.ensures))) in
    omega (arith, within, counted)

pub returns-clause-written : goal.returns-clause-written
returns-clause-written c =
    piece_written c.args.entries.now c.args.bytes.now c.write_at.new.bytes c.in-Some.place c.args.address c.min-count.result c.args.from.now
    c.requires.space c.in-Some.ensures.at (omega (arith, c.min-count.ensures)) (omega (arith, c.min-count.ensures)) c.write_at.ensures.value
