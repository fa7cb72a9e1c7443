use Rattle.std.proofs.Common.{arith}
use Rattle.guest_memory.proofs.AccessLemmas.{bytes_within}
use Rattle.guest_memory.proofs.RangeLemmas.{piece_read, room_stands}
use Rattle.guest_memory.proofs.range.read_piece.Goals as goal

pub part-requires : goal.part-requires
part-requires c =
    bytes_within c.args.entries.now c.args.bytes.now c.in-Some.place c.args.address c.min-count.result c.requires.space
    (room_stands c.args.entries.now c.in-Some.place c.args.address c.min-count.result c.in-Some.ensures.at (omega (arith, c.min-count.ensures)))

pub returns-clause-read : goal.returns-clause-read
returns-clause-read c =
    piece_read c.args.entries.now c.args.bytes.now c.in-Some.place c.args.address c.min-count.result c.args.done c.args.into.now c.write_at.new.bytes c.part.result.now
    c.requires.space c.in-Some.ensures.at (omega (arith, c.min-count.ensures)) c.part.ensures c.write_at.ensures.value
