use Rattle.std.proofs.Common.{◌+◌, length, arith}
use Rattle.guest_bus.specs.Memory.{is_readable}
use Rattle.guest_bus.specs.lemmas.MemoryLemmas.{all_from-each}
use Rattle.guest_memory.specs.Flat.{listed, memory_in}
use Rattle.guest_memory.proofs.RangeLemmas.{read_more}
use Rattle.guest_memory.proofs.range.read.Goals as goal

pub read_piece-done-requires-clause-readable : goal.read_piece-done-requires-clause-readable
read_piece-done-requires-clause-readable c =
    all_from-each (is_readable (listed c.args.entries.now)) c.args.address (length c.args.into.now) (c.args.address + c.loop-done.done) c.requires.allowed (omega arith) (omega arith)

pub loop-done-preserved : goal.loop-done-preserved
loop-done-preserved c = record {
  within = omega (arith, c.read_piece-done.ensures.within, c.read_piece-done.auto.into);
  front = read_more (memory_in (listed c.args.entries.now) c.args.bytes.now) c.args.address c.loop-done.done c.read_piece-done.result c.loop-done.into c.read_piece-done.new.into c.read_piece-done.ensures.within c.loop-done.invariant.front c.read_piece-done.ensures.read;
}
