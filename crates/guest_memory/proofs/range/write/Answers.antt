use Rattle.std.proofs.Common.{◌+◌, ◌∙◌, length, arith}
use Rattle.guest_bus.specs.Memory.{is_readable}
use Rattle.guest_bus.specs.lemmas.MemoryLemmas.{all_from-each}
use Rattle.guest_memory.specs.Flat.{listed, memory_in}
use Rattle.guest_memory.proofs.RangeLemmas.{still_space, written_more}
use Rattle.guest_memory.proofs.range.write.Goals as goal

pub write_piece-done-requires-clause-space : goal.write_piece-done-requires-clause-space
write_piece-done-requires-clause-space c = still_space c.args.entries.now c.args.bytes.now c.loop-done.bytes c.requires.space c.loop-done.invariant.length

pub write_piece-done-requires-clause-readable : goal.write_piece-done-requires-clause-readable
write_piece-done-requires-clause-readable c =
    all_from-each (is_readable (listed c.args.entries.now)) c.args.address (length c.args.from.now) (c.args.address + c.loop-done.done) c.requires.allowed (omega arith) (omega arith)

pub loop-done-preserved : goal.loop-done-preserved
loop-done-preserved c = record {
  within = omega (arith, c.write_piece-done.ensures.within);
  written = written_more (memory_in (listed c.args.entries.now) c.args.bytes.now) _ _ c.args.address c.loop-done.done c.write_piece-done.result c.args.from.now (omega arith) c.loop-done.invariant.written c.write_piece-done.ensures.written;
  length = c.write_piece-done.ensures.length ∙ c.loop-done.invariant.length;
}
