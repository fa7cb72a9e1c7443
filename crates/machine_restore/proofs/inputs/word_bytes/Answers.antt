use Rattle.machine_restore.proofs.InputLemmas.{word_more}
use Rattle.machine_restore.proofs.inputs.word_bytes.Goals as goal

pub loop-word-preserved : goal.loop-word-preserved
loop-word-preserved c =
    word_more c.args.words.now c.loop-word.word-index c.loop-word.bytes.items c.to_be_bytes.result c.extend_from_slice.new.self.items c.loop-word-test.true c.loop-word.invariant c.to_be_bytes.ensures c.in_ok-extend_from_slice.ensures.items
