use Rattle.std.proofs.Common.{◌<◌, ◌∙◌, arith, length}
use Rattle.machine_model.specs.Structures.{word}
use Rattle.core_files.proofs.WritingLemmas.{element_written}
use Rattle.core_files.proofs.registers.put_words.Goals as goal

pub loop-word-preserved : goal.loop-word-preserved
loop-word-preserved c =
    let below : c.loop-word.word-index < length c.args.words.now = omega (arith, c.loop-word-test.true, c.loop-word.auto.word-index-end) in
    record {
      text = element_written word _ _ _ c.args.words.now c.loop-word.word-index 0 below c.loop-word.invariant.text c.put_word-after.ensures.text;
      ends = omega (arith, c.loop-word.invariant.ends, c.put_word-after.ensures.place);
      room = c.put_word-after.ensures.room ∙ c.loop-word.invariant.room;
    }
