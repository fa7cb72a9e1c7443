use Rattle.std.proofs.Common.{length, ◌∷◌, [], ap, arith, length-append}
use Rattle.system_state.proofs.InputLemmas.{word_more}
use Rattle.system_state.proofs.inputs.words_in.Goals as goal

pub loop-place-preserved : goal.loop-place-preserved
loop-place-preserved c = record {
  reserved = omega (arith, c.push_reserved.ensures.capacity, c.loop-place.invariant.reserved);
  counted = omega (arith, ap length c.push_reserved.ensures.items, length-append c.loop-place.words.items (c.word_at.result ∷ []), c.loop-place.invariant.counted);
  spelled = word_more c.loop-place.words.items c.push_reserved.new.self.items c.loop-place.place c.word_at.result c.args.bytes.now (omega (arith, c.loop-place-test.true)) c.loop-place.invariant.spelled c.word_at.ensures c.push_reserved.ensures.items;
}
