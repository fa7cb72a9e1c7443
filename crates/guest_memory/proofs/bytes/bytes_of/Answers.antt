use Rattle.std.proofs.Common.{ℕ, ◌*◌, refl, ap, ◌∙◌, arith, length}
use Rattle.std.specs.Int.{to_be_bytes, w32}
use Rattle.std.specs.Prelude.{slice_index}
use Rattle.guest_bus.specs.lemmas.AccessLemmas.{length-bytes_high_first}
use Rattle.guest_bus.specs.Words.{bytes_of}
use Rattle.guest_memory.proofs.FlatLemmas.{length-put_mid}
use Rattle.guest_memory.proofs.SixteenLemmas.{word_put}
use Rattle.guest_memory.proofs.bytes.bytes_of.Goals as goal

pub loop-i-init : goal.loop-i-init
unfolding bytes_of
loop-i-init c = record { front = refl; counted = refl }

pub loop-i-preserved : goal.loop-i-preserved
loop-i-preserved c =
    let word : ℕ = slice_index c.args.words.now c.loop-i.i in
    record {
      front = word_put c.args.words.now c.loop-i.bytes c.put_word.new.bytes c.loop-i.i word (omega (arith, c.loop-i-test.true, c.loop-i-test.array_long)) refl (omega (arith, c.loop-i-test.true, c.loop-i.invariant.counted)) c.loop-i.invariant.front c.put_word.ensures;
      counted = ap length c.put_word.ensures ∙ length-put_mid (4 * c.loop-i.i) 4 c.loop-i.bytes (to_be_bytes w32 word) (length-bytes_high_first 4 word) (omega (arith, c.loop-i-test.true, c.loop-i.invariant.counted)) ∙ c.loop-i.invariant.counted;
    }
