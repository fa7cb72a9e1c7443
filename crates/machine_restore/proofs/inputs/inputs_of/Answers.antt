use Rattle.std.proofs.Common.{length, ap, ◌∙◌}
use Rattle.std.proofs.lemmas.List.{length-set}
use Rattle.machine_restore.proofs.InputLemmas.{given_more}
use Rattle.machine_restore.proofs.inputs.inputs_of.Goals as goal

pub loop-p-preserved : goal.loop-p-preserved
loop-p-preserved c =
    let here = rw c.from.ensures at c.index-words-from.is in
    record {
      given = given_more c.args.parts c.loop-p.p c.args.words.now c.index-words-from.result c.deref.result.now c.loop-p.inputs c.give.new.inputs c.loop-p-test.true c.requires.counted here c.deref.ensures.value
          c.loop-p.invariant.given c.in_ok-give.ensures;
      long = ap length c.in_ok-give.ensures ∙ length-set c.loop-p.inputs c.loop-p.p c.deref.result.now ∙ c.loop-p.invariant.long;
    }
