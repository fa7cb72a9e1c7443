use Rattle.std.proofs.Common.{◌+◌, ◌<◌, List, length, arith, subst, sym}
use Rattle.predecoded_memory.specs.lemmas.SharesTerms.{AreGone}
use Rattle.predecoded_memory.proofs.EmptiedLemmas.{more_gone, one_gone}
use Rattle.predecode.specs.declared.rows.Row.{Row}
use Rattle.predecoded_memory.proofs.emptied.empty_from.Goals as goal

pub loop-done-preserved : goal.loop-done-preserved
loop-done-preserved c =
    let below : c.args.begin + c.loop-done.done < length c.loop-done.rows = omega (arith, c.loop-done.invariant.gone.counted, c.loop-done-test.true, c.requires) in
    record {
      few = omega (arith, c.loop-done-test.true);
      gone = more_gone c.args.begin (c.args.begin + c.loop-done.done) (c.args.begin + (c.loop-done.done + 1)) c.args.rows.now c.loop-done.rows c.empty_row.new.rows (omega arith) (omega arith) c.loop-done.invariant.gone
          (subst (λ (r : List Row). AreGone (c.args.begin + c.loop-done.done) (c.args.begin + (c.loop-done.done + 1)) c.loop-done.rows r) (sym c.empty_row.ensures)
          (one_gone c.loop-done.rows (c.args.begin + c.loop-done.done) (c.args.begin + (c.loop-done.done + 1)) below (omega arith)));
    }
