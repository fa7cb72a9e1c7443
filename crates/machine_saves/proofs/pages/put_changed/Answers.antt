use Rattle.machine_saves.specs.lemmas.SaveTerms.{changed_bytes}
use Rattle.machine_saves.proofs.PageLemmas.{page_put, pages_put}
use Rattle.machine_saves.proofs.pages.put_changed.Goals as goal

pub loop-number-preserved : goal.loop-number-preserved
loop-number-preserved c =
    page_put _ _ _ c.args.loaded.now c.args.now.now c.args.start c.loop-number.number _ c.loop-number-test.true c.loop-number.invariant c.in_ok-put_if_changed.ensures

pub returns : goal.returns
unfolding changed_bytes
returns c = pages_put _ _ c.args.loaded.now c.args.now.now c.args.start c.loop-number.number _ c.loop-number-test.false c.loop-number.invariant
