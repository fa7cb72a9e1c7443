use Rattle.std.proofs.Common.{sym, ◌∙◌}
use Rattle.xm_conf.specs.Rules as rules
use Rattle.xm_conf.specs.lemmas.AlongLemmas.{along_goes_on}
use Rattle.xmcf_check.proofs.OnceLemmas.{once_few, once_goes_on}
use Rattle.xmcf_check.proofs.answers.answers_broken.Goals as goal

pub answer_broken-broken-requires : goal.answer_broken-broken-requires
answer_broken-broken-requires c = once_few _ c.loop-n.invariant.once

pub loop-n-preserved : goal.loop-n-preserved
loop-n-preserved c = record {
  first =
      along_goes_on (rules.answer_broken c.args.plans c.args.p) c.args.answers.now c.loop-n.n _ _ _ _ c.loop-n-test.true c.index-answers-n.is
      c.answer_broken-broken.ensures (sym c.is_some.ensures ∙ c.if-is_some.false) c.loop-n.invariant.first;
  once =
      once_goes_on c.args.plans c.args.p c.loop-n.n c.args.answers.now _ _ _ c.loop-n-test.true c.index-answers-n.is c.answer_broken-broken.ensures
      (sym c.is_some.ensures ∙ c.if-is_some.false) c.loop-n.invariant.once;
}
