use Rattle.std.proofs.Common.{sym, ap, ◌∙◌, subst, List}
use Rattle.std.specs.Prelude.{All}
use Rattle.xm_conf.specs.Configuration.{Chan, Conf}
use Rattle.xm_flows.specs.lemmas.MasksTerms.{HasLowEnds}
use Rattle.xm_flows.proofs.ClosureLemmas.{low_ends}
use Rattle.xm_flows.proofs.closure.chans_of.Goals as goal

pub returns-clause-value : goal.returns-clause-value
returns-clause-value c = c.deref.ensures.value ∙ ap (λ (conf : Conf). conf.chans) c.behind-conf.view_is ∙ ap (λ (conf : Conf). conf.chans) c.raw.ensures.value

pub returns-clause-low : goal.returns-clause-low
returns-clause-low c =
    let chans = c.deref.ensures.value ∙ ap (λ (conf : Conf). conf.chans) c.behind-conf.view_is ∙ ap (λ (conf : Conf). conf.chans) c.raw.ensures.value in
    subst (λ (all : List Chan). All HasLowEnds all) (sym chans) (low_ends c.args.conf.now c.raw.ensures.fits)
