use Rattle.std.proofs.Common.{sym, ap, ◌∙◌, subst, List}
use Rattle.std.specs.Prelude.{All}
use Rattle.xm_conf.specs.Configuration.{Conf}
use Rattle.xm_conf.specs.declared.link.Link.{Link}
use Rattle.xm_flows.specs.lemmas.MasksTerms.{HasLowSource}
use Rattle.xm_flows.proofs.ClosureLemmas.{low_sources}
use Rattle.xm_flows.proofs.closure.links_of.Goals as goal

pub returns-clause-value : goal.returns-clause-value
returns-clause-value c = c.deref.ensures.value ∙ ap (λ (conf : Conf). conf.links) c.behind-conf.view_is ∙ ap (λ (conf : Conf). conf.links) c.raw.ensures.value

pub returns-clause-low : goal.returns-clause-low
returns-clause-low c =
    let links = c.deref.ensures.value ∙ ap (λ (conf : Conf). conf.links) c.behind-conf.view_is ∙ ap (λ (conf : Conf). conf.links) c.raw.ensures.value in
    subst (λ (all : List Link). All HasLowSource all) (sym links) (low_sources c.args.conf.now c.raw.ensures.fits)
