use Rattle.std.proofs.Common.{sym, ap, ◌∙◌, subst, ◌≤◌, length, List}
use Rattle.xm_conf.specs.Configuration.{Conf, Part}
use Rattle.xm_flows.proofs.ClosureLemmas.{few_parts}
use Rattle.xm_flows.proofs.closure.parts_of.Goals as goal

pub returns-clause-value : goal.returns-clause-value
returns-clause-value c = c.deref.ensures.value ∙ ap (λ (conf : Conf). conf.parts) c.behind-conf.view_is ∙ ap (λ (conf : Conf). conf.parts) c.raw.ensures.value

pub returns-clause-few : goal.returns-clause-few
returns-clause-few c =
    let parts = c.deref.ensures.value ∙ ap (λ (conf : Conf). conf.parts) c.behind-conf.view_is ∙ ap (λ (conf : Conf). conf.parts) c.raw.ensures.value in
    subst (λ (all : List Part). length all ≤ 32) (sym parts) (few_parts c.args.conf.now c.raw.ensures.fits)
