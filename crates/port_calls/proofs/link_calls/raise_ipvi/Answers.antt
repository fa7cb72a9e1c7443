use Rattle.std.proofs.Common.{◌≡◌, None, refl, sym, ap, ◌∙◌}
use Rattle.xm_conf.specs.Configuration.{Conf}
use Rattle.xm_conf.specs.View.{link_of}
use Rattle.machine_model.specs.Caller.{a_of}
use Rattle.system_state.specs.Serving.{caller_of}
use Rattle.system_state.specs.lemmas.ServedLemmas.{served_as}
use Rattle.port_calls.proofs.LinkCallLemmas.{is_refused}
use Rattle.port_calls.proofs.link_calls.raise_ipvi.Goals as goal

pub returns-in-None : goal.returns-in-None
returns-in-None c =
    let number = a_of (caller_of c.args.site c.args.sys.now) in
    let none : link_of c.args.sys.now.machine.system.conf c.args.site.part number ≡ None =
    ap (λ (conf : Conf). link_of conf c.args.site.part number) (sym c.conf.ensures.value)
    ∙ ap (λ n. link_of c.conf.result.now c.args.site.part n) (sym c.argument-number.ensures.value)
    ∙ sym c.in-None.ensures.value
    in
    served_as refl (sym (is_refused c.args.site c.args.sys.now none)) c.answer.ensures
