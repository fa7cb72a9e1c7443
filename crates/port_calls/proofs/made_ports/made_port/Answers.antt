use Rattle.std.proofs.Common.{◌∙◌, sym, ap, subst}
use Rattle.xm_base.specs.Options.{on}
use Rattle.xm_ports.specs.Channels.{IsTable}
use Rattle.xm_conf.specs.Configuration.{Conf}
use Rattle.xm_conf.specs.Description.{described}
use Rattle.xm_conf.specs.Fits.{Fits}
use Rattle.machine_model.specs.Lists.{and_then}
use Rattle.port_calls.specs.lemmas.MadePortsTerms.{HasKind, found_in, port_in}
use Rattle.system_state.specs.Serving.{caller_of}
use Rattle.port_calls.proofs.MadePortLemmas.{AtPort, chan_held, kind_found, made_found, none_found, port_found, port_made, table_is}
use Rattle.port_calls.proofs.made_ports.made_port.Goals as goal

pub returns-in_err-found-clause-value : goal.returns-in_err-found-clause-value
returns-in_err-found-clause-value c =
    let site = c.args.site in
    let sys = c.args.sys.now in
    let none = sym (ap (λ conf. found_in conf site.part c.in_ok-port.port c.args.kind) c.conf.ensures.value) ∙ sym c.found_in.ensures.value ∙ c.in_err-found.was in
    ap (on (port_in site.part sys)) c.from_residual-in_err-found.ensures
    ∙ sym (port_made c.args.kind (caller_of site sys)
    ∙ ap (λ o. and_then o (AtPort c.args.kind (caller_of site sys))) (sym c.made_number.ensures ∙ c.in_ok-port.was)
    ∙ none_found sys site c.args.kind c.in_ok-port.port none)

pub look_at-requires : goal.look_at-requires
look_at-requires c =
    let site = c.args.site in
    let sys = c.args.sys.now in
    let some = sym (ap (λ conf. found_in conf site.part c.in_ok-port.port c.args.kind) c.conf.ensures.value) ∙ sym c.found_in.ensures.value ∙ c.in_ok-found.was in
    subst (HasKind c.args.kind c.in_ok-found.found.chan) (sym (table_is c.channels.result.now sys c.channels.ensures.contents c.channels.ensures.shapes))
    (kind_found c.keeps_shapes.ensures.kinds sys site.part c.in_ok-port.port c.args.kind c.in_ok-found.found
    (subst (λ (conf : Conf). Fits (described conf)) c.conf.ensures.value c.in_ok-found.ensures.fits) c.requires.shapes some)

pub returns-clause-value : goal.returns-clause-value
returns-clause-value c =
    let site = c.args.site in
    let sys = c.args.sys.now in
    let some = sym (ap (λ conf. found_in conf site.part c.in_ok-port.port c.args.kind) c.conf.ensures.value) ∙ sym c.found_in.ensures.value ∙ c.in_ok-found.was in
    let table = subst IsTable (table_is c.channels.result.now sys c.channels.ensures.contents c.channels.ensures.shapes) c.look_at.ensures in
    sym (port_made c.args.kind (caller_of site sys)
    ∙ ap (λ o. and_then o (AtPort c.args.kind (caller_of site sys))) (sym c.made_number.ensures ∙ c.in_ok-port.was)
    ∙ port_found sys site c.args.kind c.in_ok-port.port c.in_ok-found.found some
    (chan_held sys site.part c.in_ok-port.port c.args.kind c.in_ok-found.found c.requires.shapes table some))

pub returns-clause-made : goal.returns-clause-made
returns-clause-made c =
    let site = c.args.site in
    let sys = c.args.sys.now in
    let some = sym (ap (λ conf. found_in conf site.part c.in_ok-port.port c.args.kind) c.conf.ensures.value) ∙ sym c.found_in.ensures.value ∙ c.in_ok-found.was in
    let table = subst IsTable (table_is c.channels.result.now sys c.channels.ensures.contents c.channels.ensures.shapes) c.look_at.ensures in
    made_found c.keeps_shapes.ensures.kinds sys site.part c.in_ok-port.port c.args.kind c.in_ok-found.found
    (subst (λ (conf : Conf). Fits (described conf)) c.conf.ensures.value c.in_ok-found.ensures.fits) c.requires.shapes table c.in_ok-found.ensures.few some
