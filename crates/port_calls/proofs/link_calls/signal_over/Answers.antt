use Rattle.std.proofs.Common.{◌≡◌, ◌<◌, length, ap, arith}
use Rattle.xm_conf.specs.Configuration.{Conf}
use Rattle.system_state.specs.State.{SysState}
use Rattle.port_calls.proofs.LinkCallLemmas.{signals}
use Rattle.port_calls.proofs.link_calls.signal_over.Goals as goal

pub returns : goal.returns
returns c =
    let old = c.args.sys.now in
    let set = c.set_result.new.sys in
    let same : set.machine.system.conf ≡ old.machine.system.conf = ap (λ (s : SysState). s.machine.system.conf) c.set_result.ensures in
    let below : c.args.dest < length set.machine.parts =
    omega (arith, c.requires.goes.there, c.count-count.ensures.parts, ap (λ (conf : Conf). length conf.parts) same)
    in
    signals c.args.site old set c.signal.new.sys c.args.number c.args.dest c.requires.number c.requires.found c.requires.goes below c.set_result.ensures c.signal.ensures
