use Rattle.std.proofs.Common.{subst, sym, ap, ◌∙◌}
use Rattle.system_state.specs.State.{with_inputs}
use Rattle.xm_conf.specs.Configuration.{Conf}
use Rattle.xm_ports.specs.Channels.{shapes_of}
use Rattle.machine_restore.specs.lemmas.Values.{AreValues}
use Rattle.machine_restore.proofs.GivenLemmas.{restored_is, start_conf, start_counted}
use Rattle.machine_restore.proofs.whole.restore_values.Goals as goal

pub put_all-requires-clause-counted : goal.put_all-requires-clause-counted
put_all-requires-clause-counted c = start_counted (with_inputs c.args.system c.args.inputs) c.in_ok-sys.sys.machine c.in_ok-sys.ensures.machine

pub put_all-requires-clause-shapes : goal.put_all-requires-clause-shapes
put_all-requires-clause-shapes c =
    c.in_ok-sys.ensures.shapes ∙ ap shapes_of (sym (start_conf (with_inputs c.args.system c.args.inputs) c.in_ok-sys.sys.machine c.in_ok-sys.ensures.machine))

pub put_all-requires-clause-values : goal.put_all-requires-clause-values
put_all-requires-clause-values c =
    subst (λ (conf : Conf). AreValues conf c.args.values.now) (sym (start_conf (with_inputs c.args.system c.args.inputs) c.in_ok-sys.sys.machine c.in_ok-sys.ensures.machine)) c.requires.values

pub returns-clause-machine : goal.returns-clause-machine
returns-clause-machine c =
    restored_is (with_inputs c.args.system c.args.inputs) c.args.values.now c.in_ok-sys.sys c.put_all.new.sys c.requires.values.counted c.in_ok-sys.ensures.machine c.in_ok-put_all.ensures
