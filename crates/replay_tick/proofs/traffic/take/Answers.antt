use Rattle.std.proofs.Common.{arith, sym, ◌∙◌}
use Rattle.xm_ports.specs.Channels.{IsQueuing}
use Rattle.replay_tick.proofs.LoneTrafficLemmas.{first_few, kind_shape, none_waits, queue_at}
use Rattle.replay_tick.proofs.traffic.take.Goals as goal

pub first-requires : goal.first-requires
first-requires c =
    record { channel = kind_shape IsQueuing c.args.sys.now.machine.system.conf c.channels.result.now.shapes c.args.chan (c.channels.ensures.shapes ∙ c.requires.shapes) c.requires.kind }

pub drop_first-requires-clause-channel : goal.drop_first-requires-clause-channel
drop_first-requires-clause-channel c = kind_shape IsQueuing c.args.sys.now.machine.system.conf c.args.sys.now.shapes c.args.chan c.requires.shapes c.requires.kind

pub drop_first-requires-clause-first : goal.drop_first-requires-clause-first
drop_first-requires-clause-first c =
    first_few c.args.sys.now.machine c.channels.result.now c.args.sys.now.shapes c.args.chan
    (queue_at c.args.sys.now.machine.system.conf c.channels.result.now c.args.chan c.first.ensures.kept (c.channels.ensures.shapes ∙ c.requires.shapes) c.requires.kind)
    c.first.ensures.kept (c.channels.ensures.shapes ∙ c.requires.shapes) c.channels.ensures.contents
    (λ none. let e = c.first.ensures.none.1 none in let s = c.is_some-some.ensures in let t = c.if-some.true in grind (arith, e, s, t))

pub returns-else-some-clause-taken : goal.returns-else-some-clause-taken
returns-else-some-clause-taken c =
    c.if-some.false
    ∙ sym (none_waits c.args.sys.now.machine c.channels.result.now c.args.chan
    (queue_at c.args.sys.now.machine.system.conf c.channels.result.now c.args.chan c.first.ensures.kept (c.channels.ensures.shapes ∙ c.requires.shapes) c.requires.kind)
    c.channels.ensures.contents (c.first.ensures.none.0 (let s = c.is_some-some.ensures in let t = c.if-some.false in grind (arith, s, t))))
