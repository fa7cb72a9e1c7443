use Rattle.std.proofs.Common.{refl, ◌∙◌}
use Rattle.xm_ports.specs.Channels.{IsQueuing}
use Rattle.replay_tick.proofs.LoneTrafficLemmas.{fits_shape, kind_shape, queue_at, room_left, room_none}
use Rattle.replay_tick.proofs.traffic.put_message.Goals as goal

pub first-first-requires : goal.first-first-requires
first-first-requires c =
    record { channel = kind_shape IsQueuing c.args.sys.now.machine.system.conf c.channels.result.now.shapes c.args.chan (c.channels.ensures.shapes ∙ c.requires.shapes) c.requires.kind }

pub send-requires-clause-channel : goal.send-requires-clause-channel
send-requires-clause-channel c = kind_shape IsQueuing c.args.sys.now.machine.system.conf c.args.sys.now.shapes c.args.chan c.requires.shapes c.requires.kind

pub send-requires-clause-bytes : goal.send-requires-clause-bytes
send-requires-clause-bytes c = fits_shape c.args.sys.now.machine.system.conf c.args.sys.now.shapes c.args.chan c.args.bytes.now c.requires.shapes c.requires.channel

pub returns-in-Ok : goal.returns-in-Ok
returns-in-Ok c = record {
  taken = room_left c.args.sys.now.machine c.channels.result.now c.args.sys.now.shapes c.args.chan
      (queue_at c.args.sys.now.machine.system.conf c.channels.result.now c.args.chan c.first-first.ensures.kept (c.channels.ensures.shapes ∙ c.requires.shapes) c.requires.kind)
      c.requires.shapes c.channels.ensures.contents (λ full. let no = c.in-Ok.ensures.full.1 full in cc);
  put = c.in-Ok.ensures.sent;
}

pub returns-in-Err : goal.returns-in-Err
returns-in-Err c = record {
  taken = room_none c.args.sys.now.machine c.channels.result.now c.args.sys.now.shapes c.args.chan
      (queue_at c.args.sys.now.machine.system.conf c.channels.result.now c.args.chan c.first-first.ensures.kept (c.channels.ensures.shapes ∙ c.requires.shapes) c.requires.kind)
      c.requires.shapes c.channels.ensures.contents (c.in-Err.ensures.full.0 refl);
  put = c.in-Err.ensures.unchanged;
}
