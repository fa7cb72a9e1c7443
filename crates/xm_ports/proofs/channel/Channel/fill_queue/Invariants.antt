use Rattle.std.proofs.Common.{◌≡◌, map, take}
use Rattle.xm_ports.specs.Channels.{Queuing}
use Rattle.xm_ports.specs.Stored.{channel_shape, channel_content}
use Rattle.xm_ports.proofs.channel.Channel.fill_queue.Given as goal

abbrev pub invariant-loop-message : goal.invariant-loop-message
invariant-loop-message l = record {
  shape : channel_shape l.self ≡ channel_shape l.fn.self;
  content : channel_content l.self ≡ Queuing (map (λ message. message.items) (take l.message-index l.messages));
}
