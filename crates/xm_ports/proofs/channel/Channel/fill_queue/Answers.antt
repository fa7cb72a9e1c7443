use Rattle.std.proofs.Common.{◌∙◌}
use Rattle.xm_ports.specs.Stored.{channel_content, channel_shape}
use Rattle.xm_ports.proofs.FilledLemmas.{message_fits, queue_more}
use Rattle.xm_ports.proofs.channel.Channel.fill_queue.Goals as goal

pub send-requires-clause-bytes : goal.send-requires-clause-bytes
send-requires-clause-bytes c =
    rw (c.deref.ensures.value, c.loop-message.invariant.shape)
    (message_fits (λ message. message.items) (channel_shape c.args.self.now).kind (channel_shape c.args.self.now).length c.args.messages.now c.loop-message.message-index c.message-item.result c.requires.suits.held c.loop-message-test.true c.message-item.is)

pub loop-message-preserved : goal.loop-message-preserved
loop-message-preserved c = record {
  shape = c.in-Ok.ensures.shape ∙ c.loop-message.invariant.shape;
  content = queue_more (λ message. message.items) c.args.messages.now c.loop-message.message-index c.message-item.result c.deref.result.now (channel_content c.loop-message.self) (channel_content c.send.new.self)
      c.loop-message-test.true c.message-item.is c.deref.ensures.value c.loop-message.invariant.content (c.in-Ok.ensures.sent 0);
}
