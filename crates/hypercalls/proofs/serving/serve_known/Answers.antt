-- A call on a made port observes nothing.
use Rattle.std.proofs.Common.{◌∙◌, Some, ap, refl}
use Rattle.machine_model.specs.declared.numbers.Call.TheVariants.{ReadSamplingMessage, ReceiveQueuingMessage, SendQueuingMessage, WriteSamplingMessage}
use Rattle.machine_model.specs.PortCalls.{read_sampling_message, receive_queuing_message, send_queuing_message, write_sampling_message}
use Rattle.hypercalls.proofs.ServingLemmas.{unseen}
use Rattle.hypercalls.proofs.serving.serve_known.Goals as goal

pub returns-in-WriteSamplingMessage : goal.returns-in-WriteSamplingMessage
unfolding write_sampling_message
returns-in-WriteSamplingMessage c = rw c.in-WriteSamplingMessage.is (unseen c.args.site c.args.sys.now c.send.new.sys WriteSamplingMessage _ c.send.result (c.requires.call ∙ ap Some c.in-WriteSamplingMessage.is) (λ view a b c. refl) c.send.ensures)

pub returns-in-ReadSamplingMessage : goal.returns-in-ReadSamplingMessage
unfolding read_sampling_message
returns-in-ReadSamplingMessage c = rw c.in-ReadSamplingMessage.is (unseen c.args.site c.args.sys.now c.receive.new.sys ReadSamplingMessage _ c.receive.result (c.requires.call ∙ ap Some c.in-ReadSamplingMessage.is) (λ view a b c. refl) c.receive.ensures)

pub returns-in-SendQueuingMessage : goal.returns-in-SendQueuingMessage
unfolding send_queuing_message
returns-in-SendQueuingMessage c = rw c.in-SendQueuingMessage.is (unseen c.args.site c.args.sys.now c.send-in-SendQueuingMessage.new.sys SendQueuingMessage _ c.send-in-SendQueuingMessage.result (c.requires.call ∙ ap Some c.in-SendQueuingMessage.is) (λ view a b c. refl) c.send-in-SendQueuingMessage.ensures)

pub returns-in-ReceiveQueuingMessage : goal.returns-in-ReceiveQueuingMessage
unfolding receive_queuing_message
returns-in-ReceiveQueuingMessage c = rw c.in-ReceiveQueuingMessage.is (unseen c.args.site c.args.sys.now c.receive-in-ReceiveQueuingMessage.new.sys ReceiveQueuingMessage _ c.receive-in-ReceiveQueuingMessage.result (c.requires.call ∙ ap Some c.in-ReceiveQueuingMessage.is) (λ view a b c. refl) c.receive-in-ReceiveQueuingMessage.ensures)
