use Rattle.std.proofs.Common.{◌∙◌}
use Rattle.xm_ports.proofs.ChannelLemmas.{shapes-sent}
use Rattle.xm_ports.proofs.tests.is_sent.Goals as goal

pub returns : goal.returns
returns c = record { tried = shapes-sent 1 c.args.bytes.now c.args.channels.now c.send.new.self c.send.result c.send.ensures.sent c.send.ensures.unchanged ∙ c.requires.tried }
