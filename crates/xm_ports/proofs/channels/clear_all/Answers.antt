use Rattle.std.proofs.Common.{◌<◌, length, ◌∙◌, arith}
use Rattle.std.proofs.lemmas.Option.{slice_get-get_or}
use Rattle.xm_ports.proofs.ChannelLemmas.{shapes-set, cleared-front}
use Rattle.xm_ports.proofs.channels.clear_all.Goals as goal

pub loop-channel-preserved : goal.loop-channel-preserved
loop-channel-preserved c =
    let within : c.loop-channel.channel-index < length c.loop-channel.channel-items = omega arith in
    let here = slice_get-get_or c.loop-channel.channel-items c.loop-channel.channel-index c.channel-item.result within in
    record {
      shapes = shapes-set _ _ _ _ here c.clear.ensures.shape ∙ c.loop-channel.invariant.shapes;
      contents = cleared-front _ _ _ _ _ here c.clear.ensures.content c.loop-channel.invariant.contents;
    }
