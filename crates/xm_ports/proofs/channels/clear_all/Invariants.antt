use Rattle.std.proofs.Common.{◌≡◌, ◌++◌, map, take, drop}
use Rattle.xm_ports.specs.Channels.{cleared}
use Rattle.xm_ports.specs.Stored.{channel_shape, channel_content}
use Rattle.xm_ports.proofs.channels.clear_all.Given as goal

abbrev pub invariant-loop-channel : goal.invariant-loop-channel
invariant-loop-channel l = record {
  shapes : map channel_shape l.channel-items ≡ map channel_shape l.fn.channels;
  contents : map channel_content l.channel-items
      ≡ map cleared (take l.channel-index (map channel_content l.fn.channels)) ++ drop l.channel-index (map channel_content l.fn.channels);
}
