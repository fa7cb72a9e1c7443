use Rattle.std.proofs.Common.{◌≡◌, ◌≤◌, length, map, take, vec_capacity}
use Rattle.xm_ports.specs.Channels.{shape_of, empty}
use Rattle.xm_ports.specs.Stored.{channel_shape, channel_content}
use Rattle.xm_ports.proofs.channels.made.Given as goal

abbrev pub invariant-loop-chan : goal.invariant-loop-chan
invariant-loop-chan l = record {
  reserved : length l.chans ≤ vec_capacity l.channels;
  counted : length l.channels.items ≡ l.chan-index;
  shapes : map channel_shape l.channels.items ≡ map shape_of (take l.chan-index l.chans);
  contents : map channel_content l.channels.items ≡ map empty (map shape_of (take l.chan-index l.chans));
}
