use Rattle.std.proofs.Common.{◌≡◌, ◌≤◌, length, map, take, vec_capacity}
use Rattle.xm_ports.specs.Channels.{shape_of}
use Rattle.xm_ports.specs.Contents.{content_of}
use Rattle.xm_ports.specs.Stored.{channel_shape, channel_content}
use Rattle.xm_ports.proofs.channels.filled.Given as goal

abbrev pub invariant-loop-c : goal.invariant-loop-c
invariant-loop-c l = record {
  reserved : length l.chans ≤ vec_capacity l.channels;
  counted : length l.channels.items ≡ l.c;
  shapes : map channel_shape l.channels.items ≡ map shape_of (take l.c l.chans);
  contents : map channel_content l.channels.items ≡ map content_of (take l.c l.contents);
}
