-- The channels that the tests try.
use Rattle.std.specs.Prelude.{◌≡◌, List, [], ◌∷◌}
use Rattle.xm_conf.specs.declared.channel.ChanKind.TheVariants as chan_kind
use Rattle.xm_ports.specs.Channels.{Shape, ChannelTable}

-- a sampling channel, and a queue of two messages, each of at most 8 bytes
abbrev pub tried_shapes : List Shape
tried_shapes =
    record { kind = chan_kind.Sampling 1000; length = 8 } ∷ record { kind = chan_kind.Queuing 2; length = 8 } ∷ []

-- the channels are these two
abbrev pub AreTried : ChannelTable → Type 0
AreTried table = table.shapes ≡ tried_shapes
