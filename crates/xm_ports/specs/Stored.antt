-- The shape and the content of a channel as it is kept.
use Rattle.std.specs.Prelude.{List, map}
use Rattle.xm_conf.specs.declared.channel.ChanKind.TheVariants as chan_kind
use Rattle.xm_ports.specs.Channels.{Content, Shape, ChannelTable}
use Rattle.xm_ports.specs.Channels as plain
use Rattle.xm_ports.specs.declared.channel.Channel.{Channel}
use Rattle.xm_ports.specs.declared.channel.Channel.TheVariants as kept

-- what a channel is
abbrev pub channel_shape : Channel → Shape
channel_shape (kept.Sampling state) = record { kind = chan_kind.Sampling state.refresh; length = state.length }
channel_shape (kept.Queuing state) = record { kind = chan_kind.Queuing state.most; length = state.length }

-- what a channel holds
abbrev pub channel_content : Channel → Content
channel_content (kept.Sampling state) = plain.Sampling state.sample
channel_content (kept.Queuing state) = plain.Queuing state.messages

-- the table of channels
abbrev pub table_of : List Channel → ChannelTable
table_of channels = record { shapes = map channel_shape channels; contents = map channel_content channels }
