-- What channels hold, by plain values.
use Rattle.std.specs.Prelude.{ℕ, List, map, slice_get, IfSome}
use Rattle.xm_ports.specs.Channels.{Content, Shape, Suits}
use Rattle.xm_ports.specs.Channels as plain
use Rattle.xm_ports.specs.declared.content.ContentValue.{ContentValue}
use Rattle.xm_ports.specs.declared.content.ContentValue.TheVariants as value

-- what a channel holds
abbrev pub content_of : ContentValue → Content
content_of (value.Sampling sample) = plain.Sampling sample
content_of (value.Queuing messages) = plain.Queuing (map (λ message. message.items) messages.items)

-- each content is one of the channel of its number
abbrev pub EachSuits : List Shape → List Content → Type 0
EachSuits shapes contents = (c : ℕ) → IfSome (slice_get shapes c) (λ shape. IfSome (slice_get contents c) (Suits shape))
