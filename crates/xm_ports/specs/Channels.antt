-- Channels: what each of them holds, and what a call does to it.
use Rattle.std.specs.Prelude.{◌≡◌, ℕ, zero, suc, ◌<◌, ◌≤◌, ⊤, List, [], ◌∷◌, ◌++◌, length, map, drop, slice_get, All, Option, Some, None, IfSome, IsSomeAnd, unwrap_or}
use Rattle.xm_conf.specs.Configuration.{Chan, Conf}
use Rattle.xm_conf.specs.declared.channel.ChanKind.{ChanKind}
use Rattle.xm_conf.specs.declared.channel.ChanKind.TheVariants as chan_kind

-- a message of a sampling channel: when it was written, and its bytes
pub record HeldSample : Type 0 where
  pub time : ℕ
  pub bytes : List ℕ

-- what a channel holds: the last message, where one was written, or all that wait, the oldest first
pub data Content : Type 0 where
  Sampling : Option HeldSample → Content
  Queuing : List (List ℕ) → Content

-- what a channel is: its kind, and how many bytes a message has at most
pub record Shape : Type 0 where
  pub kind : ChanKind
  pub length : ℕ

-- the kind and the length that a configured channel states
abbrev pub shape_of : Chan → Shape
shape_of chan = record { kind = chan.kind; length = chan.length }

-- the shapes of a configuration's channels, by the channels' numbers
unfoldable pub shapes_of : Conf → List Shape
shapes_of conf = map shape_of conf.chans

-- all channels: the shape and the content of each, by its number
pub record ChannelTable : Type 0 where
  pub shapes : List Shape
  pub contents : List Content

-- no message, for a kind of channel
abbrev pub empty_of : ChanKind → Content
empty_of (chan_kind.Sampling refresh) = Sampling None
empty_of (chan_kind.Queuing most) = Queuing []

-- no message
abbrev pub empty : Shape → Content
empty shape = empty_of shape.kind

-- a message is written at a time: it is the one that a sampling channel holds, and the last that waits in a queue
unfoldable pub put : ℕ → List ℕ → Content → Content
put time bytes (Sampling sample) = Sampling (Some record { time = time; bytes = bytes })
put time bytes (Queuing messages) = Queuing (messages ++ bytes ∷ [])

-- the first message is taken from a queue, where one waits; a sampling channel keeps its message
unfoldable pub first_taken : Content → Content
first_taken (Sampling sample) = Sampling sample
first_taken (Queuing messages) = Queuing (drop 1 messages)

-- all messages are dropped
unfoldable pub cleared : Content → Content
cleared (Sampling sample) = Sampling None
cleared (Queuing messages) = Queuing []

-- the message that a sampling channel holds; a queue has none
abbrev pub sample_of : Content → Option HeldSample
sample_of (Sampling sample) = sample
sample_of (Queuing messages) = None

-- the messages that wait in a queue; none wait in a sampling channel
abbrev pub messages_of : Content → List (List ℕ)
messages_of (Sampling sample) = []
messages_of (Queuing messages) = messages

-- the message that waits longest in a queue
abbrev pub first_message : Content → Option (List ℕ)
first_message content = slice_get (messages_of content) 0

-- the list with its element of a number changed; a list without such an element stays
abbrev pub changed : {X : Type 0} → (X → X) → ℕ → List X → List X
changed f n [] = []
changed f zero (x ∷ xs) = f x ∷ xs
changed f (suc n) (x ∷ xs) = x ∷ changed f n xs

-- the table with the content of one channel changed
abbrev pub with_content : (Content → Content) → ℕ → ChannelTable → ChannelTable
with_content f c table = record { shapes = table.shapes; contents = changed f c table.contents }

-- the table without a message
abbrev pub all_cleared : ChannelTable → ChannelTable
all_cleared table = record { shapes = table.shapes; contents = map cleared table.contents }

-- what a channel of the table holds; one that is not there holds nothing
abbrev pub content_at : ℕ → ChannelTable → Content
content_at c table = unwrap_or (slice_get table.contents c) (Queuing [])

-- how many messages a channel of a kind holds at most
abbrev pub most_of : ChanKind → ℕ
most_of (chan_kind.Sampling refresh) = 1
most_of (chan_kind.Queuing most) = most

-- a kind is that of sampling channels
abbrev pub IsSampling : ChanKind → Type 0
IsSampling (chan_kind.Sampling refresh) = ⊤
IsSampling (chan_kind.Queuing most) = ⊥

-- a kind is that of queues
abbrev pub IsQueuing : ChanKind → Type 0
IsQueuing (chan_kind.Sampling refresh) = ⊥
IsQueuing (chan_kind.Queuing most) = ⊤

-- the table has a sampling channel of that number
abbrev pub HasSampling : ℕ → ChannelTable → Type 0
HasSampling c table = IsSomeAnd (slice_get table.shapes c) (λ shape. IsSampling shape.kind)

-- the table has a queue of that number
abbrev pub HasQueue : ℕ → ChannelTable → Type 0
HasQueue c table = IsSomeAnd (slice_get table.shapes c) (λ shape. IsQueuing shape.kind)

-- bytes are a message where one has this many bytes at most: 1 or more, and no more than that
pub record IsMessage (most : ℕ) (bytes : List ℕ) : Type 0 where
  pub some : 1 ≤ length bytes
  pub fit : length bytes ≤ most

-- bytes are a message for a channel of the table
abbrev pub FitsChannel : List ℕ → ℕ → ChannelTable → Type 0
FitsChannel bytes c table = IfSome (slice_get table.shapes c) (λ shape. IsMessage shape.length bytes)

-- a channel of the table holds as many messages as it may
abbrev pub IsFull : ℕ → ChannelTable → Type 0
IsFull c table =
    IsSomeAnd (slice_get table.shapes c) (λ shape. length (messages_of (content_at c table)) ≡ most_of shape.kind)

-- a kind states at least one message, and 64 at most
abbrev pub HasMost : ChanKind → Type 0
HasMost (chan_kind.Sampling refresh) = ⊤
HasMost (chan_kind.Queuing most) = (0 < most) × (most ≤ 64)

-- a shape is one that a configuration may have
pub record IsShape (shape : Shape) : Type 0 where
  pub some : 1 ≤ shape.length
  pub few : shape.length ≤ 4096
  pub most : HasMost shape.kind

-- messages wait in a queue of this many messages and of this many bytes each, at most
pub record IsQueue (room most : ℕ) (messages : List (List ℕ)) : Type 0 where
  pub few : length messages ≤ most
  pub each : All (IsMessage room) messages

-- a content is one of a kind of channel, with messages of this many bytes at most
abbrev pub SuitsKind : ChanKind → ℕ → Content → Type 0
SuitsKind (chan_kind.Sampling refresh) room (Sampling sample) = IfSome sample (λ held. IsMessage room held.bytes)
SuitsKind (chan_kind.Sampling refresh) room (Queuing messages) = ⊥
SuitsKind (chan_kind.Queuing most) room (Sampling sample) = ⊥
SuitsKind (chan_kind.Queuing most) room (Queuing messages) = IsQueue room most messages

-- a content is one of a channel of that shape
pub record Suits (shape : Shape) (content : Content) : Type 0 where
  pub held : SuitsKind shape.kind shape.length content

-- a table of channels: each has a shape that it may have, and holds what its shape allows
pub record IsTable (table : ChannelTable) : Type 0 where
  pub few : length table.shapes ≤ 64
  pub counted : length table.contents ≡ length table.shapes
  pub shapes : All IsShape table.shapes
  pub contents : (c : ℕ) → IfSome (slice_get table.shapes c) (λ shape. IfSome (slice_get table.contents c) (Suits shape))
