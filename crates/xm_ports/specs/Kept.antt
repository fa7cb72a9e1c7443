-- How the channels are kept: rooms for messages, and the shape and the content that these make.
use Rattle.std.specs.Prelude.{ℕ, List, length, map, Option, Some, None}
use Rattle.xm_ports.specs.Channels.{HeldSample}

-- a place for a message: its bytes, and how many it can have
pub record Room : Type 0 where
  pub bytes : List ℕ
  pub most : ℕ

-- a sampling channel: its refresh period, how many bytes a message has at most, and the last message
pub record SamplingState : Type 0 where
  pub refresh : ℕ
  pub length : ℕ
  pub sample : Option HeldSample

-- a queue: how many messages it has at most, how many bytes each has at most, and the messages that wait
pub record QueuingState : Type 0 where
  pub most : ℕ
  pub length : ℕ
  pub messages : List (List ℕ)

-- the message that a room holds, where it was written at some time
abbrev pub sample_in : Option ℕ → Room → Option HeldSample
sample_in None room = None
sample_in (Some time) room = Some record { time = time; bytes = room.bytes }

-- the messages that rooms hold
abbrev pub messages_in : List Room → List (List ℕ)
messages_in rooms = map (λ room. room.bytes) rooms
