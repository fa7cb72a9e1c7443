-- For proofs and private clauses: how the channels are kept: rooms for messages, and the shape and the content that these make.
use Rattle.std.specs.Prelude.{◌≡◌, ℕ, ◌+◌, ◌≤◌, List, length, All}
use Rattle.xm_ports.specs.Kept.{Room}

-- rooms for this many bytes each
abbrev pub AreRooms : ℕ → List Room → Type 0
AreRooms most rooms = All (λ room. room.most ≡ most) rooms

-- rooms for this many bytes each, in a place for this many rooms
pub record HaveRoom (most room capacity : ℕ) (rooms : List Room) : Type 0 where
  pub sized : AreRooms room rooms
  pub reserved : most ≤ capacity

-- the rooms of a queue: those of the messages that wait, and those that are free, in places for all of them
pub record AreKept (most room : ℕ) (waiting : List Room) (waiting_capacity : ℕ) (free : List Room) (free_capacity : ℕ) : Type 0 where
  pub waiting_rooms : HaveRoom most room waiting_capacity waiting
  pub free_rooms : HaveRoom most room free_capacity free
  pub counted : length waiting + length free ≡ most
