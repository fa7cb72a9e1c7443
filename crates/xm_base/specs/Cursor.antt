-- A cursor over bytes: what it has ahead, and the numbers that bytes are.
use Rattle.std.specs.Prelude.{◌≡◌, ℕ, ◌+◌, List, length, take, drop}
use Rattle.std.specs.Int.{Width, to_be_bytes, from_be_bytes}

-- a cursor: the bytes that it goes over, and its place among them
pub record Place : Type 0 where
  pub bytes : List ℕ
  pub at : ℕ

-- the cursor at the first of the bytes
abbrev pub cursor_start : List ℕ → Place
cursor_start bytes = record { bytes = bytes; at = 0 }

-- the bytes from the place on
abbrev pub ahead : Place → List ℕ
ahead cursor = drop cursor.at cursor.bytes

-- how many bytes are left
abbrev pub left : Place → ℕ
left cursor = length (ahead cursor)

-- the next bytes, this many
abbrev pub next : ℕ → Place → List ℕ
next count cursor = take count (ahead cursor)

-- the cursor this many bytes further
abbrev pub past : ℕ → Place → Place
past count cursor = record { bytes = cursor.bytes; at = cursor.at + count }

-- the number that big endian bytes are, and of which they are the bytes
pub record IsNumberOf (width : Width) (bytes : List ℕ) (number : ℕ) : Type 0 where
  pub value : number ≡ from_be_bytes width bytes
  pub spelled : to_be_bytes width number ≡ bytes
