-- What is left of a room for bytes.
use Rattle.std.specs.Prelude.{ℕ, ◌-◌, nat_le, if◌then◌else◌, Option, Some, None}

-- what is left of a room when so much of it is taken, or nothing where it has less
abbrev pub room_after : ℕ → ℕ → Option ℕ
room_after room taken = if nat_le taken room then Some (room - taken) else None
