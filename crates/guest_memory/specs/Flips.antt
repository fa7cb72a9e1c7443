-- A bit of a byte of memory that flips.
use Rattle.std.specs.Prelude.{ℕ, ◌^◌, bit_xor}
use Rattle.std.specs.FinMap.{insert}
use Rattle.guest_bus.specs.Memory.{Memory, byte_at}

-- the memory after the flip of a bit of the byte at an address
abbrev pub with_flipped : ℕ → ℕ → Memory → Memory
with_flipped address bit memory = insert memory address (bit_xor (byte_at memory address) (2 ^ bit))
