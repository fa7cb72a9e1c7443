-- Values of all sizes in bytes, by one way to read and to write them.
use Rattle.std.proofs.Common.{◌≡◌, ℕ, List, refl, arith, ◌-◌}
use Rattle.std.specs.Prelude.{drop}
use Rattle.std.specs.Int.{byte_len, from_be_bytes, to_be_bytes, w32, w64}
use Rattle.byteorder.specs.Endian.{big_number}
use Rattle.guest_bus.specs.Access.{width_of}
use Rattle.guest_bus.specs.declared.bus.Size.{Size}
use Rattle.guest_bus.specs.declared.bus.Size.TheVariants.{One, Two, Four, Eight}

-- the number that is read of a word's bytes
pub read_word : (bytes : List ℕ) → big_number 4 bytes ≡ from_be_bytes w32 bytes
read_word bytes = omega arith

-- the number that is read of the bytes of a size
pub read_of_size : (size : Size) (bytes : List ℕ) → big_number (byte_len (width_of size)) bytes ≡ from_be_bytes (width_of size) bytes
read_of_size One bytes = omega arith
read_of_size Two bytes = omega arith
read_of_size Four bytes = omega arith
read_of_size Eight bytes = omega arith

-- the low bytes of a double word are those of the size
pub low_bytes : (size : Size) (value : ℕ) → drop (8 - byte_len (width_of size)) (to_be_bytes w64 value) ≡ to_be_bytes (width_of size) value
low_bytes One value = refl
low_bytes Two value = refl
low_bytes Four value = refl
low_bytes Eight value = refl
