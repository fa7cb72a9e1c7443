-- Lists of numbers below a bound, and memories of bytes.
use Rattle.std.specs.Prelude.{ℕ, ◌<◌, List, slice_index}
use Rattle.guest_bus.specs.Memory.{Memory, byte_at}

-- each number of a list is below a bound
abbrev pub AreBelow : ℕ → List ℕ → Type 0
AreBelow bound numbers = (i : ℕ) → slice_index numbers i < bound

-- what stands at each address of a memory is a byte
abbrev pub IsByteMemory : Memory → Type 0
IsByteMemory memory = (address : ℕ) → byte_at memory address < 256
