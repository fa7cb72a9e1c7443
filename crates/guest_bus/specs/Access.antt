-- Loads, stores and fetches of big endian values.
use Rattle.std.specs.Prelude.{◌≡◌, ℕ, ◌%◌, ◌==◌, Bool, if◌then◌else◌, List, Option, Some, None, Result, Ok, Err}
use Rattle.std.specs.Int.{Width, w8, w16, w32, w64, byte_len, from_be_bytes, to_be_bytes}
use Rattle.guest_bus.specs.Memory.{Area, Memory, is_readable, is_writable, all_from, bytes_at, with_bytes}
use Rattle.guest_bus.specs.declared.bus.Size.{Size}
use Rattle.guest_bus.specs.declared.bus.Size.TheVariants.{One, Two, Four, Eight}
use Rattle.guest_bus.specs.declared.bus.BusFault.{BusFault}
use Rattle.guest_bus.specs.declared.bus.BusFault.TheVariants.{Outside, Unaligned}

-- how wide a value of a size is
abbrev pub width_of : Size → Width
width_of One = w8
width_of Two = w16
width_of Four = w32
width_of Eight = w64

-- what refuses an access of this many bytes: first its alignment, then a byte that is not allowed
abbrev pub access_fault : (ℕ → Bool) → ℕ → ℕ → Option BusFault
access_fault allowed address count =
    if address % count == 0 then (if all_from allowed address count then None else Some Outside) else Some Unaligned

-- the value where nothing refuses it
abbrev pub unless_refused : {X : Type 0} → Option BusFault → X → Result X BusFault
unless_refused None value = Ok value
unless_refused (Some fault) value = Err fault

-- the value that a load answers
unfoldable pub loaded : List Area → Memory → ℕ → Size → Result ℕ BusFault
loaded areas memory address size =
    unless_refused (access_fault (is_readable areas) address (byte_len (width_of size)))
    (from_be_bytes (width_of size) (bytes_at memory address (byte_len (width_of size))))

-- the word that a fetch answers
unfoldable pub fetched : List Area → Memory → ℕ → Result ℕ BusFault
fetched areas memory address =
    unless_refused (access_fault (is_readable areas) address 4) (from_be_bytes w32 (bytes_at memory address 4))

-- what refuses a store
unfoldable pub store_fault : List Area → ℕ → Size → Option BusFault
store_fault areas address size = access_fault (is_writable areas) address (byte_len (width_of size))

-- a memory where nothing refuses its change, else the old one
abbrev pub memory_unless_refused : Option BusFault → Memory → Memory → Memory
memory_unless_refused None old new = new
memory_unless_refused (Some fault) old new = old

-- the memory that a store leaves
unfoldable pub after_store : List Area → Memory → ℕ → Size → ℕ → Memory
after_store areas memory address size value =
    memory_unless_refused (store_fault areas address size) memory (with_bytes memory address (to_be_bytes (width_of size) value))

-- a store is refused exactly by its fault
abbrev pub Stores : {T : Type 0} → Result T BusFault → Option BusFault → Type 0
Stores (Ok _) None = Unit {0}
Stores (Ok _) (Some fault) = ⊥
Stores (Err found) None = ⊥
Stores (Err found) (Some fault) = found ≡ fault
