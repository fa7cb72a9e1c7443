-- For proofs and private clauses: the memories of all partitions, and where an access to one of them is refused.
use Rattle.std.specs.Prelude.{ℕ, Bool, false, List}
use Rattle.guest_bus.specs.Memory.{Area, is_readable, is_writable}
use Rattle.guest_memory.specs.declared.access.Access.{Access}
use Rattle.guest_memory.specs.declared.access.Access.TheVariants.{Read, Write}

-- whether an access to the byte at an address is allowed
abbrev pub allows_byte : Access → List Area → ℕ → Bool
allows_byte Read areas = is_readable areas
allows_byte Write areas = is_writable areas

-- whether an access is refused in an area that may only be read, or in one that may be written
abbrev pub refuses : Access → Bool → Bool
refuses Read read_only = false
refuses Write read_only = read_only
