-- For proofs and private clauses: a guest's memory: its areas, and its bytes by their addresses.
use Rattle.std.specs.Prelude.{ℕ, List, []}
use Rattle.std.specs.FinMap.{empty}
use Rattle.guest_bus.specs.Memory.{Memory, Others, with_bytes}

-- a guest without others
abbrev pub no_others : Others
no_others = record { number = 0; areas = []; memories = [] }

-- a memory of these bytes from an address on, and nothing else
unfoldable pub memory_of_bytes : ℕ → List ℕ → Memory
memory_of_bytes address bytes = with_bytes empty address bytes
