-- What the tests know of memories after the bus.
use Rattle.std.proofs.Common.{◌≡◌, ℕ, ◌<◌, Bool, true, false, if◌then◌else◌, List, [], ◌∷◌, length, get_or, arith}
use Rattle.std.specs.Prelude.{Some, Ok}
use Rattle.guest_bus.specs.Access.{Stores, store_fault}
use Rattle.guest_bus.specs.Memory.{Area}
use Rattle.guest_bus.specs.declared.bus.BusFault.TheVariants.{Outside, Unaligned}
use Rattle.guest_bus.specs.declared.bus.Size.TheVariants.{Four}
use Rattle.guest_memory.specs.Memories.{Memories, areas_at}

-- where there is no area no word is stored
none_stored : (aligned : Bool) → Stores {T = Unit {0}} (Ok tt) (if aligned then (Some Outside) else Some Unaligned) → ⊥
none_stored true stored = stored
none_stored false stored = stored

-- so there is an area
some_area : (areas : List Area) (address : ℕ) → Stores {T = Unit {0}} (Ok tt) (store_fault areas address Four) → 0 < length areas
unfolding store_fault
some_area [] address stored = absurd (none_stored _ stored)
some_area (area ∷ areas) address stored = omega arith

-- and so there is a partition
some_partition : (areas : List (List Area)) (p : ℕ) → 0 < length (get_or areas p []) → 0 < length areas
some_partition [] p some = some
some_partition (first ∷ others) p some = omega arith

-- after a store there is a partition
pub some_after_store : (old new : Memories) (address : ℕ) → Stores {T = Unit {0}} (Ok tt) (store_fault (areas_at old.selected old) address Four) → areas_at new.selected new ≡ areas_at old.selected old → 0 < length new.areas
some_after_store old new address stored same =
    let some : 0 < length (areas_at new.selected new) = rw same (some_area (areas_at old.selected old) address stored) in
    some_partition new.areas new.selected some
