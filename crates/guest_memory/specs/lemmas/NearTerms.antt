-- For proofs and private clauses: the areas of one partition that are looked at first.
use Rattle.std.specs.Prelude.{◌≡◌, ℕ, ◌+◌, ◌<◌, ◌≤◌, ◌^◌, ◌⊎◌, List, None, length}
use Rattle.guest_bus.specs.Access.{after_store, store_fault}
use Rattle.guest_bus.specs.Memory.{Area, is_readable, is_writable, with_bytes}
use Rattle.guest_bus.specs.Words.{MayStand, bytes_of, words_at}
use Rattle.guest_bus.specs.declared.bus.Size.{Size}
use Rattle.guest_memory.specs.lemmas.FlatTerms.{SameAround, memory_of_part}
use Rattle.guest_memory.specs.Flat.{Table, listed}
use Rattle.guest_memory.specs.Memories.{IsPlaced}
use Rattle.guest_memory.specs.declared.near.Found.{Found}
use Rattle.guest_memory.specs.declared.near.Near.{Near}
use Rattle.guest_memory.specs.declared.near.Spot.{Spot}

-- the area as a guest sees it
abbrev pub area_there : Spot → Area
area_there spot = record { start = spot.start; size = spot.size; read_only = spot.read_only }

-- an area ends with the address space or before, and its bytes begin where an address can
pub record IsSpot (spot : Spot) : Type 0 where
  pub ends : spot.start + spot.size ≤ 2 ^ 32
  pub few : spot.place ≤ 2 ^ 32

-- so do all three areas
pub record AreSpots (near : Near) : Type 0 where
  pub first : IsSpot near.first
  pub second : IsSpot near.second
  pub third : IsSpot near.third

-- an area is whole pages, and its bytes lie among all
pub record FitsIn (spot : Spot) (whole : List ℕ) : Type 0 where
  pub placed : IsPlaced (area_there spot)
  pub within : spot.place + spot.size ≤ length whole
  pub few : spot.place ≤ 2 ^ 32

-- so are all three areas
pub record AreWithin (near : Near) (whole : List ℕ) : Type 0 where
  pub first : FitsIn near.first whole
  pub second : FitsIn near.second whole
  pub third : FitsIn near.third whole

-- an area has the address, and the byte there is the one that was found
pub record IsSpotOf (address : ℕ) (found : Found) (spot : Spot) : Type 0 where
  pub from : spot.start ≤ address
  pub under : address < spot.start + spot.size
  pub byte : found.byte + spot.start ≡ spot.place + address
  pub only : found.read_only ≡ spot.read_only

-- one of the three has it
abbrev pub IsNear : ℕ → Found → Near → Type 0
IsNear address found near = IsSpotOf address found near.first ⊎ (IsSpotOf address found near.second ⊎ IsSpotOf address found near.third)

-- so are the 63 bytes after it
pub record HasPart (address : ℕ) (found : Found) (spot : Spot) : Type 0 where
  pub here : IsSpotOf address found spot
  pub within : address + 64 ≤ spot.start + spot.size

-- all 64 are in one of the three
abbrev pub IsNearPart : ℕ → Found → Near → Type 0
IsNearPart address found near = HasPart address found near.first ⊎ (HasPart address found near.second ⊎ HasPart address found near.third)

-- sixteen words were written, and no byte beside those of the partition is another
pub record AreWritten (table : Table) (old new : List ℕ) (address : ℕ) (words : List ℕ) : Type 0 where
  pub free : MayStand (is_writable (listed table.entries)) address
  pub memory : memory_of_part table new ≡ with_bytes (memory_of_part table old) address (bytes_of words)
  pub others : SameAround table old new

-- sixteen words were read
pub record AreRead (table : Table) (whole : List ℕ) (address : ℕ) (words : List ℕ) : Type 0 where
  pub free : MayStand (is_readable (listed table.entries)) address
  pub read : words ≡ words_at (memory_of_part table whole) address 16

-- a store was made, and no byte beside those of the partition is another
pub record IsStored (table : Table) (old new : List ℕ) (address value : ℕ) (size : Size) : Type 0 where
  pub free : store_fault (listed table.entries) address size ≡ None
  pub memory : memory_of_part table new ≡ after_store (listed table.entries) (memory_of_part table old) address size value
  pub others : SameAround table old new
