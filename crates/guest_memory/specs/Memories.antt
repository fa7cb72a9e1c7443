-- The memories of all partitions, and where an access to one of them is refused.
use Rattle.std.specs.Prelude.{◌≡◌, ◌≢◌, ℕ, zero, suc, ◌+◌, ◌-◌, ◌%◌, ◌^◌, ◌<◌, ◌≤◌, ◌⊎◌, Bool, if◌then◌else◌, nat_lt, List, [], ◌∷◌, length, take, drop, slice_get, slice_index_or, slice_set, remove, All, AllPairs, Option, None, Some, Result, Ok, Err}
use Rattle.std.specs.FinMap.{empty, get}
use Rattle.xm_conf.specs.Limits.{most_parts}
use Rattle.guest_bus.specs.Memory.{Area, Memory, Others, bytes_at}
use Rattle.guest_bus.specs.Whole.{IsMemoryOf}
use Rattle.guest_memory.specs.declared.outside.Outside.{Outside}

-- the memories of all partitions by the partitions' numbers: the areas and the bytes of each, and the one that is selected
pub record Memories : Type 0 where
  pub areas : List (List Area)
  pub maps : List Memory
  pub selected : ℕ

-- the areas of a partition
abbrev pub areas_at : ℕ → Memories → List Area
areas_at p memories = slice_index_or memories.areas p []

-- the bytes of a partition by their addresses
abbrev pub map_at : ℕ → Memories → Memory
map_at p memories = slice_index_or memories.maps p empty

-- how many bytes areas have
abbrev pub areas_size : List Area → ℕ
areas_size [] = 0
areas_size (area ∷ areas) = area.size + areas_size areas

-- how many bytes the areas of all partitions have
abbrev pub whole_size : List (List Area) → ℕ
whole_size [] = 0
whole_size (areas ∷ others) = areas_size areas + whole_size others

-- how many bytes all areas have that stand before one of a partition
abbrev pub place_at : ℕ → ℕ → Memories → ℕ
place_at p area memories = whole_size (take p memories.areas) + areas_size (take area (areas_at p memories))

-- the memories with other bytes for one partition
abbrev pub with_map : ℕ → Memory → Memories → Memories
with_map p memory memories = record { areas = memories.areas; maps = slice_set memories.maps p memory; selected = memories.selected }

-- the memories with another partition selected
abbrev pub with_selected : ℕ → Memories → Memories
with_selected p memories = record { areas = memories.areas; maps = memories.maps; selected = p }

-- the number of the selected partition, and the areas and the bytes of all others, in order
abbrev pub others_of : Memories → Others
others_of memories = record {
  number = memories.selected;
  areas = remove memories.areas memories.selected;
  memories = remove memories.maps memories.selected;
}

-- every other partition has the bytes that it had
abbrev pub SameElsewhere : ℕ → Memories → Memories → Type 0
SameElsewhere p old new = (other : ℕ) → other ≢ p → map_at other new ≡ map_at other old

-- one area ends before the other begins
abbrev pub AreasApart : Area → Area → Type 0
AreasApart a b = (a.start + a.size ≤ b.start) ⊎ (b.start + b.size ≤ a.start)

-- an area is whole pages, and ends at or below 2^32
pub record IsPlaced (area : Area) : Type 0 where
  pub start : area.start % 4096 ≡ 0
  pub size : area.size % 4096 ≡ 0
  pub ends : area.start + area.size ≤ 2 ^ 32

-- the areas of one partition
pub record ArePlaced (areas : List Area) : Type 0 where
  pub each : All IsPlaced areas
  pub apart : AllPairs AreasApart areas

-- memories of partitions: each has a byte at exactly the addresses of its areas
pub record AreMemories (memories : Memories) : Type 0 where
  pub counted : length memories.maps ≡ length memories.areas
  pub selected : memories.selected < length memories.areas
  pub few : length memories.areas ≤ most_parts
  pub placed : All ArePlaced memories.areas
  pub whole : (p : ℕ) → p < length memories.areas → IsMemoryOf (areas_at p memories) (map_at p memories)

-- the byte at an address of an area stands in a list of all bytes, so far after the area's place as the address is after its start
abbrev pub HasBytes : Memories → List ℕ → Type 0
HasBytes memories whole =
    (p k : ℕ) (area : Area) (address : ℕ) → slice_get (areas_at p memories) k ≡ Some area → area.start ≤ address → address < area.start + area.size
    → get (map_at p memories) address ≡ slice_get whole (place_at p k memories + (address - area.start))

-- the bytes of an area stand in a list of all bytes from the area's place on
abbrev pub HasAreas : Memories → List ℕ → Type 0
HasAreas memories whole =
    (p k : ℕ) (area : Area) → slice_get (areas_at p memories) k ≡ Some area
    → bytes_at (map_at p memories) area.start area.size ≡ take area.size (drop (place_at p k memories) whole)

-- the first of this many addresses from one on that is not allowed
abbrev pub first_refused : (ℕ → Bool) → ℕ → ℕ → Option ℕ
first_refused allowed address zero = None
first_refused allowed address (suc count) = if allowed address then first_refused allowed (suc address) count else Some address

-- the fault at an address; it has 0 for one past 2^32 - 1
abbrev pub fault_at : ℕ → Outside
fault_at address = record { address = if nat_lt address (2 ^ 32) then address else 0 }

-- the answer of a copy, by the address that refuses it
abbrev pub answer_by : Option ℕ → Result (Unit {0}) Outside
answer_by None = Ok tt
answer_by (Some address) = Err (fault_at address)
