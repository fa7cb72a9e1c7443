-- For proofs and private clauses: how the memories of all partitions are kept: one list of bytes, in which all areas lie one after the other, in order of partition and area.
use Rattle.std.specs.Prelude.{◌≡◌, ℕ, ◌+◌, ◌≤◌, Bool, List, length, take, drop, slice_get, IsSomeAnd, None, Some, Result, Ok, Err}
use borrow.Rule.Slice.PartMut.{put_mid}
use Rattle.guest_bus.specs.Access.{access_fault}
use Rattle.guest_bus.specs.Memory.{Memory, holds_address}
use Rattle.guest_bus.specs.declared.bus.BusFault.{BusFault}
use Rattle.guest_memory.specs.Memories.{ArePlaced, areas_size}
use Rattle.guest_memory.specs.declared.entry.Entry.{Entry}
use Rattle.guest_memory.specs.declared.entry.Place.{Place}
use Rattle.guest_memory.specs.Flat.{memory_in, area_in, listed, Follow, Table}

-- whether an area has the address
abbrev pub entry_holds : ℕ → Entry → Bool
entry_holds address entry = holds_address address (area_in entry)

-- the areas of one partition, and its bytes
pub record IsSpace (entries : List Entry) (bytes : List ℕ) : Type 0 where
  pub placed : ArePlaced (listed entries)
  pub follow : Follow 0 entries
  pub whole : length bytes ≡ areas_size (listed entries)

-- this many bytes from an address on stand in the area, and begin at the place
pub record StandsInEntry (address count : ℕ) (place : Place) (entry : Entry) : Type 0 where
  pub from : entry.start ≤ address
  pub fits : address + count ≤ entry.start + entry.size
  pub byte : place.byte + entry.start ≡ entry.place + address
  pub room : place.room + address ≡ entry.start + entry.size
  pub read_only : place.read_only ≡ entry.read_only

-- this many bytes from an address on stand in one of the areas
abbrev pub StandsInArea : ℕ → ℕ → Place → List Entry → Type 0
StandsInArea address count place entries = IsSomeAnd (slice_get entries place.area) (StandsInEntry address count place)

-- an access of this many bytes begins there, and nothing refuses it
pub record Accesses (allowed : ℕ → Bool) (entries : List Entry) (place : Place) (address count : ℕ) : Type 0 where
  pub free : access_fault allowed address count ≡ None
  pub stands : StandsInArea address count place entries

-- where an access begins, or what refuses it
abbrev pub FindsPlace : (ℕ → Bool) → Result Place BusFault → List Entry → ℕ → ℕ → Type 0
FindsPlace allowed (Ok place) entries address count = Accesses allowed entries place address count
FindsPlace allowed (Err fault) entries address count = access_fault allowed address count ≡ Some fault

-- the bytes of a partition among those of all
abbrev pub bytes_of_part : Table → List ℕ → List ℕ
bytes_of_part table whole = take table.size (drop table.place whole)

-- its memory
abbrev pub memory_of_part : Table → List ℕ → Memory
memory_of_part table whole = memory_in (listed table.entries) (bytes_of_part table whole)

-- the bytes of a partition lie among those of all
pub record IsPartOf (table : Table) (whole : List ℕ) : Type 0 where
  pub within : table.place + table.size ≤ length whole
  pub space : IsSpace table.entries (bytes_of_part table whole)

-- no byte before those of a partition or after them is another
abbrev pub SameAround : Table → List ℕ → List ℕ → Type 0
SameAround table old new = new ≡ put_mid table.place table.size old (bytes_of_part table new)
