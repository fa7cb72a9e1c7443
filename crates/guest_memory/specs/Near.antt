-- The areas of one partition that are looked at first.
use Rattle.std.specs.Prelude.{◌≡◌, ℕ, ◌+◌, false, List, Option, None, Some, slice_get, slice_index_or}
use Rattle.guest_memory.specs.Flat.{AreFlat, Table}
use Rattle.guest_memory.specs.declared.entry.Entry.{Entry}
use Rattle.guest_memory.specs.declared.near.Near.{Near}
use Rattle.guest_memory.specs.declared.near.Spot.{Spot}

-- an area with its place among all bytes, where there is one, and else one without an address
abbrev pub spot_of : ℕ → Option Entry → Spot
spot_of place None = record { start = 0; size = 0; place = 0; read_only = false }
spot_of place (Some entry) = record { start = entry.start; size = entry.size; place = place + entry.place; read_only = entry.read_only }

-- the first two of these areas and the one of a number, where their bytes lie from a place on
abbrev pub near_in : List Entry → ℕ → ℕ → Near
near_in entries place k = record { first = spot_of place (slice_get entries 0); second = spot_of place (slice_get entries 1); third = spot_of place (slice_get entries k) }

-- the areas are the first two of a partition and one more of it
abbrev pub IsNearOf : Near → Table → Type 0
IsNearOf near table = (k : ℕ) × (near ≡ near_in table.entries table.place k)

-- the areas that are looked at first are those of the selected partition
abbrev pub AreNear : Near → List Table → ℕ → Type 0
AreNear near tables selected = (table : Table) → table ≡ slice_index_or tables selected table → IsNearOf near table

-- the memories of partitions, in one list of bytes, with the areas that are looked at first
pub record AreReady (tables : List Table) (bytes : List ℕ) (selected : ℕ) (ready : Near) : Type 0 where
  pub kept : AreFlat tables bytes selected
  pub near : AreNear ready tables selected
