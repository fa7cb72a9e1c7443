-- How the memories of all partitions are kept: one list of bytes, in which all areas lie one after the other, in order of partition and area.
use Rattle.std.specs.Prelude.{◌≡◌, ℕ, ◌+◌, ◌<◌, ⊤, List, [], ◌∷◌, length, map, take, drop, slice_index_or}
use Rattle.std.specs.FinMap.{empty}
use Rattle.guest_bus.specs.Memory.{Area, Memory, with_bytes}
use Rattle.guest_memory.specs.Memories.{AreMemories, Memories, areas_size, whole_size}
use Rattle.guest_memory.specs.declared.entry.Entry.{Entry}

-- numbers are bytes
abbrev pub AllBytes : List ℕ → Type 0
AllBytes bytes = (i : ℕ) → slice_index_or bytes i 0 < 256

-- the bytes of areas by their addresses, where they lie one after the other
abbrev pub memory_in : List Area → List ℕ → Memory
memory_in [] bytes = empty
memory_in (area ∷ areas) bytes = with_bytes (memory_in areas (drop area.size bytes)) area.start (take area.size bytes)

-- the bytes of each partition, where those of all lie one after the other
abbrev pub maps_in : List (List Area) → List ℕ → List Memory
maps_in [] bytes = []
maps_in (areas ∷ others) bytes = memory_in areas (take (areas_size areas) bytes) ∷ maps_in others (drop (areas_size areas) bytes)

-- an area as a guest sees it
abbrev pub area_in : Entry → Area
area_in entry = record { start = entry.start; size = entry.size; read_only = entry.read_only }

-- areas as a guest sees them
abbrev pub listed : List Entry → List Area
listed entries = map area_in entries

-- each area's place is the end of the one before it
abbrev pub Follow : ℕ → List Entry → Type 0
Follow place [] = ⊤
Follow place (entry ∷ entries) = (entry.place ≡ place) × Follow (place + entry.size) entries

-- the areas of a partition, and where its bytes lie
pub record Table : Type 0 where
  pub place : ℕ
  pub size : ℕ
  pub entries : List Entry

-- the bytes of a partition lie from a place on
pub record IsMemoryTable (place : ℕ) (table : Table) : Type 0 where
  pub placed : table.place ≡ place
  pub sized : table.size ≡ areas_size (listed table.entries)
  pub follow : Follow 0 table.entries

-- the bytes of partitions lie one after the other, from a place on
abbrev pub AreTables : ℕ → List Table → Type 0
AreTables place [] = ⊤
AreTables place (table ∷ tables) = IsMemoryTable place table × AreTables (place + table.size) tables

-- the areas of each partition
abbrev pub areas_of_tables : List Table → List (List Area)
areas_of_tables tables = map (λ table. listed table.entries) tables

-- the memories of partitions that are kept so
abbrev pub memories_in : List Table → List ℕ → ℕ → Memories
memories_in tables bytes selected = record { areas = areas_of_tables tables; maps = maps_in (areas_of_tables tables) bytes; selected = selected }

-- the memories of partitions, in one list of bytes
pub record AreFlat (tables : List Table) (bytes : List ℕ) (selected : ℕ) : Type 0 where
  pub memories : AreMemories (memories_in tables bytes selected)
  pub rows : AreTables 0 tables
  pub whole : length bytes ≡ whole_size (areas_of_tables tables)
  pub few : length bytes < 4294967296
  pub small : AllBytes bytes
