-- Memories as they are loaded.
use Rattle.std.specs.Prelude.{◌≡◌, ℕ, ◌<◌, length, map}
use Rattle.guest_memory.specs.Loading.{memory_areas}
use Rattle.guest_memory.specs.Memories.{Memories, map_at}
use Rattle.machine_model.specs.View.{System}
use Rattle.saved_machines.specs.Saving.{loaded_of}

-- the memories are those of the partitions of a system, each with its image loaded and zeros in all other places
pub record AreLoaded (system : System) (memories : Memories) : Type 0 where
  pub areas : memories.areas ≡ map memory_areas system.conf.parts
  pub maps : (p : ℕ) → p < length system.conf.parts → map_at p memories ≡ loaded_of system p
