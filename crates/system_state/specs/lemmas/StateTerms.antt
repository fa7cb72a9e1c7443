-- For proofs and private clauses: the state of the whole system as it is kept: the machine, with the state of each partition apart from its memory.
use Rattle.std.specs.Prelude.{ℕ, List, [], ◌∷◌}
use Rattle.std.specs.FinMap.{empty}
use Rattle.guest_bus.specs.Memory.{Memory}
use Rattle.guest_memory.specs.Loading.{memory_areas, areas_with_image}
use Rattle.xef_images.specs.Image.{Image}
use Rattle.xm_conf.specs.Configuration.{Part}
use Rattle.machine_model.specs.Partition.{PartitionState, begun_at}
use Rattle.system_state.specs.State.{OwnState}

-- the state of a partition without its memory, where it has read none of its input words
abbrev pub without_memory : PartitionState → OwnState
without_memory ps = record {
  core = ps.core;
  virt = ps.traps;
  clocks = ps.clocks;
  state = ps.state;
  resets = ps.resets;
  reset_status = ps.reset_status;
  ports = ps.made;
  traces = ps.traces;
  health = ps.health;
  used = 0;
}

-- a partition as it boots: one that begins at its entry, whatever its memory and its input words are
unfoldable pub booted_own : ℕ → OwnState
booted_own entry = without_memory (begun_at entry empty [])

-- the memories with the images of partitions loaded
abbrev pub loaded_all : List Part → List Image → List Memory
loaded_all [] images = []
loaded_all (part ∷ parts) [] = []
loaded_all (part ∷ parts) (image ∷ images) = areas_with_image (memory_areas part) image ∷ loaded_all parts images
