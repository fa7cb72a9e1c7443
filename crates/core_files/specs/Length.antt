-- How long the core file of a partition is.
use Rattle.std.specs.Prelude.{ℕ, ◌+◌}
use Rattle.std.specs.List.{sum_by}
use Rattle.guest_bus.specs.Memory.{Area}
use Rattle.machine_model.specs.Partition.{areas_of}
use Rattle.machine_model.specs.View.{PartitionView}

-- what comes before the areas: 3470 bytes, and their number
abbrev pub head_length : ℕ
head_length = 3471

-- an area: its start, its size and its bytes
abbrev pub area_length : Area → ℕ
area_length area = 8 + area.size

-- the whole core file
unfoldable pub core_length_of : PartitionView → ℕ
core_length_of view = head_length + sum_by area_length (areas_of view)
