-- What a core file has before its areas.
use Rattle.std.specs.Prelude.{ℕ, ◌++◌, List, length}
use Rattle.std.specs.List.{flat_map}
use Rattle.machine_model.specs.CoreFile.{bits_of_flags, log_bytes, processor_bytes, standing_bytes, timer_bytes}
use Rattle.machine_model.specs.Partition.{PartitionState}
use Rattle.machine_model.specs.Structures.{health_bytes, trace_bytes, word}
use Rattle.machine_model.specs.View.{PartitionView}

-- what stands before the number of the areas, 3470 bytes
unfoldable pub core_head : PartitionView → PartitionState → List ℕ
core_head view ps =
    standing_bytes view ps ++ processor_bytes ps ++ timer_bytes ps.clocks.hardware_timer ++ timer_bytes ps.clocks.execution_timer
    ++ word (length ps.inputs) ++ word (bits_of_flags ps.made) ++ flat_map word ps.core.globals ++ flat_map word ps.core.windows
    ++ log_bytes 24 trace_bytes ps.traces ++ log_bytes 20 health_bytes ps.health
