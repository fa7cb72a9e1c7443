-- What a partition executes in a tick, and which interrupt is delivered to it.
use Rattle.std.specs.Prelude.{ℕ, Bool, true, false, List, [], ◌∷◌}
use Rattle.std.specs.List.{flat_map}
use Rattle.machine_model.specs.Partition.{PartitionState, areas_of}
use Rattle.machine_model.specs.View.{PartitionView}
use Rattle.run_records.specs.Doing.{Doing, Rests, Delivers, Executes, doing}
use Rattle.run_records.specs.OwnTicks.{OwnTick}
use Rattle.run_records.specs.Tried.{Executed, executed_at}

-- the instruction at the pc of a partition
unfoldable pub executed_by : PartitionView → PartitionState → Executed
executed_by view ps = executed_at (areas_of view) ps.core ps.memory

-- the instruction of a tick in which the partition does this
abbrev pub executed_doing : Doing → PartitionView → PartitionState → List Executed
executed_doing Rests view ps = []
executed_doing (Delivers n) view ps = []
executed_doing Executes view ps = executed_by view ps ∷ []

-- the instruction that a partition executes in a tick, where it executes one
unfoldable pub executed_in : PartitionView → OwnTick → List Executed
executed_in view tick = executed_doing (doing tick.found tick.cue) view tick.found.state

-- those of ticks, in their order
abbrev pub executed : PartitionView → List OwnTick → List Executed
executed view ticks = flat_map (executed_in view) ticks

-- the interrupt that a tick delivers, where it delivers one
abbrev pub delivered_doing : Doing → List ℕ
delivered_doing Rests = []
delivered_doing (Delivers n) = n ∷ []
delivered_doing Executes = []

-- the interrupts that are delivered in ticks, in their order
unfoldable pub delivered_in : OwnTick → List ℕ
delivered_in tick = delivered_doing (doing tick.found tick.cue)

abbrev pub delivered : List OwnTick → List ℕ
delivered ticks = flat_map delivered_in ticks

-- whether a partition does something in a tick; its work then goes on from a state in which the execution clock has counted the tick
abbrev pub is_something : Doing → Bool
is_something Rests = false
is_something (Delivers n) = true
is_something Executes = true

unfoldable pub is_busy : OwnTick → Bool
is_busy tick = is_something (doing tick.found tick.cue)
