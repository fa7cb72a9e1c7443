-- The state of one partition: how it boots, how it is reset, and what an order on it does.
use Rattle.std.specs.Prelude.{ℕ, ◌+◌, ◌%◌, ◌^◌, Bool, true, false, if◌then◌else◌, List, [], ◌∷◌, None}
use Rattle.guest_bus.specs.Memory.{Area, Memory}
use Rattle.guest_memory.specs.Loading.{memory_areas as part_areas, areas_with_image as loaded_in}
use Rattle.sparc_step.specs.Registers.{Registers, registers_started}
use Rattle.virt_traps.specs.Virtual.{VirtualTraps, no_traps, raised}
use Rattle.virt_clocks.specs.Clocks.{PartitionClocks, is_due, looked_at, no_clocks}
use Rattle.xm_base.specs.declared.partition.Mode.{Mode}
use Rattle.xm_base.specs.declared.partition.Mode.TheVariants.{Cold, Warm}
use Rattle.xm_base.specs.declared.partition.Order.{Order}
use Rattle.xm_base.specs.declared.partition.Order.TheVariants as order
use Rattle.xm_base.specs.declared.partition.State.{State}
use Rattle.xm_base.specs.declared.partition.State.TheVariants.{Ready, Idle, Suspended, Halted}
use Rattle.xm_ports.specs.Ports.{no_ports}
use Rattle.xm_report.specs.declared.line.Move.{Move}
use Rattle.xm_report.specs.declared.line.Move.TheVariants as move
use Rattle.xm_traces.specs.Ring.{Kept, nothing_kept}
use Rattle.xm_traces.specs.declared.entry.TraceEntry.{TraceEntry}
use Rattle.health_monitor.specs.declared.entry.HealthEntry.{HealthEntry}
use Rattle.machine_model.specs.Emission.{Emission, Moved}
use Rattle.machine_model.specs.View.{PartitionView}

-- the state of one partition: its processor and memory, its virtual traps, clocks and timers, its state and how often it was reset,
-- which of its ports are made, its traces and health log, and the input words that are left
pub record PartitionState : Type 0 where
  pub core : Registers
  pub memory : Memory
  pub traps : VirtualTraps
  pub clocks : PartitionClocks
  pub state : State
  pub resets : ℕ
  pub reset_status : ℕ
  pub made : List Bool
  pub traces : Kept TraceEntry
  pub health : Kept HealthEntry
  pub inputs : List ℕ

-- the areas of a partition's memory
unfoldable pub areas_of : PartitionView → List Area
areas_of view = part_areas view.part

-- a partition's memory with its image loaded and zeros in all other places
unfoldable pub loaded_memory : PartitionView → Memory
loaded_memory view = loaded_in (areas_of view) view.image

-- the memory after a reset: a cold one loads the image again
abbrev pub memory_after : Mode → PartitionView → Memory → Memory
memory_after Cold view memory = loaded_memory view
memory_after Warm view memory = memory

-- the reset counter after a reset: a cold one sets it to zero
abbrev pub resets_after : Mode → ℕ → ℕ
resets_after Cold resets = 0
resets_after Warm resets = (resets + 1) % 2 ^ 32

-- a partition after a reset; its traces, its health log and its input words stay
unfoldable pub reset : PartitionView → Mode → ℕ → PartitionState → PartitionState
reset view mode status ps = record ps {
  core = registers_started view.image.entry;
  memory = memory_after mode view ps.memory;
  traps = no_traps;
  clocks = no_clocks;
  state = Ready;
  resets = resets_after mode ps.resets;
  reset_status = status;
  made = no_ports;
}

-- a partition that begins at an address, with this memory and these input words
abbrev pub begun_at : ℕ → Memory → List ℕ → PartitionState
begun_at entry memory inputs = record {
  core = registers_started entry;
  memory = memory;
  traps = no_traps;
  clocks = no_clocks;
  state = Ready;
  resets = 0;
  reset_status = 0;
  made = no_ports;
  traces = nothing_kept;
  health = nothing_kept;
  inputs = inputs;
}

-- a partition as it boots
unfoldable pub booted : PartitionView → PartitionState
booted view = begun_at view.image.entry (loaded_memory view) view.inputs

-- whether a partition in this state has halted
abbrev pub is_halted : State → Bool
is_halted Ready = false
is_halted Idle = false
is_halted Suspended = false
is_halted Halted = true

-- whether a partition in this state takes its turn in its slots
abbrev pub takes_turns : State → Bool
takes_turns Ready = true
takes_turns Idle = true
takes_turns Suspended = false
takes_turns Halted = false

-- whether a partition in this state can be resumed
abbrev pub is_suspended : State → Bool
is_suspended Ready = false
is_suspended Idle = false
is_suspended Suspended = true
is_suspended Halted = false

-- whether an order applies to a partition in this state
abbrev pub applies : Order → State → Bool
applies order.Halt Halted = false
applies order.Halt Ready = true
applies order.Halt Idle = true
applies order.Halt Suspended = true
applies order.Suspend state = takes_turns state
applies order.Resume state = is_suspended state
applies order.Shutdown Halted = false
applies order.Shutdown Ready = true
applies order.Shutdown Idle = true
applies order.Shutdown Suspended = true
applies (order.Reset mode status) state = true

-- a partition with no timer armed
unfoldable pub disarmed : PartitionState → PartitionState
disarmed ps = record ps { clocks = record ps.clocks { hardware_timer = None; execution_timer = None } }

-- the interrupt of an order to shut down
abbrev pub shutdown : ℕ
shutdown = 2

-- what an order does that applies
abbrev pub carried_out : PartitionView → Order → PartitionState → PartitionState
carried_out view order.Halt ps = record (disarmed ps) { state = Halted }
carried_out view order.Suspend ps = record ps { state = Suspended }
carried_out view order.Resume ps = record ps { state = Ready }
carried_out view order.Shutdown ps = record ps { traps = raised shutdown ps.traps }
carried_out view (order.Reset mode status) ps = reset view mode status ps

-- the change of state that a reset emits
abbrev pub reset_move : Mode → Move
reset_move Cold = move.Cold
reset_move Warm = move.Warm

-- what an order emits that applies
abbrev pub order_emissions : Order → List Emission
order_emissions order.Halt = Moved move.Halt ∷ []
order_emissions order.Suspend = Moved move.Suspend ∷ []
order_emissions order.Resume = Moved move.Resume ∷ []
order_emissions order.Shutdown = []
order_emissions (order.Reset mode status) = Moved (reset_move mode) ∷ []

-- an order on a partition; one that does not apply changes nothing
unfoldable pub ordered : PartitionView → Order → PartitionState → PartitionState
ordered view an_order ps = if applies an_order ps.state then carried_out view an_order ps else ps

-- what an order on a partition emits; one that does not apply emits nothing
unfoldable pub ordered_emissions : Order → PartitionState → List Emission
ordered_emissions an_order ps = if applies an_order ps.state then order_emissions an_order else []

-- the interrupt of a signal over a link of this number
abbrev pub link_signal : ℕ → ℕ
link_signal number = 8 + number

-- the interrupt of the start of a slot
abbrev pub slot_start : ℕ
slot_start = 5

-- an interrupt becomes pending where it is due
abbrev pub raised_if : Bool → ℕ → VirtualTraps → VirtualTraps
raised_if true n traps = raised n traps
raised_if false n traps = traps

-- the interrupts of the timers
abbrev pub hardware_timer : ℕ
hardware_timer = 0

abbrev pub execution_timer : ℕ
execution_timer = 1

-- a partition whose hardware timer was looked at
unfoldable pub hardware_looked_at : ℕ → PartitionState → PartitionState
hardware_looked_at time ps = record ps {
  traps = raised_if (is_due time ps.clocks.hardware_timer) hardware_timer ps.traps;
  clocks = record ps.clocks { hardware_timer = looked_at time ps.clocks.hardware_timer };
}

-- a partition whose execution timer was looked at
unfoldable pub execution_looked_at : PartitionState → PartitionState
execution_looked_at ps = record ps {
  traps = raised_if (is_due ps.clocks.execution ps.clocks.execution_timer) execution_timer ps.traps;
  clocks = record ps.clocks { execution_timer = looked_at ps.clocks.execution ps.clocks.execution_timer };
}

-- a partition after a tick in which it did nothing: only its hardware timer is looked at, and not where it has halted
unfoldable pub rested : ℕ → PartitionState → PartitionState
rested time ps = if is_halted ps.state then ps else hardware_looked_at time ps
