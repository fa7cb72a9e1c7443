-- The core file: all of one partition's state, as bytes.
use Rattle.std.specs.Prelude.{ℕ, ◌+◌, ◌-◌, ◌*◌, Bool, List, [], ◌∷◌, ◌++◌, length, replicate, codes, Option, Some, None}
use Rattle.std.specs.Int.{to_be_bytes, w16}
use Rattle.std.specs.List.{flat_map}
use Rattle.guest_bus.specs.Memory.{Area, Memory, bytes_at}
use Rattle.virt_clocks.specs.declared.timer.Timer.{Timer}
use Rattle.xm_traces.specs.Ring.{Kept}
use Rattle.machine_model.specs.Partition.{PartitionState, areas_of}
use Rattle.machine_model.specs.Structures.{counts_bytes, double, flag, health_bytes, state_number, trace_bytes, word}
use Rattle.machine_model.specs.View.{PartitionView}

-- a timer, 17 bytes: whether it is armed, its deadline and its interval
abbrev pub timer_bytes : Option Timer → List ℕ
timer_bytes None = 0 ∷ double 0 ++ double 0
timer_bytes (Some timer) = 1 ∷ double timer.deadline ++ double timer.interval

-- flags as the bits of a number, the first as the lowest
abbrev pub bits_of_flags : List Bool → ℕ
bits_of_flags [] = 0
bits_of_flags (one ∷ rest) = flag one + 2 * bits_of_flags rest

-- a log: its counts, and 64 entries of this many bytes, the oldest first; zeros stand for those that are missing
abbrev pub log_bytes : {T : Type 0} → ℕ → (T → List ℕ) → Kept T → List ℕ
log_bytes size bytes kept = counts_bytes kept ++ flat_map bytes kept.entries ++ replicate ((64 - length kept.entries) * size) 0

-- an area: its start, its size and its bytes
abbrev pub area_bytes : Memory → Area → List ℕ
area_bytes memory area = word area.start ++ word area.size ++ bytes_at memory area.start area.size

-- what the processor and the virtual traps have
unfoldable pub processor_bytes : PartitionState → List ℕ
processor_bytes ps =
    word ps.core.pc ++ word ps.core.npc ++ word ps.core.y ++ ps.core.icc ∷ ps.core.cwp ∷ ps.core.inv ∷ flag ps.traps.enabled ∷ []
    ++ word ps.traps.base ++ word ps.traps.pending ++ word ps.traps.mask

-- how a partition stands
unfoldable pub standing_bytes : PartitionView → PartitionState → List ℕ
standing_bytes view ps =
    codes "XMCO" ++ to_be_bytes w16 1 ++ view.id ∷ state_number ps.state ∷ [] ++ word ps.resets ++ word ps.reset_status ++ double ps.clocks.execution

-- the core file of a partition
unfoldable pub core_file : PartitionView → PartitionState → List ℕ
core_file view ps =
    standing_bytes view ps ++ processor_bytes ps ++ timer_bytes ps.clocks.hardware_timer ++ timer_bytes ps.clocks.execution_timer
    ++ word (length ps.inputs) ++ word (bits_of_flags ps.made) ++ flat_map word ps.core.globals ++ flat_map word ps.core.windows
    ++ log_bytes 24 trace_bytes ps.traces ++ log_bytes 20 health_bytes ps.health
    ++ length (areas_of view) ∷ [] ++ flat_map (area_bytes ps.memory) (areas_of view)
