-- The state of the whole system as it is kept: the machine, with the state of each partition apart from its memory.
use Rattle.std.specs.Prelude.{◌≡◌, ℕ, ◌≤◌, Bool, false, List, [], ◌∷◌, length, map, drop, is_some, slice_get, slice_index_or, Option, None, Some}
use Rattle.std.specs.Bool.{OnTrue}
use Rattle.std.specs.List.{list_any}
use Rattle.cyclic_plans.specs.PlanClock.{CyclicClock}
use Rattle.guest_bus.specs.Memory.{Area, Memory}
use Rattle.guest_memory.specs.Loading.{memory_areas}
use Rattle.guest_memory.specs.Memories.{Memories}
use Rattle.health_monitor.specs.declared.entry.HealthEntry.{HealthEntry}
use Rattle.loaded_system.specs.System as loaded_system
use Rattle.sparc_step.specs.Registers.{Registers}
use Rattle.virt_clocks.specs.Clocks.{PartitionClocks, is_due}
use Rattle.virt_clocks.specs.declared.timer.Timer.{Timer}
use Rattle.virt_traps.specs.Virtual.{VirtualTraps}
use Rattle.xm_base.specs.declared.partition.State.{State}
use Rattle.xm_ports.specs.Channels.{ChannelTable, HeldSample, Shape}
use Rattle.xm_traces.specs.Ring.{Kept}
use Rattle.xm_traces.specs.declared.entry.TraceEntry.{TraceEntry}
use Rattle.machine_model.specs.Lists.{is_number}
use Rattle.machine_model.specs.Machine.{Machine}
use Rattle.machine_model.specs.Partition.{PartitionState}
use Rattle.machine_model.specs.View.{System, part_of}
pub use Rattle.span_model.specs.Passes.{part_at, with_part}

-- the state of a partition, but for its memory; `used` of its input words were read
pub record OwnState : Type 0 where
  pub core : Registers
  pub virt : VirtualTraps
  pub clocks : PartitionClocks
  pub state : State
  pub resets : ℕ
  pub reset_status : ℕ
  pub ports : List Bool
  pub traces : Kept TraceEntry
  pub health : Kept HealthEntry
  pub used : ℕ

-- with its memory and its input words it is the state of a partition, which has the words that are left
abbrev pub with_memory : OwnState → Memory → List ℕ → PartitionState
with_memory own memory words = record {
  core = own.core;
  memory = memory;
  traps = own.virt;
  clocks = own.clocks;
  state = own.state;
  resets = own.resets;
  reset_status = own.reset_status;
  made = own.ports;
  traces = own.traces;
  health = own.health;
  inputs = drop own.used words;
}

-- partitions, each with the memory and the input words of its number
abbrev pub with_memories : List OwnState → List Memory → List (List ℕ) → List PartitionState
with_memories [] memories inputs = []
with_memories (own ∷ owns) [] inputs = []
with_memories (own ∷ owns) (memory ∷ memories) [] = []
with_memories (own ∷ owns) (memory ∷ memories) (words ∷ inputs) = with_memory own memory words ∷ with_memories owns memories inputs

-- whether the timer of clocks on the hardware clock is armed
abbrev pub is_timed : PartitionClocks → Bool
is_timed clocks = is_some clocks.hardware_timer

-- whether one of these partitions has such a timer
abbrev pub any_timed : List PartitionState → Bool
any_timed parts = list_any (λ part. is_timed part.clocks) parts

-- the whole system: the machine, and what its channels may hold
pub record SysState : Type 0 where
  pub machine : Machine
  pub shapes : List Shape

-- a system with the input words of its partitions
abbrev pub with_inputs : loaded_system.System → List (List ℕ) → System
with_inputs system inputs = record { conf = system.conf; images = system.images; inputs = inputs }

-- the whole system that is kept so
abbrev pub kept_so : loaded_system.System → List (List ℕ) → List OwnState → Memories → ChannelTable → CyclicClock → ℕ → ℕ → ℕ → Bool → SysState
kept_so system inputs owns memories channels clock time ticks resets halted = record {
  machine = record {
    system = with_inputs system inputs;
    parts = with_memories owns memories.maps inputs;
    channels = channels.contents;
    clock = clock;
    time = time;
    ticks = ticks;
    resets = resets;
    halted = halted;
  };
  shapes = channels.shapes;
}

-- no state of these has such a timer
abbrev pub NoneTimed : List OwnState → Type 0
NoneTimed owns = list_any (λ own. is_timed own.clocks) owns ≡ false

-- a timer is not due before this time
abbrev pub IsFrom : ℕ → Option Timer → Type 0
IsFrom least None = Unit {0}
IsFrom least (Some timer) = least ≤ timer.deadline

-- no state of these has a hardware timer that is due before this time, but for the one of this number
abbrev pub AreFrom : Option ℕ → ℕ → List OwnState → Type 0
AreFrom lent least owns = (q : ℕ) (own : OwnState) → slice_get owns q ≡ Some own → is_number lent q ≡ false → IsFrom least own.clocks.hardware_timer

-- no partition of these has a hardware timer that is due at this time, but for the one of this number
abbrev pub NoneDue : Option ℕ → ℕ → List PartitionState → Type 0
NoneDue working time parts = (q : ℕ) (ps : PartitionState) → slice_get parts q ≡ Some ps → is_number working q ≡ false → is_due time ps.clocks.hardware_timer ≡ false

-- what is kept of a system: each partition of the configuration has a state, input words, and a memory with its areas. Where it
-- is said that no hardware timer is armed, none is; and none is due before the time that is kept, but for that of the partition whose
-- state was lent last
pub record IsKeptSo (system : loaded_system.System) (inputs : List (List ℕ)) (owns : List OwnState) (memories : Memories) (untimed : Bool) (least : ℕ) (lent : Option ℕ) : Type 0 where
  pub counted : length owns ≡ length system.conf.parts
  pub given : length inputs ≡ length system.conf.parts
  pub areas : memories.areas ≡ map memory_areas system.conf.parts
  pub held : length memories.maps ≡ length system.conf.parts
  pub unarmed : OnTrue untimed (NoneTimed owns)
  pub due : AreFrom lent least owns

-- the memory of a partition, its areas, and all of its input words
abbrev pub memory_of : ℕ → Machine → Memory
memory_of p g = (part_at p g).memory

abbrev pub areas_in : ℕ → Machine → List Area
areas_in p g = memory_areas (part_of g.system.conf p)

abbrev pub input_words_of : ℕ → Machine → List ℕ
input_words_of p g = slice_index_or g.system.inputs p []

-- the system with this machine
abbrev pub with_machine : Machine → SysState → SysState
with_machine g sys = record sys { machine = g }

-- the channels of a system with what they hold
abbrev pub table_in : SysState → ChannelTable
table_in sys = record { shapes = sys.shapes; contents = sys.machine.channels }

-- the bytes of the message that a sampling channel holds; none where it holds no message
abbrev pub sample_bytes : Option HeldSample → List ℕ
sample_bytes None = []
sample_bytes (Some sample) = sample.bytes

-- the system with these channels
abbrev pub with_table : ChannelTable → SysState → SysState
with_table table sys = record { machine = record sys.machine { channels = table.contents }; shapes = table.shapes }

-- the machine with another state of one partition, whose memory stays
abbrev pub with_own : ℕ → OwnState → Machine → Machine
with_own p own g = with_part p (with_memory own (memory_of p g) (input_words_of p g)) g
