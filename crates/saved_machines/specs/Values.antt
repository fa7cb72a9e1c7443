-- The values of a machine that are no configuration: those that it is restored from.
use Rattle.std.specs.Prelude.{ℕ, Bool, List, [], ◌∷◌}
use Rattle.cyclic_plans.specs.PlanClock.{CyclicClock}
use Rattle.health_monitor.specs.declared.entry.HealthEntry.{HealthEntry}
use Rattle.saved_machines.specs.Saved.{SavedMachine, SavedPage, SavedPartition}
use Rattle.sparc_step.specs.Registers.{Registers}
use Rattle.virt_clocks.specs.Clocks.{PartitionClocks}
use Rattle.virt_traps.specs.Virtual.{VirtualTraps}
use Rattle.xm_base.specs.declared.partition.State.{State}
use Rattle.xm_ports.specs.Channels.{Content}
use Rattle.xm_traces.specs.Ring.{Kept}
use Rattle.xm_traces.specs.declared.entry.TraceEntry.{TraceEntry}

-- the values of one partition: all of its state but for its input words; of its memory, by its areas, the pages that are not as they were loaded
pub record PartValues : Type 0 where
  pub core : Registers
  pub traps : VirtualTraps
  pub clocks : PartitionClocks
  pub state : State
  pub resets : ℕ
  pub reset_status : ℕ
  pub made : List Bool
  pub traces : Kept TraceEntry
  pub health : Kept HealthEntry
  pub pages : List (List SavedPage)

-- the values of a machine: all of its state but for what runs, which is its configuration, its images and its input words
pub record MachineValues : Type 0 where
  pub parts : List PartValues
  pub channels : List Content
  pub clock : CyclicClock
  pub time : ℕ
  pub ticks : ℕ
  pub resets : ℕ
  pub halted : Bool

-- the partition of a file that has these values, and these input words left
abbrev pub part_of_values : PartValues → List ℕ → SavedPartition
part_of_values values inputs = record {
  standing = record { state = values.state; resets = values.resets; reset_status = values.reset_status; execution = values.clocks.execution };
  processor = record { pc = values.core.pc; npc = values.core.npc; y = values.core.y; icc = values.core.icc; cwp = values.core.cwp; inv = values.core.inv };
  traps = values.traps;
  hardware_timer = values.clocks.hardware_timer;
  execution_timer = values.clocks.execution_timer;
  store = record {
    made = values.made;
    globals = values.core.globals;
    windows = values.core.windows;
    traces = values.traces;
    health = values.health;
    inputs = inputs;
    pages = values.pages;
  };
}

-- each of these partitions with its input words
abbrev pub parts_of_values : List PartValues → List (List ℕ) → List SavedPartition
parts_of_values [] inputs = []
parts_of_values (values ∷ parts) [] = []
parts_of_values (values ∷ parts) (words ∷ inputs) = part_of_values values words ∷ parts_of_values parts inputs

-- the machine of a file that has the digest of its container, these values, and these input words left of each partition
abbrev pub machine_of_values : List ℕ → MachineValues → List (List ℕ) → SavedMachine
machine_of_values container values inputs = record {
  head = record { container = container; ticks = values.ticks; time = values.time; resets = values.resets; halted = values.halted; clock = values.clock };
  channels = values.channels;
  parts = parts_of_values values.parts inputs;
}
