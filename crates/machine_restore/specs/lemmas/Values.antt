-- For proofs and private clauses: the machine that has given values.
use Rattle.std.specs.Prelude.{◌≡◌, ◌<◌, ◌≤◌, ℕ, List, length, min, slice_get, take, All, IfSome}
use Rattle.std.specs.Option.{ForSome}
use Rattle.guest_bus.specs.Memory.{Area}
use Rattle.guest_memory.specs.Loading.{memory_areas}
use Rattle.machine_model.specs.Lists.{each}
use Rattle.machine_model.specs.Machine.{Machine}
use Rattle.machine_model.specs.Partition.{PartitionState, loaded_memory}
use Rattle.machine_model.specs.View.{PartitionView, System, part_of, view_of}
use Rattle.saved_machines.specs.Restorable.{ArePages}
use Rattle.saved_machines.specs.Saving.{with_area_pages}
use Rattle.saved_machines.specs.Values.{MachineValues, PartValues}
use Rattle.virt_clocks.specs.Clocks.{IsTimer}
use Rattle.xm_conf.specs.Configuration.{Conf}
use Rattle.xm_ports.specs.Channels.{shapes_of}
use Rattle.xm_ports.specs.Contents.{EachSuits}
use Rattle.xm_traces.specs.Ring.{RING_ENTRIES}

-- the state of a partition with these values, which has read none of its input words
abbrev pub restored_part : PartitionView → PartValues → PartitionState
restored_part view values = record {
  core = values.core;
  memory = with_area_pages (loaded_memory view) values.pages;
  traps = values.traps;
  clocks = values.clocks;
  state = values.state;
  resets = values.resets;
  reset_status = values.reset_status;
  made = values.made;
  traces = values.traces;
  health = values.health;
  inputs = view.inputs;
}

-- the machine with these values
unfoldable pub restored : System → MachineValues → Machine
restored system values = record {
  system = system;
  parts = each (λ p. restored_part (view_of system p)) (take (length system.conf.parts) values.parts);
  channels = values.channels;
  clock = values.clock;
  time = values.time;
  ticks = values.ticks;
  resets = values.resets;
  halted = values.halted;
}

-- the values are those of a partition with these areas: timers that can be set, logs that keep all that was noted but the last 64 at
-- most, and pages in its areas
pub record ArePartValues (areas : List Area) (values : PartValues) : Type 0 where
  pub hardware_timer : ForSome values.clocks.hardware_timer IsTimer
  pub execution_timer : ForSome values.clocks.execution_timer IsTimer
  pub traces : length values.traces.entries ≡ min values.traces.next RING_ENTRIES
  pub health : length values.health.entries ≡ min values.health.next RING_ENTRIES
  pub pages : All (ArePages areas) values.pages

-- the values are those of a machine of this configuration, or more
pub record AreValues (conf : Conf) (values : MachineValues) : Type 0 where
  pub counted : length conf.parts ≤ length values.parts
  pub parts : (p : ℕ) → p < length conf.parts → IfSome (slice_get values.parts p) (ArePartValues (memory_areas (part_of conf p)))
  pub channels : length values.channels ≡ length (shapes_of conf)
  pub contents : EachSuits (shapes_of conf) values.channels
