-- For proofs and private clauses: what is read of the parts of a saved machine, as values.
use Rattle.std.specs.Prelude.{◌≡◌, ◌≢◌, ℕ, ◌%◌, ◌<◌, List, map, Option, Result, Vec}
use Rattle.std.specs.Global.{Global}
use Rattle.codecs.specs.Files.{read_to_end}
use Rattle.guest_bus.specs.Memory.{Memory}
use Rattle.health_monitor.specs.declared.entry.HealthEntry.{HealthEntry}
use Rattle.saved_machines.specs.Reading.{head_value}
use Rattle.saved_machines.specs.Saved.{SavedMachine, SavedPartition, SavedProcessor, SavedStanding, SavedStore}
use Rattle.saved_machines.specs.SavedFields.{saved_faults}
use Rattle.saved_machines.specs.SavedFormat.{machine_format}
use Rattle.saved_machines.specs.Values.{parts_of_values}
use Rattle.saved_machines.specs.declared.fault.SavedFault.{SavedFault}
use Rattle.saved_machines.specs.declared.head.Head.{Head}
use Rattle.saved_machines.specs.declared.logs.HealthLog.{HealthLog}
use Rattle.saved_machines.specs.declared.logs.TraceLog.{TraceLog}
use Rattle.saved_machines.specs.declared.part.SavedParts.{SavedParts}
use Rattle.saved_machines.specs.declared.part.StoredPart.{StoredPart}
use Rattle.saved_machines.specs.declared.processor.PartStanding.{PartStanding}
use Rattle.saved_machines.specs.declared.processor.StatusRegisters.{StatusRegisters}
use Rattle.sparc_step.specs.Registers.{Registers}
use Rattle.virt_clocks.specs.declared.timer.Timer.{Timer}
use Rattle.virt_traps.specs.Virtual.{VirtualTraps}
use Rattle.xm_base.specs.Cursor.{cursor_start, past}
use Rattle.xm_conf.specs.Configuration.{Conf}
use Rattle.xm_ports.specs.Contents.{content_of}
use Rattle.xm_ports.specs.declared.content.ContentValue.{ContentValue}
use Rattle.xm_traces.specs.Ring.{Kept, kept_of}
use Rattle.xm_traces.specs.declared.entry.TraceEntry.{TraceEntry}

-- how a partition stands
abbrev pub standing_value : PartStanding → SavedStanding
standing_value s = record { state = s.state; resets = s.resets; reset_status = s.reset_status; execution = s.execution }

-- the registers without a number
abbrev pub processor_value : StatusRegisters → SavedProcessor
processor_value r = record { pc = r.pc; npc = r.npc; y = r.y; icc = r.icc; cwp = r.cwp; inv = r.inv }

-- what holds of them
pub record AreStatusRegisters (r : StatusRegisters) : Type 0 where
  pub pc_aligned : r.pc % 4 ≡ 0
  pub npc_aligned : r.npc % 4 ≡ 0
  pub four_conditions : r.icc < 16
  pub current_window : r.cwp < 8
  pub invalid_window : r.inv < 8
  pub windows_differ : r.cwp ≢ r.inv

-- all registers of a partition
abbrev pub registers_of : StatusRegisters → List ℕ → List ℕ → Registers
registers_of r globals windows = record { pc = r.pc; npc = r.npc; y = r.y; icc = r.icc; cwp = r.cwp; inv = r.inv; globals = globals; windows = windows }

-- what is kept of a log
abbrev pub trace_log_value : TraceLog → Kept TraceEntry
trace_log_value log = kept_of log.next log.entries.items

abbrev pub health_log_value : HealthLog → Kept HealthEntry
health_log_value log = kept_of log.next log.entries.items

-- what a partition has stored
abbrev pub stored_value : StoredPart → SavedStore
stored_value s = record {
  made = s.made;
  globals = s.globals;
  windows = s.windows;
  traces = trace_log_value s.traces;
  health = health_log_value s.health;
  inputs = s.inputs.items;
  pages = map (λ pages. pages.items) s.pages.items;
}

-- a partition of which these parts were read
abbrev pub part_read : PartStanding → StatusRegisters → VirtualTraps → Option Timer → Option Timer → StoredPart → SavedPartition
part_read standing registers traps hardware execution stored = record {
  standing = standing_value standing;
  processor = processor_value registers;
  traps = traps;
  hardware_timer = hardware;
  execution_timer = execution;
  store = stored_value stored;
}

-- all partitions
abbrev pub parts_value : SavedParts → List SavedPartition
parts_value parts = parts_of_values parts.values.items (map (λ words. words.items) parts.inputs.items)

-- a machine of which these parts were read
abbrev pub machine_read : Head → Vec ContentValue Global → SavedParts → SavedMachine
machine_read head channels parts = record { head = head_value head; channels = map content_of channels.items; parts = parts_value parts }

-- what is in the bytes before the digest, after name, version and length, with nothing after it
unfoldable pub machine_in : Conf → (ℕ → Memory) → List ℕ → List ℕ → Result SavedMachine SavedFault
machine_in conf loaded container before = read_to_end saved_faults.trailing (machine_format conf loaded container) (past 10 (cursor_start before))
