-- What has to hold of a machine so that its file is read as what was saved: each number is in the range of its field.
use Rattle.std.specs.Prelude.{◌≡◌, ℕ, ◌%◌, ◌^◌, ◌<◌, ◌≤◌, List, length, All, IfSome, Some, slice_get}
use Rattle.guest_bus.specs.Memory.{Memory}
use Rattle.guest_bus.specs.Whole.{IsMemoryOf}
use Rattle.guest_memory.specs.Loading.{memory_areas}
use Rattle.guest_memory.specs.Memories.{IsPlaced}
use Rattle.health_monitor.specs.declared.entry.HealthEntry.{HealthEntry}
use Rattle.machine_model.specs.Facts.{HasFacts, HasShapes, IsClocked, IsComplete, IsTimed, begun}
use Rattle.machine_model.specs.Machine.{Machine}
use Rattle.machine_model.specs.Partition.{PartitionState}
use Rattle.machine_model.specs.View.{part_of}
use Rattle.saved_machines.specs.Saving.{loaded_of, saved_file}
use Rattle.sparc_step.specs.Registers.{AreRegisters, Registers}
use Rattle.virt_clocks.specs.Clocks.{AreTimers}
use Rattle.virt_traps.specs.Virtual.{VirtualTraps}
use Rattle.xm_conf.specs.Configuration.{Conf}
use Rattle.xm_ports.specs.Channels.{Content, IsShape, sample_of, shape_of}
use Rattle.xm_traces.specs.Ring.{IsKept}
use Rattle.xm_traces.specs.declared.entry.TraceEntry.{TraceEntry}

-- each of these is a word
abbrev pub AreSavedWords : List ℕ → Type 0
AreSavedWords words = All (λ word. word < 2 ^ 32) words

-- the registers are words, and those of a processor at all times
pub record AreSavedRegisters (core : Registers) : Type 0 where
  pub always : AreRegisters core
  pub pc : core.pc < 2 ^ 32
  pub npc : core.npc < 2 ^ 32
  pub y : core.y < 2 ^ 32
  pub globals : AreSavedWords core.globals
  pub windows : AreSavedWords core.windows

-- the virtual traps are words
pub record AreSavedTraps (traps : VirtualTraps) : Type 0 where
  pub base : traps.base < 2 ^ 32
  pub pending : traps.pending < 2 ^ 32
  pub mask : traps.mask < 2 ^ 32

-- the numbers of a trace entry
pub record IsSavedTrace (entry : TraceEntry) : Type 0 where
  pub time : entry.time < 2 ^ 64
  pub bits : entry.bits < 2 ^ 32
  pub seq : entry.seq < 2 ^ 32
  pub load : length entry.load ≡ 8

-- the numbers of a health entry
pub record IsSavedHealth (entry : HealthEntry) : Type 0 where
  pub time : entry.time < 2 ^ 64
  pub seq : entry.seq < 2 ^ 32
  pub word : entry.word < 2 ^ 32

-- what a partition has stored: its table of traps begins at a multiple of its 4096 bytes, its timers can be set, both logs keep all that was noted but the last 64 at
-- most, and a partition has 32 ports
pub record IsSavedState (ps : PartitionState) : Type 0 where
  pub core : AreSavedRegisters ps.core
  pub traps : AreSavedTraps ps.traps
  pub table : ps.traps.base % 4096 ≡ 0
  pub timers : AreTimers ps.clocks
  pub resets : ps.resets < 2 ^ 32
  pub reset_status : ps.reset_status < 2 ^ 32
  pub ports : length ps.made ≡ 32
  pub traces : IsKept ps.traces
  pub trace_entries : All IsSavedTrace ps.traces.entries
  pub health : IsKept ps.health
  pub health_entries : All IsSavedHealth ps.health.entries
  pub words : AreSavedWords ps.inputs

-- of a configuration that meets the rules: its plans have numbers of a byte, its channels have shapes, and its areas are whole pages of 4096 bytes
pub record IsSavedConf (conf : Conf) : Type 0 where
  pub plans : length conf.plans ≤ 256
  pub chans : All (λ chan. IsShape (shape_of chan)) conf.chans
  pub placed : (p : ℕ) → All IsPlaced (memory_areas (part_of conf p))

-- when a message was written is a number of 64 bits
abbrev pub IsSavedContent : Content → Type 0
IsSavedContent content = IfSome (sample_of content) (λ held. held.time < 2 ^ 64)

-- of a partition with this memory: the memory, and the one that is loaded, have a byte at exactly the addresses of its areas
pub record HasItsMemory (g : Machine) (p : ℕ) (memory : Memory) : Type 0 where
  pub now : IsMemoryOf (memory_areas (part_of g.system.conf p)) memory
  pub loaded : IsMemoryOf (memory_areas (part_of g.system.conf p)) (loaded_of g.system p)

-- what a machine has stored, of each channel and each partition that its configuration has
pub record IsSavedMachine (g : Machine) : Type 0 where
  pub resets : g.resets < 2 ^ 32
  pub contents : (c : ℕ) (content : Content) → c < length g.system.conf.chans → slice_get g.channels c ≡ Some content → IsSavedContent content
  pub parts : (p : ℕ) (ps : PartitionState) → slice_get g.parts p ≡ Some ps → IsSavedState ps
  pub memories : (p : ℕ) (ps : PartitionState) → slice_get g.parts p ≡ Some ps → HasItsMemory g p ps.memory

-- a word counts the input words of a partition that are left
pub record IsSavedPart (ps : PartitionState) : Type 0 where
  pub inputs : length ps.inputs < 2 ^ 32

-- a machine that runs a container with this digest: the ticks that have begun are within the limit of a run, its facts hold, its numbers are in their ranges, and its
-- file is not too long
pub record IsSavable (container : List ℕ) (g : Machine) : Type 0 where
  pub digest : length container ≡ 16
  pub conf : IsSavedConf g.system.conf
  pub ticks : begun g ≤ 4000000000
  pub timed : IsTimed g
  pub clocked : IsClocked g
  pub complete : IsComplete g
  pub shapes : HasShapes g
  pub facts : HasFacts g
  pub stored : IsSavedMachine g
  pub parts : (p : ℕ) (ps : PartitionState) → slice_get g.parts p ≡ Some ps → IsSavedPart ps
  pub short : length (saved_file container g) ≤ 16777216
