-- What of a machine is saved, and the file of it.
use Rattle.std.specs.Prelude.{ℕ, zero, suc, ◌+◌, ◌-◌, ◌/◌, if◌then◌else◌, List, [], ◌∷◌, length, drop, map}
use Rattle.std.specs.Str.{bytes_eq}
use Rattle.guest_bus.specs.Memory.{Area, Memory, bytes_at, with_bytes}
use Rattle.machine_model.specs.Lists.{each}
use Rattle.machine_model.specs.Machine.{Machine}
use Rattle.machine_model.specs.Partition.{PartitionState, areas_of, loaded_memory}
use Rattle.machine_model.specs.View.{PartitionView, System, view_of}
use Rattle.saved_machines.specs.Saved.{SavedHead, SavedMachine, SavedPage, SavedPartition, SavedProcessor, SavedStanding, SavedStore}
use Rattle.saved_machines.specs.SavedFormat.{loaded_page, saved_format}
use Rattle.sparc_step.specs.Registers.{Registers}

-- the bytes of a page
unfoldable pub page_bytes : Memory → ℕ → List ℕ
page_bytes memory address = bytes_at memory address 256

-- the pages of a memory, this many from an address on, whose bytes are not those that were loaded
unfoldable pub changed_pages : Memory → Memory → ℕ → ℕ → List SavedPage
changed_pages loaded memory address zero = []
changed_pages loaded memory address (suc count) =
    if bytes_eq (page_bytes memory address) (loaded_page loaded address) then changed_pages loaded memory (address + 256) count
    else record { address = address; bytes = page_bytes memory address } ∷ changed_pages loaded memory (address + 256) count

-- those of an area
abbrev pub changed_in : Memory → Memory → Area → List SavedPage
changed_in loaded memory area = changed_pages loaded memory area.start (area.size / 256)

-- a memory with the bytes of these pages, each at its address
abbrev pub with_saved_pages : Memory → List SavedPage → Memory
with_saved_pages memory [] = memory
with_saved_pages memory (page ∷ pages) = with_saved_pages (with_bytes memory page.address page.bytes) pages

-- and with those of each area
abbrev pub with_area_pages : Memory → List (List SavedPage) → Memory
with_area_pages memory [] = memory
with_area_pages memory (pages ∷ others) = with_area_pages (with_saved_pages memory pages) others

-- how a partition stands
abbrev pub saved_standing : PartitionState → SavedStanding
saved_standing ps = record { state = ps.state; resets = ps.resets; reset_status = ps.reset_status; execution = ps.clocks.execution }

-- its registers that have no number
abbrev pub saved_processor : Registers → SavedProcessor
saved_processor core = record { pc = core.pc; npc = core.npc; y = core.y; icc = core.icc; cwp = core.cwp; inv = core.inv }

-- what it has stored
abbrev pub saved_store : PartitionView → PartitionState → SavedStore
saved_store view ps = record {
  made = ps.made;
  globals = ps.core.globals;
  windows = ps.core.windows;
  traces = ps.traces;
  health = ps.health;
  inputs = ps.inputs;
  pages = map (changed_in (loaded_memory view) ps.memory) (areas_of view);
}

-- all of a partition
unfoldable pub saved_part : PartitionView → PartitionState → SavedPartition
saved_part view ps = record {
  standing = saved_standing ps;
  processor = saved_processor ps.core;
  traps = ps.traps;
  hardware_timer = ps.clocks.hardware_timer;
  execution_timer = ps.clocks.execution_timer;
  store = saved_store view ps;
}

-- of the whole machine
abbrev pub saved_head : List ℕ → Machine → SavedHead
saved_head container g = record { container = container; ticks = g.ticks; time = g.time; resets = g.resets; halted = g.halted; clock = g.clock }

-- what of a machine is saved that runs a container with this digest
unfoldable pub saved_of : List ℕ → Machine → SavedMachine
saved_of container g = record {
  head = saved_head container g;
  channels = g.channels;
  parts = each (λ p. saved_part (view_of g.system p)) g.parts;
}

-- what is loaded into the memory of a partition
abbrev pub loaded_of : System → ℕ → Memory
loaded_of system p = loaded_memory (view_of system p)

-- the file of a machine that runs a container with this digest
unfoldable pub saved_file : List ℕ → Machine → List ℕ
saved_file container g = (saved_format g.system.conf (loaded_of g.system) container).spell (saved_of container g)

-- the digest of the container whose file has these bytes: the last sixteen of them
abbrev pub stored_digest : List ℕ → List ℕ
stored_digest bytes = drop (length bytes - 16) bytes

-- The machine of a file.

-- the registers of a partition
abbrev pub restored_core : SavedProcessor → SavedStore → Registers
restored_core processor store = record {
  pc = processor.pc;
  npc = processor.npc;
  y = processor.y;
  icc = processor.icc;
  cwp = processor.cwp;
  inv = processor.inv;
  globals = store.globals;
  windows = store.windows;
}

-- the state of a partition with this view that was saved so
unfoldable pub restored_part : PartitionView → SavedPartition → PartitionState
restored_part view part = record {
  core = restored_core part.processor part.store;
  memory = with_area_pages (loaded_memory view) part.store.pages;
  traps = part.traps;
  clocks = record { execution = part.standing.execution; hardware_timer = part.hardware_timer; execution_timer = part.execution_timer };
  state = part.standing.state;
  resets = part.standing.resets;
  reset_status = part.standing.reset_status;
  made = part.store.made;
  traces = part.store.traces;
  health = part.store.health;
  inputs = part.store.inputs;
}

-- the input words that are left of each partition
abbrev pub saved_inputs : SavedMachine → List (List ℕ)
saved_inputs saved = map (λ part. part.store.inputs) saved.parts

-- the machine that was saved so, with the configuration and the images of this system: the words that its partitions were given are those that are left
unfoldable pub machine_saved : System → SavedMachine → Machine
machine_saved system saved = record {
  system = record system { inputs = saved_inputs saved };
  parts = each (λ p. restored_part (view_of system p)) saved.parts;
  channels = saved.channels;
  clock = saved.head.clock;
  time = saved.head.time;
  ticks = saved.head.ticks;
  resets = saved.head.resets;
  halted = saved.head.halted;
}
