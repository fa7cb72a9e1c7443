-- Small systems, and the forms in which rows that are worked by hand say the outcome of runs of them.
use Rattle.std.specs.Prelude.{◌≡◌, ℕ, suc, ◌+◌, false, List, [], ◌∷◌, ◌++◌, length, map, Option, None, Ok, slice_get}
use Rattle.std.specs.List.{flat_map}
use Rattle.std.specs.Int.{to_be_bytes, w32}
use Rattle.cyclic_plans.specs.PlanClock.{frame_from}
use Rattle.guest_bus.specs.Access.{fetched}
use Rattle.guest_bus.specs.Memory.{Memory, with_bytes}
use Rattle.sparc_step.specs.Registers.{Registers, registers_started, with_register}
use Rattle.xm_base.specs.Options.{on}
use Rattle.xm_conf.specs.Configuration.{Chan, Conf, Part, Plan}
use Rattle.xm_conf.specs.declared.health.Action.{Action}
use Rattle.xm_conf.specs.declared.health.Action.TheVariants as action
use Rattle.xm_conf.specs.declared.part.Area.{Area}
use Rattle.xm_conf.specs.declared.part.HmTable.{HmTable}
use Rattle.xm_conf.specs.declared.plan.Slot.{Slot}
use Rattle.xef_images.specs.Image.{Image}
use Rattle.xm_ports.specs.Channels.{empty, shapes_of}
use Rattle.xm_report.specs.Report.{ReportLine}
use Rattle.machine_model.specs.Lines.{end_lines, lines}
use Rattle.machine_model.specs.Machine.{Machine, run}
use Rattle.guest_memory.specs.Loading.{area_of}
use Rattle.machine_model.specs.Partition.{PartitionState, begun_at}

-- a program of these words, and then these bytes
abbrev pub program : List ℕ → List ℕ → List ℕ
program words bytes = flat_map (to_be_bytes w32) words ++ bytes

-- an area of this many bytes from an address on
abbrev pub area : ℕ → ℕ → Area
area start size = record { start = start; size = size; read_only = false }

-- a table of actions by the events' numbers, all of which are logged
abbrev pub actions_table : List Action → HmTable
actions_table actions = record { actions = actions; logged = 0xfff }

-- the actions where nothing else is said, but for an error of the partition's own and an illegal instruction
abbrev pub with_answers : Action → Action → List Action
with_answers error illegal =
    error ∷ action.Halt ∷ action.Propagate ∷ illegal ∷ action.Propagate ∷ action.Propagate ∷ action.Propagate ∷ action.Propagate
    ∷ action.Propagate ∷ action.Propagate ∷ action.Halt ∷ action.Halt ∷ []

-- those but for an illegal instruction
abbrev pub with_illegal : Action → List Action
with_illegal illegal = with_answers action.Halt illegal

-- a partition with one area, without ports
abbrev pub plain_part : ℕ → ℕ → Part
plain_part start size = record {
  name = [];
  system = false;
  console = None;
  need = None;
  trace_mask = 0;
  hm = actions_table (with_illegal action.Propagate);
  areas = area start size ∷ [];
  ports = [];
}

-- an image of one segment, entered where it begins
abbrev pub image : ℕ → List ℕ → Image
image start bytes = record { entry = start; segments = record { address = start; memory = length bytes; bytes = bytes } ∷ [] }

-- images without a segment, entered at these addresses
abbrev pub entered_at : List ℕ → List Image
entered_at entries = map (λ entry. record { entry = entry; segments = [] }) entries

-- a slot of this many ticks
abbrev pub slot : ℕ → ℕ → ℕ → Slot
slot start duration part = record { start = start; duration = duration; part = part }

-- a plan in which one partition has all four ticks
abbrev pub whole_frame : Plan
whole_frame = record { frame = 4; slots = slot 0 4 0 ∷ [] }

-- a plan of one tick, which one partition has
abbrev pub short_frame : Plan
short_frame = record { frame = 1; slots = slot 0 1 0 ∷ [] }

-- a plan in which each of two partitions has two ticks of four
abbrev pub halves : Plan
halves = record { frame = 4; slots = slot 0 2 0 ∷ slot 2 2 1 ∷ [] }

-- a configuration of these plans, partitions and channels
abbrev pub small_conf : List Plan → List Part → List Chan → Conf
small_conf plans parts chans = record { name = []; regions = []; hv_size = 0; uarts = []; plans = plans; parts = parts; chans = chans; links = [] }

-- the registers with these values in the outs from a register on
abbrev pub with_outs : ℕ → List ℕ → Registers → Registers
with_outs n [] core = core
with_outs n (value ∷ values) core = with_outs (suc n) values (with_register core n value)

-- a partition at an address, with these values in its outs, of which a call has the first as its number, and with this memory
abbrev pub calling : ℕ → List ℕ → Memory → PartitionState
calling entry outs memory = record (begun_at entry memory []) { core = with_outs 8 outs (registers_started entry) }

-- a partition that begins at an address, with this memory
abbrev pub at : ℕ → Memory → PartitionState
at entry memory = calling entry [] memory

-- a machine at a tick of its first frame, with empty channels and these partitions
abbrev pub machine : Conf → List ℕ → ℕ → List PartitionState → Machine
machine conf entries tick parts = record {
  system = record { conf = conf; images = entered_at entries; inputs = [] };
  parts = parts;
  channels = map empty (shapes_of conf);
  clock = frame_from 0 0;
  time = tick;
  ticks = tick;
  resets = 0;
  halted = false;
}

-- a partition's memory has this word at an address, where it may be fetched
abbrev pub Holds : Part → Memory → ℕ → ℕ → Type 0
Holds part memory address word = fetched (map area_of part.areas) memory address ≡ Ok word

-- it has these words one after the other
abbrev pub HoldsAll : Part → Memory → ℕ → List ℕ → Type 0
HoldsAll part memory address [] = Unit {0}
HoldsAll part memory address (word ∷ words) = Holds part memory address word × HoldsAll part memory (address + 4) words

-- the memory with these words from an address on
abbrev pub with_words : Memory → ℕ → List ℕ → Memory
with_words memory address [] = memory
with_words memory address (word ∷ words) = with_bytes (with_words memory (address + 4) words) address (to_be_bytes w32 word)

-- each memory with these words from an address on has them for the partition
abbrev pub CanHold : Part → ℕ → List ℕ → Type 0
CanHold part address words = (memory : Memory) → HoldsAll part (with_words memory address words) address words

-- what a run of this many ticks prints: its lines, and those of its end
pub record Prints (g : Machine) (ticks : ℕ) (expected : List ReportLine) : Type 0 where
  pub report : lines g ticks ++ end_lines (run g ticks) ≡ expected

-- what a run of this many ticks leaves: a part of the machine has this value
pub record Leaves {X : Type 0} (part : Machine → X) (g : Machine) (ticks : ℕ) (value : X) : Type 0 where
  pub left : part (run g ticks) ≡ value

-- something of partition p, where it is there
abbrev pub of_part : {X : Type 0} → (PartitionState → X) → ℕ → Machine → Option X
of_part f p g = on f (slice_get g.parts p)
