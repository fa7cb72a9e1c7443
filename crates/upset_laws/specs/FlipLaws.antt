-- The laws of flips: what a flip changes, what it leaves, and what holds of a partition after it.
use Rattle.std.specs.Prelude.{◌≡◌, ℕ, ◌<◌, ◌≤◌, ◌^◌, ◌==◌, Bool, true, false, List, length, Option, Some, bit_xor, slice_get, slice_index}
use Rattle.guest_bus.specs.Memory.{byte_at}
use Rattle.sparc_step.specs.Registers.{AreRegisters}
use Rattle.virt_clocks.specs.Clocks.{AreTimers}
use Rattle.virt_clocks.specs.declared.timer.Timer.{Timer}
use Rattle.virt_traps.specs.Virtual.{AreVirtualTraps}
use Rattle.machine_model.specs.Facts.{AreFacts}
use Rattle.machine_model.specs.Laws.{alone_part_at}
use Rattle.machine_model.specs.Machine.{Machine}
use Rattle.machine_model.specs.Partition.{PartitionState}
use Rattle.machine_model.specs.View.{PartitionView, view_of}
use Rattle.range_model.specs.Ranges.{IsPartitionInRange}
use Rattle.upset_model.specs.Places.{deadline_of, flip, interval_of, is_place, lines_for, schedule_of}
use Rattle.xm_report.specs.declared.place.Place.{Place}
use Rattle.xm_report.specs.declared.place.Place.TheVariants.{Conditions, ExecutionDeadline, Global, HardwareDeadline, Mask, MemoryByte, Npc, Pc, Pending, TrapBase, Windowed, YRegister}
use Rattle.upset_model.specs.declared.upset_line.UpsetLine.{UpsetLine}
use Rattle.upset_laws.specs.UpsetLaws.{AreEqualUpset}
use Rattle.upset_model.specs.Upsets.{own_strikes, upset_script}

-- what strikes a partition is by the lines for it alone
abbrev pub StrikesByOwnLines : Type 0
StrikesByOwnLines = (p : ℕ) (lines : List UpsetLine) (k : ℕ) → own_strikes p (schedule_of lines) k ≡ own_strikes p (schedule_of (lines_for p lines)) k

-- two machines and files of upsets, in which a partition is the same, has the same view, the same lines and the same script
pub record AreAlikeStruck (lines : List UpsetLine) (one : Machine) (others : List UpsetLine) (other : Machine) (p count : ℕ) : Type 0 where
  pub state : PartitionState
  pub there : slice_get one.parts p ≡ Some state
  pub part : alone_part_at one p ≡ alone_part_at other p
  pub view : view_of one.system p ≡ view_of other.system p
  pub own_lines : lines_for p lines ≡ lines_for p others
  pub script : upset_script (schedule_of lines) one p count ≡ upset_script (schedule_of others) other p count

abbrev pub TwoStruckRuns : Type 0
TwoStruckRuns = (lines : List UpsetLine) (one : Machine) (others : List UpsetLine) (other : Machine) (p count fewer : ℕ) → fewer ≤ count →
    AreAlikeStruck lines one others other p count → AreEqualUpset (schedule_of lines) one (schedule_of others) other p fewer

-- what stands at a place
abbrev pub place_value : Place → PartitionState → ℕ
place_value (Global n) ps = slice_index ps.core.globals n
place_value (Windowed n) ps = slice_index ps.core.windows n
place_value Pc ps = ps.core.pc
place_value Npc ps = ps.core.npc
place_value YRegister ps = ps.core.y
place_value Conditions ps = ps.core.icc
place_value HardwareDeadline ps = deadline_of ps.clocks.hardware_timer
place_value ExecutionDeadline ps = deadline_of ps.clocks.execution_timer
place_value TrapBase ps = ps.traps.base
place_value Mask ps = ps.traps.mask
place_value Pending ps = ps.traps.pending
place_value (MemoryByte address) ps = byte_at ps.memory address

-- a flip changes the bit of its place
abbrev pub FlipsItsPlace : Type 0
FlipsItsPlace = (view : PartitionView) (place : Place) (bit : ℕ) (ps : PartitionState) → is_place view place bit ≡ true → AreRegisters ps.core
    → place_value place (flip place bit ps) ≡ bit_xor (place_value place ps) (2 ^ bit)

-- two lists of numbers are the same but at one place
pub record AreSameBut (n : ℕ) (before after : List ℕ) : Type 0 where
  pub counted : length after ≡ length before
  pub others : (k : ℕ) → (k == n) ≡ false → slice_index after k ≡ slice_index before k

-- a timer that is armed after a flip has the interval that it had
abbrev pub HasItsInterval : Option Timer → Option Timer → Type 0
HasItsInterval before after = (deadline_of after == 0) ≡ false → interval_of after ≡ interval_of before

-- of the whole state of a partition nothing is another but what stands at a place
abbrev pub ChangesOnly : Place → PartitionState → PartitionState → Type 0
ChangesOnly (Global n) before after =
    (after ≡ record before { core = record before.core { globals = after.core.globals } }) × AreSameBut n before.core.globals after.core.globals
ChangesOnly (Windowed n) before after =
    (after ≡ record before { core = record before.core { windows = after.core.windows } }) × AreSameBut n before.core.windows after.core.windows
ChangesOnly Pc before after = after ≡ record before { core = record before.core { pc = after.core.pc } }
ChangesOnly Npc before after = after ≡ record before { core = record before.core { npc = after.core.npc } }
ChangesOnly YRegister before after = after ≡ record before { core = record before.core { y = after.core.y } }
ChangesOnly Conditions before after = after ≡ record before { core = record before.core { icc = after.core.icc } }
ChangesOnly HardwareDeadline before after =
    (after ≡ record before { clocks = record before.clocks { hardware_timer = after.clocks.hardware_timer } })
    × HasItsInterval before.clocks.hardware_timer after.clocks.hardware_timer
ChangesOnly ExecutionDeadline before after =
    (after ≡ record before { clocks = record before.clocks { execution_timer = after.clocks.execution_timer } })
    × HasItsInterval before.clocks.execution_timer after.clocks.execution_timer
ChangesOnly TrapBase before after = after ≡ record before { traps = record before.traps { base = after.traps.base } }
ChangesOnly Mask before after = after ≡ record before { traps = record before.traps { mask = after.traps.mask } }
ChangesOnly Pending before after = after ≡ record before { traps = record before.traps { pending = after.traps.pending } }
ChangesOnly (MemoryByte address) before after =
    (after ≡ record before { memory = after.memory })
    × ((other : ℕ) → (other == address) ≡ false → byte_at after.memory other ≡ byte_at before.memory other)

-- so it is with a flip
abbrev pub FlipsNothingElse : Type 0
FlipsNothingElse = (place : Place) (bit : ℕ) (ps : PartitionState) → ChangesOnly place ps (flip place bit ps)

-- a flip keeps the facts of the partition, those of its registers, of its virtual traps and of its timers, and the ranges of its numbers
abbrev pub FlipsKeepFacts : Type 0
FlipsKeepFacts = (view : PartitionView) (ticks : ℕ) (halts : Bool) (place : Place) (bit : ℕ) (ps : PartitionState) →
    AreFacts view ticks halts ps → AreFacts view ticks halts (flip place bit ps)

abbrev pub FlipsKeepRegisters : Type 0
FlipsKeepRegisters = (view : PartitionView) (place : Place) (bit : ℕ) (ps : PartitionState) → is_place view place bit ≡ true → AreRegisters ps.core → AreRegisters (flip place bit ps).core

abbrev pub FlipsKeepTraps : Type 0
FlipsKeepTraps = (view : PartitionView) (place : Place) (bit : ℕ) (ps : PartitionState) → is_place view place bit ≡ true → AreVirtualTraps ps.traps → AreVirtualTraps (flip place bit ps).traps

abbrev pub FlipsKeepTimers : Type 0
FlipsKeepTimers = (view : PartitionView) (place : Place) (bit : ℕ) (ps : PartitionState) → is_place view place bit ≡ true → AreTimers ps.clocks → AreTimers (flip place bit ps).clocks

abbrev pub FlipsKeepRanges : Type 0
FlipsKeepRanges = (view : PartitionView) (place : Place) (bit : ℕ) (ps : PartitionState) → is_place view place bit ≡ true → AreRegisters ps.core → AreVirtualTraps ps.traps
    → IsPartitionInRange ps → IsPartitionInRange (flip place bit ps)

-- how many bits a place has
abbrev pub place_bits : Place → ℕ
place_bits (Global n) = 32
place_bits (Windowed n) = 32
place_bits Pc = 32
place_bits Npc = 32
place_bits YRegister = 32
place_bits Conditions = 4
place_bits HardwareDeadline = 63
place_bits ExecutionDeadline = 63
place_bits TrapBase = 32
place_bits Mask = 32
place_bits Pending = 32
place_bits (MemoryByte address) = 8

-- what stands there stays a number of this many bits
abbrev pub FlipsStayIn : Type 0
FlipsStayIn = (view : PartitionView) (place : Place) (bit : ℕ) (ps : PartitionState) → is_place view place bit ≡ true → AreRegisters ps.core
    → place_value place ps < 2 ^ place_bits place → place_value place (flip place bit ps) < 2 ^ place_bits place
