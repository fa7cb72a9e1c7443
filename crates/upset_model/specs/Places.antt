-- Upsets by places: a bit of a register, of a virtual trap register, of a timer or of a byte of memory flips before a tick.
use Rattle.std.specs.Prelude.{ℕ, ◌^◌, ◌==◌, ◌&&◌, nat_lt, nat_le, Bool, if◌then◌else◌, List, [], ◌∷◌, map, bit_xor, slice_index, slice_set}
use Rattle.std.specs.FinMap.{insert}
use Rattle.guest_bus.specs.Memory.{byte_at, is_readable}
pub use Rattle.virt_clocks.specs.Flips.{deadline_of, flipped_timer, interval_of}
use Rattle.machine_model.specs.Partition.{PartitionState, areas_of}
use Rattle.machine_model.specs.View.{PartitionView}
use Rattle.upset_model.specs.Upsets.{Schedule, Strike, Upset}
use Rattle.xm_report.specs.declared.place.Place.{Place}
use Rattle.xm_report.specs.declared.place.Place.TheVariants.{Conditions, ExecutionDeadline, Global, HardwareDeadline, Mask, MemoryByte, Npc, Pc, Pending, TrapBase, Windowed, YRegister}
use Rattle.upset_model.specs.declared.upset_line.UpsetLine.{UpsetLine}

-- whether a partition has the bit, and may be struck there. Register 0 is always 0; the program counters are multiples of 4, and the base is one of 4096; a
-- deadline has 63 bits, as a number that is not negative; a byte that is read-only may be struck, too
abbrev pub is_place : PartitionView → Place → ℕ → Bool
is_place view (Global n) bit = nat_le 1 n && nat_lt n 8 && nat_lt bit 32
is_place view (Windowed n) bit = nat_lt n 128 && nat_lt bit 32
is_place view Pc bit = nat_le 2 bit && nat_lt bit 32
is_place view Npc bit = nat_le 2 bit && nat_lt bit 32
is_place view YRegister bit = nat_lt bit 32
is_place view Conditions bit = nat_lt bit 4
is_place view HardwareDeadline bit = nat_lt bit 63
is_place view ExecutionDeadline bit = nat_lt bit 63
is_place view TrapBase bit = nat_le 12 bit && nat_lt bit 32
is_place view Mask bit = nat_lt bit 32
is_place view Pending bit = nat_lt bit 32
is_place view (MemoryByte address) bit = is_readable (areas_of view) address && nat_lt bit 8

abbrev pub flipped : ℕ → ℕ → ℕ
flipped bit n = bit_xor n (2 ^ bit)

abbrev pub flipped_at : ℕ → ℕ → List ℕ → List ℕ
flipped_at n bit words = slice_set words n (flipped bit (slice_index words n))

-- a partition after the flip of a bit
abbrev pub flip : Place → ℕ → PartitionState → PartitionState
flip (Global n) bit ps = record ps { core = record ps.core { globals = flipped_at n bit ps.core.globals } }
flip (Windowed n) bit ps = record ps { core = record ps.core { windows = flipped_at n bit ps.core.windows } }
flip Pc bit ps = record ps { core = record ps.core { pc = flipped bit ps.core.pc } }
flip Npc bit ps = record ps { core = record ps.core { npc = flipped bit ps.core.npc } }
flip YRegister bit ps = record ps { core = record ps.core { y = flipped bit ps.core.y } }
flip Conditions bit ps = record ps { core = record ps.core { icc = flipped bit ps.core.icc } }
flip HardwareDeadline bit ps = record ps { clocks = record ps.clocks { hardware_timer = flipped_timer bit ps.clocks.hardware_timer } }
flip ExecutionDeadline bit ps = record ps { clocks = record ps.clocks { execution_timer = flipped_timer bit ps.clocks.execution_timer } }
flip TrapBase bit ps = record ps { traps = record ps.traps { base = flipped bit ps.traps.base } }
flip Mask bit ps = record ps { traps = record ps.traps { mask = flipped bit ps.traps.mask } }
flip Pending bit ps = record ps { traps = record ps.traps { pending = flipped bit ps.traps.pending } }
flip (MemoryByte address) bit ps = record ps { memory = insert ps.memory address (flipped bit (byte_at ps.memory address)) }

-- the upset of a line: the bit of the place of the partition flips
abbrev pub strike_of : UpsetLine → Strike
strike_of line = flip line.place line.bit

abbrev pub upset_of : UpsetLine → Upset
upset_of line = record { part = line.part; strike = strike_of line }

-- lines of upsets before each tick, by the ticks that are done
abbrev pub Timetable : Type 0
Timetable = ℕ → List UpsetLine

-- those of a file
abbrev pub due : List UpsetLine → Timetable
due [] k = []
due (line ∷ lines) k = if line.tick == k then line ∷ due lines k else due lines k

-- their upsets
abbrev pub upsets_of : Timetable → Schedule
upsets_of t k = map upset_of (t k)

-- the upsets of a file before each tick
abbrev pub schedule_of : List UpsetLine → Schedule
schedule_of lines = upsets_of (due lines)

-- the lines for one partition
abbrev pub lines_for : ℕ → List UpsetLine → List UpsetLine
lines_for p [] = []
lines_for p (line ∷ lines) = if line.part == p then line ∷ lines_for p lines else lines_for p lines
