-- Which upsets a run of a system can have: the bit exists, and the tick is one of the run.
use Rattle.std.specs.Prelude.{◌≡◌, ℕ, ◌+◌, ◌<◌, ◌≤◌, ◌^◌, ◌&&◌, nat_lt, nat_le, Bool, true, List, [], ◌∷◌, length, Option, Some, None, slice_get}
use Rattle.std.specs.List.{list_any}
use Rattle.xm_conf.specs.Configuration.{Conf, Part}
use Rattle.xm_conf.specs.declared.part.Area.{Area}
use Rattle.xm_report.specs.declared.place.Place.{Place}
use Rattle.xm_report.specs.declared.place.Place.TheVariants.{Conditions, ExecutionDeadline, Global, HardwareDeadline, Mask, MemoryByte, Npc, Pc, Pending, TrapBase, Windowed, YRegister}
use Rattle.upset_model.specs.declared.upset_line.UpsetLine.{UpsetLine}
use Rattle.upset_files.specs.declared.reading.TheConstants.{UPSETS}
use Rattle.upset_files.specs.Spelling.{upsets_text}

-- an area has the address
unfoldable pub has_address : ℕ → Area → Bool
has_address address area = nat_le area.start address && nat_lt address (area.start + area.size)

-- whether a partition with these areas has the place
abbrev pub is_place_of : List Area → Place → Bool
is_place_of areas (Global n) = nat_le 1 n && nat_lt n 8
is_place_of areas (Windowed n) = nat_lt n 128
is_place_of areas Pc = true
is_place_of areas Npc = true
is_place_of areas YRegister = true
is_place_of areas Conditions = true
is_place_of areas HardwareDeadline = true
is_place_of areas ExecutionDeadline = true
is_place_of areas TrapBase = true
is_place_of areas Mask = true
is_place_of areas Pending = true
is_place_of areas (MemoryByte address) = list_any (has_address address) areas

-- whether the place has the bit, and may be struck there
abbrev pub is_bit_of : Place → ℕ → Bool
is_bit_of (Global n) bit = nat_lt bit 32
is_bit_of (Windowed n) bit = nat_lt bit 32
is_bit_of Pc bit = nat_le 2 bit && nat_lt bit 32
is_bit_of Npc bit = nat_le 2 bit && nat_lt bit 32
is_bit_of YRegister bit = nat_lt bit 32
is_bit_of Conditions bit = nat_lt bit 4
is_bit_of HardwareDeadline bit = nat_lt bit 63
is_bit_of ExecutionDeadline bit = nat_lt bit 63
is_bit_of TrapBase bit = nat_le 12 bit && nat_lt bit 32
is_bit_of Mask bit = nat_lt bit 32
is_bit_of Pending bit = nat_lt bit 32
is_bit_of (MemoryByte address) bit = nat_lt bit 8

-- an address has 32 bits
abbrev pub HasWordAddress : Place → Type 0
HasWordAddress (Global n) = Unit {0}
HasWordAddress (Windowed n) = Unit {0}
HasWordAddress Pc = Unit {0}
HasWordAddress Npc = Unit {0}
HasWordAddress YRegister = Unit {0}
HasWordAddress Conditions = Unit {0}
HasWordAddress HardwareDeadline = Unit {0}
HasWordAddress ExecutionDeadline = Unit {0}
HasWordAddress TrapBase = Unit {0}
HasWordAddress Mask = Unit {0}
HasWordAddress Pending = Unit {0}
HasWordAddress (MemoryByte address) = address < 2 ^ 32

-- the areas of a partition, where there is one
abbrev pub areas_or_none : Option Part → List Area
areas_or_none None = []
areas_or_none (Some part) = part.areas

-- the areas of partition p
unfoldable pub areas_of_part : Conf → ℕ → List Area
areas_of_part conf p = areas_or_none (slice_get conf.parts p)

-- a line fits a run up to this many ticks after the tick `before`, of the line above or of the run's beginning: its partition, its place and its bit exist,
-- its tick is not before that one, and the run reaches it
pub record FitsRun (conf : Conf) (ticks before : ℕ) (line : UpsetLine) : Type 0 where
  pub partition : line.part < length conf.parts
  pub place : is_place_of (areas_of_part conf line.part) line.place ≡ true
  pub address : HasWordAddress line.place
  pub bit : is_bit_of line.place line.bit ≡ true
  pub order : before ≤ line.tick
  pub reached : line.tick < ticks

-- each line fits after the one above
abbrev pub AllFit : Conf → ℕ → ℕ → List UpsetLine → Type 0
AllFit conf ticks before [] = Unit {0}
AllFit conf ticks before (line ∷ lines) = FitsRun conf ticks before line × AllFit conf ticks line.tick lines

-- a text is a file of these upsets for a run from the tick `begun` on, up to this many ticks since the boot
pub record AreUpsetsOf (conf : Conf) (begun ticks : ℕ) (text : List ℕ) (lines : List UpsetLine) : Type 0 where
  pub spelled : text ≡ upsets_text lines
  pub few : length lines ≤ UPSETS
  pub fit : AllFit conf ticks begun lines
