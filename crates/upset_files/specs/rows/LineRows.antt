-- Rows on lines, worked by hand: what is read, and the first fault of what is not.
use Rattle.std.specs.Prelude.{◌≡◌, ℕ, Bool, true, false, List, [], ◌∷◌, codes, Ok, Err}
use Rattle.xm_conf.specs.Configuration.{Conf, Part}
use Rattle.machine_model.specs.View.{no_part}
use Rattle.upset_files.specs.Reading.{lines_read, upsets_from, upsets_read}
use Rattle.upset_files.specs.declared.fault.UpsetCause.{UpsetCause}
use Rattle.upset_files.specs.declared.fault.UpsetCause.TheVariants.{BadBit, BadEnd, BadPartition, BadPlace, BadTick, NoBit, NoPartition, NoPlace, TooMany, Unordered, Unreached}
use Rattle.upset_files.specs.declared.fault.UpsetFault.TheVariants as fault
use Rattle.xm_report.specs.declared.place.Place.{Place}
use Rattle.xm_report.specs.declared.place.Place.TheVariants.{Conditions, MemoryByte, Pc, YRegister}
use Rattle.upset_model.specs.declared.upset_line.UpsetLine.{UpsetLine}

-- a partition with one page of memory
abbrev pub page_part : ℕ → Bool → Part
page_part start read_only = record no_part { areas = (record { start = start; size = 4096; read_only = read_only }) ∷ [] }

-- two partitions, the first of which may not write its page
abbrev pub two_parts : Conf
two_parts = record { name = []; regions = []; hv_size = 0; uarts = []; plans = []; parts = page_part 0x40100000 true ∷ page_part 0x40200000 false ∷ []; chans = []; links = [] }

abbrev pub upset_line : ℕ → ℕ → Place → ℕ → UpsetLine
upset_line tick part place bit = record { tick = tick; part = part; place = place; bit = bit }

-- a text has its first fault here, for a run of 10 ticks
abbrev pub IsWrong : List ℕ → ℕ → UpsetCause → Type 0
IsWrong text number cause = upsets_read two_parts 10 text ≡ Err (fault.Line number cause)

-- what is read, in the order of its lines; ticks rise, and may be equal; a byte that is read-only may be struck
pub record ReadLines : Type 0 where
  pub none : upsets_read two_parts 10 [] ≡ Ok []
  pub four : upsets_read two_parts 10 (codes "0 0 40100fff 7\n3 1 pc 2\n3 0 y 31\n9 1 icc 0\n")
      ≡ Ok (upset_line 0 0 (MemoryByte 0x40100fff) 7 ∷ upset_line 3 1 Pc 2 ∷ upset_line 3 0 YRegister 31 ∷ upset_line 9 1 Conditions 0 ∷ [])

-- fields that are malformed or missing
pub record MalformedLines : Type 0 where
  pub empty : IsWrong (codes "\n") 1 BadTick
  pub zero_first : IsWrong (codes "00 0 y 0\n") 1 BadTick
  pub signed : IsWrong (codes "+1 0 y 0\n") 1 BadTick
  pub blank_first : IsWrong (codes " 0 0 y 0\n") 1 BadTick
  pub two_spaces : IsWrong (codes "0  0 y 0\n") 1 BadPartition
  pub tick_alone : IsWrong (codes "0\n") 1 BadPartition
  pub no_place : IsWrong (codes "0 0\n") 1 BadPlace
  pub other_place : IsWrong (codes "0 0 w128 0\n") 1 BadPlace
  pub no_bit : IsWrong (codes "0 0 y\n") 1 BadBit
  pub carriage_return : IsWrong (codes "0 0 y 0\r\n") 1 BadBit
  pub blank_last : IsWrong (codes "0 0 y 0 \n") 1 BadEnd
  pub no_feed : IsWrong (codes "0 0 y 0\n1 0 y 0") 2 BadEnd

-- what does not exist, is out of order or is never reached
pub record UnfitLines : Type 0 where
  pub partition : IsWrong (codes "0 2 y 0\n") 1 NoPartition
  pub past_area : IsWrong (codes "0 0 40101000 0\n") 1 NoPlace
  pub neighbour : IsWrong (codes "0 0 40200000 0\n") 1 NoPlace
  pub low_bit : IsWrong (codes "0 0 pc 1\n") 1 NoBit
  pub high_bit : IsWrong (codes "0 0 y 32\n") 1 NoBit
  pub order : IsWrong (codes "3 0 y 0\n2 0 y 0\n") 2 Unordered
  pub never : IsWrong (codes "9 0 y 0\n10 0 y 0\n") 2 Unreached

-- of two things that are wrong with a line, the first in this order; and of two lines, the first
pub record FirstFaults : Type 0 where
  pub fields_first : IsWrong (codes "0 2 w128 99\n") 1 BadPlace
  pub partition_first : IsWrong (codes "10 2 pc 0\n") 1 NoPartition
  pub place_first : IsWrong (codes "10 0 40101000 8\n") 1 NoPlace
  pub bit_first : IsWrong (codes "10 0 pc 0\n") 1 NoBit
  pub order_first : IsWrong (codes "9 0 y 0\n8 0 y 32\n8 0 y 0\n") 2 NoBit
  pub line_first : IsWrong (codes "10 0 y 0\nx\n") 1 Unreached

-- a text has its first fault here, for a run from tick 3 on up to 10 ticks since the boot
abbrev pub IsWrongLater : List ℕ → ℕ → UpsetCause → Type 0
IsWrongLater text number cause = upsets_from two_parts 3 10 text ≡ Err (fault.Line number cause)

-- a run from tick 3 on: its first tick is 3, and ticks count from the boot. A first line before it is never reached, a later one is out of order; a run without
-- a tick reaches no line
pub record LaterLines : Type 0 where
  pub none : upsets_from two_parts 3 10 [] ≡ Ok []
  pub first : upsets_from two_parts 3 10 (codes "3 0 y 0\n3 1 pc 2\n9 0 icc 3\n") ≡ Ok (upset_line 3 0 YRegister 0 ∷ upset_line 3 1 Pc 2 ∷ upset_line 9 0 Conditions 3 ∷ [])
  pub one_before : IsWrongLater (codes "2 0 y 0\n") 1 Unreached
  pub boot : IsWrongLater (codes "0 0 y 0\n3 0 y 0\n") 1 Unreached
  pub order : IsWrongLater (codes "5 0 y 0\n4 0 y 0\n") 2 Unordered
  pub before_first : IsWrongLater (codes "3 0 y 0\n2 0 y 0\n") 2 Unordered
  pub never : IsWrongLater (codes "3 0 y 0\n10 0 y 0\n") 2 Unreached
  pub bit_first : IsWrongLater (codes "2 0 y 32\n") 1 NoBit
  pub no_ticks : upsets_from two_parts 3 3 (codes "3 0 y 0\n") ≡ Err (fault.Line 1 Unreached)

-- where one line may stand, a second one is too many, whatever it says
pub record ManyLines : Type 0 where
  pub one : lines_read 1 two_parts 10 1 0 (codes "0 0 y 0\n") ≡ Ok (upset_line 0 0 YRegister 0 ∷ [])
  pub two : lines_read 1 two_parts 10 1 0 (codes "0 0 y 0\nx") ≡ Err (fault.Line 2 TooMany)
