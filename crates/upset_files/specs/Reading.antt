-- The reading of upsets: the lines that a text spells, or the first line that is wrong, with the first thing that is wrong with it.
use Rattle.std.specs.Prelude.{ℕ, zero, suc, ◌==◌, ◌&&◌, ◌||◌, not, nat_le, nat_lt, nat_eq, Bool, true, false, if◌then◌else◌, List, [], ◌∷◌, length, take, drop, Option, Some, None, Result, Ok, Err}
use Rattle.std.specs.Int.{w32, from_be_bytes}
use Rattle.std.specs.List.{find, prefix_len}
use Rattle.std.specs.Str.{all_ascii_digits, bytes_eq}
use Rattle.std.specs.Str.Parse.{digits_value}
use Rattle.hex.specs.Hex.{decode_sized}
use Rattle.hex.specs.declared.error.FromHexError.{FromHexError}
use Rattle.file_headers.specs.Steps.{◌>>=◌}
use Rattle.xm_conf.specs.Configuration.{Conf}
use Rattle.upset_files.specs.declared.fault.UpsetCause.{UpsetCause}
use Rattle.upset_files.specs.declared.fault.UpsetCause.TheVariants.{BadBit, BadEnd, BadPartition, BadPlace, BadTick, NoBit, NoPartition, NoPlace, TooMany, Unordered, Unreached}
use Rattle.upset_files.specs.declared.fault.UpsetFault.{UpsetFault}
use Rattle.upset_files.specs.declared.fault.UpsetFault.TheVariants as fault
use Rattle.xm_report.specs.declared.place.Place.{Place}
use Rattle.xm_report.specs.declared.place.Place.TheVariants.{Conditions, ExecutionDeadline, Global, HardwareDeadline, Mask, MemoryByte, Npc, Pc, Pending, TrapBase, Windowed, YRegister}
use Rattle.upset_model.specs.declared.upset_line.UpsetLine.{UpsetLine}
use Rattle.upset_files.specs.declared.numbers.TheConstants.{MOST_NUMBER}
use Rattle.upset_files.specs.declared.reading.TheConstants.{UPSETS}
use Rattle.upset_files.specs.Fits.{is_bit_of, is_place_of, areas_of_part}
use Rattle.xm_report.specs.Places.{place_text}

-- a byte of a word: no space and no line feed
unfoldable pub is_of_word : ℕ → Bool
is_of_word byte = not (byte == 32) && not (byte == 10)

-- the word that a text begins with, up to its first space or line feed
unfoldable pub word_before_blank : List ℕ → List ℕ
word_before_blank text = take (prefix_len is_of_word text) text

-- what stands after that word
unfoldable pub from_blank : List ℕ → List ℕ
from_blank text = drop (prefix_len is_of_word text) text

-- a decimal number: digits without a sign, and without a leading zero unless it is `0`
abbrev pub is_decimal : List ℕ → Bool
is_decimal [] = false
is_decimal (digit ∷ digits) = all_ascii_digits (digit ∷ digits) && (not (digit == 48) || nat_eq (length digits) 0)

-- the number that a word spells, where it is not above the limit
unfoldable pub number_spelled : ℕ → List ℕ → Option ℕ
number_spelled limit word = if is_decimal word && nat_le (digits_value 10 word) limit then Some (digits_value 10 word) else None

-- the number that a word spells; those of 2^64 and more are none
abbrev pub field_number : List ℕ → Option ℕ
field_number word = number_spelled MOST_NUMBER word

-- the places that have a name
abbrev pub named_places : List Place
named_places = Pc ∷ Npc ∷ YRegister ∷ Conditions ∷ HardwareDeadline ∷ ExecutionDeadline ∷ TrapBase ∷ Mask ∷ Pending ∷ []

-- the place of a name
unfoldable pub named_place : List ℕ → Option Place
named_place word = find (λ place. bytes_eq (place_text place) word) named_places

-- a number, where it is not below the least
abbrev pub not_below : ℕ → Option ℕ → Option ℕ
not_below least None = None
not_below least (Some n) = if nat_le least n then Some n else None

-- the number after a letter, within bounds
abbrev pub register_number : ℕ → ℕ → ℕ → List ℕ → Option ℕ
register_number letter least most [] = None
register_number letter least most (first ∷ digits) = if first == letter then not_below least (number_spelled most digits) else None

-- the place that has a number, where there is one
abbrev pub register_place : (ℕ → Place) → Option ℕ → Option Place
register_place make None = None
register_place make (Some n) = Some (make n)

-- the registers `g1` to `g7`, and `w0` to `w127`
unfoldable pub global_place : List ℕ → Option Place
global_place word = register_place Global (register_number 103 1 7 word)

unfoldable pub windowed_place : List ℕ → Option Place
windowed_place word = register_place Windowed (register_number 119 0 127 word)

-- a place, where the word is its spelling
abbrev pub if_spelled : Bool → Place → Option Place
if_spelled true place = Some place
if_spelled false place = None

-- the byte of memory with the address of these bytes, where the word is its spelling
abbrev pub byte_by : Result (List ℕ) FromHexError → List ℕ → Option Place
byte_by (Ok bytes) word = if_spelled (bytes_eq (place_text (MemoryByte (from_be_bytes w32 bytes))) word) (MemoryByte (from_be_bytes w32 bytes))
byte_by (Err error) word = None

-- the byte of memory whose address has these eight hexadecimal digits
unfoldable pub byte_place : List ℕ → Option Place
byte_place word = byte_by (decode_sized word 4) word

-- the first of two that there is
abbrev pub or_place : Option Place → Option Place → Option Place
or_place (Some place) other = Some place
or_place None other = other

-- the place that a word spells
unfoldable pub place_spelled : List ℕ → Option Place
place_spelled word = or_place (named_place word) (or_place (global_place word) (or_place (windowed_place word) (byte_place word)))

-- what a word means with the text after it, or the cause where it means nothing
abbrev pub meant : {X : Type 0} → UpsetCause → Option X → List ℕ → Result (X × List ℕ) UpsetCause
meant cause None after = Err cause
meant cause (Some x) after = Ok (x, after)

-- the word that a text begins with
abbrev pub word_read : {X : Type 0} → (List ℕ → Option X) → UpsetCause → List ℕ → Result (X × List ℕ) UpsetCause
word_read meaning cause text = meant cause (meaning (word_before_blank text)) (from_blank text)

-- what follows a byte that has to stand first
abbrev pub after_byte : ℕ → UpsetCause → List ℕ → Result (List ℕ) UpsetCause
after_byte byte cause [] = Err cause
after_byte byte cause (first ∷ rest) = if first == byte then Ok rest else Err cause

-- the word after a space
abbrev pub spaced_read : {X : Type 0} → (List ℕ → Option X) → UpsetCause → List ℕ → Result (X × List ℕ) UpsetCause
spaced_read meaning cause text = do
  rest ← after_byte 32 cause text
  word_read meaning cause rest

-- the fields of the line that a text begins with, and the text after it
unfoldable pub line_at : List ℕ → Result (UpsetLine × List ℕ) UpsetCause
line_at text = do
  tick ← word_read field_number BadTick text
  part ← spaced_read field_number BadPartition tick.1
  place ← spaced_read place_spelled BadPlace part.1
  bit ← spaced_read field_number BadBit place.1
  rest ← after_byte 10 BadEnd bit.1
  Ok (record { tick = tick.0; part = part.0; place = place.0; bit = bit.0 }, rest)

-- why a line is too early: the first one is before the first tick of the run, any other before the line above
abbrev pub too_early : ℕ → UpsetCause
too_early number = if number == 1 then Unreached else Unordered

-- the line of this number, which may not be before the tick `before`, where it fits a run up to this many ticks
unfoldable pub fitted : Conf → ℕ → ℕ → ℕ → UpsetLine → Result UpsetLine UpsetCause
fitted conf ticks number before line =
    if not (nat_lt line.part (length conf.parts)) then Err NoPartition
    else if not (is_place_of (areas_of_part conf line.part) line.place) then Err NoPlace
    else if not (is_bit_of line.place line.bit) then Err NoBit
    else if nat_lt line.tick before then Err (too_early number)
    else if nat_le ticks line.tick then Err Unreached
    else Ok line

-- the line that a text begins with, where it fits, and the text after it
unfoldable pub fitted_line : Conf → ℕ → ℕ → ℕ → List ℕ → Result (UpsetLine × List ℕ) UpsetCause
fitted_line conf ticks number before text = do
  found ← line_at text
  line ← fitted conf ticks number before found.0
  Ok (line, found.1)

-- the cause with the number of its line
abbrev pub in_line : {X : Type 0} → ℕ → Result X UpsetCause → Result X UpsetFault
in_line number (Ok x) = Ok x
in_line number (Err cause) = Err (fault.Line number cause)

-- the lines of a text, of which there may be this many more; the first has this number, and may not be before the tick `before`
abbrev pub lines_read : ℕ → Conf → ℕ → ℕ → ℕ → List ℕ → Result (List UpsetLine) UpsetFault
lines_read zero conf ticks number before [] = Ok []
lines_read zero conf ticks number before (byte ∷ bytes) = Err (fault.Line number TooMany)
lines_read (suc most) conf ticks number before [] = Ok []
lines_read (suc most) conf ticks number before (byte ∷ bytes) = do
  found ← in_line number (fitted_line conf ticks number before (byte ∷ bytes))
  later ← lines_read most conf ticks (suc number) (found.0).tick found.1
  Ok (found.0 ∷ later)

-- the lines of a whole text for a run from the tick `begun` on, up to this many ticks since the boot: at most 4096 lines, the first of number 1
unfoldable pub upsets_from : Conf → ℕ → ℕ → List ℕ → Result (List UpsetLine) UpsetFault
upsets_from conf begun ticks text = lines_read UPSETS conf ticks 1 begun text

-- for a run from the boot on
abbrev pub upsets_read : Conf → ℕ → List ℕ → Result (List UpsetLine) UpsetFault
upsets_read conf ticks text = upsets_from conf 0 ticks text
