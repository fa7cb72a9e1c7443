-- The laws of files of upsets.
use Rattle.std.specs.Prelude.{◌≡◌, ℕ, ◌+◌, ◌<◌, ◌≤◌, ◌^◌, ◌↔◌, ◌⊎◌, ◌&&◌, true, List, [], ◌∷◌, ◌++◌, Some, length, Ok, Err}
use Rattle.std.specs.List.{AllByRecursion}
use Rattle.xm_conf.specs.Configuration.{Conf}
use Rattle.machine_model.specs.View.{System, view_of}
use Rattle.upset_model.specs.Places.{is_place}
use Rattle.upset_files.specs.Fits.{AllFit, AreUpsetsOf, FitsRun, is_bit_of, is_place_of, areas_of_part}
use Rattle.upset_files.specs.Reading.{fitted_line, place_spelled, upsets_from}
use Rattle.xm_report.specs.Places.{IsSpelledPlace, place_text}
use Rattle.upset_files.specs.Spelling.{upsets_text}
use Rattle.upset_files.specs.declared.fault.UpsetCause.{UpsetCause}
use Rattle.upset_files.specs.declared.fault.UpsetCause.TheVariants.{TooMany}
use Rattle.upset_files.specs.declared.fault.UpsetFault.TheVariants as fault
use Rattle.upset_files.specs.declared.reading.TheConstants.{UPSETS}
use Rattle.xm_report.specs.declared.place.Place.{Place}
use Rattle.upset_model.specs.declared.upset_line.UpsetLine.{UpsetLine}

-- a line that has a spelling: its place has one, and its numbers have 64 bits
pub record IsSpelledLine (line : UpsetLine) : Type 0 where
  pub tick : line.tick < 2 ^ 64
  pub part : line.part < 2 ^ 64
  pub place : IsSpelledPlace line.place
  pub bit : line.bit < 2 ^ 64

-- a word is a place exactly where it is its spelling
abbrev pub PlacesAreSpelled : Type 0
PlacesAreSpelled = (word : List ℕ) (place : Place) → (place_spelled word ≡ Some place) ↔ (IsSpelledPlace place × (word ≡ place_text place))

-- two lists of lines that are spelled alike are equal
abbrev pub UpsetsHaveOneSpelling : Type 0
UpsetsHaveOneSpelling =
    (one other : List UpsetLine) → AllByRecursion IsSpelledLine one → AllByRecursion IsSpelledLine other
    → upsets_text one ≡ upsets_text other → one ≡ other

-- the upsets of a text are read, where partitions and ticks can be counted with 64 bits
abbrev pub UpsetsAreRead : Type 0
UpsetsAreRead =
    (conf : Conf) (begun ticks : ℕ) (text : List ℕ) (lines : List UpsetLine) → length conf.parts ≤ 2 ^ 64 → ticks ≤ 2 ^ 64
    → AreUpsetsOf conf begun ticks text lines → upsets_from conf begun ticks text ≡ Ok lines

-- what is read of a text are its upsets
abbrev pub ReadUpsetsAreSpelled : Type 0
ReadUpsetsAreSpelled =
    (conf : Conf) (begun ticks : ℕ) (text : List ℕ) (lines : List UpsetLine) → upsets_from conf begun ticks text ≡ Ok lines → AreUpsetsOf conf begun ticks text lines

-- a partition of a system may be struck at just the places and bits that fit it
abbrev pub PlacesAreThose : Type 0
PlacesAreThose =
    (system : System) (p : ℕ) (place : Place) (bit : ℕ)
    → is_place (view_of system p) place bit ≡ (is_place_of (areas_of_part system.conf p) place && is_bit_of place bit)

-- so the places of upsets that fit may be struck
abbrev pub UpsetsMayStrike : Type 0
UpsetsMayStrike =
    (system : System) (ticks before : ℕ) (line : UpsetLine) → FitsRun system.conf ticks before line
    → is_place (view_of system line.part) line.place line.bit ≡ true

-- the tick of the last line, or this one where there is none
abbrev pub last_tick : ℕ → List UpsetLine → ℕ
last_tick before [] = before
last_tick before (line ∷ lines) = last_tick line.tick lines

-- what is wrong with the line that begins here, after these that fit a run from the tick `begun` on: there are no more, or it is this
abbrev pub IsWrongAfter : Conf → ℕ → ℕ → List UpsetLine → List ℕ → UpsetCause → Type 0
IsWrongAfter conf begun ticks lines rest cause =
    ((length lines ≡ UPSETS) × (cause ≡ TooMany)) ⊎ ((length lines < UPSETS) × (fitted_line conf ticks (length lines + 1) (last_tick begun lines) rest ≡ Err cause))

-- a line with this number is the first that is wrong: all before it are spelled and fit, and this is what is wrong with it
pub record IsFirstWrong (conf : Conf) (begun ticks : ℕ) (text : List ℕ) (number : ℕ) (cause : UpsetCause) : Type 0 where
  pub lines : List UpsetLine
  pub rest : List ℕ
  pub spelled : text ≡ upsets_text lines ++ rest
  pub fit : AllFit conf ticks begun lines
  pub number_is : number ≡ length lines + 1
  pub begins : 0 < length rest
  pub wrong : IsWrongAfter conf begun ticks lines rest cause

-- a fault is that of the first line that is wrong
abbrev pub FaultsAreFirst : Type 0
FaultsAreFirst =
    (conf : Conf) (begun ticks : ℕ) (text : List ℕ) (number : ℕ) (cause : UpsetCause) → upsets_from conf begun ticks text ≡ Err (fault.Line number cause)
    → IsFirstWrong conf begun ticks text number cause
