-- That the text of lines determines them: no other lines in range have it.
use Rattle.std.specs.Prelude.{◌≡◌, ℕ, ◌<◌, ◌^◌, List, ◌++◌}
use Rattle.std.specs.List.{AllByRecursion}
use Rattle.xm_base.specs.Bytes.{AreBytes}
use Rattle.xm_report.specs.Places.{IsSpelledPlace}
use Rattle.xm_report.specs.Report.{ReportLine, StruckLine, SystemLine, ConsoleLine, HealthLine, TraceLine, MovedLine, WholeLine, PlanLine, EndPart, EndWhole, text_of, texts}

-- a tick, a count, and the number of a partition or a plan
abbrev pub IsCount : ℕ → Type 0
IsCount n = n < 2 ^ 64

-- a word
abbrev pub IsWord : ℕ → Type 0
IsWord n = n < 2 ^ 32

-- the numbers of a line are in the ranges of the values that the program prints: 64 bits for what is written in decimal, words, and bytes
abbrev pub IsInRange : ReportLine → Type 0
IsInRange (SystemLine parts plans ticks) = IsCount parts × IsCount plans × IsCount ticks
IsInRange (ConsoleLine n p bytes) = IsCount n × IsCount p × AreBytes bytes
IsInRange (HealthLine n p event word action) = IsCount n × IsCount p × IsWord word
IsInRange (TraceLine n p bits load) = IsCount n × IsCount p × IsWord bits × AreBytes load
IsInRange (MovedLine n p to) = IsCount n × IsCount p
IsInRange (StruckLine n p place bit) = IsCount n × IsCount p × IsSpelledPlace place × IsCount bit
IsInRange (WholeLine n to) = IsCount n
IsInRange (PlanLine n plan) = IsCount n × IsCount plan
IsInRange (EndPart p state resets exec pc) = IsCount p × IsCount resets × IsCount exec × IsWord pc
IsInRange (EndWhole halted plan clock ticks) = IsCount plan × IsCount clock × IsCount ticks

-- bytes that begin with the text of a line begin with that of no other, and what stands after it is the same: so a line, with its tick, its partition and
-- its kind, can be read from where it begins, and it ends at its newline
abbrev pub LinesAreDetermined : Type 0
LinesAreDetermined = (one other : ReportLine) (after later : List ℕ) → IsInRange one → IsInRange other → text_of one ++ after ≡ text_of other ++ later → (one ≡ other) × (after ≡ later)

-- the text of lines is that of no other lines
abbrev pub TextsDetermineLines : Type 0
TextsDetermineLines = (one other : List ReportLine) → AllByRecursion IsInRange one → AllByRecursion IsInRange other → texts one ≡ texts other → one ≡ other
