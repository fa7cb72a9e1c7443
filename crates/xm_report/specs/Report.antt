-- The lines of the report: what each says, and its text.
use Rattle.std.specs.Prelude.{ℕ, ◌+◌, ◌≤◌, ◌==◌, ◌&&◌, nat_le, Bool, true, false, if◌then◌else◌, List, [], ◌∷◌, ◌++◌, length, flat_map, codes, decimal}
use Rattle.std.specs.Int.{w32, to_be_bytes}
use Rattle.hex.specs.Hex.{encode_lower}
use Rattle.xm_base.specs.State.{state_text}
use Rattle.xm_base.specs.declared.limits.TheConstants.{CONSOLE_BYTES}
use Rattle.xm_base.specs.declared.partition.State.{State}
use Rattle.xm_conf.specs.Health.{action_row, event_row}
use Rattle.xm_conf.specs.declared.health.Action.{Action}
use Rattle.xm_conf.specs.declared.health.Event.{Event}
use Rattle.xm_report.specs.Places.{place_text}
use Rattle.xm_report.specs.declared.line.Line.{Line}
use Rattle.xm_report.specs.declared.line.Line.TheVariants as code
use Rattle.xm_report.specs.declared.line.Move.{Move}
use Rattle.xm_report.specs.declared.line.Move.TheVariants.{Halt, Suspend, Resume, Cold, Warm}
use Rattle.xm_report.specs.declared.pen.TheConstants.{LINE_BYTES}
use Rattle.xm_report.specs.declared.place.Place.{Place}

-- what a line says
pub data ReportLine : Type 0 where
  SystemLine : (parts plans ticks : ℕ) → ReportLine
  ConsoleLine : (n p : ℕ) (bytes : List ℕ) → ReportLine
  HealthLine : (n p : ℕ) (event : Event) (word : ℕ) (action : Action) → ReportLine
  TraceLine : (n p bits : ℕ) (load : List ℕ) → ReportLine
  MovedLine : (n p : ℕ) (to : Move) → ReportLine
  StruckLine : (n p : ℕ) (place : Place) (bit : ℕ) → ReportLine
  WholeLine : (n : ℕ) (to : Move) → ReportLine
  PlanLine : (n plan : ℕ) → ReportLine
  EndPart : (p : ℕ) (state : State) (resets exec pc : ℕ) → ReportLine
  EndWhole : (halted : Bool) (plan clock ticks : ℕ) → ReportLine

-- what the program's line says
abbrev pub line_value : Line → ReportLine
line_value (code.System parts plans ticks) = SystemLine parts plans ticks
line_value (code.Console n p bytes) = ConsoleLine n p bytes.now
line_value (code.Health n p event word action) = HealthLine n p event word action
line_value (code.Trace n p bits load) = TraceLine n p bits load
line_value (code.Moved n p to) = MovedLine n p to
line_value (code.Struck n p place bit) = StruckLine n p place bit
line_value (code.Whole n to) = WholeLine n to
line_value (code.PlanIs n plan) = PlanLine n plan
line_value (code.EndPart p state resets exec pc) = EndPart p state resets exec pc
line_value (code.EndWhole halted plan clock ticks) = EndWhole halted plan clock ticks

-- the bytes of a console line are those of one call
abbrev pub IsShort : ReportLine → Type 0
IsShort (SystemLine parts plans ticks) = Unit {0}
IsShort (ConsoleLine n p bytes) = length bytes ≤ CONSOLE_BYTES
IsShort (HealthLine n p event word action) = Unit {0}
IsShort (TraceLine n p bits load) = Unit {0}
IsShort (MovedLine n p to) = Unit {0}
IsShort (StruckLine n p place bit) = Unit {0}
IsShort (WholeLine n to) = Unit {0}
IsShort (PlanLine n plan) = Unit {0}
IsShort (EndPart p state resets exec pc) = Unit {0}
IsShort (EndWhole halted plan clock ticks) = Unit {0}

-- a byte of a console's text: what is printed stands for itself, but for the backslash
unfoldable pub escape : ℕ → List ℕ
escape byte =
    if byte == 10 then codes "\\n"
    else if byte == 92 then codes "\\\\"
    else if nat_le 32 byte && nat_le byte 126 then byte ∷ []
    else codes "\\x" ++ encode_lower (byte ∷ [])

-- a console's text
abbrev pub escaped : List ℕ → List ℕ
escaped bytes = flat_map escape bytes

-- this many bytes more fit after those of a line; the longest line is a whole console call, escaped in all places
abbrev pub HasRoom : List ℕ → ℕ → Type 0
HasRoom line more = length line + more ≤ LINE_BYTES

-- the name of a partition's change
abbrev pub move_text : Move → List ℕ
move_text Halt = codes "HALT"
move_text Suspend = codes "SUSPEND"
move_text Resume = codes "RESUME"
move_text Cold = codes "COLD"
move_text Warm = codes "WARM"

-- the word for whether the whole system has halted
abbrev pub halted_text : Bool → List ℕ
halted_text true = codes "halted"
halted_text false = codes "running"

-- the numbers of partitions and plans, and the ticks asked
unfoldable pub system_text : ℕ → ℕ → ℕ → List ℕ
system_text parts plans ticks =
    codes "SYSTEM parts=" ++ decimal parts ++ codes " plans=" ++ decimal plans ++ codes " ticks=" ++ decimal ticks ++ codes "\n"

-- what a partition wrote to its console in a tick
unfoldable pub console_text : ℕ → ℕ → List ℕ → List ℕ
console_text n p bytes =
    codes "[" ++ decimal n ++ codes "] P" ++ decimal p ++ codes " CON " ++ escaped bytes ++ codes "\n"

-- a health event of a partition in a tick, with its word and the action that answers it
unfoldable pub health_text : ℕ → ℕ → Event → ℕ → Action → List ℕ
health_text n p event word action =
    codes "[" ++ decimal n ++ codes "] P" ++ decimal p ++ codes " HM " ++ (event_row event).text ++ codes " "
    ++ encode_lower (to_be_bytes w32 word) ++ codes " " ++ (action_row action).text ++ codes "\n"

-- what a partition traced in a tick: the bits, and the eight bytes
unfoldable pub trace_text : ℕ → ℕ → ℕ → List ℕ → List ℕ
trace_text n p bits load =
    codes "[" ++ decimal n ++ codes "] P" ++ decimal p ++ codes " TRACE " ++ encode_lower (to_be_bytes w32 bits) ++ codes " "
    ++ encode_lower load ++ codes "\n"

-- a change of the whole system in a tick
unfoldable pub whole_text : ℕ → Move → List ℕ
whole_text n to = codes "[" ++ decimal n ++ codes "] XM " ++ move_text to ++ codes "\n"

-- the plan that starts after a tick
unfoldable pub plan_text : ℕ → ℕ → List ℕ
plan_text n plan = codes "[" ++ decimal n ++ codes "] XM PLAN " ++ decimal plan ++ codes "\n"

-- a partition's change in a tick
unfoldable pub moved_text : ℕ → ℕ → Move → List ℕ
moved_text n p to =
    codes "[" ++ decimal n ++ codes "] P" ++ decimal p ++ codes " " ++ move_text to ++ codes "\n"

-- an upset of a partition before a tick: the place, and the number of the bit
unfoldable pub struck_text : ℕ → ℕ → Place → ℕ → List ℕ
struck_text n p place bit =
    codes "[" ++ decimal n ++ codes "] P" ++ decimal p ++ codes " UPSET " ++ place_text place ++ codes " bit " ++ decimal bit ++ codes "\n"

-- how a partition stands at the end
unfoldable pub end_part_text : ℕ → State → ℕ → ℕ → ℕ → List ℕ
end_part_text p state resets exec pc =
    codes "END P" ++ decimal p ++ codes " " ++ state_text state ++ codes " resets=" ++ decimal resets
    ++ codes " exec=" ++ decimal exec ++ codes " pc=" ++ encode_lower (to_be_bytes w32 pc) ++ codes "\n"

-- how the whole system stands at the end
unfoldable pub end_whole_text : Bool → ℕ → ℕ → ℕ → List ℕ
end_whole_text halted plan clock ticks =
    codes "END XM " ++ halted_text halted ++ codes " plan=" ++ decimal plan ++ codes " clock=" ++ decimal clock
    ++ codes " ticks=" ++ decimal ticks ++ codes "\n"

-- the text of a line
abbrev pub text_of : ReportLine → List ℕ
text_of (SystemLine parts plans ticks) = system_text parts plans ticks
text_of (ConsoleLine n p bytes) = console_text n p bytes
text_of (HealthLine n p event word action) = health_text n p event word action
text_of (TraceLine n p bits load) = trace_text n p bits load
text_of (MovedLine n p to) = moved_text n p to
text_of (StruckLine n p place bit) = struck_text n p place bit
text_of (WholeLine n to) = whole_text n to
text_of (PlanLine n plan) = plan_text n plan
text_of (EndPart p state resets exec pc) = end_part_text p state resets exec pc
text_of (EndWhole halted plan clock ticks) = end_whole_text halted plan clock ticks

-- the text of lines, one after the other
abbrev pub texts : List ReportLine → List ℕ
texts lines = flat_map text_of lines
