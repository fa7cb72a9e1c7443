-- The lines of a tick but for that of console bytes.
use Rattle.std.specs.Prelude.{⊤}
use Rattle.xm_report.specs.Report.{ConsoleLine, EndPart, EndWhole, HealthLine, MovedLine, PlanLine, ReportLine, StruckLine, SystemLine, TraceLine, WholeLine}

-- a line without console bytes
abbrev pub IsOtherLine : ReportLine → Type 0
IsOtherLine (SystemLine parts plans ticks) = ⊤
IsOtherLine (ConsoleLine n p bytes) = ⊥
IsOtherLine (HealthLine n p event word action) = ⊤
IsOtherLine (TraceLine n p bits load) = ⊤
IsOtherLine (MovedLine n p to) = ⊤
IsOtherLine (StruckLine n p place bit) = ⊤
IsOtherLine (WholeLine n to) = ⊤
IsOtherLine (PlanLine n plan) = ⊤
IsOtherLine (EndPart p state resets exec pc) = ⊤
IsOtherLine (EndWhole halted plan clock ticks) = ⊤
