-- For proofs and private clauses: what the UARTs of a board get in ticks of the machine.
use Rattle.std.specs.Prelude.{ℕ, if◌then◌else◌, List, []}
use Rattle.std.specs.List.{flat_map}
use Rattle.xm_report.specs.Report.{ConsoleLine, EndPart, EndWhole, HealthLine, MovedLine, PlanLine, ReportLine, StruckLine, SystemLine, TraceLine, WholeLine}
use Rattle.machine_model.specs.Lines.{has_console}
use Rattle.machine_model.specs.Machine.{Machine}

-- what each UART gets of bytes that partition p writes to its console
abbrev pub console_to : Machine → ℕ → List ℕ → ℕ → List ℕ
console_to g p bytes uart = if has_console g uart p then bytes else []

-- what a line writes to a UART: its bytes, where they are for that console
abbrev pub line_to : Machine → ℕ → ReportLine → List ℕ
line_to g uart (SystemLine parts plans ticks) = []
line_to g uart (ConsoleLine n p bytes) = console_to g p bytes uart
line_to g uart (HealthLine n p event word action) = []
line_to g uart (TraceLine n p bits load) = []
line_to g uart (MovedLine n p to) = []
line_to g uart (StruckLine n p place bit) = []
line_to g uart (WholeLine n to) = []
line_to g uart (PlanLine n plan) = []
line_to g uart (EndPart p state resets exec pc) = []
line_to g uart (EndWhole halted plan clock ticks) = []

-- what lines say to each UART
abbrev pub lines_to : Machine → List ReportLine → ℕ → List ℕ
lines_to g lines uart = flat_map (line_to g uart) lines
