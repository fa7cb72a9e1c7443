-- What a run prints: the lines of its report, and the bytes that go to consoles.
use Rattle.std.specs.Prelude.{ℕ, zero, suc, ◌==◌, Bool, true, false, if◌then◌else◌, List, [], ◌∷◌, ◌++◌, length, map, Option, Some, None, filter}
use Rattle.xm_report.specs.Report.{ReportLine, ConsoleLine, EndPart, EndWhole, HealthLine, MovedLine, PlanLine, StruckLine, SystemLine, TraceLine, WholeLine}
use Rattle.machine_model.specs.Lists.{all_of, is_number}
use Rattle.machine_model.specs.LocalTick.{LocalTick}
use Rattle.machine_model.specs.Machine.{Happened, Machine, happened, next_clock, obeyed_emissions, order_upon, run, start, step, tick_of, worked_in}
use Rattle.machine_model.specs.Partition.{PartitionState}
use Rattle.machine_model.specs.Emission.{line_of}
use Rattle.machine_model.specs.View.{System, part_of}
use Rattle.machine_model.specs.Whole.{event_lines, whole_lines}

-- the lines of a local tick
abbrev pub local_lines : Option LocalTick → List ReportLine
local_lines None = []
local_lines (Some tick) = tick.lines

-- the lines of an order that partition p obeyed
unfoldable pub order_lines : Machine → Happened → ℕ → PartitionState → List ReportLine
order_lines g h p ps = map (line_of g.ticks p) (obeyed_emissions (order_upon h.act p) (worked_in (tick_of h p) ps))

-- the line of a plan that starts after this tick, another than before
abbrev pub plan_lines : ℕ → ℕ → ℕ → List ReportLine
plan_lines n old new = if old == new then [] else PlanLine n new ∷ []

-- the lines of a tick: the local tick's, an order's, the hypervisor's, those of the partitions that it reset, and that of a new plan
unfoldable pub lines_of : Machine → Happened → List ReportLine
lines_of g h =
    local_lines h.local ++ all_of (order_lines g h) g.parts ++ whole_lines g.ticks h.event
    ++ all_of (λ p ps. event_lines g.ticks h.event p) g.parts ++ plan_lines g.ticks g.clock.plan (next_clock g h).plan

abbrev pub lines_unless : Bool → Machine → List ReportLine
lines_unless true g = []
lines_unless false g = lines_of g (happened g)

-- the lines of one tick; a machine that has halted prints none
unfoldable pub step_lines : Machine → List ReportLine
step_lines g = lines_unless g.halted g

-- what each of this many ticks adds, one after the other
abbrev pub added : {X : Type 0} → (Machine → List X) → Machine → ℕ → List X
added adds g zero = []
added adds g (suc count) = adds g ++ added adds (step g) count

-- the lines of this many ticks
abbrev pub lines : Machine → ℕ → List ReportLine
lines g count = added step_lines g count

-- the console bytes of a local tick
abbrev pub local_said : Option LocalTick → List ℕ
local_said None = []
local_said (Some tick) = tick.said

abbrev pub said_unless : Bool → Machine → ℕ → List ℕ
said_unless true g p = []
said_unless false g p = local_said (tick_of (happened g) p)

-- the bytes that partition p writes to its console in one tick
unfoldable pub step_said : Machine → ℕ → List ℕ
step_said g p = said_unless g.halted g p

-- the bytes that partition p writes to its console in this many ticks
abbrev pub said : Machine → ℕ → ℕ → List ℕ
said g count p = added (λ m. step_said m p) g count

-- whether a partition's console is this UART
abbrev pub has_console : Machine → ℕ → ℕ → Bool
has_console g uart p = is_number (part_of g.system.conf p).console uart

-- the bytes that a UART gets in one tick: those of the partitions that have it as their console
unfoldable pub step_console : Machine → ℕ → List ℕ
step_console g uart = all_of (λ p ps. if has_console g uart p then step_said g p else []) g.parts

-- the bytes that a UART gets in this many ticks
abbrev pub console : Machine → ℕ → ℕ → List ℕ
console g count uart = added (λ m. step_console m uart) g count

-- the line of partition p's end
abbrev pub end_line : ℕ → PartitionState → ReportLine
end_line p ps = EndPart p ps.state ps.resets ps.clocks.execution ps.core.pc

-- the lines at the end of a run
unfoldable pub end_lines : Machine → List ReportLine
end_lines g = all_of (λ p ps. end_line p ps ∷ []) g.parts ++ EndWhole g.halted g.clock.plan g.time g.ticks ∷ []

-- the report of this many ticks
unfoldable pub report : System → ℕ → List ReportLine
report system ticks =
    SystemLine (length system.conf.parts) (length system.conf.plans) ticks ∷ lines (start system) ticks ++ end_lines (run (start system) ticks)

-- the partition that a line has as its tag
abbrev pub tag_of : ReportLine → Option ℕ
tag_of (SystemLine parts plans ticks) = None
tag_of (ConsoleLine n p bytes) = Some p
tag_of (HealthLine n p event word action) = Some p
tag_of (TraceLine n p bits load) = Some p
tag_of (MovedLine n p to) = Some p
tag_of (StruckLine n p place bit) = Some p
tag_of (WholeLine n to) = None
tag_of (PlanLine n plan) = None
tag_of (EndPart p state resets exec pc) = Some p
tag_of (EndWhole halted plan clock ticks) = None

-- the lines with partition p's tag
unfoldable pub own : ℕ → List ReportLine → List ReportLine
own p report = filter (λ line. is_number (tag_of line) p) report
