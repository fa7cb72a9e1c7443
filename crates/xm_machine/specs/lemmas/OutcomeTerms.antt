-- For proofs and private clauses: what a tick and a run answer, by cases on the answer, over what the sink had and has got.
use Rattle.xm_report.specs.Report.{EndWhole, ReportLine}
use Rattle.machine_model.specs.Machine.{Machine}

-- the last line of a report
abbrev pub last_line : Machine → ReportLine
last_line g = EndWhole g.halted g.clock.plan g.time g.ticks
