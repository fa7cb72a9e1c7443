-- What a tick and a run answer, by cases on the answer, over what the sink had and has got.
use Rattle.std.specs.Prelude.{◌≡◌, ℕ, ◌<◌, ◌≤◌, ◌↔◌, IsTrue, List, ◌∷◌, ◌++◌, length, Option, Result, Ok, Err}
use Rattle.xm_outside.specs.Causes.{Rose}
use Rattle.xm_outside.specs.Growth.{grown, GrewByPrefix, Writes}
use Rattle.xm_report.specs.Report.{ReportLine, SystemLine, texts}
use Rattle.xm_report.specs.declared.output.WriteFault.{WriteFault}
use Rattle.uart_board.specs.Heard.{IsHeard}
use Rattle.uart_board.specs.Views.{BoardView}
use Rattle.machine_model.specs.Lines.{console, end_lines, lines, step_lines}
use Rattle.machine_model.specs.Machine.{Machine, run, step}
use Rattle.xm_machine.specs.declared.run.Ran.{Ran}

-- the cause of an answer: the sink's count rises with its fault alone
abbrev pub HasWriteCause : {T : Type 0} → Result T WriteFault → ℕ → ℕ → Type 0
HasWriteCause (Ok _) before now = now ≡ before
HasWriteCause (Err _) before now = Rose before now

-- a tick was done whole, and its lines went out, or a prefix of them
pub record IsTick {T : Type 0} (result : Result T WriteFault) (old new : Machine) (had got : Option (List ℕ)) : Type 0 where
  pub state : new ≡ step old
  pub report : Writes result had (texts (step_lines old)) got

-- the first line of a report: the number of ticks is the one asked
abbrev pub first_line : Machine → ℕ → ReportLine
first_line g asked = SystemLine (length g.system.conf.parts) (length g.system.conf.plans) asked

-- the report of a run as far as its first this many ticks, without an end
abbrev pub report_to : Machine → ℕ → ℕ → List ReportLine
report_to g asked ticks = first_line g asked ∷ lines g ticks

-- the report of a run of this many ticks
unfoldable pub report_of : Machine → ℕ → List ReportLine
report_of g asked = report_to g asked asked ++ end_lines (run g asked)

-- a run that reached its end, and whose whole report went out: the state, the report and what each UART of the board got are those of
-- all ticks asked, of which those after the hypervisor's halt change and print nothing
pub record IsWholeRun (ran : Ran) (asked : ℕ) (old new : Machine) (had got : Option (List ℕ)) (before after : BoardView) : Type 0 where
  pub state : new ≡ run old asked
  pub heard : IsHeard (console old asked) before after
  pub report : got ≡ grown had (texts (report_of old asked))
  pub ticks : ran.ticks ≡ new.ticks
  pub halted : ran.halted ≡ new.halted
  pub most : ran.ticks ≤ asked
  pub fewer : (ran.ticks < asked) ↔ IsTrue ran.halted
  pub lines : ran.lines ≡ length (report_of old asked)

-- a run whose report the sink did not take whole: this many ticks were done, and the last is the one whose line was cut, or the last asked;
-- the state and what each UART of the board got are those of these ticks
pub record IsCutRun (asked : ℕ) (old new : Machine) (had got : Option (List ℕ)) (before after : BoardView) : Type 0 where
  pub report : GrewByPrefix had (texts (report_of old asked)) got
  pub ticks : ℕ
  pub within : ticks ≤ asked
  pub state : new ≡ run old ticks
  pub heard : IsHeard (console old ticks) before after
  pub whole : (k : ℕ) → k < ticks → length (texts (report_to old asked k)) ≤ report.count
  pub cut : ticks < asked → report.count < length (texts (report_to old asked ticks))

-- what a run of this many ticks answers
abbrev pub IsRun : Result Ran WriteFault → ℕ → Machine → Machine → Option (List ℕ) → Option (List ℕ) → BoardView → BoardView → Type 0
IsRun (Ok ran) asked old new had got before after = IsWholeRun ran asked old new had got before after
IsRun (Err _) asked old new had got before after = IsCutRun asked old new had got before after
