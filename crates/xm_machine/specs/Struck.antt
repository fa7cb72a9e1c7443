-- What a run with the upsets of a file answers, over what the sink had and has got: a run from any machine, whose ticks count from the boot.
use Rattle.std.specs.Prelude.{◌≡◌, ℕ, ◌+◌, ◌<◌, ◌≤◌, ◌↔◌, false, IsTrue, List, length, Option, Result, Ok, Err}
use Rattle.xm_outside.specs.Growth.{grown, GrewByPrefix}
use Rattle.xm_report.specs.Report.{texts}
use Rattle.xm_report.specs.declared.output.WriteFault.{WriteFault}
use Rattle.uart_board.specs.Heard.{IsHeard}
use Rattle.uart_board.specs.Views.{BoardView}
use Rattle.continuation_laws.specs.Onward.{after_ticks, console_from, report_from, report_from_to}
use Rattle.machine_model.specs.Machine.{Machine}
use Rattle.upset_model.specs.declared.upset_line.UpsetLine.{UpsetLine}
use Rattle.xm_machine.specs.declared.run.Ran.{Ran}

-- a run that reached its end, and whose whole report went out: the state, the report and what each UART of the board got are those of
-- all ticks asked, of which those after the hypervisor's halt change and print nothing, and no upset strikes before them
pub record IsWholeStruckRun (ran : Ran) (upsets : List UpsetLine) (asked : ℕ) (old new : Machine) (had got : Option (List ℕ)) (before after : BoardView) : Type 0 where
  pub state : new ≡ after_ticks upsets old asked
  pub heard : IsHeard (console_from upsets old asked) before after
  pub report : got ≡ grown had (texts (report_from upsets old asked))
  pub ticks : ran.ticks ≡ new.ticks
  pub halted : ran.halted ≡ new.halted
  pub most : ran.ticks ≤ old.ticks + asked
  pub fewer : old.halted ≡ false → (ran.ticks < old.ticks + asked) ↔ IsTrue ran.halted
  pub lines : ran.lines ≡ length (report_from upsets old asked)

-- a run whose report the sink did not take whole: this many ticks were done, and the line that was cut is of the last or of an upset before the next,
-- or the last was the last asked; the state and what each UART of the board got are those of these ticks
pub record IsCutStruckRun (upsets : List UpsetLine) (asked : ℕ) (old new : Machine) (had got : Option (List ℕ)) (before after : BoardView) : Type 0 where
  pub report : GrewByPrefix had (texts (report_from upsets old asked)) got
  pub ticks : ℕ
  pub within : ticks ≤ asked
  pub state : new ≡ after_ticks upsets old ticks
  pub heard : IsHeard (console_from upsets old ticks) before after
  pub whole : (k : ℕ) → k < ticks → length (texts (report_from_to upsets old asked k)) ≤ report.count
  pub cut : ticks < asked → report.count < length (texts (report_from_to upsets old asked ticks))

-- what a run of this many ticks answers
abbrev pub IsStruckRun : Result Ran WriteFault → List UpsetLine → ℕ → Machine → Machine → Option (List ℕ) → Option (List ℕ) → BoardView → BoardView → Type 0
IsStruckRun (Ok ran) upsets asked old new had got before after = IsWholeStruckRun ran upsets asked old new had got before after
IsStruckRun (Err _) upsets asked old new had got before after = IsCutStruckRun upsets asked old new had got before after
