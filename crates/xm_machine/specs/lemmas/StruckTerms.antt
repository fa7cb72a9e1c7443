-- For proofs and private clauses: ticks of a run with upsets, and what the sink and the board got of them.
use Rattle.std.specs.Prelude.{◌≡◌, ℕ, ◌+◌, ◌<◌, ◌≤◌, true, false, List, length, Option, Result, Ok, Err}
use Rattle.xm_outside.specs.Growth.{grown, GrewByPrefix}
use Rattle.xm_report.specs.Report.{texts}
use Rattle.xm_report.specs.declared.output.WriteFault.{WriteFault}
use Rattle.machine_model.specs.Machine.{Machine}
use Rattle.uart_board.specs.Heard.{IsHeard}
use Rattle.uart_board.specs.Views.{BoardView}
use Rattle.upset_model.specs.Places.{Timetable, upsets_of}
use Rattle.upset_model.specs.Reports.{reported, reported_to, upset_console}
use Rattle.upset_model.specs.Upsets.{upset_run}

-- the first this many ticks from a state were done, their upsets struck, and their lines went out
pub record AreStruck (done printed : ℕ) (t : Timetable) (old new : Machine) (had got : Option (List ℕ)) (before after : BoardView) : Type 0 where
  pub state : new ≡ upset_run (upsets_of t) old done
  pub count : printed ≡ length (reported t old done)
  pub report : got ≡ grown had (texts (reported t old done))
  pub heard : IsHeard (upset_console (upsets_of t) old done) before after

-- the first ticks of this many were done; the sink took the lines of all but the last, and not those of the last and of the upsets before the next
pub record IsStruckCut (most : ℕ) (t : Timetable) (old new : Machine) (had got : Option (List ℕ)) (before after : BoardView) : Type 0 where
  pub done : ℕ
  pub within : done ≤ most
  pub state : new ≡ upset_run (upsets_of t) old done
  pub report : GrewByPrefix had (texts (reported t old most)) got
  pub whole : (k : ℕ) → k < done → length (texts (reported_to t old k)) ≤ report.count
  pub cut : report.count < length (texts (reported_to t old done))
  pub heard : IsHeard (upset_console (upsets_of t) old done) before after

-- what this many ticks answer
abbrev pub RunsStruck : Result ℕ WriteFault → Timetable → ℕ → Machine → Machine → Option (List ℕ) → Option (List ℕ) → BoardView → BoardView → Type 0
RunsStruck (Ok printed) t ticks old new had got before after = AreStruck ticks printed t old new had got before after
RunsStruck (Err fault) t ticks old new had got before after = IsStruckCut ticks t old new had got before after

-- how many ticks it has counted in this many: all of them, or fewer where the hypervisor halts in them; one that has halted counts none
pub record HasCounted (asked : ℕ) (old new : Machine) : Type 0 where
  pub runs : new.halted ≡ false → new.ticks ≡ old.ticks + asked
  pub halts : old.halted ≡ false → new.halted ≡ true → new.ticks < old.ticks + asked
  pub most : new.ticks ≤ old.ticks + asked
