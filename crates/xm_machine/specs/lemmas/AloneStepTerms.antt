-- For proofs and private clauses: one tick of one partition of a machine in isolation: what it leaves of the partition's part, what it prints and what it refuses.
use Rattle.std.specs.Prelude.{◌≡◌, ℕ, List, ◌++◌, map, Option, Some, None, Result, Ok, Err}
use Rattle.xm_report.specs.Report.{ReportLine}
use Rattle.xm_report.specs.declared.output.WriteFault.{WriteFault}
use Rattle.machine_model.specs.Machine.{Machine}
use Rattle.machine_model.specs.Emission.{line_of}
use Rattle.system_state.specs.State.{memory_of}
use Rattle.system_state.specs.declared.served.Note.{Note}
use Rattle.tick_steps.specs.Work.{console_emissions}
use Rattle.uart_board.specs.Heard.{IsHeard}
use Rattle.uart_board.specs.Views.{BoardView}
use Rattle.xm_machine.specs.lemmas.HeardTerms.{lines_to}
use Rattle.xm_machine.specs.Outcome.{HasWriteCause}
use Rattle.xm_machine.specs.lemmas.StepsTerms.{Prints}
use Rattle.xm_machine.specs.declared.alone_span.AloneFault.{AloneFault}
use Rattle.xm_machine.specs.declared.alone_span.AloneFault.TheVariants as fault

-- the outcome of lines that were to go out
abbrev pub printed_alone : Result ℕ WriteFault → Result (Unit {0}) AloneFault
printed_alone (Ok count) = Ok tt
printed_alone (Err unwritten) = Err fault.Write

-- what is printed of a tick that was done: the bytes for the console that its note has, and then these lines
pub record IsPrintedDone (n p : ℕ) (note : Note) (g : Machine) (lines : List ReportLine) (result : Result (Unit {0}) AloneFault) (had got : Option (List ℕ)) (before now : ℕ) (old new : BoardView) : Type 0 where
  pub ends : Result ℕ WriteFault
  pub is : result ≡ printed_alone ends
  pub printed : Prints ends (map (line_of n p) (console_emissions note (memory_of p g)) ++ lines) had got
  pub cause : HasWriteCause ends before now
  pub heard : IsHeard (lines_to g (map (line_of n p) (console_emissions note (memory_of p g)) ++ lines)) old new

-- the same, and nothing of one that was not
abbrev pub IsPrintedAlone : Option Note → ℕ → ℕ → Machine → List ReportLine → Result (Unit {0}) AloneFault → Option (List ℕ) → Option (List ℕ) → ℕ → ℕ → BoardView → BoardView → Type 0
IsPrintedAlone (Some note) n p g lines result had got before now old new = IsPrintedDone n p note g lines result had got before now old new
IsPrintedAlone None n p g lines result had got before now old new = (result ≡ Err fault.Cue) × (got ≡ had) × (now ≡ before) × (new ≡ old)
