-- What a command makes of the board of UARTs, by how it ends.
use Rattle.std.specs.Prelude.{◌≡◌, ℕ, ◌<◌, ◌≤◌, List, length, take, Option, Some, None, IsNone, IsSome}
use Rattle.machine_model.specs.View.{view_of}
use Rattle.uart_board.specs.Heard.{IsHeard}
use Rattle.uart_board.specs.Views.{BoardView, without_marks, mark_at}
use Rattle.continuation_laws.specs.Onward.{console_from, report_from, report_from_to}
use Rattle.xm_outside.specs.Growth.{GrewByPrefix}
use Rattle.xm_report.specs.Report.{ReportLine, texts}
use Rattle.recording_model.specs.Replayed.{cue_lines, replay_lines}
use Rattle.recording_model.specs.Lone.{booted_alone, replay_said}
use Rattle.command_line.specs.Words.{Command}
use Rattle.file_commands.specs.Ending.{Ending, Done, Usage, ReadFault, Refused, WriteFaultReport, WriteFaultFile, UartFault, NoMemory}
use Rattle.file_commands.specs.Outcome.{Running, Together, Apart, outcome_of}

-- no place has a mark
abbrev pub HasNoMark : BoardView → Type 0
HasNoMark board = (place : ℕ) → IsNone (mark_at place board.marks)

-- this is the lowest place that has a mark
pub record IsLowestMark (place : ℕ) (board : BoardView) : Type 0 where
  pub marked : IsSome (mark_at place board.marks)
  pub lowest : (lower : ℕ) → lower < place → IsNone (mark_at lower board.marks)

-- how many ticks a run has
abbrev pub ticks_of_run : Running → ℕ
ticks_of_run (Together g upsets ticks) = ticks
ticks_of_run (Apart system p upsets cues) = length cues

-- the console bytes of this many ticks of a run that each UART gets
abbrev pub said_in_run : Running → ℕ → ℕ → List ℕ
said_in_run (Together g upsets ticks) done = console_from upsets g done
said_in_run (Apart system p upsets cues) done = replay_said upsets (booted_alone system p) (take done cues)

-- the whole report of a run
abbrev pub lines_in : Running → List ReportLine
lines_in (Together g upsets ticks) = report_from upsets g ticks
lines_in (Apart system p upsets cues) = replay_lines upsets (view_of system p) cues

-- from a board without marks on, each UART got the console bytes of this many ticks of the run
abbrev pub IsRunTo : ℕ → Running → BoardView → BoardView → Type 0
IsRunTo done run before after = IsHeard (said_in_run run done) (without_marks before) after

-- those of all its ticks, and none failed
pub record IsRunWell (run : Running) (before after : BoardView) : Type 0 where
  pub heard : IsRunTo (ticks_of_run run) run before after
  pub well : HasNoMark after

-- those of all its ticks, and the one at this place failed, and none at a lower one
pub record IsRunMarked (place : ℕ) (run : Running) (before after : BoardView) : Type 0 where
  pub heard : IsRunTo (ticks_of_run run) run before after
  pub marked : IsLowestMark place after

-- the sink of the report, which took this many bytes of it, took all lines of the ticks before this one, and not all that it has with those of this
-- one and of the upsets before the next, unless these are all ticks of the run: then lines of the end may be all that is missing
abbrev pub IsCutAt : Running → ℕ → ℕ → Type 0
IsCutAt (Together g upsets ticks) done count =
    ((earlier : ℕ) → earlier < done → length (texts (report_from_to upsets g ticks earlier)) ≤ count)
    × (done < ticks → count < length (texts (report_from_to upsets g ticks done)))
IsCutAt (Apart system p upsets cues) done count =
    ((earlier : ℕ) → earlier < done → length (texts (cue_lines upsets (view_of system p) (take earlier cues))) ≤ count)
    × (done < length cues → count < length (texts (cue_lines upsets (view_of system p) (take done cues))))

-- those of its ticks up to the one in which the report was cut
pub record IsRunCut (run : Running) (had got : Option (List ℕ)) (before after : BoardView) : Type 0 where
  pub front : GrewByPrefix had (texts (lines_in run)) got
  pub ticks : ℕ
  pub within : ticks ≤ ticks_of_run run
  pub cut : IsCutAt run ticks front.count
  pub heard : IsRunTo ticks run before after

-- a run all of whose writes are done ends so: well where no place has a mark, else with the lowest that has one
abbrev pub EndsRun : Ending → BoardView → Type 0
EndsRun Done board = HasNoMark board
EndsRun Usage board = ⊥
EndsRun (ReadFault file) board = ⊥
EndsRun (Refused file text) board = ⊥
EndsRun WriteFaultReport board = ⊥
EndsRun (WriteFaultFile file) board = ⊥
EndsRun (UartFault place) board = IsLowestMark place board
EndsRun NoMemory board = ⊥

-- a call that ended so leaves this of the board: a command that runs nothing, and a call that ended before its first tick, leave it
-- as it was; where a file was not written after a run, the run had reached its end
abbrev pub LeavesBoard : Ending → Option Running → Option (List ℕ) → Option (List ℕ) → BoardView → BoardView → Type 0
LeavesBoard Done None had got before after = after ≡ before
LeavesBoard Done (Some run) had got before after = IsRunWell run before after
LeavesBoard Usage run had got before after = after ≡ before
LeavesBoard (ReadFault file) run had got before after = after ≡ before
LeavesBoard (Refused file text) run had got before after = after ≡ before
LeavesBoard WriteFaultReport None had got before after = after ≡ before
LeavesBoard WriteFaultReport (Some run) had got before after = IsRunCut run had got before after
LeavesBoard (WriteFaultFile file) None had got before after = after ≡ before
LeavesBoard (WriteFaultFile file) (Some run) had got before after = IsRunTo (ticks_of_run run) run before after
LeavesBoard (UartFault place) None had got before after = ⊥
LeavesBoard (UartFault place) (Some run) had got before after = IsRunMarked place run before after
LeavesBoard NoMemory run had got before after = after ≡ before

-- what a call leaves of the board, by its command, its ending and the contents of the files that it read, and by what the sink of the report had and
-- has got; words that are no command leave it as it was
abbrev pub Plays : Ending → List (List ℕ) → Option Command → Option (List ℕ) → Option (List ℕ) → BoardView → BoardView → Type 0
Plays ending contents None had got before after = after ≡ before
Plays ending contents (Some command) had got before after = LeavesBoard ending (outcome_of command contents).run had got before after
