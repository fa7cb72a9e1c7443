-- How the program ends: its exit status by its arguments, over the files of the system and the files of its UARTs.
use Rattle.std.specs.Prelude.{◌≡◌, ◌≢◌, ℕ, ◌-◌, List, ◌++◌, Option, Some, None, replicate, Result, Ok, Err, String, Vec}
use Rattle.std.specs.IoError.{error_kind}
use Rattle.std.specs.declared.io.Error.{Error}
use Rattle.std.specs.declared.io.ErrorKind.TheVariants.{OutOfMemory}
use Rattle.uart_board.specs.Views.{BoardView, UartView}
use Rattle.file_commands.specs.Ending.{Usage, complaint}
use Rattle.file_commands.specs.Status.{IsCodeOf}
use Rattle.file_commands.specs.declared.status.Status.{Status}
use Rattle.file_commands.specs.declared.status.Status.TheVariants as exit
use Rattle.xm_commands.specs.Arguments.{after_name}
use Rattle.xm_commands.specs.Called.{IsCall}
use Rattle.xm_commands.specs.Top.{IsSaid}
use Rattle.xm_commands.specs.World.{SinkView, sink_view, world}

-- the UART of a file before its first write: it reports nothing of what it got, and counts no fault
abbrev pub unwritten : UartView
unwritten = record { got = None; faults = 0 }

-- UARTs of files at the places below this number, and nothing at the others
abbrev pub files_below : ℕ → List (Option UartView)
files_below count = replicate count (Some unwritten) ++ replicate (8 - count) None

-- the board with the UART of a file at each of its eight places, and no mark
abbrev pub file_board : BoardView
file_board = record { places = files_below 8; marks = replicate 8 None }

-- a sink that reports nothing of what it got, after this many writes that failed
abbrev pub unseen : ℕ → SinkView
unseen faults = sink_view None faults

-- a call with these words over the files of the system, of which nothing is known but how many calls failed, and with the board of files: the report and
-- the error output before it and after it
pub record IsOnFiles (status : Status) (words : List (List ℕ)) (report reported errors errors_after : SinkView) : Type 0 where
  pub read_faults : ℕ
  pub write_faults : ℕ
  pub calls : ℕ
  pub left : BoardView
  pub call : IsCall status words (world None 0 0 0 report errors file_board) (world None read_faults write_faults calls reported errors_after left)

-- the answer to misuse, and its line on the error output
pub record SaysUsage (status : Status) (before after : SinkView) : Type 0 where
  pub usage : status ≡ exit.Usage
  pub line : IsSaid (complaint Usage) before after

-- the answer to arguments that could not be read: memory ran out for them, or else they are misused; nothing was written to the report
pub record HadNoArguments (status : Status) (error : Error) (faults error_faults : ℕ) : Type 0 where
  pub report : faults ≡ 0
  pub starved : error_kind error ≡ OutOfMemory → (status ≡ exit.NoMemory) × (error_faults ≡ 0)
  pub misused : error_kind error ≢ OutOfMemory → SaysUsage status (unseen 0) (unseen error_faults)

-- the answer to the arguments, of which the first is the program's name, with a report and an error output of which nothing is known but how many
-- of their writes failed, none of them before
abbrev pub AnswersArguments : {A : Type 0} → Result (Vec (String A) A) Error → Status → ℕ → ℕ → Type 0
AnswersArguments (Ok texts) status faults error_faults = IsOnFiles status (after_name texts.items) (unseen 0) (unseen faults) (unseen 0) (unseen error_faults)
AnswersArguments (Err error) status faults error_faults = HadNoArguments status error faults error_faults

-- the exit status is the code of a status to which the arguments come
pub record IsEndedBy {A : Type 0} (given : Result (Vec (String A) A) Error) (exit_status : ℕ) : Type 0 where
  pub status : Status
  pub faults : ℕ
  pub error_faults : ℕ
  pub code : IsCodeOf status exit_status
  pub answer : AnswersArguments given status faults error_faults
  -- after Done no write to the error output failed
  pub silent : status ≡ exit.Done → error_faults ≡ 0
