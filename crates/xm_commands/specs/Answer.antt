-- What the program answers to words and files in a world without faults.
use Rattle.std.specs.Prelude.{ℕ, List, [], ◌∷◌, Option, Some, None, Result, Ok, Err}
use Rattle.std.specs.FinMap.{insert}
use Rattle.xm_outside.specs.Files.{Files}
use Rattle.command_line.specs.Words.{Command, command_of}
use Rattle.file_commands.specs.Ending.{Ending, Done, Usage, ReadFault, Refused, complaint, status_of}
use Rattle.file_commands.specs.Denial.{Denial}
use Rattle.file_commands.specs.Outcome.{Output, Outcome, inputs_of, outcome_of}
use Rattle.file_commands.specs.declared.status.Status.{Status}
use Rattle.run_commands.specs.Contents.{read_all}

-- how a command ends that met no fault
abbrev pub ending_by : Option Denial → Ending
ending_by None = Done
ending_by (Some denial) = Refused denial.file denial.text

-- the files after a command has written the one before its report
abbrev pub files_saved : Option Output → Files → Files
files_saved None files = files
files_saved (Some output) files = insert files output.file output.bytes

-- the files after some more were written, one after another
abbrev pub saved_all : List Output → Files → Files
saved_all [] files = files
saved_all (output ∷ outputs) files = saved_all outputs (insert files output.file output.bytes)

-- an answer: the status, what goes to the report and to the error output, and the files as they stand afterwards
pub record Answer : Type 0 where
  pub status : Status
  pub out : List ℕ
  pub err : List ℕ
  pub files : Files

-- the answer of an ending, with what went to the report, and the files
abbrev pub ending_answer : Ending → List ℕ → Files → Answer
ending_answer ending out files = record { status = status_of ending; out = out; err = complaint ending; files = files }

-- the answer of a command that has this outcome
abbrev pub outcome_answer : Outcome → Files → Answer
outcome_answer outcome files = ending_answer (ending_by outcome.denial) outcome.report (saved_all outcome.later (files_saved outcome.output files))

-- the answer to a command, by what is read
abbrev pub answer_to_read : Command → Result (List (List ℕ)) (List ℕ) → Files → Answer
answer_to_read command (Ok contents) files = outcome_answer (outcome_of command contents) files
answer_to_read command (Err absent) files = ending_answer (ReadFault absent) [] files

-- the answer to a command
abbrev pub command_answer : Option Command → Files → Answer
command_answer None files = ending_answer Usage [] files
command_answer (Some command) files = answer_to_read command (read_all files (inputs_of command)) files

-- the answer to words, in a world of these files and without faults
unfoldable pub answer : List (List ℕ) → Files → Answer
answer words files = command_answer (command_of words) files
