-- What the top call promises, each promise by a name.
use Rattle.std.specs.Prelude.{◌≡◌, ◌≢◌, ℕ, ◌+◌, ◌≤◌, ◌⊎◌, List, ◌∷◌, ◌++◌, [], length, Option, Some, None, IsSome, Ok}
use Rattle.std.specs.FinMap.{get}
use Rattle.xm_outside.specs.Causes.{Rose}
use Rattle.xm_outside.specs.Files.{Files, IsAbsent, OthersStay}
use Rattle.xm_outside.specs.Growth.{grown, GrewByPrefix}
use Rattle.command_line.specs.Words.{Command}
use Rattle.xm_commands.specs.Answer.{answer}
use Rattle.run_commands.specs.Contents.{read_all}
use Rattle.file_commands.specs.Outcome.{Output, inputs_of, later_of, name_if_any, outcome_of, output_of}
use Rattle.file_commands.specs.Work.{Outside, reported_all, wrote, wrote_all, counted_by}
use Rattle.xm_commands.specs.World.{SinkView, World}
use Rattle.file_commands.specs.declared.status.Status.{Status}
use Rattle.file_commands.specs.declared.status.Status.TheVariants.{Done, Refused, Usage, ReadFault, WriteFault, UartFault, NoMemory}

-- a line went out: all of it, or a prefix where the sink's own count of faults rose
abbrev pub IsSaid : List ℕ → SinkView → SinkView → Type 0
IsSaid line before after =
    ((after.got ≡ grown before.got line) × (after.faults ≡ before.faults)) ⊎ (GrewByPrefix before.got line after.got × Rose before.faults after.faults)

-- no count of the store or of the report's sink rose
pub record HasNoFault (before after : Outside) : Type 0 where
  pub reads : Rose before.read_faults after.read_faults → ⊥
  pub writes : Rose before.write_faults after.write_faults → ⊥
  pub report : Rose before.faults after.faults → ⊥

-- in a world without faults the answer is that of the definition: where the store's files are known, no count
-- rose and memory is there; the status and the line on the error output also need that no UART failed
pub record Answers (status : Status) (words : List (List ℕ)) (before after : World) : Type 0 where
  -- the status
  pub answered : (files : Files) → before.disk.files ≡ Some files → HasNoFault before.disk after.disk → status ≢ NoMemory → status ≢ UartFault → status ≡ (answer words files).status
  -- the bytes in the report
  pub report : (files : Files) → before.disk.files ≡ Some files → HasNoFault before.disk after.disk → status ≢ NoMemory → after.disk.got ≡ grown before.disk.got (answer words files).out
  -- the files
  pub files : (files : Files) → before.disk.files ≡ Some files → HasNoFault before.disk after.disk → status ≢ NoMemory → after.disk.files ≡ Some (answer words files).files
  -- the bytes on the error output, where its own count did not rise
  pub error : (files : Files) → before.disk.files ≡ Some files → HasNoFault before.disk after.disk → status ≢ NoMemory → status ≢ UartFault → (Rose before.errors.faults after.errors.faults → ⊥) → after.errors.got ≡ grown before.errors.got (answer words files).err

-- one of the files is this one
pub record IsAmong (file : List ℕ) (files : List (List ℕ)) : Type 0 where
  pub first : List (List ℕ)
  pub rest : List (List ℕ)
  pub among : files ≡ first ++ file ∷ rest

-- the store's files are known, and one of these is not among them
pub record IsOneAbsent (known : Option Files) (files : List (List ℕ)) : Type 0 where
  pub file : List ℕ
  pub named : IsAmong file files
  pub absent : IsAbsent known file

-- the count of failed reads rose, or the store's files are known and one that the words name is not among them
abbrev pub IsReadCause : Option Command → Outside → Outside → Type 0
IsReadCause None before after = ⊥
IsReadCause (Some command) before after = Rose before.read_faults after.read_faults ⊎ IsOneAbsent before.files (inputs_of command)

-- these are the contents of the files that a command reads; where the store's files are not known, nothing is said of them
abbrev pub AreContents : Option Files → Command → List (List ℕ) → Type 0
AreContents None command contents = Unit {0}
AreContents (Some files) command contents = read_all files (inputs_of command) ≡ Ok contents

-- the bytes that were read are refused; no file is written, and the report has got nothing
pub record IsRefusedIn (command : Command) (before after : Outside) : Type 0 where
  pub contents : List (List ℕ)
  pub are : AreContents before.files command contents
  pub refused : IsSome (outcome_of command contents).denial
  pub report : after.got ≡ before.got
  pub files : after.files ≡ before.files

-- the bytes of the files that the words name are refused
abbrev pub IsRefusal : Option Command → Outside → Outside → Type 0
IsRefusal None before after = ⊥
IsRefusal (Some command) before after = IsRefusedIn command before after

-- the report's sink failed, and has got a prefix of the report; the file that comes before it is written, and none after it
pub record IsCutShort (command : Command) (before after : Outside) : Type 0 where
  pub cause : Rose before.faults after.faults
  pub contents : List (List ℕ)
  pub are : AreContents before.files command contents
  pub front : GrewByPrefix before.got (outcome_of command contents).report after.got
  pub files : after.files ≡ (wrote (outcome_of command contents).output before).files

-- the store failed to write the file that comes before the report, and the report has got nothing
pub record IsNotWritten (command : Command) (before after : Outside) : Type 0 where
  pub cause : Rose before.write_faults after.write_faults
  pub output : IsSome (output_of command)
  pub report : after.got ≡ before.got

-- the store failed to write a file that comes after the report: the report is whole, the files before that one are written, and all others stay
pub record IsLostAfter (command : Command) (before after : Outside) : Type 0 where
  pub cause : Rose before.write_faults after.write_faults
  pub contents : List (List ℕ)
  pub are : AreContents before.files command contents
  pub first : List Output
  pub output : Output
  pub rest : List Output
  pub split : (outcome_of command contents).later ≡ first ++ output ∷ rest
  pub report : after.got ≡ (reported_all (outcome_of command contents) before).got
  pub others : OthersStay (wrote_all first (reported_all (outcome_of command contents) before)).files output.file after.files

-- the report or one of the command's files was not written
abbrev pub IsWriteCause : Option Command → Outside → Outside → Type 0
IsWriteCause None before after = ⊥
IsWriteCause (Some command) before after = IsCutShort command before after ⊎ (IsNotWritten command before after ⊎ IsLostAfter command before after)

-- no count of faults moved
pub record IsFaultless (before after : Outside) : Type 0 where
  pub reads : after.read_faults ≡ before.read_faults
  pub writes : after.write_faults ≡ before.write_faults
  pub report : after.faults ≡ before.faults

-- the files that a command writes, in their order
abbrev pub writes_of : Command → List (List ℕ)
writes_of command = name_if_any (output_of command) ++ later_of command

-- how many times the words of a command name a file
abbrev pub named_count : Command → ℕ
named_count command = length (inputs_of command) + length (writes_of command)

-- there were this many calls of the store, at most one for each time that the words name a file
pub record HasCalls (command : Command) (before after : ℕ) : Type 0 where
  pub count : ℕ
  pub few : count ≤ named_count command
  pub calls : after ≡ counted_by count before

-- words that spell no command make no call of the store
abbrev pub CallsAsNamed : Option Command → Outside → Outside → Type 0
CallsAsNamed None before after = after.calls ≡ before.calls
CallsAsNamed (Some command) before after = HasCalls command before.calls after.calls

-- each status has its cause, and leaves what it says
pub record HasCauses (status : Status) (command : Option Command) (before after : Outside) : Type 0 where
  -- ReadFault: the count of failed reads rose, or the files of the store are known and one that the words name to be
  -- read is not among them
  pub read_fault : status ≡ ReadFault → IsReadCause command before after
  -- Refused: the contents of the files to be read have a refusal, the report has got nothing, and no file is written
  pub refused : status ≡ Refused → IsRefusal command before after
  -- WriteFault: the count of the report's sink rose, it has got a prefix of the report, the file before it is written
  -- and none after it; or the count of failed writes rose, the words name a file to be written before the report, and
  -- the report has got nothing; or the count of failed writes rose at a file after the report: the report is whole, the
  -- files before that one are written, and every file but these and that one is as before
  pub write_fault : status ≡ WriteFault → IsWriteCause command before after
  -- Done: no count of faults of the store or of the report's sink moved
  pub done : status ≡ Done → IsFaultless before after
  -- UartFault: no count of faults of the store or of the report's sink moved
  pub uart_fault : status ≡ UartFault → IsFaultless before after
  -- the store is called at most once for each time that the words name a file
  pub calls : CallsAsNamed command before after

-- one of the statuses after which the report has got nothing, and no file was written
abbrev pub IsQuiet : Status → Type 0
IsQuiet status = (status ≡ Refused) ⊎ (status ≡ Usage) ⊎ (status ≡ ReadFault) ⊎ (status ≡ NoMemory)

-- one of the statuses after which the command was carried out: its report and all of its files are written
abbrev pub IsCompleteStatus : Status → Type 0
IsCompleteStatus status = (status ≡ Done) ⊎ (status ≡ UartFault)

-- a file is none of these
abbrev pub IsNoneOf : List (List ℕ) → List ℕ → Type 0
IsNoneOf [] other = Unit {0}
IsNoneOf (file ∷ files) other = (other ≢ file) × IsNoneOf files other

-- the files of which this holds are as before
abbrev pub StayWhere : (List ℕ → Type 0) → Option Files → Option Files → Type 0
StayWhere Stays None None = Unit {0}
StayWhere Stays (Some old) (Some new) = (other : List ℕ) → Stays other → get new other ≡ get old other
StayWhere Stays None (Some new) = ⊥
StayWhere Stays (Some old) None = ⊥

-- every file but these is as before
abbrev pub FilesStay : List (List ℕ) → Option Files → Option Files → Type 0
FilesStay [] before after = after ≡ before
FilesStay (file ∷ files) before after = StayWhere (IsNoneOf (file ∷ files)) before after

-- every file but those that the words name to be written is as before
abbrev pub OtherFilesStay : Option Command → Option Files → Option Files → Type 0
OtherFilesStay None before after = after ≡ before
OtherFilesStay (Some command) before after = FilesStay (writes_of command) before after
