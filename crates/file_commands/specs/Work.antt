-- What the program does to the outside, by cases on how it ends.
use Rattle.std.specs.Prelude.{◌≡◌, ℕ, ◌⊎◌, List, [], ◌∷◌, ◌++◌, Option, Some, None, IsSome, zero, suc}
use Rattle.xm_base.specs.declared.limits.TheConstants.{FILE_BYTES}
use Rattle.xm_outside.specs.Causes.{Rose, counted}
use Rattle.xm_outside.specs.Files.{Files, IsAbsent, OthersStay, ReadsFile, stored}
use Rattle.xm_outside.specs.Growth.{grown, GrewByPrefix}
use Rattle.command_line.specs.Words.{Command}
use Rattle.file_commands.specs.Denial.{Denial}
use Rattle.file_commands.specs.Outcome.{Output, Outcome, inputs_of, outcome_of}
use Rattle.file_commands.specs.Ending.{Ending, Done, Usage, ReadFault, Refused, WriteFaultReport, WriteFaultFile, UartFault, NoMemory}

-- the outside as far as it is known: the store's files and counts, and the report's sink
pub record Outside : Type 0 where
  pub files : Option Files
  pub read_faults : ℕ
  pub write_faults : ℕ
  pub calls : ℕ
  pub got : Option (List ℕ)
  pub faults : ℕ

-- the outside of a store and of a report's sink
abbrev pub outside : Option Files → ℕ → ℕ → ℕ → Option (List ℕ) → ℕ → Outside
outside files read_faults write_faults calls got faults = record {
  files = files;
  read_faults = read_faults;
  write_faults = write_faults;
  calls = calls;
  got = got;
  faults = faults;
}

-- the outside with one more call of the store
abbrev pub after_store_call : Outside → Outside
after_store_call before = record before { calls = counted before.calls }

-- the outside with a call of the store for each of these files
abbrev pub called_for : List (List ℕ) → Outside → Outside
called_for [] before = before
called_for (file ∷ files) before = called_for files (after_store_call before)

-- a counter after this many calls
abbrev pub counted_by : ℕ → ℕ → ℕ
counted_by zero n = n
counted_by (suc k) n = counted_by k (counted n)

-- the outside with bytes more in the report
abbrev pub reported : List ℕ → Outside → Outside
reported bytes before = record before { got = grown before.got bytes }

-- the outside where reads failed this many times
abbrev pub with_read_faults : ℕ → Outside → Outside
with_read_faults count before = record before { read_faults = count }

-- the outside where the report's sink has got this, and failed this many times
abbrev pub with_report : Option (List ℕ) → ℕ → Outside → Outside
with_report got faults before = record before { got = got; faults = faults }

-- the outside with these files, where writes failed this many times
abbrev pub with_files : Option Files → ℕ → Outside → Outside
with_files files count before = record before { files = files; write_faults = count }

-- the outside with the file written that comes before a command's report
abbrev pub wrote : Option Output → Outside → Outside
wrote None before = before
wrote (Some output) before = record before { files = stored before.files output.file output.bytes; calls = counted before.calls }

-- the outside with files written, one after another
abbrev pub wrote_all : List Output → Outside → Outside
wrote_all [] before = before
wrote_all (output ∷ outputs) before = wrote_all outputs (wrote (Some output) before)

-- the outside with the file written that comes first, and then the report
abbrev pub reported_all : Outcome → Outside → Outside
reported_all outcome before = reported outcome.report (wrote outcome.output before)

-- the outside with all that an outcome has: the file that comes first, the report, and the files after it
abbrev pub did : Outcome → Outside → Outside
did outcome before = wrote_all outcome.later (reported_all outcome before)

-- files were read, one after another: of each its bytes, or a prefix that is too long
abbrev pub ReadsFiles : Option Files → List (List ℕ) → List (List ℕ) → Type 0
ReadsFiles known [] [] = Unit {0}
ReadsFiles known [] (bytes ∷ contents) = ⊥
ReadsFiles known (file ∷ files) [] = ⊥
ReadsFiles known (file ∷ files) (bytes ∷ contents) = ReadsFile known file FILE_BYTES bytes × ReadsFiles known files contents

-- of these files those before one were read, and that one was not: the store's fault, or no file has the name
pub record IsUnread (file : List ℕ) (files : List (List ℕ)) (before after : Outside) : Type 0 where
  pub first : List (List ℕ)
  pub rest : List (List ℕ)
  pub named : files ≡ first ++ file ∷ rest
  pub contents : List (List ℕ)
  pub read : ReadsFiles before.files first contents
  pub cause : Rose before.read_faults after.read_faults ⊎ IsAbsent before.files file
  pub outside : after ≡ with_read_faults after.read_faults (after_store_call (called_for first before))

-- the files were read, and their outcome was done: the file that comes first is written, the report went out, and the files after it are
-- written
pub record IsCarriedOut (denial : Option Denial) (contents : List (List ℕ)) (command : Command) (before after : Outside) : Type 0 where
  pub read : ReadsFiles before.files (inputs_of command) contents
  pub denied : (outcome_of command contents).denial ≡ denial
  pub outside : after ≡ did (outcome_of command contents) (called_for (inputs_of command) before)

-- the same, of a command that runs something
pub record IsRunOut (contents : List (List ℕ)) (command : Command) (before after : Outside) : Type 0 where
  pub carried : IsCarriedOut None contents command before after
  pub run : IsSome (outcome_of command contents).run

-- the files were read, and the sink took a prefix of the report, after the file that is written
pub record IsUnwritten (contents : List (List ℕ)) (command : Command) (before after : Outside) : Type 0 where
  pub read : ReadsFiles before.files (inputs_of command) contents
  pub cause : Rose before.faults after.faults
  pub front : GrewByPrefix before.got (outcome_of command contents).report after.got
  pub outside : after ≡ with_report after.got after.faults (wrote (outcome_of command contents).output (called_for (inputs_of command) before))

-- of these files those before one are written, and that one was not; the others stay
pub record IsLostOf (file : List ℕ) (outputs : List Output) (before after : Outside) : Type 0 where
  pub first : List Output
  pub output : Output
  pub rest : List Output
  pub split : outputs ≡ first ++ output ∷ rest
  pub named : file ≡ output.file
  pub cause : Rose before.write_faults after.write_faults
  pub others : OthersStay (wrote_all first before).files file after.files
  pub outside : after ≡ with_files after.files after.write_faults (after_store_call (wrote_all first before))

-- a file, where there is one
abbrev pub file_in : Option Output → List Output
file_in None = []
file_in (Some output) = output ∷ []

-- a file that an outcome has was not written: the one that comes first, and nothing else was done; or one of those after the report, which
-- went out whole
abbrev pub IsNotSaved : List ℕ → Outcome → Outside → Outside → Type 0
IsNotSaved file outcome before after = IsLostOf file (file_in outcome.output) before after ⊎ IsLostOf file outcome.later (reported_all outcome before) after

-- the files were read, and one of the files of their outcome was not written
pub record IsUnsaved (file : List ℕ) (contents : List (List ℕ)) (command : Command) (before after : Outside) : Type 0 where
  pub read : ReadsFiles before.files (inputs_of command) contents
  pub lost : IsNotSaved file (outcome_of command contents) (called_for (inputs_of command) before) after

-- memory ran out, and all that was done is that the first of these files were read
pub record IsOutOfMemory (files : List (List ℕ)) (before after : Outside) : Type 0 where
  pub first : List (List ℕ)
  pub rest : List (List ℕ)
  pub named : files ≡ first ++ rest
  pub outside : after ≡ called_for first before

-- what a command did, by cases on how it ended and by the contents of its files; where not all of them were read, those contents do not matter
abbrev pub Does : Ending → List (List ℕ) → Command → Outside → Outside → Type 0
Does Done contents command before after = IsCarriedOut None contents command before after
Does Usage contents command before after = ⊥
Does (ReadFault file) contents command before after = IsUnread file (inputs_of command) before after
Does (Refused file text) contents command before after = IsCarriedOut (Some (record { file = file; text = text })) contents command before after
Does WriteFaultReport contents command before after = IsUnwritten contents command before after
Does (WriteFaultFile file) contents command before after = IsUnsaved file contents command before after
Does (UartFault place) contents command before after = IsRunOut contents command before after
Does NoMemory contents command before after = IsOutOfMemory (inputs_of command) before after

-- a command ended so, by some contents of its files
pub record IsDone (ending : Ending) (command : Command) (before after : Outside) : Type 0 where
  pub contents : List (List ℕ)
  pub does : Does ending contents command before after

-- words that spell no command change nothing
abbrev pub IsMisuse : Ending → Outside → Outside → Type 0
IsMisuse Done before after = ⊥
IsMisuse Usage before after = after ≡ before
IsMisuse (ReadFault file) before after = ⊥
IsMisuse (Refused file text) before after = ⊥
IsMisuse WriteFaultReport before after = ⊥
IsMisuse (WriteFaultFile file) before after = ⊥
IsMisuse (UartFault place) before after = ⊥
IsMisuse NoMemory before after = ⊥

-- what the program did, by its command, its ending and the contents of the files that it read
abbrev pub Works : Ending → List (List ℕ) → Option Command → Outside → Outside → Type 0
Works ending contents None before after = IsMisuse ending before after
Works ending contents (Some command) before after = Does ending contents command before after

-- files are written one after another: all, or those before the first that is not
abbrev pub SavesAll : Option (List ℕ) → List Output → Outside → Outside → Type 0
SavesAll None outputs before after = after ≡ wrote_all outputs before
SavesAll (Some file) outputs before after = IsLostOf file outputs before after

-- a call ends because one of these files was not written
abbrev pub AreNotSaved : Ending → List Output → Outside → Outside → Type 0
AreNotSaved Done outputs before after = ⊥
AreNotSaved Usage outputs before after = ⊥
AreNotSaved (ReadFault file) outputs before after = ⊥
AreNotSaved (Refused file text) outputs before after = ⊥
AreNotSaved WriteFaultReport outputs before after = ⊥
AreNotSaved (WriteFaultFile file) outputs before after = SavesAll (Some file) outputs before after
AreNotSaved (UartFault place) outputs before after = ⊥
AreNotSaved NoMemory outputs before after = ⊥

-- what a report does to its sink alone, by cases on how that ended
abbrev pub Reports : Ending → Outcome → Option (List ℕ) → ℕ → Option (List ℕ) → ℕ → Type 0
Reports Done outcome had before got now = (outcome.denial ≡ None) × (got ≡ grown had outcome.report) × (now ≡ before)
Reports Usage outcome had before got now = ⊥
Reports (ReadFault file) outcome had before got now = ⊥
Reports (Refused file text) outcome had before got now =
    (outcome.denial ≡ Some (record { file = file; text = text })) × (got ≡ grown had outcome.report) × (now ≡ before)
Reports WriteFaultReport outcome had before got now = Rose before now × GrewByPrefix had outcome.report got
Reports (WriteFaultFile file) outcome had before got now = ⊥
Reports (UartFault place) outcome had before got now = ⊥
Reports NoMemory outcome had before got now = (got ≡ had) × (now ≡ before)

-- a file was not read, or memory ran out for it
abbrev pub IsNotRead : Ending → List ℕ → Outside → Outside → Type 0
IsNotRead Done file before after = ⊥
IsNotRead Usage file before after = ⊥
IsNotRead (ReadFault other) file before after =
    (other ≡ file) × (Rose before.read_faults after.read_faults ⊎ IsAbsent before.files file)
    × (after ≡ with_read_faults after.read_faults (after_store_call before))
IsNotRead (Refused other text) file before after = ⊥
IsNotRead WriteFaultReport file before after = ⊥
IsNotRead (WriteFaultFile other) file before after = ⊥
IsNotRead (UartFault place) file before after = ⊥
IsNotRead NoMemory file before after = after ≡ after_store_call before

-- not all of these files were read, or memory ran out for them
abbrev pub AreNotRead : Ending → List (List ℕ) → Outside → Outside → Type 0
AreNotRead Done files before after = ⊥
AreNotRead Usage files before after = ⊥
AreNotRead (ReadFault file) files before after = IsUnread file files before after
AreNotRead (Refused file text) files before after = ⊥
AreNotRead WriteFaultReport files before after = ⊥
AreNotRead (WriteFaultFile file) files before after = ⊥
AreNotRead (UartFault place) files before after = ⊥
AreNotRead NoMemory files before after = IsOutOfMemory files before after
