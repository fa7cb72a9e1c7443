-- For proofs and private clauses: what the program does to the outside, by cases on how it ends.
use Rattle.std.specs.Prelude.{◌≡◌, Some, None, IsSome, Result, Ok, Err}
use Rattle.xm_outside.specs.Causes.{Rose}
use Rattle.xm_outside.specs.Files.{OthersStay}
use Rattle.xm_outside.specs.Growth.{GrewByPrefix}
use Rattle.file_commands.specs.Outcome.{Output, Outcome}
use Rattle.file_commands.specs.Ending.{Ending, Done, Usage, ReadFault, Refused, WriteFaultReport, WriteFaultFile, UartFault, NoMemory}
use Rattle.file_commands.specs.Work.{Outside, after_store_call, with_report, with_files, wrote, did, IsNotSaved}

-- what is done once the files are read: their outcome, by cases on how that ended
abbrev pub HasOutcome : Ending → Outcome → Outside → Outside → Type 0
HasOutcome Done outcome before after = (outcome.denial ≡ None) × (after ≡ did outcome before)
HasOutcome Usage outcome before after = ⊥
HasOutcome (ReadFault file) outcome before after = ⊥
HasOutcome (Refused file text) outcome before after =
    (outcome.denial ≡ Some (record { file = file; text = text })) × (after ≡ did outcome before)
HasOutcome WriteFaultReport outcome before after =
    Rose before.faults after.faults × GrewByPrefix before.got outcome.report after.got
    × (after ≡ with_report after.got after.faults (wrote outcome.output before))
HasOutcome (WriteFaultFile file) outcome before after = IsNotSaved file outcome before after
HasOutcome (UartFault place) outcome before after = IsSome outcome.run × (outcome.denial ≡ None) × (after ≡ did outcome before)
HasOutcome NoMemory outcome before after = after ≡ before

-- a file is written, or it is not, and the others stay
abbrev pub Saves : {T E : Type 0} → Result T E → Output → Outside → Outside → Type 0
Saves (Ok _) output before after = after ≡ wrote (Some output) before
Saves (Err _) output before after =
    Rose before.write_faults after.write_faults × OthersStay before.files output.file after.files
    × (after ≡ with_files after.files after.write_faults (after_store_call before))
