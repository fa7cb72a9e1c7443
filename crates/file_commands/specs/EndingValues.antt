-- What the program's endings say.
use Rattle.std.specs.Prelude.{◌≡◌, ℕ, List, map, codes, None, Vec, Result, Ok, Err}
use Rattle.std.specs.String.{string_bytes}
use Rattle.xm_base.specs.declared.limits.TheConstants.{FILE_BYTES}
use Rattle.xm_outside.specs.Files.{ReadsFile}
use Rattle.file_commands.specs.Ending.{Ending, Done, Usage, ReadFault, Refused, WriteFaultReport, WriteFaultFile, UartFault, NoMemory, input_text, length_text, partition_text, saved_text, ticks_text}
use Rattle.file_commands.specs.Outcome.{Output}
use Rattle.file_commands.specs.Work.{Outside, AreNotRead, AreNotSaved, IsNotRead, ReadsFiles, SavesAll, after_store_call, called_for}
use Rattle.file_commands.specs.declared.ending.Refusal.{Refusal}
use Rattle.file_commands.specs.declared.ending.Refusal.TheVariants.{TooLong, Length, Ticks, Saved, Partition, Input, Fault}
use Rattle.file_commands.specs.declared.ending.Ending as code
use Rattle.file_commands.specs.declared.ending.Ending.TheVariants as variant

-- the fault text of a refusal
abbrev pub refusal_text : Refusal → List ℕ
refusal_text TooLong = codes "too-long"
refusal_text (Length found) = length_text found
refusal_text (Ticks asked) = ticks_text asked
refusal_text (Saved found) = saved_text found
refusal_text (Partition id) = partition_text id
refusal_text (Input found) = input_text found
refusal_text (Fault text) = string_bytes text

-- what an ending of the program says
abbrev pub ending_of : code.Ending → Ending
ending_of variant.Done = Done
ending_of variant.Usage = Usage
ending_of (variant.ReadFault file) = ReadFault file.now
ending_of (variant.Refused file why) = Refused file.now (refusal_text why)
ending_of variant.WriteFaultReport = WriteFaultReport
ending_of (variant.WriteFaultFile file) = WriteFaultFile file.now
ending_of (variant.UartFault place) = UartFault place
ending_of variant.NoMemory = NoMemory

-- a file was read, or the call ends without it
abbrev pub IsFileRead : {A : Type 0} → Result (Vec ℕ A) code.Ending → List ℕ → Outside → Outside → Type 0
IsFileRead (Ok bytes) file before after = ReadsFile before.files file FILE_BYTES bytes.items × (after ≡ after_store_call before)
IsFileRead (Err ending) file before after = IsNotRead (ending_of ending) file before after

-- the bytes of a vector
abbrev pub vector_bytes : {A : Type 0} → Vec ℕ A → List ℕ
vector_bytes bytes = bytes.items

-- files were read, or the call ends without them
abbrev pub AreFilesRead : {A B : Type 0} → Result (Vec (Vec ℕ A) B) code.Ending → List (List ℕ) → Outside → Outside → Type 0
AreFilesRead (Ok contents) files before after = ReadsFiles before.files files (map vector_bytes contents.items) × (after ≡ called_for files before)
AreFilesRead (Err ending) files before after = AreNotRead (ending_of ending) files before after

-- files were written, or the call ends because one of them was not
abbrev pub AreSaved : {T : Type 0} → Result T code.Ending → List Output → Outside → Outside → Type 0
AreSaved (Ok _) outputs before after = SavesAll None outputs before after
AreSaved (Err ending) outputs before after = AreNotSaved (ending_of ending) outputs before after
