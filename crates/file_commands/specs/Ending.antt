-- How a call ends: its status, and its line on the error output.
use Rattle.std.specs.Prelude.{ℕ, List, [], ◌++◌, codes, decimal}
use Rattle.file_commands.specs.declared.status.Status.{Status}
use Rattle.file_commands.specs.declared.status.Status.TheVariants as status

-- how a call ends, with what its line on the error output names
pub data Ending : Type 0 where
  Done : Ending
  Usage : Ending
  ReadFault : (file : List ℕ) → Ending
  Refused : (file text : List ℕ) → Ending
  WriteFaultReport : Ending
  WriteFaultFile : (file : List ℕ) → Ending
  UartFault : (place : ℕ) → Ending
  NoMemory : Ending

-- the status of an ending
abbrev pub status_of : Ending → Status
status_of Done = status.Done
status_of Usage = status.Usage
status_of (ReadFault file) = status.ReadFault
status_of (Refused file text) = status.Refused
status_of WriteFaultReport = status.WriteFault
status_of (WriteFaultFile file) = status.WriteFault
status_of (UartFault place) = status.UartFault
status_of NoMemory = status.NoMemory

-- what stands after the file's name in its line
abbrev pub after_file : List ℕ → List ℕ
after_file text = codes ": " ++ text ++ codes "\n"

-- the line on the error output; a call that is done writes none
unfoldable pub complaint : Ending → List ℕ
complaint Done = []
complaint Usage = codes "xm_run: usage\n"
complaint (ReadFault file) = codes "xm_run: " ++ file ++ after_file (codes "cannot read")
complaint (Refused file text) = codes "xm_run: " ++ file ++ after_file text
complaint WriteFaultReport = codes "xm_run: report: cannot write\n"
complaint (WriteFaultFile file) = codes "xm_run: " ++ file ++ after_file (codes "cannot write")
complaint (UartFault place) = codes "xm_run: uart " ++ decimal place ++ codes ": failed\n"
complaint NoMemory = codes "xm_run: no memory\n"

-- the fault text of an image whose length is refused
unfoldable pub length_text : ℕ → List ℕ
length_text found = codes "image length=" ++ decimal found

-- the fault text of a run of too many ticks
unfoldable pub ticks_text : ℕ → List ℕ
ticks_text asked = codes "ticks asked=" ++ decimal asked

-- the fault text of a saved machine that is too long for a file
unfoldable pub saved_text : ℕ → List ℕ
saved_text found = codes "length found=" ++ decimal found

-- the fault text of an input for a partition that a system does not have
unfoldable pub partition_text : ℕ → List ℕ
partition_text id = codes "partition id=" ++ decimal id

-- the fault text of an input whose length is no multiple of 4
unfoldable pub input_text : ℕ → List ℕ
input_text length = codes "input length=" ++ decimal length
