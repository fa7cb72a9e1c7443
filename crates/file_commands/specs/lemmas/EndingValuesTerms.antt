-- For proofs and private clauses: what the program's endings say.
use Rattle.std.specs.Prelude.{◌≡◌, ⊤, Result, Ok, Err}
use Rattle.file_commands.specs.Ending.{Ending, Done, Usage, ReadFault, Refused, WriteFaultReport, WriteFaultFile, UartFault, NoMemory}
use Rattle.file_commands.specs.Denial.{Denial}
use Rattle.file_commands.specs.declared.ending.Ending as code
use Rattle.file_commands.specs.EndingValues.{ending_of}

-- the call ends by this refusal, or memory ran out
abbrev pub IsDenied : {X : Type 0} → Ending → Result X Denial → Type 0
IsDenied Done made = ⊥
IsDenied Usage made = ⊥
IsDenied (ReadFault file) made = ⊥
IsDenied (Refused file text) made = made ≡ Err (record { file = file; text = text })
IsDenied WriteFaultReport made = ⊥
IsDenied (WriteFaultFile file) made = ⊥
IsDenied (UartFault place) made = ⊥
IsDenied NoMemory made = ⊤

-- what was made is that of the definition, and so is the refusal by which the call ends
abbrev pub MakesOr : {X Y : Type 0} → (X → Y) → Result X code.Ending → Result Y Denial → Type 0
MakesOr view (Ok value) made = made ≡ Ok (view value)
MakesOr view (Err ending) made = IsDenied (ending_of ending) made
