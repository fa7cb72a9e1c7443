-- The files that the program made of a run.
use Rattle.std.specs.Prelude.{ℕ, nat_lt, if◌then◌else◌, List, length, map, None, Some, Option, Vec, Result, Ok, Err}
use Rattle.xm_base.specs.declared.limits.TheConstants.{FILE_BYTES}
use Rattle.file_commands.specs.Denial.{Denial}
use Rattle.file_commands.specs.Ending.{saved_text}
use Rattle.file_commands.specs.Outcome.{Output}
use Rattle.file_commands.specs.Packing.{denial}
use Rattle.run_commands.specs.declared.making.MadeFile.{MadeFile}

-- a file that was made, as it is written
abbrev pub made_output : MadeFile → Output
made_output made = record { file = made.file.now; bytes = made.bytes.items }

-- the files of a vector
abbrev pub made_outputs : {A : Type 0} → Vec MadeFile A → List Output
made_outputs made = map made_output made.items

-- a file, or its refusal
abbrev pub made_or : Option Denial → Output → Result Output Denial
made_or None output = Ok output
made_or (Some refusal) output = Err refusal

-- a file with these bytes of a saved machine, or its refusal where they are more than a file may have
unfoldable pub saved_or : List ℕ → List ℕ → Result Output Denial
saved_or file bytes = if nat_lt FILE_BYTES (length bytes) then Err (denial file (saved_text (length bytes))) else Ok (record { file = file; bytes = bytes })
