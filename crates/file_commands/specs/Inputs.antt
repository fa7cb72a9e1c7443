-- The input words of partitions, by the files that a run is given for them.
use Rattle.std.specs.Prelude.{ℕ, ◌%◌, nat_eq, nat_le, if◌then◌else◌, List, [], ◌∷◌, length, replicate, slice_set, Option, Some, None, Result, Ok, Err}
use Rattle.system_state.specs.Inputs.{words_in}
use Rattle.command_line.specs.Words.{PartFile, RunOption, Length, ForRun, ForPart, inputs_in}
use Rattle.file_commands.specs.Denial.{Denial}
use Rattle.file_commands.specs.Ending.{input_text, partition_text}
use Rattle.file_commands.specs.Packing.{denial}

-- this many partitions without input words
abbrev pub no_inputs : ℕ → List (List ℕ)
no_inputs parts = replicate parts []

-- the file that an option names, where its partition is none of this many
abbrev pub named_beyond : ℕ → RunOption → Option PartFile
named_beyond parts (Length span) = None
named_beyond parts (ForRun kind file) = None
named_beyond parts (ForPart kind named) = if nat_le parts named.part then Some named else None

-- the first of these, where there is one, or else what comes after it
abbrev pub or_later : Option PartFile → Option PartFile → Option PartFile
or_later None later = later
or_later (Some named) later = Some named

-- the first of the files that options name whose partition is none of this many
abbrev pub first_beyond : ℕ → List RunOption → Option PartFile
first_beyond parts [] = None
first_beyond parts (option ∷ options) = or_later (named_beyond parts option) (first_beyond parts options)

-- input words where each file gives its partition the words that its bytes spell; refused by the first of the files whose length is
-- no multiple of 4
abbrev pub inputs_with : List (List ℕ) → List PartFile → List (List ℕ) → Result (List (List ℕ)) Denial
inputs_with inputs [] contents = Ok inputs
inputs_with inputs (named ∷ files) [] = Ok inputs
inputs_with inputs (named ∷ files) (bytes ∷ contents) =
    if nat_eq (length bytes % 4) 0 then inputs_with (slice_set inputs named.part (words_in bytes)) files contents
    else Err (denial named.file (input_text (length bytes)))

-- input words, unless a file is for a partition that is not there
abbrev pub unless_beyond : Option PartFile → Result (List (List ℕ)) Denial → Result (List (List ℕ)) Denial
unless_beyond None inputs = inputs
unless_beyond (Some named) inputs = Err (denial named.file (partition_text named.part))

-- the input words of this many partitions, by options whose inputs have these contents: a file for a partition that is not there is refused
-- before any other, whatever it is to the run, and each time it is the first in the order of the options that is refused
unfoldable pub inputs_for : ℕ → List RunOption → List (List ℕ) → Result (List (List ℕ)) Denial
inputs_for parts options contents = unless_beyond (first_beyond parts options) (inputs_with (no_inputs parts) (inputs_in options) contents)
