-- For proofs and private clauses: the machine that a run begins with.
use Rattle.std.specs.Prelude.{◌≡◌, ℕ, List, [], length, drop, None, IsSome, Result, Ok, Err}
use Rattle.command_line.specs.Words.{PartFile, RunOption, from_in}
use Rattle.file_commands.specs.Denial.{Denial}
use Rattle.file_commands.specs.Inputs.{inputs_for}
use Rattle.file_commands.specs.Outcome.{beginning_of, content}
use Rattle.loaded_system.specs.System.{System}
use Rattle.machine_model.specs.Machine.{Machine, start}
use Rattle.run_commands.specs.declared.beginning.Beginning.{Beginning}
use Rattle.run_commands.specs.declared.beginning.Beginning.TheVariants.{Boot, Saved}
use Rattle.saved_machines.specs.Reading.{saved_value}
use Rattle.saved_machines.specs.Restorable.{IsRestorable}
use Rattle.saved_machines.specs.Saving.{machine_saved}
use Rattle.system_state.specs.State.{with_inputs}

-- the machine of a system that begins so
abbrev pub machine_of : System → Beginning → Machine
machine_of system (Boot inputs) = start (with_inputs system inputs)
machine_of system (Saved saved) = machine_saved (with_inputs system []) (saved_value saved)

-- the system can begin so: there are input words for each partition, or the machine is one that it can go on from
abbrev pub IsBeginning : System → Beginning → Type 0
IsBeginning system (Boot inputs) = length inputs ≡ length system.conf.parts
IsBeginning system (Saved saved) = IsRestorable system.conf (saved_value saved)

-- with these input words, or the refusal of an input's file
abbrev pub machine_with : List RunOption → List (List ℕ) → System → Result (List (List ℕ)) Denial → Result Machine Denial
machine_with options contents system (Ok inputs) = beginning_of options (content 0 contents) (drop 1 contents) system inputs
machine_with options contents system (Err refusal) = Err refusal

-- the machine that a run of a container's system begins with, by the contents of its files, or the first refusal of them
abbrev pub first_machine : List RunOption → List (List ℕ) → System → Result Machine Denial
first_machine options contents system = machine_with options contents system (inputs_for (length system.conf.parts) options (drop 1 contents))

-- the options name no saved machine, and a run boots with the input words of its files; or they name one
abbrev pub IsNamed : List RunOption → List (List ℕ) → System → Beginning → Type 0
IsNamed options contents system (Boot inputs) = (from_in options ≡ None) × (inputs_for (length system.conf.parts) options (drop 1 contents) ≡ Ok inputs)
IsNamed options contents system (Saved saved) = IsSome (from_in options)

-- a run that goes on from a saved machine has no scripts, which are of a run from the boot on
abbrev pub MayHaveScripts : Beginning → List PartFile → Type 0
MayHaveScripts (Boot inputs) scripts = Unit {0}
MayHaveScripts (Saved saved) scripts = scripts ≡ []
