-- What partitions receive in a run that makes scripts of it.
use Rattle.std.specs.Prelude.{◌≡◌, ℕ, List, [], ◌∷◌, length, drop, Option, Some, None, Ok}
use Rattle.std.specs.List.{AllByRecursion}
use Rattle.xm_outside.specs.Files.{Files}
use Rattle.loaded_system.specs.System as loaded
use Rattle.upset_model.specs.Reports.{received_in}
use Rattle.upset_model.specs.declared.upset_line.UpsetLine.{UpsetLine}
use Rattle.machine_model.specs.Machine.{Machine}
use Rattle.machine_model.specs.View.{System}
use Rattle.continuation_laws.specs.Onward.{after_ticks}
use Rattle.saved_machines.specs.Savable.{IsSavedMachine}
use Rattle.recording_model.specs.Receiving.{HasNumbers}
use Rattle.system_state.specs.State.{with_inputs}
use Rattle.xm_container.specs.Reading.{unpacked}
use Rattle.command_line.specs.Words.{PartFile, RunOption, save_in, span_in, scripts_in}
use Rattle.run_commands.specs.Contents.{read_all}
use Rattle.file_commands.specs.Ending.{Ending, Done, Usage, ReadFault, Refused, WriteFaultReport, WriteFaultFile, UartFault, NoMemory}
use Rattle.file_commands.specs.Inputs.{inputs_for}
use Rattle.file_commands.specs.Outcome.{beginning_of, content, run_inputs, ticks_asked, upsets_for}

-- the numbers in what a partition receives in this many ticks with upsets are those of a memory and of a register: what is a byte is one, and the status of
-- a reset is a word
abbrev pub ReceivesNumbers : List UpsetLine → System → ℕ → ℕ → Type 0
ReceivesNumbers upsets system ticks p = AllByRecursion HasNumbers (received_in upsets system p ticks)

-- so are those in what each of these partitions receives
abbrev pub AllReceiveNumbers : List UpsetLine → System → ℕ → List PartFile → Type 0
AllReceiveNumbers upsets system ticks [] = Unit {0}
AllReceiveNumbers upsets system ticks (named ∷ scripts) = ReceivesNumbers upsets system ticks named.part × AllReceiveNumbers upsets system ticks scripts

-- a call ended so after all scripts were made, if it ran a container
abbrev pub HasScripts : Ending → Type 0
HasScripts Done = Unit {0}
HasScripts Usage = ⊥
HasScripts (ReadFault file) = ⊥
HasScripts (Refused file text) = ⊥
HasScripts WriteFaultReport = Unit {0}
HasScripts (WriteFaultFile file) = Unit {0}
HasScripts (UartFault place) = Unit {0}
HasScripts NoMemory = ⊥

-- the partitions whose scripts a run makes receive such numbers, by the contents of the run's files
abbrev pub ReceivesIn : List RunOption → List (List ℕ) → Type 0
ReceivesIn options contents =
    (system : loaded.System) (inputs : List (List ℕ)) (upsets : List UpsetLine) → unpacked (content 0 contents) ≡ Ok system
    → inputs_for (length system.conf.parts) options (drop 1 contents) ≡ Ok inputs
    → upsets_for system.conf 0 (ticks_asked (span_in options) system.conf) options (drop 1 contents) ≡ Ok upsets
    → AllReceiveNumbers upsets (with_inputs system inputs) (ticks_asked (span_in options) system.conf) (scripts_in options)

-- they are, where the store's files are known
abbrev pub ReceivesOf : List ℕ → List RunOption → Option Files → Type 0
ReceivesOf container options known =
    (files : Files) → known ≡ Some files → (contents : List (List ℕ)) → read_all files (container ∷ run_inputs options) ≡ Ok contents → ReceivesIn options contents

-- the machine that a run saves has numbers in their ranges, where a file is named for it
abbrev pub IsStored : Option (List ℕ) → Machine → Type 0
IsStored None g = Unit {0}
IsStored (Some file) g = IsSavedMachine g

-- so has the machine after a run, by the contents of the run's files
abbrev pub StoresIn : List RunOption → List (List ℕ) → Type 0
StoresIn options contents =
    (system : loaded.System) (inputs : List (List ℕ)) (g : Machine) (upsets : List UpsetLine) → unpacked (content 0 contents) ≡ Ok system
    → inputs_for (length system.conf.parts) options (drop 1 contents) ≡ Ok inputs
    → beginning_of options (content 0 contents) (drop 1 contents) system inputs ≡ Ok g
    → upsets_for g.system.conf g.ticks (ticks_asked (span_in options) g.system.conf) options (drop 1 contents) ≡ Ok upsets
    → IsStored (save_in options) (after_ticks upsets g (ticks_asked (span_in options) g.system.conf))

-- where the store's files are known
abbrev pub StoresOf : List ℕ → List RunOption → Option Files → Type 0
StoresOf container options known =
    (files : Files) → known ≡ Some files → (contents : List (List ℕ)) → read_all files (container ∷ run_inputs options) ≡ Ok contents → StoresIn options contents
