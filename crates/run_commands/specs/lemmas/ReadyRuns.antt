-- A run that is ready to begin, or that is refused.
use Rattle.std.specs.Prelude.{◌≡◌, ℕ, ◌+◌, ◌≤◌, ⊤, List, drop, length, map, Result, Ok, Err}
use Rattle.xm_base.specs.declared.limits.TheConstants.{TICKS}
use Rattle.continuation_laws.specs.Onward.{after_ticks}
use Rattle.loaded_system.specs.System.{System}
use Rattle.upset_files.specs.Fits.{AllFit}
use Rattle.command_line.specs.Words.{RunOption, cores_in, save_in, scripts_in, span_in}
use Rattle.file_commands.specs.Ending.{Ending, Done, Usage, ReadFault, Refused, WriteFaultReport, WriteFaultFile, UartFault, NoMemory}
use Rattle.file_commands.specs.Outcome.{Outcome, beginning_of, content, outcome_of_run, command_refused, ticks_asked, upsets_for}
use Rattle.file_commands.specs.Inputs.{inputs_for}
use Rattle.machine_model.specs.Machine.{Machine}
use Rattle.system_state.specs.State.{with_inputs}
use Rattle.upset_model.specs.declared.upset_line.UpsetLine.{UpsetLine}
use Rattle.file_commands.specs.EndingValues.{ending_of}
use Rattle.file_commands.specs.declared.ending.Ending as code
use Rattle.run_commands.specs.Numbers.{AllReceiveNumbers, IsStored}
use Rattle.run_commands.specs.lemmas.Beginnings.{IsBeginning, IsNamed, MayHaveScripts, first_machine, machine_of}
use Rattle.run_commands.specs.lemmas.Cores.{AreForPartitions}
use Rattle.run_commands.specs.lemmas.Made.{made_output}
use Rattle.run_commands.specs.declared.readiness.ReadyRun.{ReadyRun}

-- a call ends before it does anything: its outcome is this refusal, or memory ran out
abbrev pub IsRefusing : Ending → Outcome → Type 0
IsRefusing Done outcome = ⊥
IsRefusing Usage outcome = ⊥
IsRefusing (ReadFault file) outcome = ⊥
IsRefusing (Refused file text) outcome = outcome ≡ command_refused file text
IsRefusing WriteFaultReport outcome = ⊥
IsRefusing (WriteFaultFile file) outcome = ⊥
IsRefusing (UartFault place) outcome = ⊥
IsRefusing NoMemory outcome = ⊤

-- a run is ready that has this outcome, or it is refused
abbrev pub IsReadyFor : Result ReadyRun code.Ending → List RunOption → System → Outcome → Type 0
IsReadyFor (Ok ready) options system outcome =
    outcome ≡ outcome_of_run ready.upsets.items ready.ticks (cores_in options) (map made_output ready.made.items) (machine_of system ready.beginning)
IsReadyFor (Err ending) options system outcome = IsRefusing (ending_of ending) outcome

-- what a run is given is that of its options and of the contents of its files, and all that it needs holds: what its scripts and its saved machine have are numbers in
-- their ranges
pub record IsReady (options : List RunOption) (contents : List (List ℕ)) (system : System) (ready : ReadyRun) : Type 0 where
  pub begins : IsBeginning system ready.beginning
  pub named : IsNamed options contents system ready.beginning
  pub first : first_machine options contents system ≡ Ok (machine_of system ready.beginning)
  pub cores : AreForPartitions (length system.conf.parts) (cores_in options)
  pub ticks : ready.ticks ≡ ticks_asked (span_in options) system.conf
  pub most : (machine_of system ready.beginning).ticks + ready.ticks ≤ TICKS
  pub struck : upsets_for system.conf (machine_of system ready.beginning).ticks ready.ticks options (drop 1 contents) ≡ Ok ready.upsets.items
  pub fit : AllFit system.conf ((machine_of system ready.beginning).ticks + ready.ticks) (machine_of system ready.beginning).ticks ready.upsets.items
  pub scripts : MayHaveScripts ready.beginning (scripts_in options)
  pub numbers : AllReceiveNumbers ready.upsets.items (machine_of system ready.beginning).system ready.ticks (scripts_in options)
  pub stored : IsStored (save_in options) (after_ticks ready.upsets.items (machine_of system ready.beginning) ready.ticks)

-- the partitions whose scripts a run of this system makes receive numbers in their ranges, by the contents of the run's files
abbrev pub ReadyNumbers : List RunOption → List (List ℕ) → System → Type 0
ReadyNumbers options contents system =
    (inputs : List (List ℕ)) (upsets : List UpsetLine) → inputs_for (length system.conf.parts) options (drop 1 contents) ≡ Ok inputs
    → upsets_for system.conf 0 (ticks_asked (span_in options) system.conf) options (drop 1 contents) ≡ Ok upsets
    → AllReceiveNumbers upsets (with_inputs system inputs) (ticks_asked (span_in options) system.conf) (scripts_in options)

-- so has the machine that it saves
abbrev pub ReadyStores : List RunOption → List (List ℕ) → System → Type 0
ReadyStores options contents system =
    (inputs : List (List ℕ)) (g : Machine) (upsets : List UpsetLine) → inputs_for (length system.conf.parts) options (drop 1 contents) ≡ Ok inputs
    → beginning_of options (content 0 contents) (drop 1 contents) system inputs ≡ Ok g
    → upsets_for g.system.conf g.ticks (ticks_asked (span_in options) g.system.conf) options (drop 1 contents) ≡ Ok upsets
    → IsStored (save_in options) (after_ticks upsets g (ticks_asked (span_in options) g.system.conf))
