-- The outcome of a container, a script and input words, by which a partition is to be replayed.
use Rattle.std.specs.Prelude.{ℕ, ◌%◌, nat_eq, nat_le, if◌then◌else◌, List, [], length, replicate, slice_set, Option, Some, None, Result, Ok, Err}
use Rattle.recording_model.specs.Replayed.{first_refused}
use Rattle.cue_scripts.specs.Reading.{script_read}
use Rattle.fault_messages.specs.Texts.{script_fault_text}
use Rattle.fault_messages.specs.declared.fault.ScriptFault.{ScriptFault}
use Rattle.fault_messages.specs.declared.fault.ScriptFault.TheVariants as fault
use Rattle.loaded_system.specs.System as loaded
use Rattle.machine_model.specs.Cue.{Cue}
use Rattle.machine_model.specs.View.{System, view_of}
use Rattle.system_state.specs.Inputs.{words_in}
use Rattle.system_state.specs.State.{with_inputs}
use Rattle.upset_files.specs.Reading.{upsets_read}
use Rattle.upset_files.specs.Texts.{upset_fault_text}
use Rattle.upset_files.specs.declared.fault.UpsetFault.{UpsetFault}
use Rattle.upset_model.specs.declared.upset_line.UpsetLine.{UpsetLine}
use Rattle.xm_base.specs.declared.limits.TheConstants.{TICKS}
use Rattle.xm_container.specs.Reading.{unpacked}
use Rattle.fault_messages.specs.Texts.{box_fault_text}
use Rattle.fault_messages.specs.declared.fault.BoxFault.{BoxFault}

-- why there is no replay: the container or the script is refused, as a text says; the system does not have the partition; the input words have this many
-- bytes, no multiple of 4; or the upsets are refused, as a text says
pub data Unready : Type 0 where
  NoContainer : (text : List ℕ) → Unready
  NoPartition : Unready
  NoScript : (text : List ℕ) → Unready
  OddInput : (count : ℕ) → Unready
  NoUpsets : (text : List ℕ) → Unready

-- a replay that may begin: the system, with the input words of the partition alone; the partition; all that it receives; and the upsets of a file, of which its
-- own strike it
pub record Replay : Type 0 where
  pub system : System
  pub p : ℕ
  pub cues : List Cue
  pub upsets : List UpsetLine

-- the input words of this many partitions, where one has those that bytes spell, and the others have none
unfoldable pub inputs_given : ℕ → ℕ → List ℕ → Result (List (List ℕ)) Unready
inputs_given parts p bytes = if nat_eq (length bytes % 4) 0 then Ok (slice_set (replicate parts []) p (words_in bytes)) else Err (OddInput (length bytes))

-- a script fits, or this is the first cue that cannot be taken
abbrev pub fitting : System → ℕ → List Cue → List UpsetLine → Option ℕ → Result Replay Unready
fitting system p cues upsets None = Ok (record { system = system; p = p; cues = cues; upsets = upsets })
fitting system p cues upsets (Some tick) = Err (NoScript (script_fault_text (fault.Cue tick)))

-- a script is tried on the partition with these input words, its own upsets striking before each of its ticks
abbrev pub with_upsets : loaded.System → ℕ → List Cue → List (List ℕ) → Result (List UpsetLine) UpsetFault → Result Replay Unready
with_upsets system p cues inputs (Err fault) = Err (NoUpsets (upset_fault_text fault))
with_upsets system p cues inputs (Ok upsets) =
    fitting (with_inputs system inputs) p cues upsets (first_refused upsets (view_of (with_inputs system inputs) p) cues)

-- the upsets, after input words that were read: those of a run of any number of ticks, since a run that halts has fewer cues than ticks
abbrev pub with_input : loaded.System → ℕ → List Cue → List ℕ → Result (List (List ℕ)) Unready → Result Replay Unready
with_input system p cues struck (Err why) = Err why
with_input system p cues struck (Ok inputs) = with_upsets system p cues inputs (upsets_read system.conf TICKS struck)

-- the input words, after a script that was read
abbrev pub with_script : loaded.System → ℕ → List ℕ → List ℕ → Result (List Cue) ScriptFault → Result Replay Unready
with_script system p input struck (Err fault) = Err (NoScript (script_fault_text fault))
with_script system p input struck (Ok cues) = with_input system p cues struck (inputs_given (length system.conf.parts) p input)

-- the partition and its script, in a system
abbrev pub with_system : ℕ → List ℕ → List ℕ → List ℕ → loaded.System → Result Replay Unready
with_system p bytes input struck system =
    if nat_le (length system.conf.parts) p then Err NoPartition else with_script system p input struck (script_read system.conf p bytes)

-- a container that was unpacked
abbrev pub with_container : ℕ → List ℕ → List ℕ → List ℕ → Result loaded.System BoxFault → Result Replay Unready
with_container p bytes input struck (Err fault) = Err (NoContainer (box_fault_text fault))
with_container p bytes input struck (Ok system) = with_system p bytes input struck system

-- the replay of a partition by the bytes of a container, of a script, of input words and of upsets, or the first of these that refuses it: the container, the
-- partition's number, the script, the number of bytes of the input words, the upsets, and a cue that cannot be taken
unfoldable pub replay_of : List ℕ → ℕ → List ℕ → List ℕ → List ℕ → Result Replay Unready
replay_of container p bytes input struck = with_container p bytes input struck (unpacked container)
