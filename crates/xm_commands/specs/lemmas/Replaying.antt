-- A replay as it is played, and how one ends that cannot begin.
use Rattle.std.specs.Prelude.{◌≡◌, ℕ, List, Option, Some, None}
use Rattle.builders.specs.Ready.{Replay, Unready}
use Rattle.machine_model.specs.CoreFile.{core_file}
use Rattle.machine_model.specs.Cue.{Cue}
use Rattle.recording_model.specs.Lone.{Lone, own_view}
use Rattle.upset_model.specs.declared.upset_line.UpsetLine.{UpsetLine}
use Rattle.command_line.specs.Words.{ReplayFile}
use Rattle.file_commands.specs.Ending.{Ending, Refused, NoMemory}
use Rattle.file_commands.specs.Outcome.{Output, unready_denial}

-- the replay of a partition that boots, by a script and with the upsets of a file
abbrev pub ready_of : Lone → List UpsetLine → List Cue → Replay
ready_of lone upsets cues = record { system = lone.system; p = lone.p; cues = cues; upsets = upsets }

-- the core file of a partition as it stands, under the name that is given for it
abbrev pub lone_output : Lone → List ℕ → Output
lone_output lone file = record { file = file; bytes = core_file (own_view lone) lone.part.state }

-- there is room for the core file, where it is to be written
abbrev pub HasCoreRoom : Option (List ℕ) → ℕ → ℕ → Type 0
HasCoreRoom None size room = Unit {0}
HasCoreRoom (Some file) size room = room ≡ size

-- how a replay ends that cannot begin: it is refused for this reason, or memory ran out
abbrev pub unready_ending : List ℕ → ℕ → List ℕ → List ReplayFile → Option Unready → Ending
unready_ending container part script options None = NoMemory
unready_ending container part script options (Some why) =
    Refused (unready_denial container part script options why).file (unready_denial container part script options why).text
