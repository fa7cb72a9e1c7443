-- A replay by the script of a run.
use Rattle.std.specs.Prelude.{◌≡◌, ℕ, ◌%◌, ◌<◌, ◌≤◌, if◌then◌else◌, List, [], length, slice_index_or, Some, Result, Ok}
use Rattle.xm_base.specs.Bytes.{AreBytes}
use Rattle.xm_base.specs.declared.limits.TheConstants.{TICKS}
use Rattle.cue_scripts.specs.Spelling.{script_text}
use Rattle.loaded_system.specs.System as loaded
use Rattle.machine_model.specs.CoreFile.{core_file}
use Rattle.machine_model.specs.Laws.{core_file_of}
use Rattle.machine_model.specs.Lines.{own}
use Rattle.machine_model.specs.Lists.{is_number}
use Rattle.machine_model.specs.Machine.{start}
use Rattle.machine_model.specs.View.{System, part_of, view_of}
use Rattle.system_state.specs.Inputs.{words_in}
use Rattle.system_state.specs.State.{with_inputs}
use Rattle.recording_model.specs.Lone.{booted_alone, replay_said}
use Rattle.recording_model.specs.Replayed.{replay_lines, replayed}
use Rattle.upset_files.specs.Reading.{upsets_read}
use Rattle.upset_model.specs.Places.{schedule_of}
use Rattle.upset_model.specs.Reports.{after_run, received_in, upset_report}
use Rattle.upset_model.specs.Upsets.{upset_said}
use Rattle.upset_model.specs.declared.upset_line.UpsetLine.{UpsetLine}
use Rattle.xm_container.specs.Reading.{unpacked}
use Rattle.builders.specs.Ready.{Replay, Unready, replay_of}

-- the bytes of a container, of a script, of input words and of upsets are those of a run: the container is bytes, as each file is, and that of the system; the
-- partition is in it and has there the input words that the bytes spell; the upsets are those of the run, which has this many ticks; and the script is all that the
-- partition receives in it
pub record IsOfRun (container : List ℕ) (p : ℕ) (bytes input struck : List ℕ) (system : loaded.System) (inputs : List (List ℕ)) (upsets : List UpsetLine) (ticks : ℕ) : Type 0 where
  pub contained : AreBytes container
  pub unpacks : unpacked container ≡ Ok system
  pub there : p < length system.conf.parts
  pub words : length input % 4 ≡ 0
  pub given : slice_index_or inputs p [] ≡ words_in input
  pub most : ticks ≤ TICKS
  pub strikes : upsets_read system.conf ticks struck ≡ Ok upsets
  pub received : bytes ≡ script_text p (received_in upsets (with_inputs system inputs) p ticks)

-- the console bytes that partition p writes to a UART in this many ticks of a run with upsets
abbrev pub own_console : List UpsetLine → System → ℕ → ℕ → ℕ → List ℕ
own_console upsets system ticks p uart = if is_number (part_of system.conf p).console uart then upset_said (schedule_of upsets) (start system) ticks p else []

-- a replay may begin, and shows the partition's part of a run of this many ticks with upsets: its own lines of the report, its core file after the run, and the
-- console bytes that it writes to its UART
pub record ShowsRun (made : Result Replay Unready) (upsets : List UpsetLine) (system : System) (p ticks : ℕ) : Type 0 where
  pub replay : Replay
  pub begins : made ≡ Ok replay
  pub lines : replay_lines replay.upsets (view_of replay.system replay.p) replay.cues ≡ own p (upset_report upsets system ticks)
  pub core : core_file_of (after_run upsets system ticks) p
      ≡ Some (core_file (view_of replay.system replay.p) (replayed replay.upsets (view_of replay.system replay.p) replay.cues).state)
  pub said : (uart : ℕ) → replay_said replay.upsets (booted_alone replay.system replay.p) replay.cues uart ≡ own_console upsets system ticks p uart

-- so is each run replayed
abbrev pub RunIsReplayed : Type 0
RunIsReplayed =
    (container : List ℕ) (p : ℕ) (bytes input struck : List ℕ) (system : loaded.System) (inputs : List (List ℕ)) (upsets : List UpsetLine) (ticks : ℕ)
    → IsOfRun container p bytes input struck system inputs upsets ticks → ShowsRun (replay_of container p bytes input struck) upsets (with_inputs system inputs) p ticks
