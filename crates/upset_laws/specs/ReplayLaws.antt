-- The laws of replays with upsets: what a partition receives in a run with upsets is a script of it, which it can take alone with its own upsets.
use Rattle.std.specs.Prelude.{◌≡◌, ℕ, ◌<◌, ◌≤◌, List, [], length, None}
use Rattle.xm_conf.specs.Description.{described}
use Rattle.xm_conf.specs.Fits.{Fits}
use Rattle.machine_model.specs.Alone.{alone_from, alone_lines, alone_start}
use Rattle.machine_model.specs.Cue.{Cue}
use Rattle.machine_model.specs.View.{PartitionView, System, view_of}
use Rattle.cue_scripts.specs.Script.{IsScript}
use Rattle.range_model.specs.Ranges.{HasRanges}
use Rattle.replay_model.specs.Taking.{first_untaken}
use Rattle.recording_model.specs.Replayed.{cue_lines, first_refused, replayed}
use Rattle.upset_files.specs.Fits.{AllFit}
use Rattle.upset_model.specs.Reports.{received_in}
use Rattle.upset_model.specs.declared.upset_line.UpsetLine.{UpsetLine}

-- what a partition receives in `count` ticks of a run with upsets that fit is a script of the partition, from the boot of a system on whose images begin at
-- words and load bytes
abbrev pub ReceivesUpsetScripts : Type 0
ReceivesUpsetScripts =
    (lines : List UpsetLine) (system : System) (p count : ℕ) → Fits (described system.conf) → HasRanges system → AllFit system.conf count 0 lines → count ≤ 4000000000
    → IsScript system.conf p (received_in lines system p count)

-- and each of its cues can be taken by the partition alone, in the state which the cues before it and its own upsets leave
abbrev pub UpsetScriptIsTaken : Type 0
UpsetScriptIsTaken =
    (lines : List UpsetLine) (system : System) (p count : ℕ) → Fits (described system.conf) → p < length system.conf.parts
    → first_refused lines (view_of system p) (received_in lines system p count) ≡ None

-- a replay without upsets: what it leaves, the lines of its cues, and the first cue that cannot be taken
pub record PlainReplays : Type 0 where
  pub left : (view : PartitionView) (cues : List Cue) → replayed [] view cues ≡ alone_from view (alone_start view) cues
  pub prints : (view : PartitionView) (cues : List Cue) → cue_lines [] view cues ≡ alone_lines view (alone_start view) cues
  pub refuses : (view : PartitionView) (cues : List Cue) → first_refused [] view cues ≡ first_untaken view (alone_start view) 0 cues
