-- What a replay shows, tick by tick, and what is answered where that goes out after the replay.
use Rattle.std.specs.Prelude.{ℕ, ◌<◌, ◌≤◌, List, [], ◌∷◌, ◌++◌, length, map, take, Option, Result, Ok, Err}
use Rattle.xm_outside.specs.Growth.{GrewByPrefix}
use Rattle.xm_report.specs.Report.{ReportLine, texts}
use Rattle.xm_report.specs.declared.output.WriteFault.{WriteFault}
use Rattle.uart_board.specs.Heard.{IsHeard}
use Rattle.uart_board.specs.Views.{BoardView}
use Rattle.machine_model.specs.Alone.{Alone, alone_start, alone_step, alone_step_lines, alone_step_said}
use Rattle.machine_model.specs.Cue.{Cue}
use Rattle.machine_model.specs.View.{PartitionView}
use Rattle.recording_model.specs.Replayed.{cue_lines}
use Rattle.recording_model.specs.Lone.{Lone, own_view, replay_said}
use Rattle.upset_model.specs.Places.{Timetable, strike_of}
use Rattle.upset_model.specs.Reports.{own_due, struck_line}
use Rattle.upset_model.specs.Upsets.{alone_struck, later}
use Rattle.upset_model.specs.declared.upset_line.UpsetLine.{UpsetLine}
use Rattle.xm_alone.specs.Replay.{IsWholeReplay}

-- what a tick shows: the text of its lines, and its console bytes
pub record ShownTick : Type 0 where
  pub text : List ℕ
  pub said : List ℕ

-- a tick that prints nothing shows nothing
abbrev pub shown_tick : List ℕ → List ℕ → List ShownTick
shown_tick [] said = []
shown_tick (byte ∷ bytes) said = record { text = byte ∷ bytes; said = said } ∷ []

-- what a partition shows under cues from a state on, with these lines of its own upsets before each tick: their lines are those of the tick
abbrev pub shown_from : PartitionView → Timetable → Alone → List Cue → List ShownTick
shown_from view own a [] = []
shown_from view own a (cue ∷ cues) =
    shown_tick (texts (map struck_line (own 0) ++ alone_step_lines view (alone_struck (map strike_of (own 0)) a) cue)) (alone_step_said view (alone_struck (map strike_of (own 0)) a) cue)
    ++ shown_from view (later own) (alone_step view (alone_struck (map strike_of (own 0)) a) cue) cues

-- and from its boot on, with the upsets of a file
abbrev pub shown_by : List UpsetLine → PartitionView → List Cue → List ShownTick
shown_by upsets view cues = shown_from view (own_due view.id upsets) (alone_start view) cues

-- lines of a replay that the sink did not take whole, after all of its cues were done: it took those of all cues before this one and not all of
-- this one's, or those of all cues; the console bytes of the cues up to this one were written
pub record IsCutShowing (upsets : List UpsetLine) (cues : List Cue) (lines : List ReportLine) (old : Lone) (had got : Option (List ℕ)) (before after : BoardView) : Type 0 where
  pub done : ℕ
  pub within : done ≤ length cues
  pub report : GrewByPrefix had (texts lines) got
  pub heard : IsHeard (replay_said upsets old (take done cues)) before after
  pub whole : (k : ℕ) → k < done → length (texts (cue_lines upsets (own_view old) (take k cues))) ≤ report.count
  pub cut : done < length cues → report.count < length (texts (cue_lines upsets (own_view old) (take done cues)))

-- what is answered where a replay that was done shows these lines
abbrev pub IsShown : {T : Type 0} → Result T WriteFault → List UpsetLine → List Cue → List ReportLine → Lone → Lone → Option (List ℕ) → Option (List ℕ) → BoardView → BoardView → Type 0
IsShown (Ok done) upsets cues lines old new had got before after = IsWholeReplay upsets cues lines old new had got before after
IsShown (Err unwritten) upsets cues lines old new had got before after = IsCutShowing upsets cues lines old had got before after
