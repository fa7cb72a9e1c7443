-- A partition that is replayed by a script, with its own upsets: what the cues leave of it, what it prints, and which cue it cannot take.
use Rattle.std.specs.Prelude.{ℕ, suc, if◌then◌else◌, List, [], ◌∷◌, ◌++◌, Option, Some, None}
use Rattle.xm_report.specs.Report.{ReportLine}
use Rattle.machine_model.specs.Alone.{Alone, alone_start, alone_step}
use Rattle.machine_model.specs.Cue.{Cue}
use Rattle.machine_model.specs.Lines.{end_line}
use Rattle.machine_model.specs.View.{PartitionView}
use Rattle.replay_model.specs.Taking.{takes_cue}
use Rattle.upset_model.specs.Places.{schedule_of}
use Rattle.upset_model.specs.Reports.{alone_reported, own_due}
use Rattle.upset_model.specs.Upsets.{Strike, alone_struck, alone_upset_from, later, own_strikes}
use Rattle.upset_model.specs.declared.upset_line.UpsetLine.{UpsetLine}

-- what strikes the partition before each tick, of the upsets of a file
abbrev pub strikes_in : List UpsetLine → PartitionView → ℕ → List Strike
strikes_in upsets view = own_strikes view.id (schedule_of upsets)

-- what a replay leaves of the partition
abbrev pub replayed : List UpsetLine → PartitionView → List Cue → Alone
replayed upsets view cues = alone_upset_from view (strikes_in upsets view) (alone_start view) cues

-- the lines of its cues, and of its own upsets before them
abbrev pub cue_lines : List UpsetLine → PartitionView → List Cue → List ReportLine
cue_lines upsets view cues = alone_reported view (own_due view.id upsets) (alone_start view) cues

-- what a replay prints: these lines, and that of the partition's end
abbrev pub replay_lines : List UpsetLine → PartitionView → List Cue → List ReportLine
replay_lines upsets view cues = cue_lines upsets view cues ++ end_line view.id (replayed upsets view cues).state ∷ []

-- the first cue of a script that cannot be taken in the state which the cues before it and the upsets up to it leave, counted from a number
abbrev pub first_untaken_struck : PartitionView → (ℕ → List Strike) → Alone → ℕ → List Cue → Option ℕ
first_untaken_struck view own a tick [] = None
first_untaken_struck view own a tick (cue ∷ cues) =
    if takes_cue view (alone_struck (own 0) a) cue
    then first_untaken_struck view (later own) (alone_step view (alone_struck (own 0) a) cue) (suc tick) cues
    else Some tick

-- and of a script from the boot on
abbrev pub first_refused : List UpsetLine → PartitionView → List Cue → Option ℕ
first_refused upsets view cues = first_untaken_struck view (strikes_in upsets view) (alone_start view) 0 cues
