-- What is answered where a replay is made ready.
use Rattle.std.specs.Prelude.{◌≡◌, ◌<◌, ⊤, List, length, Option, Some, None, Result, Ok, Err}
use Rattle.std.specs.String.{string_bytes}
use Rattle.cue_scripts.specs.Script.{IsScript}
use Rattle.machine_model.specs.Cue.{Cue}
use Rattle.xm_alone.specs.Replay.{IsReplayed, TakesAll}
use Rattle.xm_alone.specs.Shown.{ShownTick, shown_by}
use Rattle.recording_model.specs.Lone.{Lone, booted_alone, own_view}
use Rattle.builders.specs.Ready.{NoContainer, NoPartition, NoScript, NoUpsets, OddInput, Replay, Unready}
use Rattle.upset_files.specs.Fits.{AllFit}
use Rattle.upset_model.specs.declared.upset_line.UpsetLine.{UpsetLine}
use Rattle.xm_base.specs.declared.limits.TheConstants.{TICKS}
use Rattle.replay_setup.specs.declared.ready.Replay as code
use Rattle.replay_setup.specs.declared.unready.Unready as why
use Rattle.replay_setup.specs.declared.unready.Unready.TheVariants as variant

-- what a reason of the program says, unless it is that memory ran out
abbrev pub unready_of : why.Unready → Option Unready
unready_of (variant.NoContainer text) = Some (NoContainer (string_bytes text))
unready_of variant.NoPartition = Some NoPartition
unready_of (variant.NoScript text) = Some (NoScript (string_bytes text))
unready_of (variant.OddInput found) = Some (OddInput found)
unready_of (variant.NoUpsets text) = Some (NoUpsets (string_bytes text))
unready_of variant.Memory = None

-- the reason is that of the definition, or memory ran out
abbrev pub IsUnready : {X : Type 0} → Option Unready → Result X Unready → Type 0
IsUnready None made = ⊤
IsUnready (Some why) made = made ≡ Err why

-- a partition as its cues left it, with what they show
pub record IsLeft (shown : List ShownTick) (alone : Lone) (cues : List Cue) (upsets : List UpsetLine) : Type 0 where
  pub left : IsReplayed upsets cues (booted_alone alone.system alone.p) alone
  pub shows : shown ≡ shown_by upsets (own_view alone) cues

-- a partition as it boots; or, where what its cues show was kept, as they left it
abbrev pub IsBootedOrLeft : Option (List ShownTick) → Lone → List Cue → List UpsetLine → Type 0
IsBootedOrLeft None alone cues upsets = alone ≡ booted_alone alone.system alone.p
IsBootedOrLeft (Some shown) alone cues upsets = IsLeft shown alone cues upsets

-- a partition that stands so, with a script that fits it and upsets that fit its system
pub record IsReady (shown : Option (List ShownTick)) (alone : Lone) (cues : List Cue) (upsets : List UpsetLine) : Type 0 where
  pub there : alone.p < length alone.system.conf.parts
  pub stands : IsBootedOrLeft shown alone cues upsets
  pub received : IsScript alone.system.conf alone.p cues
  pub striking : AllFit alone.system.conf TICKS 0 upsets
  pub fits : TakesAll upsets (own_view alone) cues

-- the replay is that of the definition and may begin, or the reason is that of the definition
abbrev pub Readies : Result code.Replay why.Unready → Result Replay Unready → Type 0
Readies (Ok replay) made =
    (made ≡ Ok (record { system = replay.alone.system; p = replay.alone.p; cues = replay.script; upsets = replay.upsets.items }))
    × IsReady replay.shown replay.alone replay.script replay.upsets.items
Readies (Err reason) made = IsUnready (unready_of reason) made
