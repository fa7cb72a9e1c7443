-- A replay that was done already, with what it shows.
use Rattle.std.proofs.Common.{◌≡◌, ℕ, ◌<◌, List, length, Some, Result, Ok, refl, sym, subst}
use Rattle.replay_setup.specs.Readied.{IsReady}
use Rattle.builders.specs.Ready.{Replay, Unready}
use Rattle.cue_scripts.specs.Script.{IsScript}
use Rattle.machine_model.specs.Cue.{Cue}
use Rattle.machine_model.specs.View.{System, view_of}
use Rattle.upset_files.specs.Fits.{AllFit}
use Rattle.upset_model.specs.declared.upset_line.UpsetLine.{UpsetLine}
use Rattle.xm_alone.specs.Replay.{IsReplayed, TakesAll}
use Rattle.xm_alone.specs.Shown.{ShownTick, shown_by}
use Rattle.xm_base.specs.declared.limits.TheConstants.{TICKS}
use Rattle.recording_model.specs.Lone.{Lone, booted_alone}

-- by what runs and the partition's number
record Fits (made : Result Replay Unready) (cues : List Cue) (upsets : List UpsetLine) (shown : List ShownTick) (lone : Lone) (system : System) (p : ℕ) : Type 0 where
  pub is : made ≡ Ok (record { system = system; p = p; cues = cues; upsets = upsets })
  pub there : p < length system.conf.parts
  pub received : IsScript system.conf p cues
  pub striking : AllFit system.conf TICKS 0 upsets
  pub fits : TakesAll upsets (view_of system p) cues
  pub left : IsReplayed upsets cues (booted_alone system p) lone
  pub shows : shown ≡ shown_by upsets (view_of system p) cues

-- it is the replay of the definition, and may begin
pub shown_ready : (system : System) (p : ℕ) (cues : List Cue) (upsets : List UpsetLine) (shown : List ShownTick) (lone : Lone) → p < length system.conf.parts → IsScript system.conf p cues
    → AllFit system.conf TICKS 0 upsets → TakesAll upsets (view_of system p) cues → IsReplayed upsets cues (booted_alone system p) lone → shown ≡ shown_by upsets (view_of system p) cues
    → (◌≡◌ {A = Result Replay Unready} (Ok (record { system = system; p = p; cues = cues; upsets = upsets })) (Ok (record { system = lone.system; p = lone.p; cues = cues; upsets = upsets })))
    × IsReady (Some shown) lone cues upsets
shown_ready system p cues upsets shown lone there received striking fits left shows =
    let made : Result Replay Unready = Ok (record { system = system; p = p; cues = cues; upsets = upsets }) in
    let here : Fits made cues upsets shown lone system p = record { is = refl; there = there; received = received; striking = striking; fits = fits; left = left; shows = shows } in
    let its : Fits made cues upsets shown lone lone.system lone.p =
    subst (Fits made cues upsets shown lone lone.system) (sym left.p) (subst (λ (s : System). Fits made cues upsets shown lone s p) (sym left.system) here) in
    (its.is, record { there = its.there; stands = record { left = its.left; shows = its.shows }; received = its.received; striking = its.striking; fits = its.fits })
