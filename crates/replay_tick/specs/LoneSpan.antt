-- What many ticks of one partition in isolation leave, in each of which it receives nothing but whether the slot is its own.
use Rattle.std.specs.Prelude.{◌≡◌, ℕ, ◌+◌, ◌-◌, Bool, true, false, List, [], ◌∷◌, replicate, Option}
use Rattle.xm_report.specs.Report.{ReportLine}
use Rattle.cue_scripts.specs.Entries.{bare_cue}
use Rattle.machine_model.specs.Alone.{Alone, alone_from, alone_lines, alone_said, alone_step}
use Rattle.machine_model.specs.Cue.{Cue}
use Rattle.machine_model.specs.Machine.{Machine}
use Rattle.machine_model.specs.View.{PartitionView, view_of}
use Rattle.system_state.specs.declared.served.Note.{Note}
use Rattle.replay_model.specs.Passes.{part_in}
use Rattle.replay_model.specs.Step.{IsOfSystem}
use Rattle.replay_model.specs.Taking.{takes_cue}
use Rattle.replay_tick.specs.LoneWork.{IsLoneTick}

-- a partition can take each of these cues in the state which those before it leave
abbrev pub AreTaken : PartitionView → Alone → List Cue → Type 0
AreTaken view a [] = Unit {0}
AreTaken view a (cue ∷ later) = (takes_cue view a cue ≡ true) × AreTaken view (alone_step view a cue) later

-- partition p took these cues, and printed and said nothing; the hypervisor has not halted
pub record AreSilent (p : ℕ) (cues : List Cue) (old new : Machine) : Type 0 where
  pub taken : AreTaken (view_of old.system p) (part_in old p) cues
  pub part : part_in new p ≡ alone_from (view_of old.system p) (part_in old p) cues
  pub lines : alone_lines (view_of old.system p) (part_in old p) cues ≡ []
  pub said : alone_said (view_of old.system p) (part_in old p) cues ≡ []
  pub system : IsOfSystem old new
  pub running : new.halted ≡ false

-- this many ticks of partition p, in each of which it receives nothing but whether a slot of its own runs: all but the last were silent, and
-- the last had this outcome
pub record IsLoneSpan (emitted : Option Note) (ticks p : ℕ) (own : Bool) (old new : Machine) (got : List ReportLine) : Type 0 where
  pub before : Machine
  pub silent : AreSilent p (replicate (ticks - 1) (bare_cue own)) old before
  pub counted : before.ticks ≡ old.ticks + (ticks - 1)
  pub last : IsLoneTick emitted p (bare_cue own) before new got
