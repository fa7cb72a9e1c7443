-- Spans: ticks of one slot or gap, where each partition receives nothing before the last of them but whether a slot of its own runs.
use Rattle.std.specs.Prelude.{◌≡◌, ℕ, ◌-◌, ◌<◌, ◌≤◌, List, [], ◌∷◌, ◌++◌, length, not, replicate, Option, Result, Ok, Err}
use Rattle.xm_outside.specs.Growth.{grown}
use Rattle.xm_report.specs.Report.{texts}
use Rattle.xm_report.specs.declared.output.WriteFault.{WriteFault}
use Rattle.machine_model.specs.Cue.{Cue, script}
use Rattle.machine_model.specs.Lines.{lines}
use Rattle.machine_model.specs.Machine.{Machine, run}
use Rattle.cue_scripts.specs.Entries.{bare_cue, is_away}
use Rattle.cue_scripts.specs.Kept.{HasCueRanges}
use Rattle.xm_machine.specs.Cues.{last_received}
use Rattle.xm_machine.specs.Machine.{Meaning}
use Rattle.xm_machine.specs.Steps.{IsStepCut}

-- this many ticks were done, at least one and no more than were asked, and their lines went out
pub record IsSpanned (done most : ℕ) (old new : Machine) (had got : Option (List ℕ)) : Type 0 where
  pub some : 0 < done
  pub within : done ≤ most
  pub state : new ≡ run old done
  pub report : got ≡ grown had (texts (lines old done))

-- what a span of at most this many ticks returns
abbrev pub Spans : Result ℕ WriteFault → ℕ → Machine → Machine → Option (List ℕ) → Option (List ℕ) → Type 0
Spans (Ok done) most old new had got = IsSpanned done most old new had got
Spans (Err fault) most old new had got = IsStepCut most old new had got

-- what a partition receives in a span of this many ticks: in the last of them this cue, and in each one before it nothing but whether a
-- slot of its own runs, which is as in the last
abbrev pub span_cues : ℕ → Cue → List Cue
span_cues ticks last = replicate (ticks - 1) (bare_cue (not (is_away last.mine))) ++ last ∷ []

-- so it is for each partition, in this many ticks from one state to another
abbrev pub ReceiveSpan : ℕ → Meaning → Meaning → Type 0
ReceiveSpan ticks old new = (p : ℕ) → p < length old.state.parts → script old.state p ticks ≡ span_cues ticks (last_received new p)

-- the lengths in what each partition received last are in the ranges of a script's fields
abbrev pub ReceivesInRanges : Meaning → Type 0
ReceivesInRanges machine = (p : ℕ) → HasCueRanges (last_received machine p)
