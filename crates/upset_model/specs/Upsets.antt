-- Upsets: something strikes one partition's state before a tick, as a bit that flips in orbit; and runs in which that happens.
use Rattle.std.specs.Prelude.{ℕ, zero, suc, ◌==◌, Bool, true, false, if◌then◌else◌, List, [], ◌∷◌, ◌++◌}
use Rattle.xm_report.specs.Report.{ReportLine}
use Rattle.machine_model.specs.Alone.{Alone, alone_step, alone_step_lines, alone_step_said}
use Rattle.machine_model.specs.Cue.{Cue, cue, script_unless}
use Rattle.machine_model.specs.Lines.{step_lines, step_said}
use Rattle.machine_model.specs.Lists.{each}
use Rattle.machine_model.specs.Machine.{Machine, step}
use Rattle.machine_model.specs.Partition.{PartitionState}
use Rattle.machine_model.specs.View.{PartitionView}

-- what an upset makes of a partition's state
abbrev pub Strike : Type 0
Strike = PartitionState → PartitionState

-- an upset: the partition that it strikes, and what it makes of its state
pub record Upset : Type 0 where
  pub part : ℕ
  pub strike : Strike

abbrev pub struck_if : Bool → Strike → PartitionState → PartitionState
struck_if true strike ps = strike ps
struck_if false strike ps = ps

-- the machine after an upset
unfoldable pub upset : Upset → Machine → Machine
upset u g = record g { parts = each (λ p ps. struck_if (u.part == p) u.strike ps) g.parts }

-- the machine after these upsets, one after the other
abbrev pub upsets : List Upset → Machine → Machine
upsets [] g = g
upsets (u ∷ us) g = upsets us (upset u g)

-- the machine as a tick finds it: the tick's upsets have struck, unless the hypervisor has halted
abbrev pub ready_unless : Bool → List Upset → Machine → Machine
ready_unless true us g = g
ready_unless false us g = upsets us g

unfoldable pub ready : List Upset → Machine → Machine
ready us g = ready_unless g.halted us g

-- the upsets before each tick, by the ticks that are done
abbrev pub Schedule : Type 0
Schedule = ℕ → List Upset

abbrev pub later : {X : Type 0} → (ℕ → X) → ℕ → X
later s k = s (suc k)

-- this many ticks with upsets: the machine after them, its lines, and the bytes that partition p writes to its console
abbrev pub upset_run : Schedule → Machine → ℕ → Machine
upset_run s g zero = g
upset_run s g (suc count) = upset_run (later s) (step (ready (s 0) g)) count

abbrev pub upset_lines : Schedule → Machine → ℕ → List ReportLine
upset_lines s g zero = []
upset_lines s g (suc count) = step_lines (ready (s 0) g) ++ upset_lines (later s) (step (ready (s 0) g)) count

abbrev pub upset_said : Schedule → Machine → ℕ → ℕ → List ℕ
upset_said s g zero p = []
upset_said s g (suc count) p = step_said (ready (s 0) g) p ++ upset_said (later s) (step (ready (s 0) g)) count p

-- what partition p receives in them
abbrev pub upset_script : Schedule → Machine → ℕ → ℕ → List Cue
upset_script s g p zero = []
upset_script s g p (suc count) = script_unless g.halted (cue (ready (s 0) g) p) (upset_script (later s) (step (ready (s 0) g)) p count)

-- what strikes partition p, of these upsets
abbrev pub strikes_on : ℕ → List Upset → List Strike
strikes_on p [] = []
strikes_on p (u ∷ us) = if u.part == p then u.strike ∷ strikes_on p us else strikes_on p us

-- what strikes it before each tick
abbrev pub own_strikes : ℕ → Schedule → ℕ → List Strike
own_strikes p s k = strikes_on p (s k)

-- a partition that these things have struck
abbrev pub struck : List Strike → PartitionState → PartitionState
struck [] ps = ps
struck (strike ∷ strikes) ps = struck strikes (strike ps)

unfoldable pub alone_struck : List Strike → Alone → Alone
alone_struck strikes a = record a { state = struck strikes a.state }

-- the ticks of a script of one partition alone, with its own upsets: its state, its lines and its console bytes
abbrev pub alone_upset_from : PartitionView → (ℕ → List Strike) → Alone → List Cue → Alone
alone_upset_from view own a [] = a
alone_upset_from view own a (cue ∷ cues) = alone_upset_from view (later own) (alone_step view (alone_struck (own 0) a) cue) cues

abbrev pub alone_upset_lines : PartitionView → (ℕ → List Strike) → Alone → List Cue → List ReportLine
alone_upset_lines view own a [] = []
alone_upset_lines view own a (cue ∷ cues) =
    alone_step_lines view (alone_struck (own 0) a) cue ++ alone_upset_lines view (later own) (alone_step view (alone_struck (own 0) a) cue) cues

abbrev pub alone_upset_said : PartitionView → (ℕ → List Strike) → Alone → List Cue → List ℕ
alone_upset_said view own a [] = []
alone_upset_said view own a (cue ∷ cues) =
    alone_step_said view (alone_struck (own 0) a) cue ++ alone_upset_said view (later own) (alone_step view (alone_struck (own 0) a) cue) cues

-- no upsets
abbrev pub no_upsets : Schedule
no_upsets k = []
