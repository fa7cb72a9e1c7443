-- The ticks of a run as one partition finds them: all that is recorded of a partition is taken from these, in a run of the machine and in isolation.
use Rattle.std.specs.Prelude.{◌≡◌, ℕ, ◌+◌, zero, suc, Bool, true, false, List, [], ◌∷◌, ◌++◌, Option, Some, None}
use Rattle.machine_model.specs.Alone.{Alone, alone_step}
use Rattle.machine_model.specs.Cue.{Cue, cue}
use Rattle.machine_model.specs.Laws.{alone_part_at}
use Rattle.machine_model.specs.Machine.{Machine, step}
use Rattle.machine_model.specs.View.{PartitionView, view_of}
use Rattle.upset_model.specs.Upsets.{Schedule, Strike, alone_struck, later, own_strikes, ready, upset_run, upset_script}
use Rattle.continuation_laws.specs.Continued.{from_tick}

-- a tick as a partition finds it: its part of the machine, struck by its upsets before the tick, and what it receives
pub record OwnTick : Type 0 where
  pub found : Alone
  pub cue : Cue

-- the ticks of a script of one partition alone, with its own upsets
abbrev pub alone_ticks : PartitionView → (ℕ → List Strike) → Alone → List Cue → List OwnTick
alone_ticks view own a [] = []
alone_ticks view own a (cue ∷ cues) =
    record { found = alone_struck (own 0) a; cue = cue } ∷ alone_ticks view (later own) (alone_step view (alone_struck (own 0) a) cue) cues

-- the tick of a partition that is there
abbrev pub tick_of_part : Option Alone → Cue → List OwnTick
tick_of_part None cue = []
tick_of_part (Some a) cue = record { found = a; cue = cue } ∷ []

-- the tick to which the machine comes, as partition p finds it
unfoldable pub own_tick : Machine → ℕ → List OwnTick
own_tick g p = tick_of_part (alone_part_at g p) (cue g p)

-- there are no more ticks once the hypervisor has halted
abbrev pub ticks_unless : Bool → List OwnTick → List OwnTick
ticks_unless true ticks = []
ticks_unless false ticks = ticks

-- this many ticks with upsets, as partition p finds them
abbrev pub own_ticks : Schedule → Machine → ℕ → ℕ → List OwnTick
own_ticks s g p zero = []
own_ticks s g p (suc count) = ticks_unless g.halted (own_tick (ready (s 0) g) p ++ own_ticks (later s) (step (ready (s 0) g)) p count)

-- the ticks that a partition finds in a run of the machine are those that it finds alone, under its script and with its own upsets
abbrev pub FindsTicksAlone : Type 0
FindsTicksAlone = (count : ℕ) (s : Schedule) (g : Machine) (p : ℕ) (a : Alone) → alone_part_at g p ≡ Some a
    → own_ticks s g p count ≡ alone_ticks (view_of g.system p) (own_strikes p s) a (upset_script s g p count)

-- more ticks are the first of them, and then those after them
abbrev pub FindsTicksInPieces : Type 0
FindsTicksInPieces = (j k : ℕ) (s : Schedule) (g : Machine) (p : ℕ) → own_ticks s g p (j + k) ≡ own_ticks s g p j ++ own_ticks (from_tick j s) (upset_run s g j) p k
