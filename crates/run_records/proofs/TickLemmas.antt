-- The ticks of a run as a partition finds them.
use Rattle.std.proofs.Common.{◌≡◌, ℕ, zero, suc, ◌+◌, Bool, true, false, List, [], ◌∷◌, ◌++◌, Option, None, Some, refl, sym, ap, ◌∙◌, append_assoc}
use Rattle.std.specs.Prelude.{slice_get, if◌then◌else◌}
use Rattle.std.proofs.Math.Nat.{suc-add, zero-add}
use Rattle.std.proofs.lemmas.Option.{same_Some}
use Rattle.xm_base.specs.Options.{on}
use Rattle.virt_traps.specs.Virtual.{due}
use Rattle.machine_model.specs.Alone.{Alone, alone_local, alone_local_in, alone_step}
use Rattle.machine_model.specs.Cue.{Away, Cue, CueSlot, Mine, cue, script_unless}
use Rattle.machine_model.specs.Facts.{KeepsNumbers}
use Rattle.machine_model.specs.Laws.{alone_part_at, part}
use Rattle.machine_model.specs.LocalTick.{goes_on, local_tick, seen_outside, with_interrupts, worked, worked_if}
use Rattle.machine_model.specs.Machine.{Machine, step}
use Rattle.machine_model.specs.Partition.{PartitionState, takes_turns}
use Rattle.machine_model.specs.View.{PartitionView, view_of}
use Rattle.upset_model.specs.Upsets.{Schedule, Upset, alone_struck, later, own_strikes, ready, strikes_on, upset_run, upset_script}
use Rattle.upset_model.specs.lemmas.Segments.{from, from_at, ready_system, upset_run_halted}
use Rattle.continuation_laws.specs.Continued.{from_tick}
use Rattle.upset_laws.specs.UpsetLaws.{OneUpsetTick, UpsetTicksAlone}
use Rattle.run_records.specs.Doing.{Rests, DoesItsWork, doing, doing_by, doing_here, doing_in_slot, local_doing, local_with, work_of}
use Rattle.run_records.specs.OwnTicks.{FindsTicksAlone, FindsTicksInPieces, alone_ticks, own_tick, own_ticks, tick_of_part, ticks_unless}

-- what was done, by what decides it
work_by : (goes : Bool) (interrupt : Option ℕ) (enabled : Bool) (view : PartitionView) (ps : PartitionState) (a : Alone) (cue : Cue) → due ps.traps ≡ interrupt → ps.traps.enabled ≡ enabled
    → worked_if goes view a.copies a.time cue.seen ps ≡ work_of (doing_by goes interrupt enabled) view a.copies a.time cue.seen ps
work_by false interrupt enabled view ps a cue is also = refl
work_by true None enabled view ps a cue is also = rw is refl
work_by true (Some n) true view ps a cue is also = rw (is, also) refl
work_by true (Some n) false view ps a cue is also = rw (is, also) refl

work_is : (first : Bool) (view : PartitionView) (a : Alone) (cue : Cue)
    → worked view a.copies a.time first cue.seen a.state ≡ work_of (doing_in_slot a.time first a.state) view a.copies a.time cue.seen (with_interrupts a.time first a.state)
unfolding worked doing_in_slot
work_is first view a cue =
    let ready : PartitionState = with_interrupts a.time first a.state in
    work_by (goes_on ready.state first (due ready.traps)) (due ready.traps) ready.traps.enabled view ready a cue refl refl

-- the local tick in the partition's own slot
local_is : (first : Bool) (view : PartitionView) (a : Alone) (cue : Cue) → local_tick view a.state a.copies a.ticks a.time first cue.seen ≡ local_doing (doing_in_slot a.time first a.state) first view a cue
unfolding local_tick local_doing
local_is first view a cue = ap (seen_outside view a.ticks) (work_is first view a cue)

pub does_its_work : DoesItsWork
unfolding alone_local doing
does_its_work view a cue = by cue.mine
  where
    turn : (first takes : Bool)
        → (if takes then Some (local_tick view a.state a.copies a.ticks a.time first cue.seen) else None)
        ≡ (if takes then Some (local_doing (if takes then doing_in_slot a.time first a.state else Rests) first view a cue) else None)
    turn first true = ap Some (local_is first view a cue)
    turn first false = refl

    by : (mine : CueSlot) → alone_local_in mine view a cue.seen ≡ local_with mine (doing_here mine a) view a cue
    by Away = refl
    by (Mine first) = turn first (takes_turns a.state.state)

-- a partition's part of a machine
part_of : (g : Machine) (p : ℕ) (a : Alone) (o : Option PartitionState) → on (part g p) o ≡ Some a → (o ≡ Some a.state) × (part g p a.state ≡ a)
unfolding part
part_of g p a None is = absurd cc
part_of g p a (Some ps) is = (
  ap (λ (b : Alone). Some b.state) (same_Some (part g p ps) a is),
  ap (λ (b : Alone). part g p b.state) (sym (same_Some (part g p ps) a is)) ∙ same_Some (part g p ps) a is,
)

pub part_there : (g : Machine) (p : ℕ) (a : Alone) → alone_part_at g p ≡ Some a → (slice_get g.parts p ≡ Some a.state) × (part g p a.state ≡ a)
unfolding alone_part_at
part_there g p a is = part_of g p a (slice_get g.parts p) is

-- one tick with upsets, from a partition's part of the machine
pub record TickFrom (us : List Upset) (g : Machine) (p : ℕ) (a : Alone) : Type 0 where
  pub before : alone_part_at (ready us g) p ≡ Some (alone_struck (strikes_on p us) a)
  pub after : alone_part_at (step (ready us g)) p ≡ Some (alone_step (view_of g.system p) (alone_struck (strikes_on p us) a) (cue (ready us g) p))

pub tick_from : OneUpsetTick → (us : List Upset) (g : Machine) (p : ℕ) (a : Alone) → g.halted ≡ false → alone_part_at g p ≡ Some a → TickFrom us g p a
tick_from law us g p a runs is =
    let there = part_there g p a is in
    let ticks : UpsetTicksAlone us g p a.state = law us g p a.state runs there.0 in
    record {
      before = ticks.before ∙ ap (λ (b : Alone). Some (alone_struck (strikes_on p us) b)) there.1;
      after = ticks.state ∙ ap (λ (b : Alone). Some (alone_step (view_of g.system p) (alone_struck (strikes_on p us) b) (cue (ready us g) p))) there.1;
    }

-- what a tick leaves of the system that runs
pub same_system : KeepsNumbers → (us : List Upset) (g : Machine) → (step (ready us g)).system ≡ g.system
same_system keeps us g = (keeps (ready us g)).system ∙ ready_system us g

own_tick_is : (us : List Upset) (g : Machine) (p : ℕ) (a : Alone) → TickFrom us g p a
    → own_tick (ready us g) p ≡ record { found = alone_struck (strikes_on p us) a; cue = cue (ready us g) p } ∷ []
unfolding own_tick
own_tick_is us g p a ticks = ap (λ o. tick_of_part o (cue (ready us g) p)) ticks.before

pub finds_ticks_alone : OneUpsetTick → KeepsNumbers → FindsTicksAlone
finds_ticks_alone law keeps zero s g p a is = refl
finds_ticks_alone law keeps (suc count) s g p a is = by g.halted refl (finds_ticks_alone law keeps count (later s) (step (ready (s 0) g)) p)
  where
    by : (b : Bool) → g.halted ≡ b
        → ((next : Alone) → alone_part_at (step (ready (s 0) g)) p ≡ Some next → own_ticks (later s) (step (ready (s 0) g)) p count
        ≡ alone_ticks (view_of (step (ready (s 0) g)).system p) (own_strikes p (later s)) next (upset_script (later s) (step (ready (s 0) g)) p count))
        → ticks_unless b (own_tick (ready (s 0) g) p ++ own_ticks (later s) (step (ready (s 0) g)) p count)
        ≡ alone_ticks (view_of g.system p) (own_strikes p s) a (script_unless b (cue (ready (s 0) g) p) (upset_script (later s) (step (ready (s 0) g)) p count))
    by true halts more = refl
    by false runs more =
        let ticks : TickFrom (s 0) g p a = tick_from law (s 0) g p a runs is in
        let next : Alone = alone_step (view_of g.system p) (alone_struck (own_strikes p s 0) a) (cue (ready (s 0) g) p) in
        ap (λ first. first ++ own_ticks (later s) (step (ready (s 0) g)) p count) (own_tick_is (s 0) g p a ticks)
        ∙ ap (λ rest. record { found = alone_struck (own_strikes p s 0) a; cue = cue (ready (s 0) g) p } ∷ rest)
        (more next ticks.after
        ∙ ap (λ system. alone_ticks (view_of system p) (own_strikes p (later s)) next (upset_script (later s) (step (ready (s 0) g)) p count)) (same_system keeps (s 0) g))

ticks_halted : (count : ℕ) (s : Schedule) (g : Machine) (p : ℕ) → g.halted ≡ true → own_ticks s g p count ≡ []
ticks_halted zero s g p halts = refl
ticks_halted (suc count) s g p halts = ap (λ b. ticks_unless b (own_tick (ready (s 0) g) p ++ own_ticks (later s) (step (ready (s 0) g)) p count)) halts

-- what comes after a number of ticks, in both words
pub from_same : {X : Type 0} (done : ℕ) (f : ℕ → X) → from done f ≡ from_tick done f
from_same done f = λ i k. from_at done k f i

own_ticks_add : (j k : ℕ) (s : Schedule) (g : Machine) (p : ℕ) → own_ticks s g p (j + k) ≡ own_ticks s g p j ++ own_ticks (from j s) (upset_run s g j) p k
own_ticks_add zero k s g p = ap (own_ticks s g p) (zero-add k)
own_ticks_add (suc j) k s g p = ap (own_ticks s g p) (suc-add j k) ∙ by g.halted refl (own_ticks_add j k (later s) (step (ready (s 0) g)) p)
  where
    by : (b : Bool) → g.halted ≡ b
        → own_ticks (later s) (step (ready (s 0) g)) p (j + k)
        ≡ own_ticks (later s) (step (ready (s 0) g)) p j ++ own_ticks (from (suc j) s) (upset_run s g (suc j)) p k
        → ticks_unless b (own_tick (ready (s 0) g) p ++ own_ticks (later s) (step (ready (s 0) g)) p (j + k))
        ≡ ticks_unless b (own_tick (ready (s 0) g) p ++ own_ticks (later s) (step (ready (s 0) g)) p j) ++ own_ticks (from (suc j) s) (upset_run s g (suc j)) p k
    by true halts more = sym (ticks_halted k (from (suc j) s) (upset_run s g (suc j)) p (ap (λ (m : Machine). m.halted) (upset_run_halted (suc j) s g halts) ∙ halts))
    by false runs more =
        ap (λ rest. own_tick (ready (s 0) g) p ++ rest) more
        ∙ sym (append_assoc (own_tick (ready (s 0) g) p) (own_ticks (later s) (step (ready (s 0) g)) p j) (own_ticks (from (suc j) s) (upset_run s g (suc j)) p k))

pub finds_ticks_in_pieces : FindsTicksInPieces
finds_ticks_in_pieces j k s g p = own_ticks_add j k s g p ∙ ap (λ (rest : Schedule). own_ticks s g p j ++ own_ticks rest (upset_run s g j) p k) (from_same j s)

-- the system is the same after any number of ticks
abbrev pub KeepsRuns : Type 0
KeepsRuns = (count : ℕ) (s : Schedule) (g : Machine) → (upset_run s g count).system ≡ g.system

pub keeps_runs : KeepsNumbers → KeepsRuns
keeps_runs keeps zero s g = refl
keeps_runs keeps (suc count) s g = keeps_runs keeps count (later s) (step (ready (s 0) g)) ∙ same_system keeps (s 0) g
