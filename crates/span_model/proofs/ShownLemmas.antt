-- Ticks in which nobody is shown anything.
use Rattle.std.proofs.Common.{◌≡◌, ℕ, Bool, true, false, Option, None, Some, refl, ap, subst, ◌∙◌}
use Rattle.std.specs.Prelude.{◌==◌, if◌then◌else◌, slice_get}
use Rattle.std.proofs.lemmas.Bool.{eq-eqb, eqb-true}
use Rattle.sparc_step.specs.declared.outcome.Turn.{Turn}
use Rattle.sparc_step.specs.declared.outcome.Turn.TheVariants.{Went}
use Rattle.virt_traps.specs.Settled.{settled}
use Rattle.virt_traps.specs.Virtual.{due}
use Rattle.xm_base.specs.declared.partition.State.{State}
use Rattle.xm_base.specs.declared.partition.State.TheVariants.{Idle}
use Rattle.machine_model.specs.LocalTick.{goes_on, with_interrupts}
use Rattle.machine_model.specs.Machine as machine
use Rattle.machine_model.specs.Machine.{Machine, sight, sight_for, sight_in, sight_of_state, turn_of}
use Rattle.machine_model.specs.Observed.{Observation, asked_by, asks, if_call, unless_delivered}
use Rattle.machine_model.specs.Partition.{PartitionState, areas_of, execution_looked_at, hardware_looked_at, takes_turns}
use Rattle.machine_model.specs.Emission.{Unseen}
use Rattle.machine_model.specs.View.{PartitionView, view_of}

-- what a partition is shown, by whose slot it is
sight_by : (g : Machine) (q : ℕ) (turn : Option machine.SlotTurn) → turn_of g ≡ turn → sight g q ≡ sight_in g q turn (slice_get g.parts q)
unfolding sight
sight_by g q turn is = ap (λ (t : Option machine.SlotTurn). sight_in g q t (slice_get g.parts q)) is

-- in a gap nobody is shown anything
pub unseen_gap : (g : Machine) (q : ℕ) → turn_of g ≡ None → sight g q ≡ Unseen
unseen_gap g q gap = sight_by g q None gap

-- in a slot only its partition may be
pub unseen_slot : (g : Machine) (p q : ℕ) (first : Bool) (ps : PartitionState) → turn_of g ≡ Some (record { part = p; first = first }) → slice_get g.parts p ≡ Some ps
    → sight_of_state g p first ps ≡ Unseen → sight g q ≡ Unseen
unseen_slot g p q first ps turn there unseen = sight_by g q (Some (record { part = p; first = first })) turn ∙ at (p == q) refl
  where
    others : (o : Option PartitionState) → (p == q) ≡ false → sight_in g q (Some (record { part = p; first = first })) o ≡ Unseen
    others None other = refl
    others (Some x) other = ap (λ (b : Bool). if b then sight_of_state g q first x else Unseen) other

    at : (b : Bool) → (p == q) ≡ b → sight_in g q (Some (record { part = p; first = first })) (slice_get g.parts q) ≡ Unseen
    at true same =
        subst (λ (r : ℕ). sight_in g r (Some (record { part = p; first = first })) (slice_get g.parts r) ≡ Unseen) (eqb-true p q same)
        (ap (sight_in g p (Some (record { part = p; first = first }))) there
        ∙ ap (λ (b : Bool). if b then sight_of_state g p first ps else Unseen) (eq-eqb p p refl) ∙ unseen)
    at false other = others (slice_get g.parts q) other

-- one that takes no turns is not
pub unseen_away : (g : Machine) (p : ℕ) (first : Bool) (ps : PartitionState) → takes_turns ps.state ≡ false → sight_of_state g p first ps ≡ Unseen
unfolding sight_of_state
unseen_away g p first ps stays = ap (λ (b : Bool). if b then sight_for g (view_of g.system p) (asks (view_of g.system p) ps g.time first) else Unseen) stays

-- nor one that asks for nothing
pub unseen_unasked : (g : Machine) (p : ℕ) (first : Bool) (ps : PartitionState) → asks (view_of g.system p) ps g.time first ≡ None → sight_of_state g p first ps ≡ Unseen
unfolding sight_of_state
unseen_unasked g p first ps none =
    ap (λ (o : Option Observation). if takes_turns ps.state then sight_for g (view_of g.system p) o else Unseen) none ∙ either (takes_turns ps.state)
  where
    either : (b : Bool) → (if b then Unseen else Unseen) ≡ Unseen
    either true = refl
    either false = refl

-- an idle partition that nothing wakes asks for nothing
pub idle_unasked : (view : PartitionView) (ps s : PartitionState) (time : ℕ) → with_interrupts time false ps ≡ s → s.state ≡ Idle → due s.traps ≡ None → asks view ps time false ≡ None
unfolding asks
idle_unasked view ps s time is idle none =
    ap (λ (x : PartitionState). if goes_on x.state false (due x.traps) then unless_delivered (due x.traps) x.traps.enabled view x else None) is
    ∙ ap (λ (state : State). if goes_on state false (due s.traps) then unless_delivered (due s.traps) s.traps.enabled view s else None) idle
    ∙ ap (λ (o : Option ℕ). if goes_on Idle false o then unless_delivered (due s.traps) s.traps.enabled view s else None) none

-- nor does one whose instruction only goes
went_asks : (view : PartitionView) (ps : PartitionState) → (settled (areas_of view) ps.core ps.memory).turn ≡ Went → asked_by view ps ≡ None
unfolding asked_by
went_asks view ps went = ap (λ (t : Turn). if_call t view (settled (areas_of view) ps.core ps.memory).core) went

undelivered_none : (o : Option ℕ) (enabled : Bool) (view : PartitionView) (ps : PartitionState) → asked_by view ps ≡ None → unless_delivered o enabled view ps ≡ None
undelivered_none None enabled view ps none = none
undelivered_none (Some n) true view ps none = refl
undelivered_none (Some n) false view ps none = none

either_none : (b : Bool) (o : Option Observation) → o ≡ None → (if b then o else None) ≡ None
either_none true o none = none
either_none false o none = refl

met_went : (time : ℕ) (first : Bool) (ps : PartitionState) (view : PartitionView)
    → (settled (areas_of view) ps.core ps.memory).turn ≡ Went → (settled (areas_of view) (with_interrupts time first ps).core (with_interrupts time first ps).memory).turn ≡ Went
unfolding with_interrupts hardware_looked_at execution_looked_at
met_went time first ps view went = went

pub went_unasked : (view : PartitionView) (ps : PartitionState) (time : ℕ) (first : Bool) → (settled (areas_of view) ps.core ps.memory).turn ≡ Went → asks view ps time first ≡ None
unfolding asks
went_unasked view ps time first went =
    either_none (goes_on (with_interrupts time first ps).state first (due (with_interrupts time first ps).traps)) _
    (undelivered_none (due (with_interrupts time first ps).traps) (with_interrupts time first ps).traps.enabled view (with_interrupts time first ps)
    (went_asks view (with_interrupts time first ps) (met_went time first ps view went)))
