-- What an observing call is shown: the question is of another partition or of the system, so that it can be answered after the call's instruction.
use Rattle.std.proofs.Common.{◌≡◌, ◌≢◌, ◌⊎◌, inl, inr, ℕ, Bool, true, false, Option, None, Some, refl, sym, ap, ◌∙◌}
use Rattle.std.specs.Prelude.{◌==◌, ◌||◌, ◌&&◌, not, nat_lt, if◌then◌else◌, slice_get}
use Rattle.std.proofs.lemmas.Bool.{eq-eqb}
use Rattle.guest_bus.specs.Memory.{Memory, all_from, is_writable}
use Rattle.sparc_step.specs.Registers.{Registers, register_at}
use Rattle.sparc_step.specs.declared.outcome.Turn.{Turn}
use Rattle.sparc_step.specs.declared.outcome.Turn.TheVariants.{Call, Trap}
use Rattle.virt_traps.specs.Settled.{settled}
use Rattle.virt_traps.specs.Virtual.{due}
use Rattle.xm_base.specs.declared.partition.State.{State}
use Rattle.xm_base.specs.declared.partition.State.TheVariants.{Ready, Idle, Suspended, Halted}
use Rattle.machine_model.specs.Lists.{then_some}
use Rattle.machine_model.specs.LocalTick.{goes_on, with_interrupts}
use Rattle.machine_model.specs.Machine.{Machine, answer_to, sight, sight_for, sight_in, sight_of_state, turn_of, with_room}
use Rattle.machine_model.specs.Observed.{CurrentPlan, HealthCounts, HealthEntryOf, Observation, PartitionStatus, PlanStatus, Question, SystemStatus, TraceCounts, TraceEntryOf, about_other, about_system, asked_by, asks, if_call, observed_by, observing, unless_delivered}
use Rattle.machine_model.specs.Partition.{PartitionState, areas_of, execution_looked_at, hardware_looked_at, takes_turns}
use Rattle.machine_model.specs.Emission.{Sight, Unseen}
use Rattle.machine_model.specs.View.{PartitionView, view_of}
use Rattle.span_model.specs.Meeting.{NoDelivery}
use Rattle.span_model.specs.Passes.{with_part}
use Rattle.tick_steps.specs.lemmas.ListLemmas.{get_other}

-- what is shown is the same on two machines, where the partition asks
abbrev ShowsAlike : Machine → Machine → PartitionView → Option Observation → Type 0
ShowsAlike g m view asked = sight_for g view asked ≡ sight_for m view asked

-- the question of a call is answered alike
answered_alike : (g m : Machine) (view : PartitionView) (call : Observation) → answer_to g call.question ≡ answer_to m call.question → ShowsAlike g m view (Some call)
answered_alike g m view call same = ap (λ (s : Sight). with_room (all_from (is_writable (areas_of view)) call.address call.size) s) same

-- one of two questions
chosen : (g m : Machine) (view : PartitionView) (t : Bool) (x y : Option Observation) → ShowsAlike g m view x → ShowsAlike g m view y
    → ShowsAlike g m view (if t then x else y)
chosen g m view true x y first second = first
chosen g m view false x y first second = second

-- a question about another partition, on a machine in which only one's own state differs
other_alike : (g : Machine) (view : PartitionView) (new : PartitionState) (id : ℕ) (question : Question) (address size : ℕ)
    → (id ≢ view.id → answer_to g question ≡ answer_to (with_part view.id new g) question)
    → ShowsAlike g (with_part view.id new g) view (about_other view id question address size)
other_alike g view new id question address size same = at (id == view.id) refl (nat_lt id view.sees.parts)
  where
    at : (own : Bool) → (id == view.id) ≡ own → (there : Bool)
        → ShowsAlike g (with_part view.id new g) view (then_some (not own && there) (record { question = question; address = address; size = size }))
    at true is there = refl
    at false is true = answered_alike g (with_part view.id new g) view (record { question = question; address = address; size = size }) (same (λ e. no (sym is ∙ eq-eqb id view.id e)))
      where
        no : false ≡ true → ⊥
        no e = cc
    at false is false = refl

-- the question of each observing call
observing_alike : (g : Machine) (view : PartitionView) (new : PartitionState) (number a b c : ℕ)
    → ShowsAlike g (with_part view.id new g) view (observing view number a b c)
observing_alike g view new number a b c =
    chosen g m view (number == 8) (about_other view a (PartitionStatus a) b 20) _ (other_alike g view new a (PartitionStatus a) b 20 (λ apart. rw (get_other g.parts view.id a new apart) refl))
    (chosen g m view (number == 11) (about_system SystemStatus a 8) _ refl
    (chosen g m view (number == 14) (if a == 0 || not (nat_lt a view.sees.plans) then None else about_system CurrentPlan b 4) _
    (chosen g m view (a == 0 || not (nat_lt a view.sees.plans)) None (about_system CurrentPlan b 4) refl refl)
    (chosen g m view (number == 15) (about_system PlanStatus a 20) _ refl
    (chosen g m view (number == 25) (about_other view a (TraceEntryOf a b) c 24) _ (other_alike g view new a (TraceEntryOf a b) c 24 (λ apart. rw (get_other g.parts view.id a new apart) refl))
    (chosen g m view (number == 26) (about_other view a (TraceCounts a) b 8) _ (other_alike g view new a (TraceCounts a) b 8 (λ apart. rw (get_other g.parts view.id a new apart) refl))
    (chosen g m view (number == 28) (about_other view a (HealthEntryOf a b) c 20) _ (other_alike g view new a (HealthEntryOf a b) c 20 (λ apart. rw (get_other g.parts view.id a new apart) refl))
    (chosen g m view (number == 29) (about_other view a (HealthCounts a) b 8) None (other_alike g view new a (HealthCounts a) b 8 (λ apart. rw (get_other g.parts view.id a new apart) refl))
    refl)))))))
  where
    m : Machine
    m = with_part view.id new g

-- what a partition with these registers asks for
observed_alike : (g : Machine) (view : PartitionView) (new : PartitionState) (core : Registers)
    → ShowsAlike g (with_part view.id new g) view (observed_by view core)
observed_alike g view new core =
    chosen g (with_part view.id new g) view view.part.system (observing view (register_at core 8) (register_at core 9) (register_at core 10) (register_at core 11)) None
    (observing_alike g view new (register_at core 8) (register_at core 9) (register_at core 10) (register_at core 11)) refl

-- a partition's view has its number
view_id : (g : Machine) (p : ℕ) → (view_of g.system p).id ≡ p
unfolding view_of
view_id g p = refl

-- so what partition p is shown is the same, whatever its own state
pub sight_stays : (g : Machine) (p : ℕ) (new : PartitionState) (core : Registers)
    → sight_for g (view_of g.system p) (observed_by (view_of g.system p) core) ≡ sight_for (with_part p new g) (view_of g.system p) (observed_by (view_of g.system p) core)
sight_stays g p new core =
    observed_alike g (view_of g.system p) new core
    ∙ ap (λ (q : ℕ). sight_for (with_part q new g) (view_of g.system p) (observed_by (view_of g.system p) core)) (view_id g p)

-- the interrupts of a tick leave registers and memory
pub met_core : (time : ℕ) (first : Bool) (ps : PartitionState) → (with_interrupts time first ps).core ≡ ps.core
unfolding with_interrupts hardware_looked_at execution_looked_at
met_core time first ps = refl

pub met_memory : (time : ℕ) (first : Bool) (ps : PartitionState) → (with_interrupts time first ps).memory ≡ ps.memory
unfolding with_interrupts hardware_looked_at execution_looked_at
met_memory time first ps = refl

pub met_state : (time : ℕ) (first : Bool) (ps : PartitionState) → (with_interrupts time first ps).state ≡ ps.state
unfolding with_interrupts hardware_looked_at execution_looked_at
met_state time first ps = refl

-- one that goes on takes its turn
goes_takes : (state : State) (first : Bool) (interrupt : Option ℕ) → goes_on state first interrupt ≡ true → takes_turns state ≡ true
goes_takes Ready first interrupt goes = refl
goes_takes Idle first interrupt goes = refl
goes_takes Suspended first interrupt goes = absurd cc
goes_takes Halted first interrupt goes = absurd cc

-- where nothing is delivered an instruction asks
undelivered_asks : (interrupt : Option ℕ) (enabled : Bool) (view : PartitionView) (ps : PartitionState) → (interrupt ≡ None) ⊎ (enabled ≡ false)
    → unless_delivered interrupt enabled view ps ≡ asked_by view ps
undelivered_asks None enabled view ps none = refl
undelivered_asks (Some n) true view ps (inl none) = absurd cc
undelivered_asks (Some n) true view ps (inr none) = absurd cc
undelivered_asks (Some n) false view ps none = refl

-- what an instruction asks that calls
call_asks : (view : PartitionView) (ps : PartitionState) (core : Registers) (memory : Memory) → ps.core ≡ core → ps.memory ≡ memory
    → (settled (areas_of view) core memory).turn ≡ Call → asked_by view ps ≡ observed_by view (settled (areas_of view) core memory).core
unfolding asked_by
call_asks view ps core memory same_core same_memory calls =
    ap (λ (c : Registers). if_call (settled (areas_of view) c ps.memory).turn view (settled (areas_of view) c ps.memory).core) same_core
    ∙ ap (λ (bytes : Memory). if_call (settled (areas_of view) core bytes).turn view (settled (areas_of view) core bytes).core) same_memory
    ∙ ap (λ (t : Turn). if_call t view (settled (areas_of view) core memory).core) calls

-- what the partition of the slot is shown whose instruction calls
pub sight_is : (g : Machine) (p : ℕ) (first : Bool) (ps new : PartitionState) (core : Registers) (memory : Memory) → turn_of g ≡ Some (record { part = p; first = first })
    → slice_get g.parts p ≡ Some ps → goes_on (with_interrupts g.time first ps).state first (due (with_interrupts g.time first ps).traps) ≡ true
    → NoDelivery (with_interrupts g.time first ps).traps → (with_interrupts g.time first ps).core ≡ core → (with_interrupts g.time first ps).memory ≡ memory
    → (settled (areas_of (view_of g.system p)) core memory).turn ≡ Call
    → sight g p ≡ sight_for (with_part p new g) (view_of g.system p) (observed_by (view_of g.system p) (settled (areas_of (view_of g.system p)) core memory).core)
unfolding sight sight_of_state asks
sight_is g p first ps new core memory turn there goes undelivered same_core same_memory calls =
    ap (λ t. sight_in g p t (slice_get g.parts p)) turn
    ∙ ap (sight_in g p (Some (record { part = p; first = first }))) there
    ∙ ap (λ (own : Bool). if own then sight_of_state g p first ps else Unseen) (eq-eqb p p refl)
    ∙ ap (λ (takes : Bool). if takes then sight_for g (view_of g.system p) (asks (view_of g.system p) ps g.time first) else Unseen)
    (ap takes_turns (sym (met_state g.time first ps)) ∙ goes_takes (with_interrupts g.time first ps).state first (due (with_interrupts g.time first ps).traps) goes)
    ∙ ap (λ (on : Bool). sight_for g (view_of g.system p) (if on then unless_delivered (due (with_interrupts g.time first ps).traps) (with_interrupts g.time first ps).traps.enabled (view_of g.system p) (with_interrupts g.time first ps) else None)) goes
    ∙ ap (sight_for g (view_of g.system p))
    (undelivered_asks (due (with_interrupts g.time first ps).traps) (with_interrupts g.time first ps).traps.enabled (view_of g.system p) (with_interrupts g.time first ps) undelivered
    ∙ call_asks (view_of g.system p) (with_interrupts g.time first ps) core memory same_core same_memory calls)
    ∙ sight_stays g p new (settled (areas_of (view_of g.system p)) core memory).core

-- one that asks for nothing is shown nothing
unasked_state : (g : Machine) (p : ℕ) (first : Bool) (ps : PartitionState) → asks (view_of g.system p) ps g.time first ≡ None → sight_of_state g p first ps ≡ Unseen
unfolding sight_of_state
unasked_state g p first ps none =
    ap (λ (o : Option Observation). if takes_turns ps.state then sight_for g (view_of g.system p) o else Unseen) none ∙ either (takes_turns ps.state)
  where
    either : (b : Bool) → (if b then Unseen else Unseen) ≡ Unseen
    either true = refl
    either false = refl

unasked : (g : Machine) (p : ℕ) (first : Bool) (ps : PartitionState) → turn_of g ≡ Some (record { part = p; first = first }) → slice_get g.parts p ≡ Some ps
    → asks (view_of g.system p) ps g.time first ≡ None → sight g p ≡ Unseen
unfolding sight
unasked g p first ps turn there none =
    ap (λ t. sight_in g p t (slice_get g.parts p)) turn
    ∙ ap (sight_in g p (Some (record { part = p; first = first }))) there
    ∙ ap (λ (own : Bool). if own then sight_of_state g p first ps else Unseen) (eq-eqb p p refl)
    ∙ unasked_state g p first ps none

either_none : (b : Bool) (o : Option Observation) → o ≡ None → (if b then o else None) ≡ None
either_none true o none = none
either_none false o none = refl

-- one that takes an interrupt is shown nothing
delivered_unasked : (view : PartitionView) (ps : PartitionState) (time n : ℕ) (first : Bool) → due (with_interrupts time first ps).traps ≡ Some n
    → (with_interrupts time first ps).traps.enabled ≡ true → asks view ps time first ≡ None
unfolding asks
delivered_unasked view ps time n first waits enabled =
    either_none (goes_on (with_interrupts time first ps).state first (due (with_interrupts time first ps).traps)) _
    (ap (λ o. unless_delivered o (with_interrupts time first ps).traps.enabled view (with_interrupts time first ps)) waits
    ∙ ap (λ (b : Bool). unless_delivered (Some n) b view (with_interrupts time first ps)) enabled)

pub delivered_unseen : (g : Machine) (p : ℕ) (first : Bool) (ps : PartitionState) (n : ℕ) → turn_of g ≡ Some (record { part = p; first = first }) → slice_get g.parts p ≡ Some ps
    → due (with_interrupts g.time first ps).traps ≡ Some n → (with_interrupts g.time first ps).traps.enabled ≡ true → sight g p ≡ Unseen
delivered_unseen g p first ps n turn there waits enabled = unasked g p first ps turn there (delivered_unasked (view_of g.system p) ps g.time n first waits enabled)

-- nor is one whose instruction traps
trap_asks : (view : PartitionView) (ps : PartitionState) (core : Registers) (memory : Memory) (type : ℕ) → ps.core ≡ core → ps.memory ≡ memory
    → (settled (areas_of view) core memory).turn ≡ Trap type → asked_by view ps ≡ None
unfolding asked_by
trap_asks view ps core memory type same_core same_memory traps =
    ap (λ (c : Registers). if_call (settled (areas_of view) c ps.memory).turn view (settled (areas_of view) c ps.memory).core) same_core
    ∙ ap (λ (bytes : Memory). if_call (settled (areas_of view) core bytes).turn view (settled (areas_of view) core bytes).core) same_memory
    ∙ ap (λ (t : Turn). if_call t view (settled (areas_of view) core memory).core) traps

undelivered_none : (o : Option ℕ) (enabled : Bool) (view : PartitionView) (ps : PartitionState) → asked_by view ps ≡ None → unless_delivered o enabled view ps ≡ None
undelivered_none None enabled view ps none = none
undelivered_none (Some n) true view ps none = refl
undelivered_none (Some n) false view ps none = none

trap_unasked : (view : PartitionView) (ps : PartitionState) (time : ℕ) (first : Bool) → asked_by view (with_interrupts time first ps) ≡ None → asks view ps time first ≡ None
unfolding asks
trap_unasked view ps time first none =
    either_none (goes_on (with_interrupts time first ps).state first (due (with_interrupts time first ps).traps)) _
    (undelivered_none (due (with_interrupts time first ps).traps) (with_interrupts time first ps).traps.enabled view (with_interrupts time first ps) none)

pub trap_unseen : (g : Machine) (p : ℕ) (first : Bool) (ps : PartitionState) (core : Registers) (memory : Memory) (type : ℕ) → turn_of g ≡ Some (record { part = p; first = first })
    → slice_get g.parts p ≡ Some ps → (with_interrupts g.time first ps).core ≡ core → (with_interrupts g.time first ps).memory ≡ memory
    → (settled (areas_of (view_of g.system p)) core memory).turn ≡ Trap type → sight g p ≡ Unseen
trap_unseen g p first ps core memory type turn there same_core same_memory traps =
    unasked g p first ps turn there
    (trap_unasked (view_of g.system p) ps g.time first (trap_asks (view_of g.system p) (with_interrupts g.time first ps) core memory type same_core same_memory traps))
