-- The local tick of a partition that goes on in its slot.
use Rattle.std.proofs.Common.{◌≡◌, ℕ, inl, inr, Bool, true, false, List, Option, None, Some, refl, sym, ap, ◌∙◌}
use Rattle.std.specs.Prelude.{if◌then◌else◌, slice_get}
use Rattle.std.proofs.lemmas.Bool.{eq-eqb}
use Rattle.virt_traps.specs.Virtual.{due}
use Rattle.xm_base.specs.declared.partition.State.{State}
use Rattle.xm_base.specs.declared.partition.State.TheVariants.{Ready, Idle, Suspended, Halted}
use Rattle.xm_ports.specs.Channels.{Content}
use Rattle.machine_model.specs.LocalTick.{delivered_or_executed, executed_in_tick, goes_on, local_tick, seen_outside, with_interrupts, worked, worked_if}
use Rattle.machine_model.specs.Machine.{Machine, copies, local, local_of, sight, sight_of_state, taken_by, turn_of}
use Rattle.machine_model.specs.Partition.{PartitionState, execution_looked_at, hardware_looked_at, takes_turns}
use Rattle.machine_model.specs.Emission.{Sight}
use Rattle.machine_model.specs.View.{PartitionView, view_of}
use Rattle.span_model.specs.Meeting.{NoDelivery, awake}
use Rattle.span_model.proofs.MeetingLemmas.{Wakes}
use Rattle.span_model.proofs.RestingLemmas.{local_by}

-- a partition that goes on takes its turn
goes_takes : (state : State) (first : Bool) (interrupt : Option ℕ) → goes_on state first interrupt ≡ true → takes_turns state ≡ true
goes_takes Ready first interrupt goes = refl
goes_takes Idle first interrupt goes = refl
goes_takes Suspended first interrupt goes = absurd cc
goes_takes Halted first interrupt goes = absurd cc

-- the interrupts of a tick leave the state
pub same_state : (time : ℕ) (first : Bool) (ps : PartitionState) → (with_interrupts time first ps).state ≡ ps.state
unfolding with_interrupts hardware_looked_at execution_looked_at
same_state time first ps = refl

-- the work of a partition that goes on: a delivery, or an instruction
worked_awake : (view : PartitionView) (contents : List (Option Content)) (time : ℕ) (first : Bool) (sight : Sight) (ps s : PartitionState)
    → Wakes time first ps → awake (with_interrupts time first ps) ≡ s
    → worked view contents time first sight ps ≡ delivered_or_executed (due s.traps) s.traps.enabled view contents time sight s
unfolding worked
worked_awake view contents time first sight ps s wakes is =
    ap (λ b. worked_if b view contents time sight (with_interrupts time first ps)) wakes
    ∙ ap (λ (x : PartitionState). delivered_or_executed (due x.traps) x.traps.enabled view contents time sight x) is

-- what a partition is shown in a tick of its slot
sight_is : (g : Machine) (p : ℕ) (first : Bool) (ps : PartitionState) → turn_of g ≡ Some (record { part = p; first = first }) → slice_get g.parts p ≡ Some ps
    → sight_of_state g p first ps ≡ sight g p
unfolding sight
sight_is g p first ps turn there =
    rw (turn, there) (rw (eq-eqb p p refl) refl)

-- the local tick of a partition that takes its turn
pub taken_is : (g : Machine) (p : ℕ) (first : Bool) (o : Option PartitionState) (ps : PartitionState) → o ≡ Some ps → takes_turns ps.state ≡ true
    → taken_by g p first o ≡ Some (local_of g p first ps)
taken_is g p first o ps there takes =
    ap (taken_by g p first) there ∙ ap (λ (b : Bool). if b then Some (local_of g p first ps) else None) takes

-- it is its work as others see it
pub local_work : (g : Machine) (p : ℕ) (first : Bool) (ps : PartitionState)
    → local_of g p first ps ≡ seen_outside (view_of g.system p) g.ticks (worked (view_of g.system p) (copies g p) g.time first (sight_of_state g p first ps) ps)
unfolding local_of local_tick
local_work g p first ps = refl

-- the local tick of a partition that goes on
pub local_awake : (g : Machine) (p : ℕ) (first : Bool) (ps s : PartitionState) → turn_of g ≡ Some (record { part = p; first = first }) → slice_get g.parts p ≡ Some ps
    → Wakes g.time first ps → awake (with_interrupts g.time first ps) ≡ s
    → local g ≡ Some (seen_outside (view_of g.system p) g.ticks (delivered_or_executed (due s.traps) s.traps.enabled (view_of g.system p) (copies g p) g.time (sight g p) s))
local_awake g p first ps s turn there wakes is =
    let takes : takes_turns ps.state ≡ true =
    goes_takes ps.state first (due (with_interrupts g.time first ps).traps)
    (ap (λ state. goes_on state first (due (with_interrupts g.time first ps).traps)) (sym (same_state g.time first ps)) ∙ wakes) in
    local_by g (Some (record { part = p; first = first })) turn
    ∙ taken_is g p first (slice_get g.parts p) ps there takes
    ∙ ap Some (local_work g p first ps
    ∙ ap (seen_outside (view_of g.system p) g.ticks)
    (worked_awake (view_of g.system p) (copies g p) g.time first (sight_of_state g p first ps) ps s wakes is
    ∙ ap (λ seen. delivered_or_executed (due s.traps) s.traps.enabled (view_of g.system p) (copies g p) g.time seen s) (sight_is g p first ps turn there)))

-- where no interrupt can be delivered, an instruction is executed
pub undelivered_executes : (view : PartitionView) (contents : List (Option Content)) (time : ℕ) (sight : Sight) (ps : PartitionState) → NoDelivery ps.traps
    → delivered_or_executed (due ps.traps) ps.traps.enabled view contents time sight ps ≡ executed_in_tick view contents time sight ps
undelivered_executes view contents time sight ps (inl none) = ap (λ o. delivered_or_executed o ps.traps.enabled view contents time sight ps) none
undelivered_executes view contents time sight ps (inr disabled) =
    ap (λ b. delivered_or_executed (due ps.traps) b view contents time sight ps) disabled ∙ either (due ps.traps)
  where
    either : (o : Option ℕ) → delivered_or_executed o false view contents time sight ps ≡ executed_in_tick view contents time sight ps
    either None = refl
    either (Some n) = refl
