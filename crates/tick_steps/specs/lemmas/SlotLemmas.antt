-- The tick after those in which the partition of a slot only went: how its partition stands in it, and its work.
use Rattle.std.proofs.Common.{◌≡◌, ◌⊎◌, inl, inr, ℕ, zero, suc, ◌+◌, ◌<◌, Bool, true, false, List, [], ◌∷◌, Option, None, Some, refl, sym, ap, subst, ◌∙◌, arith}
use Rattle.std.specs.Prelude.{◌-◌, if◌then◌else◌, IfSome, map, nat_le, slice_get, slice_set}
use Rattle.std.proofs.lemmas.Bool.Decides.{nat_tests}
use Rattle.virt_clocks.specs.Clocks.{PartitionClocks, is_due, lesser, looked_at, next_due, rearmed, ticks_until}
use Rattle.virt_clocks.specs.declared.timer.Timer.{Timer}
use Rattle.virt_traps.specs.Virtual.{VirtualTraps, due}
use Rattle.xm_base.specs.Options.{on}
use Rattle.xm_ports.specs.Channels.{Content}
use Rattle.machine_model.specs.Health.{Worked}
use Rattle.machine_model.specs.Laws.{ActsWithinBounds}
use Rattle.machine_model.specs.lemmas.ListLemmas.{get_map}
use Rattle.machine_model.specs.LocalTick.{bounded, delivered_or_executed, executed_in_tick, goes_on, local_tick, with_interrupts, worked, worked_if}
use Rattle.machine_model.specs.Machine.{Machine, copies, run, sight, turn_of}
use Rattle.machine_model.specs.Partition.{PartitionState, execution_looked_at, execution_timer, hardware_looked_at, hardware_timer, raised_if, rested}
use Rattle.machine_model.specs.Emission.{Sight}
use Rattle.machine_model.specs.View.{PartitionView, view_of}
use Rattle.span_model.specs.Meeting.{NoDelivery, awake, first_after, gone_on}
use Rattle.span_model.specs.NextLaws.{IsNextTick}
use Rattle.span_model.specs.SpanLaws.{its_areas, met}
use Rattle.span_model.specs.Undisturbed.{IsUndisturbed, NoneFallsDue, gone_parts, next_instruction}

-- a timer with this many ticks left is not due before
far_off : (now k : ℕ) (timer : Timer) → k < timer.deadline - now → is_due (now + k) (Some timer) ≡ false
far_off now k timer far = at (nat_le timer.deadline (now + k)) refl
  where
    at : (b : Bool) → nat_le timer.deadline (now + k) ≡ b → b ≡ false
    at b is = grind (arith, nat_tests)

none_due : (now clock k : ℕ) (hardware execution : Option Timer) → IfSome (lesser (ticks_until now hardware) (ticks_until clock execution)) (λ ticks. k < ticks)
    → (is_due (now + k) hardware ≡ false) × (is_due (clock + k) execution ≡ false)
none_due now clock k None None far = (refl, refl)
none_due now clock k None (Some execution) far = (refl, far_off clock k execution far)
none_due now clock k (Some hardware) None far = (far_off now k hardware far, refl)
none_due now clock k (Some hardware) (Some execution) far = (far_off now k hardware (omega (arith, far)), far_off clock k execution (omega (arith, far)))

-- timers that do not fall due are not due
not_due : (time k : ℕ) (clocks : PartitionClocks) → NoneFallsDue time k true clocks
    → (is_due (time + k) clocks.hardware_timer ≡ false) × (is_due (clocks.execution + k) clocks.execution_timer ≡ false)
unfolding next_due
not_due time k clocks far = none_due time clocks.execution k clocks.hardware_timer clocks.execution_timer far

-- a timer that is not due stays as it is
looked_same : (t : ℕ) (x : Option Timer) → is_due t x ≡ false → looked_at t x ≡ x
unfolding looked_at
looked_same t None waits = refl
looked_same t (Some timer) waits = ap (λ (b : Bool). if b then rearmed t timer else Some timer) waits

-- a partition with these traps and timers
abbrev with_traps_and_timers : VirtualTraps → Option Timer → Option Timer → PartitionState → PartitionState
with_traps_and_timers traps hardware execution ps = record ps { traps = traps; clocks = record ps.clocks { hardware_timer = hardware; execution_timer = execution } }

same_timers : (a b : VirtualTraps) (c d e f : Option Timer) (ps : PartitionState) → a ≡ b → c ≡ d → e ≡ f → with_traps_and_timers a c e ps ≡ with_traps_and_timers b d f ps
same_timers a b c d e f ps same_traps same_hardware same_execution = rw (same_traps, same_hardware, same_execution) refl

-- a tick brings no interrupts where no timer is due
none_met : (time : ℕ) (ps : PartitionState) → is_due time ps.clocks.hardware_timer ≡ false → is_due ps.clocks.execution ps.clocks.execution_timer ≡ false
    → with_interrupts time false ps ≡ ps
unfolding with_interrupts hardware_looked_at execution_looked_at
none_met time ps no_hardware no_execution =
    same_timers (raised_if (is_due ps.clocks.execution ps.clocks.execution_timer) execution_timer (raised_if (is_due time ps.clocks.hardware_timer) hardware_timer ps.traps)) ps.traps
    (looked_at time ps.clocks.hardware_timer) ps.clocks.hardware_timer (looked_at ps.clocks.execution ps.clocks.execution_timer) ps.clocks.execution_timer ps
    (ap (λ b. raised_if b execution_timer (raised_if (is_due time ps.clocks.hardware_timer) hardware_timer ps.traps)) no_execution
    ∙ ap (λ b. raised_if b hardware_timer ps.traps) no_hardware)
    (looked_same time ps.clocks.hardware_timer no_hardware) (looked_same ps.clocks.execution ps.clocks.execution_timer no_execution)

-- how the partition of the slot stands in a tick in which no interrupt is delivered: with the interrupts of the tick and awake it is in this state
pub record StandsInSlot (m : Machine) (p : ℕ) (first : Bool) (ps s : PartitionState) : Type 0 where
  pub turn : turn_of m ≡ Some (record { part = p; first = first })
  pub there : slice_get m.parts p ≡ Some ps
  pub wakes : goes_on (with_interrupts m.time first ps).state first (due (with_interrupts m.time first ps).traps) ≡ true
  pub undelivered : NoDelivery (with_interrupts m.time first ps).traps
  pub met : awake (with_interrupts m.time first ps) ≡ s

-- the partition of the slot before its next tick
abbrev pub its_before : ℕ → PartitionState → PartitionState → PartitionState
its_before zero ps s = ps
its_before (suc done) ps s = s

-- an element that is written
get_set : {X : Type 0} (xs : List X) (p : ℕ) (x new : X) → slice_get xs p ≡ Some x → slice_get (slice_set xs p new) p ≡ Some new
get_set [] p x new there = absurd cc
get_set (y ∷ ys) zero x new there = refl
get_set (y ∷ ys) (suc p) x new there = get_set ys p x new there

-- the partition inside a span stands so
at_inside : (g m : Machine) (p : ℕ) (first : Bool) (ps : PartitionState) (k : ℕ) → IsUndisturbed g p first ps (suc k)
    → m.time ≡ g.time + suc k → m.parts ≡ gone_parts (suc k) g p first ps → turn_of m ≡ Some (record { part = p; first = false })
    → StandsInSlot m p false (gone_on (suc k) (its_areas g p) (met g first ps)) (gone_on (suc k) (its_areas g p) (met g first ps))
at_inside g m p first ps k is time parts turn = record {
  turn = turn;
  there = ap (λ (xs : List PartitionState). slice_get xs p) parts ∙ get_set (map (rested (g.time + k)) g.parts) p (rested (g.time + k) ps) s (get_map (rested (g.time + k)) g.parts p ∙ ap (on (rested (g.time + k))) is.goes.slot.there);
  wakes = ap (λ (x : PartitionState). goes_on x.state false (due x.traps)) same;
  undelivered = subst (λ (x : PartitionState). NoDelivery x.traps) (sym same) is.undelivered;
  met = ap awake same;
}
  where
    s : PartitionState
    s = gone_on (suc k) (its_areas g p) (met g first ps)

    none : (is_due (g.time + suc k) (with_interrupts g.time first ps).clocks.hardware_timer ≡ false)
        × (is_due ((with_interrupts g.time first ps).clocks.execution + suc k) (with_interrupts g.time first ps).clocks.execution_timer ≡ false)
    none = not_due g.time (suc k) (with_interrupts g.time first ps).clocks is.timers

    same : with_interrupts m.time false s ≡ s
    same = ap (λ t. with_interrupts t false s) time ∙ none_met (g.time + suc k) s none.0 none.1

-- the partition before the tick that follows a span
pub at_next : (g : Machine) (p : ℕ) (first : Bool) (ps : PartitionState) (done : ℕ) (work : Worked) → IsUndisturbed g p first ps done
    → IsNextTick g done (gone_parts done g p first ps) p (first_after done first) work
    → StandsInSlot (run g done) p (first_after done first) (its_before done ps (gone_on done (its_areas g p) (met g first ps))) (gone_on done (its_areas g p) (met g first ps))
at_next g p first ps zero work is next = record {
  turn = next.tick.turn;
  there = is.goes.slot.there;
  wakes = is.goes.wakes;
  undelivered = is.undelivered;
  met = ap (λ (n : ℕ). record (met g first ps) { clocks = record (met g first ps).clocks { execution = n } }) (omega arith);
}
at_next g p first ps (suc k) work is next =
    at_inside g (run g (suc k)) p first ps k is (ap (λ (m : Machine). m.time) next.before.state) (ap (λ (m : Machine). m.parts) next.before.state) next.tick.turn

-- where nothing is delivered an instruction is executed
undelivered_executes : (interrupt : Option ℕ) (enabled : Bool) (view : PartitionView) (contents : List (Option Content)) (time : ℕ) (seen : Sight) (ps : PartitionState)
    → (interrupt ≡ None) ⊎ (enabled ≡ false) → delivered_or_executed interrupt enabled view contents time seen ps ≡ executed_in_tick view contents time seen ps
undelivered_executes None enabled view contents time seen ps none = refl
undelivered_executes (Some n) true view contents time seen ps (inl none) = absurd cc
undelivered_executes (Some n) true view contents time seen ps (inr none) = absurd cc
undelivered_executes (Some n) false view contents time seen ps none = refl

-- its work is an instruction
works_so : (m : Machine) (p : ℕ) (first : Bool) (ps s : PartitionState) → StandsInSlot m p first ps s
    → worked (view_of m.system p) (copies m p) m.time first (sight m p) ps ≡ next_instruction m p s
unfolding worked
works_so m p first ps s is =
    ap (λ (b : Bool). worked_if b (view_of m.system p) (copies m p) m.time (sight m p) (with_interrupts m.time first ps)) is.wakes
    ∙ undelivered_executes (due (with_interrupts m.time first ps).traps) (with_interrupts m.time first ps).traps.enabled (view_of m.system p) (copies m p) m.time (sight m p)
    (awake (with_interrupts m.time first ps)) is.undelivered
    ∙ ap (next_instruction m p) is.met

-- its act keeps within the partition's bounds
pub within_bounds : ActsWithinBounds → (m : Machine) (p : ℕ) (first : Bool) (ps s : PartitionState) → StandsInSlot m p first ps s
    → bounded (view_of m.system p) (next_instruction m p s).act ≡ (next_instruction m p s).act
unfolding local_tick
within_bounds law m p first ps s is =
    subst (λ (w : Worked). bounded (view_of m.system p) w.act ≡ w.act) (works_so m p first ps s is)
    (law m.system p ps (copies m p) m.ticks m.time first (sight m p))
