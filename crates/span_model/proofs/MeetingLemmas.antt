-- A partition whose timers are looked at many times in its slot.
use Rattle.std.proofs.Common.{◌≡◌, ℕ, zero, suc, ◌+◌, ◌≤◌, Bool, true, false, List, Option, refl, sym, ap, ◌∙◌, arith}
use Rattle.std.proofs.Math.Nat.{add-zero}
use Rattle.guest_bus.specs.Memory.{Area}
use Rattle.virt_clocks.specs.Clocks.{is_due, looked_at}
use Rattle.virt_clocks.specs.declared.timer.Timer.{Timer}
use Rattle.virt_traps.specs.Virtual.{VirtualTraps, due}
use Rattle.machine_model.specs.LocalTick.{goes_on, with_interrupts}
use Rattle.machine_model.specs.Partition.{PartitionState, execution_looked_at, execution_timer, hardware_looked_at, hardware_timer, raised_if}
use Rattle.span_model.specs.Meeting.{awake, began, first_after, gone_on, in_slot, met_in_slot, timers_looked_at, with_interrupts_to}
use Rattle.span_model.proofs.RestLemmas.{due_interrupt, raised_if_turned}
use Rattle.span_model.proofs.StepLemmas.{gone_none}
use Rattle.span_model.proofs.TimerLemmas.{looked_twice}

-- the interrupts of both timers, looked at and later again
interrupts_twice : (h1 h2 e1 e2 : ℕ) (hardware execution : Option Timer) (v : VirtualTraps) → h1 ≤ h2 → e1 ≤ e2
    → raised_if (is_due e2 (looked_at e1 execution)) execution_timer (raised_if (is_due h2 (looked_at h1 hardware)) hardware_timer
    (raised_if (is_due e1 execution) execution_timer (raised_if (is_due h1 hardware) hardware_timer v)))
    ≡ raised_if (is_due e2 execution) execution_timer (raised_if (is_due h2 hardware) hardware_timer v)
interrupts_twice h1 h2 e1 e2 hardware execution v h_later e_later =
    ap (raised_if (is_due e2 (looked_at e1 execution)) execution_timer)
    (raised_if_turned (is_due h2 (looked_at h1 hardware)) (is_due e1 execution) hardware_timer execution_timer (raised_if (is_due h1 hardware) hardware_timer v))
    ∙ due_interrupt e1 e2 execution_timer execution (raised_if (is_due h2 (looked_at h1 hardware)) hardware_timer (raised_if (is_due h1 hardware) hardware_timer v)) e_later
    ∙ ap (raised_if (is_due e2 execution) execution_timer) (due_interrupt h1 h2 hardware_timer hardware v h_later)

-- a partition with these traps and timers
abbrev pub with_timers : VirtualTraps → Option Timer → Option Timer → PartitionState → PartitionState
with_timers traps hardware execution ps =
    record ps { traps = traps; clocks = record ps.clocks { hardware_timer = hardware; execution_timer = execution } }

pub same_timers : (a b : VirtualTraps) (c d e f : Option Timer) (ps : PartitionState) → a ≡ b → c ≡ d → e ≡ f → with_timers a c e ps ≡ with_timers b d f ps
same_timers a b c d e f ps same_traps same_hardware same_execution = rw (same_traps, same_hardware, same_execution) refl

-- both timers looked at and later again
pub timers_twice : (h1 h2 e1 e2 : ℕ) (ps : PartitionState) → h1 ≤ h2 → e1 ≤ e2
    → timers_looked_at h2 e2 (timers_looked_at h1 e1 ps) ≡ timers_looked_at h2 e2 ps
unfolding timers_looked_at
timers_twice h1 h2 e1 e2 ps h_later e_later =
    same_timers
    (raised_if (is_due e2 (looked_at e1 ps.clocks.execution_timer)) execution_timer (raised_if (is_due h2 (looked_at h1 ps.clocks.hardware_timer)) hardware_timer
    (raised_if (is_due e1 ps.clocks.execution_timer) execution_timer (raised_if (is_due h1 ps.clocks.hardware_timer) hardware_timer ps.traps))))
    (raised_if (is_due e2 ps.clocks.execution_timer) execution_timer (raised_if (is_due h2 ps.clocks.hardware_timer) hardware_timer ps.traps))
    (looked_at h2 (looked_at h1 ps.clocks.hardware_timer)) (looked_at h2 ps.clocks.hardware_timer)
    (looked_at e2 (looked_at e1 ps.clocks.execution_timer)) (looked_at e2 ps.clocks.execution_timer) ps
    (interrupts_twice h1 h2 e1 e2 ps.clocks.hardware_timer ps.clocks.execution_timer ps.traps h_later e_later)
    (looked_twice h1 h2 ps.clocks.hardware_timer h_later) (looked_twice e1 e2 ps.clocks.execution_timer e_later)

-- a look at the timers and steps that go, in the other order
looked_gone : (h e count : ℕ) (areas : List Area) (ps : PartitionState)
    → timers_looked_at h e (gone_on count areas (awake ps)) ≡ gone_on count areas (awake (timers_looked_at h e ps))
unfolding timers_looked_at
looked_gone h e count areas ps = refl

-- the interrupts of a tick are the start of the slot and the looks at both timers
pub interrupts_are_looks : (time : ℕ) (first : Bool) (ps : PartitionState) → with_interrupts time first ps ≡ timers_looked_at time ps.clocks.execution (began first ps)
unfolding with_interrupts hardware_looked_at execution_looked_at timers_looked_at
interrupts_are_looks time first ps = refl

-- looks at the timers leave the execution clock
pub looked_clock : (h e : ℕ) (ps : PartitionState) → (timers_looked_at h e ps).clocks.execution ≡ ps.clocks.execution
unfolding timers_looked_at
looked_clock h e ps = refl

-- the interrupts of a tick inside the slot
pub looks_inside : (time : ℕ) (ps : PartitionState) → with_interrupts time false ps ≡ timers_looked_at time ps.clocks.execution ps
looks_inside time ps = interrupts_are_looks time false ps

-- the interrupts of the first tick
meets_first : (time : ℕ) (first : Bool) (ps : PartitionState) → with_interrupts (time + 0) first ps ≡ with_interrupts_to time 0 first ps
meets_first time first ps =
    interrupts_are_looks (time + 0) first ps ∙ ap (λ e. timers_looked_at (time + 0) e (began first ps)) (sym (add-zero ps.clocks.execution))

-- the interrupts of a later tick
meets_next : (k time : ℕ) (areas : List Area) (first : Bool) (ps : PartitionState)
    → with_interrupts (time + suc k) false (in_slot (suc k) time areas first ps) ≡ met_in_slot (suc k) time areas first ps
meets_next k time areas first ps =
    looks_inside (time + suc k) (in_slot (suc k) time areas first ps)
    ∙ ap (λ e. timers_looked_at (time + suc k) (e + suc k) (in_slot (suc k) time areas first ps)) (looked_clock (time + k) (ps.clocks.execution + k) (began first ps))
    ∙ looked_gone (time + suc k) (ps.clocks.execution + suc k) (suc k) areas (with_interrupts_to time k first ps)
    ∙ ap (λ s. gone_on (suc k) areas (awake s))
    (timers_twice (time + k) (time + suc k) (ps.clocks.execution + k) (ps.clocks.execution + suc k) (began first ps) (omega arith) (omega arith))

-- the partition in a tick of its slot, when its interrupts have come and it is awake
pub meets_in_slot : (k time : ℕ) (areas : List Area) (first : Bool) (ps : PartitionState)
    → awake (with_interrupts (time + k) (first_after k first) (in_slot k time areas first ps)) ≡ met_in_slot k time areas first ps
meets_in_slot zero time areas first ps = ap awake (meets_first time first ps) ∙ sym (gone_none areas (awake (with_interrupts_to time 0 first ps)))
meets_in_slot (suc k) time areas first ps = ap awake (meets_next k time areas first ps)

-- whether it goes on
abbrev pub Wakes : ℕ → Bool → PartitionState → Type 0
Wakes time first ps = goes_on (with_interrupts time first ps).state first (due (with_interrupts time first ps).traps) ≡ true

-- it goes on in each tick, where it does in the first
pub wakes_in_slot : (k time : ℕ) (areas : List Area) (first : Bool) (ps : PartitionState) → Wakes time first ps
    → Wakes (time + k) (first_after k first) (in_slot k time areas first ps)
wakes_in_slot zero time areas first ps wakes = ap (λ t. goes_on (with_interrupts t first ps).state first (due (with_interrupts t first ps).traps)) (add-zero time) ∙ wakes
wakes_in_slot (suc k) time areas first ps wakes = ap (λ s. goes_on s.state false (due s.traps)) (meets_next k time areas first ps)
