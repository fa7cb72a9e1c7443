-- Whether an interrupt can be delivered, and whether a timer falls due, in many ticks of a slot.
use Rattle.std.proofs.Common.{◌≡◌, ℕ, zero, suc, ◌+◌, ◌≤◌, inl, inr, Bool, true, false, None, Some, refl, sym, ap, subst, ◌∙◌, arith}
use Rattle.std.specs.Prelude.{◌==◌, ◌&&◌, ◌^◌, if◌then◌else◌, bit_or}
use Rattle.std.specs.Int.{bit_at}
use Rattle.std.proofs.lemmas.Bool.Decides.{nat_tests}
use Rattle.virt_clocks.specs.Clocks.{is_due}
use Rattle.virt_traps.specs.Virtual as virtual
use Rattle.virt_traps.specs.Virtual.{VirtualTraps, due, first_due, raised}
use Rattle.machine_model.specs.LocalTick.{with_interrupts}
use Rattle.machine_model.specs.Partition.{PartitionState, execution_timer, hardware_timer, raised_if}
use Rattle.span_model.specs.Meeting.{NoDelivery, began, timers_looked_at, with_interrupts_to}
use Rattle.span_model.proofs.BitLemmas.{or_kept}
use Rattle.span_model.proofs.MeetingLemmas.{looked_clock, looks_inside, timers_twice}

-- a bit that is tested and set stays set
test_kept : (p a i : ℕ) → (bit_at p i == 1) ≡ true → (bit_at (bit_or p a) i == 1) ≡ true
test_kept p a i set =
    let one : bit_at p i ≡ 1 = grind (arith, nat_tests) in
    let still : bit_at (bit_or p a) i ≡ 1 = or_kept p a i one in
    ap (λ n. n == 1) still

-- two tests of which the first stays true
both_kept : (a b c : Bool) → (a ≡ true → b ≡ true) → (a && c) ≡ true → (b && c) ≡ true
both_kept true b c keeps both = ap (λ x. x && c) (keeps refl) ∙ both
both_kept false b c keeps both = absurd cc

-- an interrupt that is due is due when another is raised
due_kept : (n i : ℕ) (v : VirtualTraps) → virtual.is_interrupt_due i v ≡ true → virtual.is_interrupt_due i (raised n v) ≡ true
unfolding raised
due_kept n i v waits =
    both_kept (bit_at v.pending i == 1) (bit_at (bit_or v.pending (2 ^ n)) i == 1) (bit_at v.mask i == 0) (test_kept v.pending (2 ^ n) i) waits

-- where none is due of interrupts that include these, none of these is due
none_first : (count from : ℕ) (v w : VirtualTraps) → ((i : ℕ) → virtual.is_interrupt_due i v ≡ true → virtual.is_interrupt_due i w ≡ true)
    → first_due from count w ≡ None → first_due from count v ≡ None
none_first zero from v w keeps none = refl
none_first (suc count) from v w keeps none = at (virtual.is_interrupt_due from v) refl
    (none_first count (suc from) v w keeps)
  where
    at : (b : Bool) → virtual.is_interrupt_due from v ≡ b → (first_due (suc from) count w ≡ None → first_due (suc from) count v ≡ None)
        → (if b then Some from else first_due (suc from) count v) ≡ None
    at true waits later = absurd (let now = ap (λ (t : Bool). if t then Some from else first_due (suc from) count w) (keeps from waits) in cc)
    at false waits later = later (other (virtual.is_interrupt_due from w) refl)
      where
        other : (b : Bool) → virtual.is_interrupt_due from w ≡ b → first_due (suc from) count w ≡ None
        other true is = absurd (let now = ap (λ (t : Bool). if t then Some from else first_due (suc from) count w) is in cc)
        other false is = sym (ap (λ (t : Bool). if t then Some from else first_due (suc from) count w) is) ∙ none

-- where no interrupt is due when one is raised, or not, none is due before
none_before : (b : Bool) (n : ℕ) (v : VirtualTraps) → due (raised_if b n v) ≡ None → due v ≡ None
unfolding due
none_before true n v none = none_first 32 0 v (raised n v) (λ i waits. due_kept n i v waits) none
none_before false n v none = none

-- raising an interrupt enables no traps
raised_enabled : (b : Bool) (n : ℕ) (v : VirtualTraps) → (raised_if b n v).enabled ≡ v.enabled
unfolding raised
raised_enabled true n v = refl
raised_enabled false n v = refl

-- where none can be delivered when one is raised, or not, none can before
undelivered_before : (b : Bool) (n : ℕ) (v : VirtualTraps) → NoDelivery (raised_if b n v) → NoDelivery v
undelivered_before b n v (inl none) = inl (none_before b n v none)
undelivered_before b n v (inr disabled) = inr (sym (raised_enabled b n v) ∙ disabled)

-- where none can be delivered after a look at the timers, none can before
undelivered_looked : (h e : ℕ) (ps : PartitionState) → NoDelivery (timers_looked_at h e ps).traps → NoDelivery ps.traps
unfolding timers_looked_at
undelivered_looked h e ps none =
    undelivered_before (is_due h ps.clocks.hardware_timer) hardware_timer ps.traps
    (undelivered_before (is_due e ps.clocks.execution_timer) execution_timer (raised_if (is_due h ps.clocks.hardware_timer) hardware_timer ps.traps) none)

-- where none is due after a look at the timers, none is before
none_looked_before : (h e : ℕ) (ps : PartitionState) → due (timers_looked_at h e ps).traps ≡ None → due ps.traps ≡ None
unfolding timers_looked_at
none_looked_before h e ps none =
    none_before (is_due h ps.clocks.hardware_timer) hardware_timer ps.traps
    (none_before (is_due e ps.clocks.execution_timer) execution_timer (raised_if (is_due h ps.clocks.hardware_timer) hardware_timer ps.traps) none)

-- the interrupts of a tick in which the partition idles, and of a later one
pub idles_later : (t1 t2 : ℕ) (ps : PartitionState) → t1 ≤ t2 → with_interrupts t2 false (with_interrupts t1 false ps) ≡ with_interrupts t2 false ps
idles_later t1 t2 ps later =
    looks_inside t2 (with_interrupts t1 false ps)
    ∙ ap (λ (s : PartitionState). timers_looked_at t2 s.clocks.execution s) (looks_inside t1 ps)
    ∙ ap (λ e. timers_looked_at t2 e (timers_looked_at t1 ps.clocks.execution ps)) (looked_clock t1 ps.clocks.execution ps)
    ∙ timers_twice t1 t2 ps.clocks.execution ps.clocks.execution ps later (omega arith)
    ∙ sym (looks_inside t2 ps)

-- where none is due in a tick in which the partition idles, none is due in an earlier one
pub none_due_earlier : (t1 t2 : ℕ) (ps : PartitionState) → t1 ≤ t2 → due (with_interrupts t2 false ps).traps ≡ None → due (with_interrupts t1 false ps).traps ≡ None
none_due_earlier t1 t2 ps later none =
    none_looked_before t2 (with_interrupts t1 false ps).clocks.execution (with_interrupts t1 false ps)
    (ap (λ (s : PartitionState). due s.traps) (sym (looks_inside t2 (with_interrupts t1 false ps)) ∙ idles_later t1 t2 ps later) ∙ none)

-- the interrupts of ticks, and of later ticks
pub interrupts_later : (time j k : ℕ) (first : Bool) (ps : PartitionState) → j ≤ k
    → timers_looked_at (time + k) (ps.clocks.execution + k) (with_interrupts_to time j first ps) ≡ with_interrupts_to time k first ps
interrupts_later time j k first ps within =
    timers_twice (time + j) (time + k) (ps.clocks.execution + j) (ps.clocks.execution + k) (began first ps) (omega (arith, within)) (omega (arith, within))

-- where none can be delivered in a tick of the slot, none can in the ticks before
pub undelivered_earlier : (time j k : ℕ) (first : Bool) (ps : PartitionState) → j ≤ k → NoDelivery (with_interrupts_to time k first ps).traps
    → NoDelivery (with_interrupts_to time j first ps).traps
undelivered_earlier time j k first ps within none =
    undelivered_looked (time + k) (ps.clocks.execution + k) (with_interrupts_to time j first ps)
    (subst (λ (s : PartitionState). NoDelivery s.traps) (sym (interrupts_later time j k first ps within)) none)
