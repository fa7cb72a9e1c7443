-- Interrupts that are raised twice, and partitions that rest twice.
use Rattle.std.proofs.Common.{◌≡◌, ℕ, zero, suc, ◌+◌, ◌≤◌, Bool, true, false, refl, sym, ap, ◌∙◌, arith}
use Rattle.std.specs.Prelude.{◌^◌, ◌||◌, if◌then◌else◌, Option}
use Rattle.virt_clocks.specs.Clocks.{is_due, looked_at}
use Rattle.virt_clocks.specs.declared.timer.Timer.{Timer}
use Rattle.virt_traps.specs.Virtual.{VirtualTraps, raised}
use Rattle.machine_model.specs.Partition.{PartitionState, hardware_looked_at, hardware_timer, is_halted, raised_if, rested}
use Rattle.span_model.specs.Rest.{RestsOnce, RestsTwice}
use Rattle.span_model.proofs.BitLemmas.{or_again, or_turned}
use Rattle.span_model.proofs.TimerLemmas.{due_twice, looked_twice}

-- an interrupt that is raised again
raised_again : (n : ℕ) (v : VirtualTraps) → raised n (raised n v) ≡ raised n v
unfolding raised
raised_again n v = ap (λ (pending : ℕ). record v { pending = pending }) (or_again v.pending (2 ^ n))

-- two interrupts that are raised in the other order
raised_turned : (m n : ℕ) (v : VirtualTraps) → raised m (raised n v) ≡ raised n (raised m v)
unfolding raised
raised_turned m n v = ap (λ (pending : ℕ). record v { pending = pending }) (or_turned v.pending (2 ^ n) (2 ^ m))

-- an interrupt that is raised, or not, twice
pub raised_if_again : (a b : Bool) (n : ℕ) (v : VirtualTraps) → raised_if b n (raised_if a n v) ≡ raised_if (a || b) n v
raised_if_again true true n v = raised_again n v
raised_if_again true false n v = refl
raised_if_again false true n v = refl
raised_if_again false false n v = refl

-- two interrupts that are raised, or not, in the other order
pub raised_if_turned : (a b : Bool) (m n : ℕ) (v : VirtualTraps) → raised_if a m (raised_if b n v) ≡ raised_if b n (raised_if a m v)
raised_if_turned true true m n v = raised_turned m n v
raised_if_turned true false m n v = refl
raised_if_turned false true m n v = refl
raised_if_turned false false m n v = refl

-- the interrupt of a timer that is looked at, and later again
pub due_interrupt : (t1 t2 n : ℕ) (timer : Option Timer) (v : VirtualTraps) → t1 ≤ t2
    → raised_if (is_due t2 (looked_at t1 timer)) n (raised_if (is_due t1 timer) n v) ≡ raised_if (is_due t2 timer) n v
due_interrupt t1 t2 n timer v later =
    raised_if_again (is_due t1 timer) (is_due t2 (looked_at t1 timer)) n v ∙ ap (λ b. raised_if b n v) (sym (due_twice t1 t2 timer later))

-- looking at the hardware timer, and later again
pub hardware_twice : (t1 t2 : ℕ) (ps : PartitionState) → t1 ≤ t2 → hardware_looked_at t2 (hardware_looked_at t1 ps) ≡ hardware_looked_at t2 ps
unfolding hardware_looked_at
hardware_twice t1 t2 ps later =
    ap (λ (traps : VirtualTraps). record ps { traps = traps; clocks = record ps.clocks { hardware_timer = looked_at t2 (looked_at t1 ps.clocks.hardware_timer) } })
    (due_interrupt t1 t2 hardware_timer ps.clocks.hardware_timer ps.traps later)
    ∙ ap (λ (timer : Option Timer). record ps { traps = raised_if (is_due t2 ps.clocks.hardware_timer) hardware_timer ps.traps; clocks = record ps.clocks { hardware_timer = timer } })
    (looked_twice t1 t2 ps.clocks.hardware_timer later)

-- a partition that has not halted rests by a look at its hardware timer
pub rested_runs : (time : ℕ) (ps : PartitionState) → is_halted ps.state ≡ false → rested time ps ≡ hardware_looked_at time ps
unfolding rested
rested_runs time ps runs = ap (λ (b : Bool). if b then ps else hardware_looked_at time ps) runs

-- one that has halted stays as it is
pub rested_halted : (time : ℕ) (ps : PartitionState) → is_halted ps.state ≡ true → rested time ps ≡ ps
unfolding rested
rested_halted time ps halted = ap (λ (b : Bool). if b then ps else hardware_looked_at time ps) halted

-- a look at the hardware timer leaves the state
pub hardware_state : (time : ℕ) (ps : PartitionState) → (hardware_looked_at time ps).state ≡ ps.state
unfolding hardware_looked_at
hardware_state time ps = refl

-- resting and later again is resting later
pub rested_twice : RestsTwice
rested_twice t1 t2 ps later = at (is_halted ps.state) refl
  where
    at : (b : Bool) → is_halted ps.state ≡ b → rested t2 (rested t1 ps) ≡ rested t2 ps
    at true halted = ap (rested t2) (rested_halted t1 ps halted)
    at false runs =
        ap (rested t2) (rested_runs t1 ps runs)
        ∙ rested_runs t2 (hardware_looked_at t1 ps) (ap is_halted (hardware_state t1 ps) ∙ runs)
        ∙ hardware_twice t1 t2 ps later ∙ sym (rested_runs t2 ps runs)

-- resting in many ticks is resting in the last of them
pub rested_once : RestsOnce
rested_once time zero ps = refl
rested_once time (suc last) ps =
    ap (rested (time + suc last)) (rested_once time last ps) ∙ rested_twice (time + last) (time + suc last) ps (omega arith)
