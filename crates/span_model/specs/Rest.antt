-- The laws on timers that are looked at late, and on partitions that rest.
use Rattle.std.specs.Prelude.{◌≡◌, ◌≢◌, ℕ, zero, suc, ◌+◌, ◌≤◌, ◌||◌, Bool, false, Option, Some}
use Rattle.virt_clocks.specs.Clocks.{is_due, looked_at}
use Rattle.virt_clocks.specs.declared.timer.Timer.{Timer}
use Rattle.xm_base.specs.declared.partition.Order.{Order}
use Rattle.xm_base.specs.declared.partition.Order.TheVariants as order
use Rattle.machine_model.specs.LocalTick.{with_interrupts}
use Rattle.machine_model.specs.Machine.{after_tick}
use Rattle.machine_model.specs.Partition.{PartitionState, is_halted, rested}
use Rattle.machine_model.specs.Emission.{OwnTraffic}
use Rattle.machine_model.specs.View.{PartitionView}
use Rattle.machine_model.specs.Whole.{WholeEvent}

-- looking at a timer and later again is looking at it later
abbrev pub LooksTwice : Type 0
LooksTwice = (t1 t2 : ℕ) (timer : Option Timer) → t1 ≤ t2 → looked_at t2 (looked_at t1 timer) ≡ looked_at t2 timer

-- a timer is due where it was due at an earlier look, or is due after that look
abbrev pub DueTwice : Type 0
DueTwice = (t1 t2 : ℕ) (timer : Option Timer) → t1 ≤ t2 → is_due t2 timer ≡ (is_due t1 timer || is_due t2 (looked_at t1 timer))

-- resting and later again is resting later
abbrev pub RestsTwice : Type 0
RestsTwice = (t1 t2 : ℕ) (ps : PartitionState) → t1 ≤ t2 → rested t2 (rested t1 ps) ≡ rested t2 ps

-- a partition that rested in this many ticks, one after the other
abbrev pub rested_along : ℕ → ℕ → PartitionState → PartitionState
rested_along time zero ps = ps
rested_along time (suc count) ps = rested (time + count) (rested_along time count ps)

-- resting in many ticks is resting in the last of them
abbrev pub RestsOnce : Type 0
RestsOnce = (time last : ℕ) (ps : PartitionState) → rested_along time (suc last) ps ≡ rested (time + last) ps

-- what a tick leaves of a partition that has no local tick in it is the same, whether it rested before or not, unless it is ordered to halt
abbrev pub RestsBefore : Type 0
RestsBefore =
    (view : PartitionView) (before time : ℕ) (traffic : OwnTraffic) (an_order : Option Order) (event : WholeEvent) (ps : PartitionState) →
    before ≤ time → an_order ≢ Some order.Halt →
    after_tick view time false traffic an_order event (rested before ps) ≡ after_tick view time false traffic an_order event ps

-- and so are the interrupts that a partition meets in a tick of its slot, where it has not halted
abbrev pub MeetsAfterRest : Type 0
MeetsAfterRest =
    (before time : ℕ) (first : Bool) (ps : PartitionState) → before ≤ time → is_halted ps.state ≡ false →
    with_interrupts time first (rested before ps) ≡ with_interrupts time first ps
