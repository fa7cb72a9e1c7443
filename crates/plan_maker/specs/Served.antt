-- The time that slots give a partition, and what it means that a requirement is served.
use Rattle.std.specs.Prelude.{ℕ, zero, suc, ◌+◌, ◌*◌, ◌==◌, ◌&&◌, if◌then◌else◌, Bool, List}
use Rattle.std.specs.List.{list_any}
use Rattle.xm_conf.specs.declared.plan.Slot.{Slot}
use Rattle.cyclic_plans.specs.Slots.{covers}

-- whether a slot gives a tick to a partition
abbrev pub gives : ℕ → ℕ → Slot → Bool
gives part tick slot = slot.part == part && covers tick slot

-- whether a partition runs in a tick: one of the slots gives it the tick
abbrev pub runs_in : ℕ → List Slot → ℕ → Bool
runs_in part slots tick = list_any (gives part tick) slots

-- how many ticks pass a test, of this many from one on
abbrev pub ticks_where : (ℕ → Bool) → ℕ → ℕ → ℕ
ticks_where test start zero = 0
ticks_where test start (suc count) = ticks_where test start count + (if test (start + count) then 1 else 0)

-- the time that slots give a partition in this many ticks from one on
unfoldable pub time_in : ℕ → List Slot → ℕ → ℕ → ℕ
time_in part slots start count = ticks_where (runs_in part slots) start count

-- the time that slots give a partition in the window of a number
abbrev pub window_time : ℕ → List Slot → ℕ → ℕ → ℕ
window_time part slots period window = time_in part slots (window * period) period
