-- The time that a partition has in a run: the ticks that are in its slots.
use Rattle.std.specs.Prelude.{◌≡◌, ℕ, ◌+◌, ◌*◌, ◌<◌, ◌≤◌, Bool, false, None, Some, slice_get}
use Rattle.cyclic_plans.specs.PlanClock.{IsInFrame, moment}
use Rattle.plan_maker.specs.Planned.{IsMet}
use Rattle.plan_maker.specs.Served.{ticks_where}
use Rattle.xm_conf.specs.Configuration.{Plan}
use Rattle.xm_conf.specs.Description.{described}
use Rattle.xm_conf.specs.Fits.{Fits}
use Rattle.xm_conf.specs.declared.part.Need.{Need}
use Rattle.machine_model.specs.Machine.{Machine, is_turn_of, run, turn_of}
use Rattle.machine_laws.specs.Planned.{IsCalmTick}

-- whether a tick of a run from a machine on, counted from 0, is in a slot of a partition
abbrev pub is_own_tick : Machine → ℕ → ℕ → Bool
is_own_tick g p tick = is_turn_of (turn_of (run g tick)) p

-- how many of this many ticks, from one of them on, are in slots of a partition
abbrev pub own_ticks : Machine → ℕ → ℕ → ℕ → ℕ
own_ticks g p first count = ticks_where (is_own_tick g p) first count

-- a machine with whose next tick the frame of a plan begins, that has not halted and of which no plan is asked
pub record BeginsFrame (g : Machine) (plan : Plan) : Type 0 where
  pub fits : Fits (described g.system.conf)
  pub goes_on : g.halted ≡ false
  pub in_frame : IsInFrame g.system.conf g.clock g.time
  pub first : moment g.clock g.time ≡ 0
  pub unasked : g.clock.asked ≡ None
  pub there : slice_get g.system.conf.plans g.clock.plan ≡ Some plan

-- from there on each window of a requirement that the plan meets has at least the duration of ticks in slots of the partition, while all ticks up to the
-- window's end are calm; the last of them need not be
abbrev pub ServesNeeds : Type 0
ServesNeeds = (g : Machine) (p : ℕ) (plan : Plan) (need : Need) (window : ℕ) → BeginsFrame g plan → IsMet plan p need
    → ((j : ℕ) → j + 1 < (window + 1) * need.period → IsCalmTick (run g j)) → need.duration ≤ own_ticks g p (window * need.period) need.period
