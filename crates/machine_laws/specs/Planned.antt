-- Temporal separation: while no tick steers the plan, each tick's slot is the one of the plan at that moment of its frame.
use Rattle.std.specs.Prelude.{◌≡◌, ℕ, ◌+◌, ◌%◌, ◌<◌, false, Option, None}
use Rattle.cyclic_plans.specs.PlanClock.{IsInFrame, moment}
use Rattle.cyclic_plans.specs.Slots.{frame_of, here_in, slot_from, slots_of}
use Rattle.xm_base.specs.Options.{on}
use Rattle.xm_conf.specs.Configuration.{Conf}
use Rattle.machine_model.specs.Machine.{Machine, SlotTurn, happened, run, turn_here, turn_of}
use Rattle.machine_model.specs.Emission.{NoEvent, reach_of}

-- whose slot a moment of a plan's frame is in, and whether the slot begins there
unfoldable pub planned_turn : Conf → ℕ → ℕ → Option SlotTurn
planned_turn conf plan at = turn_here (on (here_in at) (slot_from at 0 (slots_of conf plan)))

-- a tick in which no plan is asked for or started, and no hypervisor event happens. Partitions may get orders
pub record IsCalmTick (g : Machine) : Type 0 where
  pub plan : (reach_of (happened g).act).plan ≡ None
  pub event : (happened g).event ≡ NoEvent

-- after this many ticks the machine has not halted, its hardware clock shows as many more, the same plan runs, and the slot is the one of that plan at this
-- moment of its frame
pub record IsPlanned (g : Machine) (k : ℕ) : Type 0 where
  pub goes_on : (run g k).halted ≡ false
  pub time : (run g k).time ≡ g.time + k
  pub plan : (run g k).clock.plan ≡ g.clock.plan
  pub turn : turn_of (run g k) ≡ planned_turn g.system.conf g.clock.plan ((moment g.clock g.time + k) % frame_of g.system.conf g.clock.plan)

-- so it is from any machine on whose clock is in its frame, up to its first tick that is not calm, that tick too, whatever any partition executes
abbrev pub GoesAsPlanned : Type 0
GoesAsPlanned = (g : Machine) (k : ℕ) → g.halted ≡ false → IsInFrame g.system.conf g.clock g.time → g.clock.asked ≡ None
    → ((j : ℕ) → j < k → IsCalmTick (run g j)) → IsPlanned g k
