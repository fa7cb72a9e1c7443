-- Temporal separation: where no partition may steer others, each tick's slot is that of plan 0 at this moment of its frame.
use Rattle.std.specs.Prelude.{◌≡◌, ℕ, ◌*◌, ◌%◌, ◌≤◌, false, Some, slice_get}
use Rattle.cyclic_plans.specs.Slots.{frame_of}
use Rattle.plan_maker.specs.Planned.{IsMet}
use Rattle.xm_conf.specs.Configuration.{Plan}
use Rattle.xm_conf.specs.Description.{described}
use Rattle.xm_conf.specs.Fits.{Fits}
use Rattle.xm_conf.specs.declared.part.Need.{Need}
use Rattle.machine_model.specs.Machine.{run, start, turn_of}
use Rattle.machine_model.specs.View.{System}
use Rattle.machine_laws.specs.Planned.{planned_turn}
use Rattle.machine_laws.specs.Served.{own_ticks}
use Rattle.xm_flows.specs.Rights.{IsUnsteered}

-- before tick k of a run the hypervisor has not halted, its clock shows k, plan 0 runs, and the slot is the plan's at k modulo the frame
pub record IsAsPlanned (system : System) (k : ℕ) : Type 0 where
  pub goes_on : (run (start system) k).halted ≡ false
  pub time : (run (start system) k).time ≡ k
  pub plan : (run (start system) k).clock.plan ≡ 0
  pub turn : turn_of (run (start system) k) ≡ planned_turn system.conf 0 (k % frame_of system.conf 0)

-- so it is before each tick, whatever any partition executes
abbrev pub SlotsAsPlanned : Type 0
SlotsAsPlanned = (system : System) (k : ℕ) → Fits (described system.conf) → IsUnsteered system.conf → IsAsPlanned system k

-- so in each window of a requirement that plan 0 meets the partition has at least the duration of ticks in its own slots
abbrev pub NeedsAreServed : Type 0
NeedsAreServed = (system : System) (p : ℕ) (plan : Plan) (need : Need) (window : ℕ) → Fits (described system.conf) → IsUnsteered system.conf
    → slice_get system.conf.plans 0 ≡ Some plan → IsMet plan p need → need.duration ≤ own_ticks (start system) p (window * need.period) need.period
