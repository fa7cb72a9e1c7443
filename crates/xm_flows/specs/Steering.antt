-- What reaches a set of partitions in a tick other than by channels: the plan, a hypervisor event, and an order.
use Rattle.std.specs.Prelude.{ℕ, Bool, true, false, if◌then◌else◌, Option, Some, None}
use Rattle.cyclic_plans.specs.PlanClock.{other_plan}
use Rattle.machine_model.specs.Machine.{Happened, Machine, happened, next_clock}
use Rattle.machine_model.specs.Emission.{Asked, Directed, Maintenance, NoEvent, PlanChange, WholeEvent, reach_of}
use Rattle.xm_flows.specs.Groups.{Members}

-- the steering of a tick: the plan of the next tick, where an action started the maintenance plan or where it is another than before; the hypervisor
-- event; and the order to a member
pub record Steering : Type 0 where
  pub plan : Option ℕ
  pub event : WholeEvent
  pub order : Option Directed

-- a tick without any
unfoldable pub no_steering : Steering
no_steering = record { plan = None; event = NoEvent; order = None }

-- the plan of the next tick, where steering has it
abbrev pub steered_plan : Option PlanChange → ℕ → ℕ → Option ℕ
steered_plan None old new = other_plan old new
steered_plan (Some (Asked plan)) old new = other_plan old new
steered_plan (Some Maintenance) old new = Some new

-- an order, where it is to a member
abbrev pub to_member : Members → Option Directed → Option Directed
to_member members None = None
to_member members (Some directed) = if members directed.id then Some directed else None

-- the steering of a tick in which this happened
unfoldable pub steering_in : Members → Machine → Happened → Steering
steering_in members g h = record {
  plan = steered_plan (reach_of h.act).plan g.clock.plan (next_clock g h).plan;
  event = h.event;
  order = to_member members (reach_of h.act).directed;
}

abbrev pub steering_unless : Bool → Members → Machine → Steering
steering_unless true members g = no_steering
steering_unless false members g = steering_in members g (happened g)

-- the steering of the next tick; once the machine has halted there is none
unfoldable pub steering : Members → Machine → Steering
steering members g = steering_unless g.halted members g
