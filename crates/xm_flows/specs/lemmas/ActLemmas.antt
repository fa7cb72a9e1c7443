-- What a partition does beyond itself is by right.
use Rattle.std.proofs.Common.{◌≡◌, Bool, true, false, List, Option, refl}
use Rattle.std.specs.Prelude.{◌==◌, if◌then◌else◌}
use Rattle.health_monitor.specs.Monitor.{effect_of}
use Rattle.xm_conf.specs.declared.health.Action.{Action}
use Rattle.xm_conf.specs.declared.health.Action.TheVariants as action
use Rattle.xm_ports.specs.Channels.{Content}
use Rattle.machine_model.specs.Health.{done_to_all}
use Rattle.machine_model.specs.LocalTick.{bounded, is_its, worked}
use Rattle.machine_model.specs.OwnActs.{ActsWithinOwn, IsWithinOwn}
use Rattle.machine_model.specs.Emission as emission
use Rattle.machine_model.specs.Emission.{Act, Asked, Maintenance, OwnPuts, OwnSignals, OwnStill, OwnTakes, WholeEvent}
use Rattle.machine_model.specs.View.{PartitionView}
use Rattle.xm_flows.specs.Rights.{ActsByRight, IsByRight, reaches_all}

-- an action that does something to all is one that reaches all
pub does_reach : (an_action : Action) (enabled : Bool) (event : WholeEvent) → done_to_all (effect_of an_action enabled).whole ≡ emission.UponAll event → reaches_all an_action ≡ true
unfolding effect_of
does_reach action.Ignore enabled event is = absurd cc
does_reach action.Shutdown enabled event is = absurd cc
does_reach action.PartitionColdReset enabled event is = absurd cc
does_reach action.PartitionWarmReset enabled event is = absurd cc
does_reach action.Suspend enabled event is = absurd cc
does_reach action.Halt enabled event is = absurd cc
does_reach action.Propagate true event is = absurd cc
does_reach action.Propagate false event is = absurd cc
does_reach action.HypervisorColdReset enabled event is = refl
does_reach action.HypervisorWarmReset enabled event is = refl
does_reach action.HypervisorHalt enabled event is = refl
does_reach action.SwitchToMaintenance enabled event is = refl

-- an act that is within what the partition has is by right
is_right : (view : PartitionView) (contents : List (Option Content)) (act : Act) → IsWithinOwn view contents act → IsByRight view act
is_right view contents emission.Nothing within = tt
is_right view contents (emission.Trades OwnStill) within = tt
is_right view contents (emission.Trades (OwnPuts name bytes)) within = within.on
is_right view contents (emission.Trades (OwnTakes name)) within = record { on = within.on; kind_is = within.kind_is }
is_right view contents (emission.Trades (OwnSignals number)) within = within
is_right view contents (emission.Upon id order) within = within
is_right view contents (emission.Plans (Asked plan)) within = within
is_right view contents (emission.Plans Maintenance) within = within
is_right view contents (emission.UponAll event) within = within

pub acts_by_right : ActsWithinOwn → ActsByRight
acts_by_right within view ps contents time first seen = is_right view contents (worked view contents time first seen ps).act (within view contents time first seen ps)

-- an act as the rest of the system meets it is by right, too
pub bounded_right : (view : PartitionView) (act : Act) → IsByRight view act → IsByRight view (bounded view act)
bounded_right view emission.Nothing right = tt
bounded_right view (emission.Trades traffic) right = at (is_its view traffic)
  where
    at : (b : Bool) → IsByRight view (if b then emission.Trades traffic else emission.Nothing)
    at true = right
    at false = tt
bounded_right view (emission.Upon id an_order) right = at (id == view.id)
  where
    at : (b : Bool) → IsByRight view (if b then emission.Nothing else emission.Upon id an_order)
    at true = tt
    at false = right
bounded_right view (emission.Plans change) right = right
bounded_right view (emission.UponAll event) right = right
