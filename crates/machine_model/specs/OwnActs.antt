-- What an act of a partition's work rests on: a port of its own, a link from it, the system flag, or its health table.
use Rattle.std.specs.Prelude.{◌≡◌, ◌⊎◌, ℕ, ◌==◌, ◌<◌, Bool, true, false, List, length, IsSome, nat_lt, Option, None, Some, slice_get, slice_index_or}
use Rattle.health_monitor.specs.Monitor.{action_in, effect_of}
use Rattle.xm_conf.specs.declared.channel.ChanKind.{ChanKind}
use Rattle.xm_conf.specs.declared.health.Action.TheVariants as action
use Rattle.xm_conf.specs.declared.health.Event.{Event}
use Rattle.xm_conf.specs.declared.port.Kind.{Kind}
use Rattle.xm_conf.specs.declared.port.Kind.TheVariants as kind
use Rattle.xm_conf.specs.declared.port.Port.{Port}
use Rattle.xm_conf.specs.declared.port.Way.{Way}
use Rattle.xm_conf.specs.declared.port.Way.TheVariants as way
use Rattle.xm_ports.specs.Channels.{Content, IsMessage, first_message, messages_of, most_of}
use Rattle.machine_model.specs.Caller.{Acts, Caller, Meets, Upshot}
use Rattle.machine_model.specs.Effects.{TestedEffect, performed}
use Rattle.machine_model.specs.Health.{done_to_all}
use Rattle.machine_model.specs.LocalTick.{worked}
use Rattle.machine_model.specs.Partition.{PartitionState}
use Rattle.machine_model.specs.Emission as emission
use Rattle.machine_model.specs.Emission.{Act, Asked, Maintenance, OwnPuts, OwnSignals, OwnStill, OwnTakes, Sight, WholeEvent}
use Rattle.machine_model.specs.View.{PartitionView, PortChannel, has_number}

-- a partition has a port of this way on the channel that it calls by a name
pub record HasPortOn (view : PartitionView) (the_way : Way) (name : ℕ) : Type 0 where
  pub number : ℕ
  pub port : Port
  pub port_there : slice_get view.part.ports number ≡ Some port
  pub way_is : port.way ≡ the_way
  pub channel : PortChannel
  pub channel_there : slice_index_or view.channels number None ≡ Some channel
  pub name_is : channel.name ≡ name

-- whether a queue takes one more; a sampling port's channel takes each message
abbrev pub HasPortRoom : Kind → ChanKind → Content → Type 0
HasPortRoom kind.Sampling of content = Unit {0}
HasPortRoom kind.Queuing of content = length (messages_of content) < most_of of

-- a message that is put into a channel by its name: through a source port of the partition, it is one for the channel, and there is room
pub record IsPutting (view : PartitionView) (contents : List (Option Content)) (name : ℕ) (bytes : List ℕ) : Type 0 where
  pub on : HasPortOn view way.Source name
  pub content : Content
  pub held : slice_index_or contents name None ≡ Some content
  pub message : IsMessage on.channel.shape.length bytes
  pub room : HasPortRoom on.port.kind on.channel.shape.kind content

-- a message that is taken from a channel by its name: through a destination port of a queue, and a message waits there
pub record IsTaking (view : PartitionView) (contents : List (Option Content)) (name : ℕ) : Type 0 where
  pub on : HasPortOn view way.Destination name
  pub kind_is : on.port.kind ≡ kind.Queuing
  pub content : Content
  pub held : slice_index_or contents name None ≡ Some content
  pub waits : IsSome (first_message content)

-- a partition's table has the action that starts the maintenance plan
pub record HasMaintenance (view : PartitionView) : Type 0 where
  pub event : Event
  pub is : action_in view.part.hm event ≡ action.SwitchToMaintenance

-- a partition's table has an action that does this to all
pub record HasActionUpon (view : PartitionView) (upon : WholeEvent) : Type 0 where
  pub event : Event
  pub enabled : Bool
  pub is : done_to_all (effect_of (action_in view.part.hm event) enabled).whole ≡ emission.UponAll upon

-- an act is within what the partition has: a message goes through a port of its own, a signal over a link from it, only a system partition gives orders
-- to others and asks for a plan, which is one that it sees, and all else that reaches all is done by a system partition or by the partition's health table
abbrev pub IsWithinOwn : PartitionView → List (Option Content) → Act → Type 0
IsWithinOwn view contents emission.Nothing = Unit {0}
IsWithinOwn view contents (emission.Trades OwnStill) = Unit {0}
IsWithinOwn view contents (emission.Trades (OwnPuts name bytes)) = IsPutting view contents name bytes
IsWithinOwn view contents (emission.Trades (OwnTakes name)) = IsTaking view contents name
IsWithinOwn view contents (emission.Trades (OwnSignals number)) = has_number view.links number ≡ true
IsWithinOwn view contents (emission.Upon id order) = ((id == view.id) ≡ false) × (view.part.system ≡ true)
IsWithinOwn view contents (emission.Plans (Asked plan)) = (nat_lt plan view.sees.plans ≡ true) × (view.part.system ≡ true)
IsWithinOwn view contents (emission.Plans Maintenance) = HasMaintenance view
IsWithinOwn view contents (emission.UponAll event) = (view.part.system ≡ true) ⊎ HasActionUpon view event

-- what a call asks for is within what its partition has; an order may be one on the partition itself
abbrev pub AsksWithin : PartitionView → List (Option Content) → Act → Type 0
AsksWithin view contents emission.Nothing = Unit {0}
AsksWithin view contents (emission.Trades traffic) = IsWithinOwn view contents (emission.Trades traffic)
AsksWithin view contents (emission.Upon id order) = (id == view.id) ≡ false → view.part.system ≡ true
AsksWithin view contents (emission.Plans change) = IsWithinOwn view contents (emission.Plans change)
AsksWithin view contents (emission.UponAll event) = IsWithinOwn view contents (emission.UponAll event)

-- and so is its outcome; a health event that it meets is answered by the partition's own table
abbrev pub ComesWithin : PartitionView → List (Option Content) → Upshot → Type 0
ComesWithin view contents (Acts act) = AsksWithin view contents act
ComesWithin view contents (Meets event word) = Unit {0}

-- whatever tests a call makes before, the outcome of each effect is within what the caller has: of these 38 calls, and of any further one
abbrev pub EffectsActWithinOwn : Type 0
EffectsActWithinOwn = (asked : TestedEffect) (caller : Caller) → ComesWithin caller.view caller.contents (performed asked caller).upshot

-- whatever a partition executes, its act is within what it has
abbrev pub ActsWithinOwn : Type 0
ActsWithinOwn =
    (view : PartitionView) (contents : List (Option Content)) (time : ℕ) (first : Bool) (seen : Sight) (ps : PartitionState) →
    IsWithinOwn view contents (worked view contents time first seen ps).act
