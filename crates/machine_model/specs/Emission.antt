-- What a partition's tick emits, and the act by which it reaches beyond its partition.
use Rattle.std.specs.Prelude.{ℕ, List, Option, Some, None}
use Rattle.xm_base.specs.declared.partition.Mode.{Mode}
use Rattle.xm_base.specs.declared.partition.Order.{Order}
use Rattle.xm_conf.specs.declared.health.Action.{Action}
use Rattle.xm_conf.specs.declared.health.Event.{Event}
use Rattle.xm_report.specs.Report.{ReportLine, ConsoleLine, HealthLine, MovedLine, TraceLine}
use Rattle.xm_report.specs.declared.line.Move.{Move}

-- what a partition's line of the report says: console bytes, a health entry, a trace entry, or a change of its state
pub data Emission : Type 0 where
  Console : (bytes : List ℕ) → Emission
  Health : (event : Event) (word : ℕ) (action : Action) → Emission
  Trace : (bits : ℕ) (load : List ℕ) → Emission
  Moved : (to : Move) → Emission

-- the line of tick n that partition p emitted
abbrev pub line_of : ℕ → ℕ → Emission → ReportLine
line_of n p (Console bytes) = ConsoleLine n p bytes
line_of n p (Health event word action) = HealthLine n p event word action
line_of n p (Trace bits load) = TraceLine n p bits load
line_of n p (Moved to) = MovedLine n p to

-- traffic of a partition on channels that go by its own names, and over links: none, a message that is put, the first one that is taken, or a signal
-- over a link of this number, from the partition where the traffic is its own, and to it where others did it
pub data OwnTraffic : Type 0 where
  OwnStill : OwnTraffic
  OwnPuts : (name : ℕ) (bytes : List ℕ) → OwnTraffic
  OwnTakes : (name : ℕ) → OwnTraffic
  OwnSignals : (number : ℕ) → OwnTraffic

-- what is done to the plan: one is asked for, or the maintenance plan comes next
pub data PlanChange : Type 0 where
  Asked : (plan : ℕ) → PlanChange
  Maintenance : PlanChange

-- a hypervisor event: none, a reset of all, or a halt of all
pub data WholeEvent : Type 0 where
  NoEvent : WholeEvent
  AllReset : (mode : Mode) → WholeEvent
  AllHalted : WholeEvent

-- how a tick reaches beyond its partition: not at all, by traffic on its channels and links, by an order on a partition, by the plan, or by an event
-- of all partitions
pub data Act : Type 0 where
  Nothing : Act
  Trades : (traffic : OwnTraffic) → Act
  Upon : (id : ℕ) (order : Order) → Act
  Plans : (change : PlanChange) → Act
  UponAll : (event : WholeEvent) → Act

-- an order, and the partition that it is for
pub record Directed : Type 0 where
  pub id : ℕ
  pub order : Order

-- all that an act may reach
pub record Reach : Type 0 where
  pub traffic : OwnTraffic
  pub directed : Option Directed
  pub plan : Option PlanChange
  pub event : WholeEvent

abbrev pub no_reach : Reach
no_reach = record { traffic = OwnStill; directed = None; plan = None; event = NoEvent }

-- what each kind of act reaches
abbrev pub reach_of : Act → Reach
reach_of Nothing = no_reach
reach_of (Trades traffic) = record no_reach { traffic = traffic }
reach_of (Upon id order) = record no_reach { directed = Some (record { id = id; order = order }) }
reach_of (Plans change) = record no_reach { plan = Some change }
reach_of (UponAll event) = record no_reach { event = event }

-- what an observing call is shown of the system: nothing, that an entry is not kept, or bytes
pub data Sight : Type 0 where
  Unseen : Sight
  NotKept : Sight
  Words : (bytes : List ℕ) → Sight
