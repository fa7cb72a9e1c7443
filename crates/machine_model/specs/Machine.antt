-- The whole machine: its state, how it boots, one tick, and runs.
use Rattle.std.specs.Prelude.{ℕ, zero, suc, ◌==◌, Bool, true, false, if◌then◌else◌, List, [], length, map, Option, Some, None, is_some, slice_get}
use Rattle.cyclic_plans.specs.PlanClock.{CyclicClock, ended, here, in_maintenance, started}
use Rattle.cyclic_plans.specs.declared.slots.Here.{Here}
use Rattle.guest_bus.specs.Memory.{all_from, is_writable}
use Rattle.xm_base.specs.declared.partition.Order.{Order}
use Rattle.xm_conf.specs.Configuration.{Conf}
use Rattle.xm_ports.specs.Channels.{Content, empty, shapes_of}
use Rattle.xm_traces.specs.Ring.{entry_at}
use Rattle.machine_model.specs.Lists.{each, table}
use Rattle.machine_model.specs.LocalTick.{LocalTick, local_tick}
use Rattle.machine_model.specs.Observed.{CurrentPlan, HealthCounts, HealthEntryOf, Observation, PartitionStatus, PlanStatus, Question, SystemStatus, TraceCounts, TraceEntryOf, asks}
use Rattle.machine_model.specs.Partition.{PartitionState, areas_of, booted, ordered, ordered_emissions, rested, takes_turns}
use Rattle.machine_model.specs.Structures.{counts_bytes, health_bytes, partition_status, plan_status, system_status, trace_bytes, word}
use Rattle.machine_model.specs.Emission as emission
use Rattle.machine_model.specs.Emission.{Act, Asked, Directed, Maintenance, NotKept, OwnTraffic, PlanChange, Sight, Emission, Unseen, Words, reach_of}
use Rattle.machine_model.specs.Traffic.{Still, Traffic, after_traffic, copies_of, heard_as, hearing, traffic_as, traffic_of}
use Rattle.machine_model.specs.View.{PartitionView, System, part_of, view_of}
use Rattle.machine_model.specs.Whole.{AllHalted, AllReset, NoEvent, WholeEvent, after_event, content_after, event_of, ticks_after, time_after, whole_resets_after}

-- the state of the machine: what runs, the partitions, what the channels hold, the plan clock, the hardware clock,
-- the ticks done since boot, how often the hypervisor was reset, and whether it has halted
pub record Machine : Type 0 where
  pub system : System
  pub parts : List PartitionState
  pub channels : List Content
  pub clock : CyclicClock
  pub time : ℕ
  pub ticks : ℕ
  pub resets : ℕ
  pub halted : Bool

-- the partition of number p as it boots
abbrev pub booted_part : System → ℕ → PartitionState
booted_part system p = booted (view_of system p)

-- the machine as it boots
unfoldable pub start : System → Machine
start system = record {
  system = system;
  parts = table (booted_part system) (length system.conf.parts);
  channels = map empty (shapes_of system.conf);
  clock = started;
  time = 0;
  ticks = 0;
  resets = 0;
  halted = false;
}

-- the channels of partition p's ports, each under its own name
unfoldable pub copies : Machine → ℕ → List (Option Content)
copies g p = copies_of g.system.conf p (length (part_of g.system.conf p).ports) g.channels

-- whose slot a tick is in
pub record SlotTurn : Type 0 where
  pub part : ℕ
  pub first : Bool

abbrev pub turn_here : Option Here → Option SlotTurn
turn_here None = None
turn_here (Some slot) = Some (record { part = slot.part; first = slot.first })

unfoldable pub turn_of : Machine → Option SlotTurn
turn_of g = turn_here (here g.system.conf g.clock g.time)

-- whether it is this partition's turn
abbrev pub is_turn_of : Option SlotTurn → ℕ → Bool
is_turn_of None p = false
is_turn_of (Some turn) p = turn.part == p

-- what an observing call is shown of a log: an entry's bytes, or that it is not kept
abbrev pub shown_entry : {T : Type 0} → (T → List ℕ) → Option T → Sight
shown_entry bytes None = NotKept
shown_entry bytes (Some entry) = Words (bytes entry)

-- what is shown of a partition that there is
abbrev pub shown_of : Option PartitionState → (PartitionState → Sight) → Sight
shown_of None show = Unseen
shown_of (Some ps) show = show ps

-- the answer to the question of an observing call
abbrev pub answer_to : Machine → Question → Sight
answer_to g (PartitionStatus id) = shown_of (slice_get g.parts id) (λ ps. Words (partition_status ps))
answer_to g SystemStatus = Words (system_status g.resets (length g.system.conf.parts))
answer_to g CurrentPlan = Words (word g.clock.plan)
answer_to g PlanStatus = Words (plan_status g.clock (here g.system.conf g.clock g.time))
answer_to g (TraceEntryOf id number) = shown_of (slice_get g.parts id) (λ ps. shown_entry trace_bytes (entry_at number ps.traces))
answer_to g (TraceCounts id) = shown_of (slice_get g.parts id) (λ ps. Words (counts_bytes ps.traces))
answer_to g (HealthEntryOf id number) = shown_of (slice_get g.parts id) (λ ps. shown_entry health_bytes (entry_at number ps.health))
answer_to g (HealthCounts id) = shown_of (slice_get g.parts id) (λ ps. Words (counts_bytes ps.health))

-- bytes are shown only where there is room for them
abbrev pub with_room : Bool → Sight → Sight
with_room room Unseen = Unseen
with_room room NotKept = NotKept
with_room true (Words bytes) = Words bytes
with_room false (Words bytes) = Unseen

-- what an observing call is shown
abbrev pub sight_for : Machine → PartitionView → Option Observation → Sight
sight_for g view None = Unseen
sight_for g view (Some call) =
    with_room (all_from (is_writable (areas_of view)) call.address call.size) (answer_to g call.question)

-- what partition p is shown in this tick
unfoldable pub sight_of_state : Machine → ℕ → Bool → PartitionState → Sight
sight_of_state g p first ps =
    if takes_turns ps.state then sight_for g (view_of g.system p) (asks (view_of g.system p) ps g.time first) else Unseen

abbrev pub sight_in : Machine → ℕ → Option SlotTurn → Option PartitionState → Sight
sight_in g p None ps = Unseen
sight_in g p (Some turn) None = Unseen
sight_in g p (Some turn) (Some ps) = if turn.part == p then sight_of_state g p turn.first ps else Unseen

unfoldable pub sight : Machine → ℕ → Sight
sight g p = sight_in g p (turn_of g) (slice_get g.parts p)

-- what partition p's part of this tick gives, in a slot of its own
unfoldable pub local_of : Machine → ℕ → Bool → PartitionState → LocalTick
local_of g p first ps = local_tick (view_of g.system p) ps (copies g p) g.ticks g.time first (sight_of_state g p first ps)

-- the local tick of this tick: that of the slot's partition, where it takes its turn
abbrev pub taken_by : Machine → ℕ → Bool → Option PartitionState → Option LocalTick
taken_by g p first None = None
taken_by g p first (Some ps) = if takes_turns ps.state then Some (local_of g p first ps) else None

abbrev pub local_in : Machine → Option SlotTurn → Option LocalTick
local_in g None = None
local_in g (Some turn) = taken_by g turn.part turn.first (slice_get g.parts turn.part)

unfoldable pub local : Machine → Option LocalTick
local g = local_in g (turn_of g)

-- the act of a tick
abbrev pub act_of : Option LocalTick → Act
act_of None = emission.Nothing
act_of (Some tick) = tick.act

-- traffic under the channels' numbers in the system, of the partition whose turn it is
abbrev pub system_traffic : Conf → Option SlotTurn → OwnTraffic → Traffic
system_traffic conf None traffic = Still
system_traffic conf (Some turn) traffic = traffic_as conf turn.part traffic

-- an order on partition p
abbrev pub order_for : Option Directed → ℕ → Option Order
order_for None p = None
order_for (Some directed) p = if directed.id == p then Some directed.order else None

abbrev pub order_upon : Act → ℕ → Option Order
order_upon act p = order_for (reach_of act).directed p

-- all that a tick did
pub record Happened : Type 0 where
  pub turn : Option SlotTurn
  pub local : Option LocalTick
  pub act : Act
  pub traffic : Traffic
  pub event : WholeEvent

-- what a tick did, by whose slot it was in and by the local tick
unfoldable pub happened_by : Conf → Option SlotTurn → Option LocalTick → Happened
happened_by conf turn tick = record {
  turn = turn;
  local = tick;
  act = act_of tick;
  traffic = system_traffic conf turn (traffic_of (act_of tick));
  event = event_of (act_of tick);
}

unfoldable pub happened : Machine → Happened
happened g = happened_by g.system.conf (turn_of g) (local g)

-- the local tick of partition p, where it had it
abbrev pub if_its_turn : Bool → Option LocalTick → Option LocalTick
if_its_turn true tick = tick
if_its_turn false tick = None

unfoldable pub tick_of : Happened → ℕ → Option LocalTick
tick_of h p = if_its_turn (is_turn_of h.turn p) h.local

-- a partition after its local tick, where it had it
abbrev pub worked_in : Option LocalTick → PartitionState → PartitionState
worked_in None ps = ps
worked_in (Some tick) ps = tick.after

-- a partition after an order that another one gave it
abbrev pub obeyed : PartitionView → Option Order → PartitionState → PartitionState
obeyed view None ps = ps
obeyed view (Some order) ps = ordered view order ps

abbrev pub obeyed_emissions : Option Order → PartitionState → List Emission
obeyed_emissions None ps = []
obeyed_emissions (Some order) ps = ordered_emissions order ps

-- a partition that had no local tick rests
abbrev pub rested_unless : Bool → ℕ → PartitionState → PartitionState
rested_unless true time ps = ps
rested_unless false time ps = rested time ps

-- what a tick leaves of a partition after its own work: it hears of a message or a signal, obeys an order, meets a hypervisor event, and rests where it did no work
unfoldable pub after_tick : PartitionView → ℕ → Bool → OwnTraffic → Option Order → WholeEvent → PartitionState → PartitionState
after_tick view time worked traffic order event ps =
    rested_unless worked time (after_event view event (obeyed view order (hearing view traffic ps)))

-- what a tick leaves of partition p
unfoldable pub part_after : Machine → Happened → ℕ → PartitionState → PartitionState
part_after g h p ps =
    after_tick (view_of g.system p) g.time (is_some (tick_of h p)) (heard_as g.system.conf p h.traffic) (order_upon h.act p) h.event
    (worked_in (tick_of h p) ps)

-- what a tick leaves of channel c
unfoldable pub channel_after : ℕ → Happened → ℕ → Content → Content
channel_after time h c content = content_after h.event (after_traffic time h.traffic c content)

-- the plan clock of the next tick, by what was done to the plan
abbrev pub next_plan_clock : Option PlanChange → Conf → CyclicClock → ℕ → CyclicClock
next_plan_clock None conf clock time = ended conf clock time
next_plan_clock (Some (Asked plan)) conf clock time = ended conf (record clock { asked = Some plan }) time
next_plan_clock (Some Maintenance) conf clock time = in_maintenance time

-- the plan clock of the next tick: a reset starts plan 0, and a halt stops the clock
abbrev pub clock_after : WholeEvent → Conf → Act → CyclicClock → ℕ → CyclicClock
clock_after NoEvent conf act clock time = next_plan_clock (reach_of act).plan conf clock time
clock_after (AllReset mode) conf act clock time = started
clock_after AllHalted conf act clock time = clock

-- whether the hypervisor has halted
abbrev pub is_halt : WholeEvent → Bool
is_halt NoEvent = false
is_halt (AllReset mode) = false
is_halt AllHalted = true

-- the plan clock after a tick in which this happened
unfoldable pub next_clock : Machine → Happened → CyclicClock
next_clock g h = clock_after h.event g.system.conf h.act g.clock g.time

-- the machine after a tick in which this happened
unfoldable pub after : Machine → Happened → Machine
after g h = record {
  system = g.system;
  parts = each (part_after g h) g.parts;
  channels = each (channel_after g.time h) g.channels;
  clock = next_clock g h;
  time = time_after h.event g.time;
  ticks = ticks_after h.event g.ticks;
  resets = whole_resets_after h.event g.resets;
  halted = is_halt h.event;
}

-- one tick; a machine that has halted stays as it is
abbrev pub step_unless : Bool → Machine → Machine
step_unless true g = g
step_unless false g = after g (happened g)

unfoldable pub step : Machine → Machine
step g = step_unless g.halted g

-- this many ticks
abbrev pub run : Machine → ℕ → Machine
run g zero = g
run g (suc count) = run (step g) count
