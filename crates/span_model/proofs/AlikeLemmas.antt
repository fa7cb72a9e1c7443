-- Machines whose partitions have rested, and have not: they go on alike.
use Rattle.std.proofs.Common.{◌≡◌, ◌≢◌, ◌⊎◌, ℕ, zero, suc, ◌≤◌, inl, inr, Bool, true, false, List, [], ◌∷◌, ◌++◌, map, Option, None, Some, refl, sym, ap, ◌∙◌, arith}
use Rattle.std.specs.Prelude.{if◌then◌else◌, is_some, slice_get, slice_set}
use Rattle.virt_traps.specs.Virtual.{due}
use Rattle.xm_base.specs.Options.{on}
use Rattle.xm_base.specs.declared.partition.Order.{Order}
use Rattle.xm_base.specs.declared.partition.Order.TheVariants as order
use Rattle.xm_base.specs.declared.partition.State.{State}
use Rattle.xm_base.specs.declared.partition.State.TheVariants.{Ready, Idle, Suspended, Halted}
use Rattle.xm_ports.specs.Channels.{Content}
use Rattle.xm_report.specs.Report.{ReportLine}
use Rattle.xm_traces.specs.Ring.{entry_at}
use Rattle.guest_bus.specs.Memory.{all_from, is_writable}
use Rattle.machine_model.specs.LocalTick.{LocalTick, goes_on, local_tick, seen_outside, with_interrupts, worked, worked_if}
use Rattle.machine_model.specs.Lines.{lines_of, local_lines, order_lines, plan_lines, step_lines, step_said}
use Rattle.machine_model.specs.Lists.{all_of, each}
use Rattle.machine_model.specs.Machine.{Happened, Machine, SlotTurn, after, after_tick, answer_to, channel_after, happened, is_halt, happened_by, local, local_in, local_of, next_clock, copies, obeyed_emissions, order_upon, part_after, shown_entry, shown_of, sight_for, sight_of_state, step, taken_by, tick_of, turn_of, with_room, worked_in}
use Rattle.machine_model.specs.Observed.{CurrentPlan, HealthCounts, HealthEntryOf, Observation, PartitionStatus, PlanStatus, Question, SystemStatus, TraceCounts, TraceEntryOf, asks, unless_delivered}
use Rattle.machine_model.specs.Partition.{PartitionState, applies, areas_of, hardware_looked_at, is_halted, order_emissions, ordered_emissions, rested, takes_turns}
use Rattle.machine_model.specs.Structures.{counts_bytes, health_bytes, partition_status, trace_bytes}
use Rattle.machine_model.specs.Emission.{Sight, Unseen, Words, line_of}
use Rattle.machine_model.specs.Traffic.{heard_as}
use Rattle.machine_model.specs.View.{PartitionView, view_of}
use Rattle.machine_model.specs.Whole.{event_lines, ticks_after, time_after, whole_lines, whole_resets_after}
use Rattle.span_model.specs.Late.{GoAlike, HaltsRested, OthersGoAlike, RestedGoAlike, with_parts}
use Rattle.span_model.proofs.CalmLemmas.{lines_as, step_as}
use Rattle.span_model.proofs.LateLemmas.{meets_after_rest, rests_before}
use Rattle.span_model.proofs.PassLemmas.{all_after_map, each_after_map, get_on, got_set, map_set_again}
use Rattle.span_model.proofs.RestLemmas.{rested_halted, rested_runs, rested_twice}
use Rattle.span_model.proofs.RestingLemmas.{local_by, rested_state}
use Rattle.span_model.proofs.SpanLemmas.{said_as}

-- what rest does not change of a partition
rest_keeps : {X : Type 0} (f : PartitionState → X) (time : ℕ) (ps : PartitionState) → f (hardware_looked_at time ps) ≡ f ps → f (rested time ps) ≡ f ps
rest_keeps f time ps same = at (is_halted ps.state) refl
  where
    at : (b : Bool) → is_halted ps.state ≡ b → f (rested time ps) ≡ f ps
    at true halted = ap f (rested_halted time ps halted)
    at false runs = ap f (rested_runs time ps runs) ∙ same

-- its status, its traces and its health log
looked_status : (time : ℕ) (ps : PartitionState) → partition_status (hardware_looked_at time ps) ≡ partition_status ps
unfolding hardware_looked_at partition_status
looked_status time ps = refl

looked_traces : (time : ℕ) (ps : PartitionState) → (hardware_looked_at time ps).traces ≡ ps.traces
unfolding hardware_looked_at
looked_traces time ps = refl

looked_health : (time : ℕ) (ps : PartitionState) → (hardware_looked_at time ps).health ≡ ps.health
unfolding hardware_looked_at
looked_health time ps = refl

-- what is shown of a partition that rested
shown_rested : (before : ℕ) (parts : List PartitionState) (id : ℕ) (show : PartitionState → Sight) → ((ps : PartitionState) → show (rested before ps) ≡ show ps)
    → shown_of (slice_get (map (rested before) parts) id) show ≡ shown_of (slice_get parts id) show
shown_rested before [] id show same = refl
shown_rested before (ps ∷ parts) zero show same = same ps
shown_rested before (ps ∷ parts) (suc id) show same = shown_rested before parts id show same

-- the machine whose partitions have rested
abbrev rested_at : ℕ → Machine → Machine
rested_at before g = with_parts (map (rested before) g.parts) g

-- its answers are the same
answers_alike : (before : ℕ) (g : Machine) (question : Question) → answer_to (rested_at before g) question ≡ answer_to g question
answers_alike before g (PartitionStatus id) =
    shown_rested before g.parts id (λ ps. Words (partition_status ps)) (λ ps. ap Words (rest_keeps partition_status before ps (looked_status before ps)))
answers_alike before g SystemStatus = refl
answers_alike before g CurrentPlan = refl
answers_alike before g PlanStatus = refl
answers_alike before g (TraceEntryOf id number) =
    shown_rested before g.parts id (λ ps. shown_entry trace_bytes (entry_at number ps.traces))
    (λ ps. rest_keeps (λ x. shown_entry trace_bytes (entry_at number x.traces)) before ps (ap (λ t. shown_entry trace_bytes (entry_at number t)) (looked_traces before ps)))
answers_alike before g (TraceCounts id) =
    shown_rested before g.parts id (λ ps. Words (counts_bytes ps.traces))
    (λ ps. rest_keeps (λ x. Words (counts_bytes x.traces)) before ps (ap (λ t. Words (counts_bytes t)) (looked_traces before ps)))
answers_alike before g (HealthEntryOf id number) =
    shown_rested before g.parts id (λ ps. shown_entry health_bytes (entry_at number ps.health))
    (λ ps. rest_keeps (λ x. shown_entry health_bytes (entry_at number x.health)) before ps (ap (λ t. shown_entry health_bytes (entry_at number t)) (looked_health before ps)))
answers_alike before g (HealthCounts id) =
    shown_rested before g.parts id (λ ps. Words (counts_bytes ps.health))
    (λ ps. rest_keeps (λ x. Words (counts_bytes x.health)) before ps (ap (λ t. Words (counts_bytes t)) (looked_health before ps)))

-- so is what an observing call is shown
sights_alike : (before : ℕ) (g : Machine) (view : PartitionView) (o : Option Observation) → sight_for (rested_at before g) view o ≡ sight_for g view o
sights_alike before g view None = refl
sights_alike before g view (Some call) = ap (with_room (all_from (is_writable (areas_of view)) call.address call.size)) (answers_alike before g call.question)

-- a partition that takes turns has not halted
takes_runs : (state : State) → takes_turns state ≡ true → is_halted state ≡ false
takes_runs Ready takes = refl
takes_runs Idle takes = refl
takes_runs Suspended takes = refl
takes_runs Halted takes = absurd cc

-- the call that a partition makes
asks_alike : (view : PartitionView) (a b : PartitionState) (time : ℕ) (first : Bool) → with_interrupts time first a ≡ with_interrupts time first b → asks view a time first ≡ asks view b time first
unfolding asks
asks_alike view a b time first same =
    ap (λ (s : PartitionState). if goes_on s.state first (due s.traps) then unless_delivered (due s.traps) s.traps.enabled view s else None) same

-- what a partition is shown in its slot
shown_alike : (before : ℕ) (g : Machine) (p : ℕ) (first : Bool) (ps : PartitionState) → takes_turns ps.state ≡ true
    → with_interrupts g.time first (rested before ps) ≡ with_interrupts g.time first ps
    → sight_of_state (rested_at before g) p first (rested before ps) ≡ sight_of_state g p first ps
unfolding sight_of_state
shown_alike before g p first ps takes same =
    ap (λ (s : State). if takes_turns s then sight_for (rested_at before g) (view_of g.system p) (asks (view_of g.system p) (rested before ps) g.time first) else Unseen)
    (rested_state before ps)
    ∙ ap (λ (o : Option Observation). if takes_turns ps.state then sight_for (rested_at before g) (view_of g.system p) o else Unseen)
    (asks_alike (view_of g.system p) (rested before ps) ps g.time first same)
    ∙ ap (λ (s : Sight). if takes_turns ps.state then s else Unseen)
    (sights_alike before g (view_of g.system p) (asks (view_of g.system p) ps g.time first))

-- the work of a partition
work_alike : (view : PartitionView) (contents : List (Option Content)) (time : ℕ) (first : Bool) (seen : Sight) (a b : PartitionState)
    → with_interrupts time first a ≡ with_interrupts time first b → worked view contents time first seen a ≡ worked view contents time first seen b
unfolding worked
work_alike view contents time first seen a b same =
    ap (λ (s : PartitionState). worked_if (goes_on s.state first (due s.traps)) view contents time seen s) same

-- its local tick
local_alike : (before : ℕ) (g : Machine) (p : ℕ) (first : Bool) (ps : PartitionState) → before ≤ g.time → takes_turns ps.state ≡ true
    → local_of (rested_at before g) p first (rested before ps) ≡ local_of g p first ps
unfolding local_of local_tick copies
local_alike before g p first ps later takes =
    let same : with_interrupts g.time first (rested before ps) ≡ with_interrupts g.time first ps = meets_after_rest before g.time first ps later (takes_runs ps.state takes) in
    ap (λ seen. seen_outside (view_of g.system p) g.ticks (worked (view_of g.system p) (copies g p) g.time first seen (rested before ps))) (shown_alike before g p first ps takes same)
    ∙ ap (seen_outside (view_of g.system p) g.ticks)
    (work_alike (view_of g.system p) (copies g p) g.time first (sight_of_state g p first ps) (rested before ps) ps same)

-- the turn of a tick does not depend on the partitions
turn_alike : (before : ℕ) (g : Machine) → turn_of (rested_at before g) ≡ turn_of g
unfolding turn_of
turn_alike before g = refl

-- the local tick of the slot's partition, where there is one
taken_alike : (before : ℕ) (g : Machine) (p : ℕ) (first : Bool) (o : Option PartitionState) → before ≤ g.time
    → taken_by (rested_at before g) p first (on (rested before) o) ≡ taken_by g p first o
taken_alike before g p first None later = refl
taken_alike before g p first (Some ps) later =
    ap (λ (s : State). if takes_turns s then Some (local_of (rested_at before g) p first (rested before ps)) else None) (rested_state before ps)
    ∙ at (takes_turns ps.state) refl
  where
    at : (b : Bool) → takes_turns ps.state ≡ b
        → (if b then Some (local_of (rested_at before g) p first (rested before ps)) else None) ≡ (if b then Some (local_of g p first ps) else None)
    at true takes = ap Some (local_alike before g p first ps later takes)
    at false stays = refl

-- in a slot or gap
local_in_alike : (before : ℕ) (g : Machine) (turn : Option SlotTurn) → before ≤ g.time → local_in (rested_at before g) turn ≡ local_in g turn
local_in_alike before g None later = refl
local_in_alike before g (Some turn) later =
    ap (taken_by (rested_at before g) turn.part turn.first) (get_on (rested before) g.parts turn.part)
    ∙ taken_alike before g turn.part turn.first (slice_get g.parts turn.part) later

-- the local tick of a tick
tick_alike : (before : ℕ) (g : Machine) → before ≤ g.time → local (rested_at before g) ≡ local g
tick_alike before g later =
    local_by (rested_at before g) (turn_of g) (turn_alike before g) ∙ local_in_alike before g (turn_of g) later ∙ sym (local_by g (turn_of g) refl)

-- the same happens
happened_alike : (before : ℕ) (g : Machine) → before ≤ g.time → happened (rested_at before g) ≡ happened g
unfolding happened
happened_alike before g later =
    ap (λ turn. happened_by g.system.conf turn (local (rested_at before g))) (turn_alike before g)
    ∙ ap (happened_by g.system.conf (turn_of g)) (tick_alike before g later)

-- an order is one to halt, or it is not
halts_or_not : (given : Option Order) → (given ≡ Some order.Halt) ⊎ (given ≢ Some order.Halt)
halts_or_not None = inr (λ e. absurd cc)
halts_or_not (Some order.Halt) = inl refl
halts_or_not (Some order.Suspend) = inr (λ e. absurd cc)
halts_or_not (Some order.Resume) = inr (λ e. absurd cc)
halts_or_not (Some order.Shutdown) = inr (λ e. absurd cc)
halts_or_not (Some (order.Reset mode status)) = inr (λ e. absurd cc)

-- what it leaves of a partition that is not ordered to halt
part_alike : (before : ℕ) (g : Machine) (h : Happened) (k : ℕ) (ps : PartitionState) → before ≤ g.time → order_upon h.act k ≢ Some order.Halt
    → part_after (rested_at before g) h k (rested before ps) ≡ part_after g h k ps
unfolding part_after
part_alike before g h k ps later other = at (tick_of h k)
  where
    at : (tick : Option LocalTick)
        → after_tick (view_of g.system k) g.time (is_some tick) (heard_as g.system.conf k h.traffic) (order_upon h.act k) h.event (worked_in tick (rested before ps))
        ≡ after_tick (view_of g.system k) g.time (is_some tick) (heard_as g.system.conf k h.traffic) (order_upon h.act k) h.event (worked_in tick ps)
    at None = rests_before (view_of g.system k) before g.time (heard_as g.system.conf k h.traffic) (order_upon h.act k) h.event ps later other
    at (Some tick) = refl

-- it does not see the other partitions
after_same : (before : ℕ) (g : Machine) (h : Happened) (k : ℕ) (ps : PartitionState) → part_after (rested_at before g) h k ps ≡ part_after g h k ps
unfolding part_after
after_same before g h k ps = refl

-- what it leaves of a partition, unless it is ordered to halt and has not rested
any_alike : (before : ℕ) (g : Machine) (h : Happened) (k : ℕ) (ps : PartitionState) → before ≤ g.time → (order_upon h.act k ≡ Some order.Halt → rested before ps ≡ ps)
    → part_after (rested_at before g) h k (rested before ps) ≡ part_after g h k ps
any_alike before g h k ps later has_rested = at (halts_or_not (order_upon h.act k))
  where
    at : (order_upon h.act k ≡ Some order.Halt) ⊎ (order_upon h.act k ≢ Some order.Halt) → part_after (rested_at before g) h k (rested before ps) ≡ part_after g h k ps
    at (inl halts) = ap (part_after (rested_at before g) h k) (has_rested halts) ∙ after_same before g h k ps
    at (inr other) = part_alike before g h k ps later other

-- what it leaves of the machine
after_alike : (before : ℕ) (g : Machine) (h : Happened) → before ≤ g.time
    → ((p : ℕ) (ps : PartitionState) → slice_get g.parts p ≡ Some ps → order_upon h.act p ≡ Some order.Halt → rested before ps ≡ ps) → after (rested_at before g) h ≡ after g h
unfolding after next_clock
after_alike before g h later has_rested =
    ap (λ (parts : List PartitionState). record {
      system = g.system;
      parts = parts;
      channels = each (channel_after g.time h) g.channels;
      clock = next_clock g h;
      time = time_after h.event g.time;
      ticks = ticks_after h.event g.ticks;
      resets = whole_resets_after h.event g.resets;
      halted = is_halt h.event;
    })
    (each_after_map (part_after (rested_at before g) h) (part_after g h) (rested before) g.parts (λ k ps there. any_alike before g h k ps later (has_rested k ps there)))

-- what an order emits of a partition that rested
emitted_alike : (before : ℕ) (given : Option Order) (ps : PartitionState) → obeyed_emissions given (rested before ps) ≡ obeyed_emissions given ps
unfolding ordered_emissions
emitted_alike before None ps = refl
emitted_alike before (Some an_order) ps = ap (λ (s : State). if applies an_order s then order_emissions an_order else []) (rested_state before ps)

-- the lines of an order
order_alike : (before : ℕ) (g : Machine) (h : Happened) (k : ℕ) (ps : PartitionState) → order_lines (rested_at before g) h k (rested before ps) ≡ order_lines g h k ps
unfolding order_lines
order_alike before g h k ps = at (tick_of h k)
  where
    at : (tick : Option LocalTick) → map (line_of g.ticks k) (obeyed_emissions (order_upon h.act k) (worked_in tick (rested before ps)))
        ≡ map (line_of g.ticks k) (obeyed_emissions (order_upon h.act k) (worked_in tick ps))
    at None = ap (map (line_of g.ticks k)) (emitted_alike before (order_upon h.act k) ps)
    at (Some tick) = refl

-- the lines of what happened
lines_alike : (before : ℕ) (g : Machine) (h : Happened) → lines_of (rested_at before g) h ≡ lines_of g h
unfolding lines_of next_clock
lines_alike before g h =
    ap (λ (orders : List ReportLine). local_lines h.local ++ orders ++ whole_lines g.ticks h.event
    ++ all_of (λ p ps. event_lines g.ticks h.event p) (map (rested before) g.parts) ++ plan_lines g.ticks g.clock.plan (next_clock g h).plan)
    (all_after_map (order_lines (rested_at before g) h) (order_lines g h) (rested before) g.parts (λ k ps. order_alike before g h k ps))
    ∙ ap (λ (events : List ReportLine). local_lines h.local ++ all_of (order_lines g h) g.parts ++ whole_lines g.ticks h.event
    ++ events ++ plan_lines g.ticks g.clock.plan (next_clock g h).plan)
    (all_after_map (λ p (ps : PartitionState). event_lines g.ticks h.event p) (λ p (ps : PartitionState). event_lines g.ticks h.event p) (rested before) g.parts (λ k ps. refl))

-- a machine goes on alike whether its partitions have rested or not
pub rested_go_alike : RestedGoAlike
rested_go_alike g before later runs =
    let same : happened (rested_at before g) ≡ happened g = happened_alike before g later in
    record {
      happened = same;
      lines = lines_as (rested_at before g) (happened g) runs same ∙ lines_alike before g (happened g) ∙ sym (lines_as g (happened g) runs refl);
      said = λ p. said_as (rested_at before g) (happened g) p runs same ∙ sym (said_as g (happened g) p runs refl);
      state = λ has_rested. step_as (rested_at before g) (happened g) runs same ∙ after_alike before g (happened g) later has_rested ∙ sym (step_as g (happened g) runs refl);
    }

-- two machines that go on as a third one
alike_through : (before : ℕ) (a b c d : Machine) → c ≡ d → GoAlike before c a → GoAlike before d b
    → (happened a ≡ happened b → HaltsRested before b → HaltsRested before a) → GoAlike before a b
alike_through before a b c d same first second keeps =
    let happens : happened a ≡ happened b = sym first.happened ∙ ap happened same ∙ second.happened in
    record {
      happened = happens;
      lines = sym first.lines ∙ ap step_lines same ∙ second.lines;
      said = λ p. sym (first.said p) ∙ ap (λ m. step_said m p) same ∙ second.said p;
      state = λ has_rested. sym (first.state (keeps happens has_rested)) ∙ ap step same ∙ second.state has_rested;
    }

-- one that is ordered to halt has rested in both
halts_rested : (before p : ℕ) (ps : PartitionState) (g : Machine)
    → happened (with_parts (slice_set (map (rested before) g.parts) p ps) g) ≡ happened (with_parts (slice_set g.parts p ps) g)
    → HaltsRested before (with_parts (slice_set g.parts p ps) g) → HaltsRested before (with_parts (slice_set (map (rested before) g.parts) p ps) g)
halts_rested before p ps g happens has_rested q y there halts = at (got_set (rested before) g.parts p q ps y there)
  where
    at : (slice_get (slice_set g.parts p ps) q ≡ Some y) ⊎ ((x : PartitionState) × (y ≡ rested before x)) → rested before y ≡ y
    at (inl same) = has_rested q y same (ap (λ (h : Happened). order_upon h.act q) (sym happens) ∙ halts)
    at (inr (x, is)) = ap (rested before) is ∙ rested_twice before before x (omega arith) ∙ sym is

-- and whether all but one have
pub others_go_alike : OthersGoAlike
others_go_alike g before p ps later runs =
    let set : List PartitionState = slice_set (map (rested before) g.parts) p ps in
    let unset : List PartitionState = slice_set g.parts p ps in
    alike_through before (with_parts set g) (with_parts unset g) (rested_at before (with_parts set g)) (rested_at before (with_parts unset g))
    (ap (λ parts. with_parts parts g) (map_set_again (rested before) g.parts p ps (λ x. rested_twice before before x (omega arith))))
    (rested_go_alike (with_parts set g) before later runs) (rested_go_alike (with_parts unset g) before later runs) (halts_rested before p ps g)
