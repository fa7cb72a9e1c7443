-- The bytes of its memory that a tick of a partition changes.
use Rattle.std.proofs.Common.{◌≡◌, ◌⊎◌, ℕ, ◌+◌, ◌≤◌, Bool, true, false, List, Option, None, Some, Result, Ok, Err, refl, sym, ◌∙◌, arith, subst, inl, inr}
use Rattle.std.specs.Prelude.{◌==◌, if◌then◌else◌, is_some, slice_index_or}
use Rattle.guest_bus.specs.Memory.{Memory}
use Rattle.health_monitor.specs.Monitor.{action_in, effect_of, event_of_type, is_logged}
use Rattle.health_monitor.specs.declared.effects.Own.{Own}
use Rattle.health_monitor.specs.declared.effects.Own.TheVariants as own
use Rattle.sparc_step.specs.declared.outcome.Turn.{Turn as Outcome}
use Rattle.sparc_step.specs.declared.outcome.Turn.TheVariants.{Went, Trap, Call}
use Rattle.virt_traps.specs.Delivery.{Delivered, delivered}
use Rattle.virt_traps.specs.Settled.{settled}
use Rattle.virt_traps.specs.Virtual.{due}
use Rattle.virt_traps.specs.declared.windows.StackFault.{StackFault}
use Rattle.xm_base.specs.declared.partition.Mode.{Mode}
use Rattle.xm_base.specs.declared.partition.Mode.TheVariants.{Cold, Warm}
use Rattle.xm_base.specs.declared.partition.Order.{Order}
use Rattle.xm_base.specs.declared.partition.Order.TheVariants as order
use Rattle.xm_base.specs.declared.partition.State.TheVariants.{Ready}
use Rattle.xm_conf.specs.declared.health.Action.{Action}
use Rattle.xm_conf.specs.declared.health.Action.TheVariants as action
use Rattle.xm_conf.specs.declared.health.Event.{Event}
use Rattle.xm_conf.specs.declared.health.Event.TheVariants as event
use Rattle.xm_ports.specs.Channels.{Content}
use Rattle.machine_model.specs.Alone.{Alone, alone_after, alone_local, alone_local_in, alone_step, alone_traffic}
use Rattle.machine_model.specs.Caller.{Acts, Caller, Meets, Upshot}
use Rattle.machine_model.specs.Cue.{Away, Cue, CueSlot, Mine}
use Rattle.machine_model.specs.Emission as emission
use Rattle.machine_model.specs.Emission.{Act, AllHalted, AllReset, NoEvent, OwnPuts, OwnSignals, OwnStill, OwnTakes, OwnTraffic, Sight, WholeEvent}
use Rattle.machine_model.specs.Health.{answered_by, by_delivery, by_interrupt, done_to_itself, entered, entered_if, event_handled, interrupt_delivered, is_passed_over, passed_over_if, propagated, quiet, self_ordered, trap_delivered, undelivered}
use Rattle.machine_model.specs.Hypercalls.{served}
use Rattle.machine_model.specs.Laws.{HasLoads}
use Rattle.machine_model.specs.Lengths.{ShowsAtMost}
use Rattle.machine_model.specs.LocalTick.{by_act, by_turn, by_upshot, called, clocked, delivered_or_executed, executed_in_tick, goes_on, local_tick, turned_state, with_interrupts, worked, worked_if}
use Rattle.machine_model.specs.Machine.{after_tick, obeyed, rested_unless, worked_in}
use Rattle.machine_model.specs.Partition.{PartitionState, applies, areas_of, carried_out, disarmed, execution_looked_at, hardware_looked_at, is_halted, loaded_memory, ordered, reset, rested, takes_turns}
use Rattle.machine_model.specs.Traffic.{after_message, heard_from, hearing, interrupted}
use Rattle.machine_model.specs.View.{PartitionView}
use Rattle.machine_model.specs.Whole.{after_event}
use Rattle.work_laws.specs.Changes.{ChangesFew, ChangesOrLoads, HoldsShort, IsShort, TickChangesFew}
use Rattle.work_laws.proofs.ChangeLemmas.{both, delivered_few, more, settled_few, stays_as}
use Rattle.work_laws.proofs.ChangeCallLemmas.{IsShortCall, served_few}

-- what is left of a memory
record Leaves (view : PartitionView) (most : ℕ) (before after : Memory) : Type 0 where
  is : ChangesOrLoads view most before after

same : (view : PartitionView) (most : ℕ) (before after : Memory) → after ≡ before → Leaves view most before after
same view most before after is = record { is = inl (stays_as most before after is) }

few : (view : PartitionView) (most : ℕ) (before after : Memory) → ChangesFew most before after → Leaves view most before after
few view most before after changes = record { is = inl changes }

more_leaves : (view : PartitionView) (less most : ℕ) (before after : Memory) → less ≤ most → Leaves view less before after → Leaves view most before after
more_leaves view less most before after below leaves = by leaves.is
  where
    by : ChangesOrLoads view less before after → Leaves view most before after
    by (inl changes) = record { is = inl (more less most before after below changes) }
    by (inr loads) = record { is = inr loads }

-- after few changes
then_leaves : (view : PartitionView) (first second : ℕ) (a b c : Memory) → ChangesFew first a b → Leaves view second b c → Leaves view (first + second) a c
then_leaves view first second a b c one leaves = by leaves.is
  where
    by : ChangesOrLoads view second b c → Leaves view (first + second) a c
    by (inl changes) = record { is = inl (both first second a b c one changes) }
    by (inr loads) = record { is = inr loads }

-- before no change, or another load
record Rests (view : PartitionView) (before after : Memory) : Type 0 where
  is : (after ≡ before) ⊎ (after ≡ loaded_memory view)

rests : (view : PartitionView) (before after : Memory) → after ≡ before → Rests view before after
rests view before after is = record { is = inl is }

then_rests : (view : PartitionView) (most : ℕ) (a b c : Memory) → Leaves view most a b → Rests view b c → Leaves view most a c
then_rests view most a b c leaves rest = by rest.is
  where
    by : (c ≡ b) ⊎ (c ≡ loaded_memory view) → Leaves view most a c
    by (inl is) = subst (Leaves view most a) (sym is) leaves
    by (inr loads) = record { is = inr loads }

both_rest : (view : PartitionView) (a b c : Memory) → Rests view a b → Rests view b c → Rests view a c
both_rest view a b c one other = by other.is
  where
    by : (c ≡ b) ⊎ (c ≡ loaded_memory view) → Rests view a c
    by (inl is) = subst (Rests view a) (sym is) one
    by (inr loads) = record { is = inr loads }

rested_leaves : (view : PartitionView) (most : ℕ) (a b : Memory) → Rests view a b → Leaves view most a b
rested_leaves view most a b rest = then_rests view most a a b (same view most a a refl) rest

-- orders
reset_rests : (view : PartitionView) (mode : Mode) (status : ℕ) (ps : PartitionState) → Rests view ps.memory (reset view mode status ps).memory
unfolding reset
reset_rests view Cold status ps = record { is = inr refl }
reset_rests view Warm status ps = record { is = inl refl }

carried_rests : (view : PartitionView) (an_order : Order) (ps : PartitionState) → Rests view ps.memory (carried_out view an_order ps).memory
unfolding disarmed
carried_rests view order.Halt ps = record { is = inl refl }
carried_rests view order.Suspend ps = record { is = inl refl }
carried_rests view order.Resume ps = record { is = inl refl }
carried_rests view order.Shutdown ps = record { is = inl refl }
carried_rests view (order.Reset mode status) ps = reset_rests view mode status ps

ordered_rests : (view : PartitionView) (an_order : Order) (ps : PartitionState) → Rests view ps.memory (ordered view an_order ps).memory
unfolding ordered
ordered_rests view an_order ps = by (applies an_order ps.state)
  where
    by : (b : Bool) → Rests view ps.memory (if b then carried_out view an_order ps else ps).memory
    by true = carried_rests view an_order ps
    by false = record { is = inl refl }

self_rests : (view : PartitionView) (an_order : Order) (ps : PartitionState) → Rests view ps.memory (self_ordered view an_order ps).after.memory
unfolding self_ordered
self_rests view an_order ps = ordered_rests view an_order ps

-- deliveries
undelivered_rests : (view : PartitionView) (time : ℕ) (ps : PartitionState) → Rests view ps.memory (undelivered view time ps).after.memory
unfolding undelivered entered
undelivered_rests view time ps = ordered_rests view order.Halt (entered time event.MemProtection ps.core.pc action.Halt ps)

delivery_leaves : (answer : Result (Unit {0}) StackFault) (view : PartitionView) (time : ℕ) (d : Delivered) (ps : PartitionState) → ChangesFew 64 ps.memory d.memory
    → Leaves view 64 ps.memory (by_delivery answer view time d ps).after.memory
delivery_leaves (Ok made) view time d ps changes = few view 64 ps.memory d.memory changes
delivery_leaves (Err fault) view time d ps changes = rested_leaves view 64 ps.memory _ (undelivered_rests view time ps)

trap_leaves : (view : PartitionView) (time type : ℕ) (ps : PartitionState) → Leaves view 64 ps.memory (trap_delivered view time type ps).after.memory
unfolding trap_delivered
trap_leaves view time type ps =
    let d = delivered (areas_of view) ps.traps ps.core ps.memory type in delivery_leaves d.answer view time d ps (delivered_few (areas_of view) ps.traps ps.core ps.memory type)

answer_leaves : (answer : Result (Unit {0}) StackFault) (view : PartitionView) (time n : ℕ) (d : Delivered) (ps : PartitionState) → ChangesFew 64 ps.memory d.memory
    → Leaves view 64 ps.memory (by_interrupt answer view time n d ps).after.memory
answer_leaves (Ok made) view time n d ps changes = few view 64 ps.memory d.memory changes
answer_leaves (Err fault) view time n d ps changes = rested_leaves view 64 ps.memory _ (undelivered_rests view time ps)

interrupt_leaves : (view : PartitionView) (time n : ℕ) (ps : PartitionState) → Leaves view 64 ps.memory (interrupt_delivered view time n ps).after.memory
unfolding interrupt_delivered
interrupt_leaves view time n ps =
    let d = delivered (areas_of view) ps.traps ps.core ps.memory (0xE0 + n) in
    answer_leaves d.answer view time n d ps (delivered_few (areas_of view) ps.traps ps.core ps.memory (0xE0 + n))

-- health events: what a trap that goes on to the partition may spill
trap_bytes : Option ℕ → ℕ
trap_bytes None = 0
trap_bytes (Some type) = 64

propagated_leaves : (view : PartitionView) (time : ℕ) (type : Option ℕ) (ps : PartitionState) → Leaves view (trap_bytes type) ps.memory (propagated view time type ps).after.memory
unfolding trap_bytes
propagated_leaves view time None ps = same view 0 ps.memory ps.memory refl
propagated_leaves view time (Some type) ps = trap_leaves view time type ps

itself_leaves : (what : Own) (view : PartitionView) (time : ℕ) (type : Option ℕ) (ps : PartitionState) → Leaves view (trap_bytes type) ps.memory (done_to_itself view time type what ps).after.memory
itself_leaves own.Nothing view time type ps = same view (trap_bytes type) ps.memory ps.memory refl
itself_leaves own.Shutdown view time type ps = same view (trap_bytes type) ps.memory ps.memory refl
itself_leaves (own.Reset mode) view time type ps = rested_leaves view (trap_bytes type) ps.memory _ (self_rests view (order.Reset mode 0) ps)
itself_leaves own.Suspend view time type ps = rested_leaves view (trap_bytes type) ps.memory _ (self_rests view order.Suspend ps)
itself_leaves own.Halt view time type ps = rested_leaves view (trap_bytes type) ps.memory _ (self_rests view order.Halt ps)
itself_leaves own.Propagate view time type ps = propagated_leaves view time type ps

entered_memory : (b : Bool) (time : ℕ) (an_event : Event) (word : ℕ) (an_action : Action) (ps : PartitionState) → (entered_if b time an_event word an_action ps).memory ≡ ps.memory
unfolding entered
entered_memory true time an_event word an_action ps = refl
entered_memory false time an_event word an_action ps = refl

passed_memory : (b : Bool) (ps : PartitionState) → (passed_over_if b ps).memory ≡ ps.memory
passed_memory true ps = refl
passed_memory false ps = refl

event_leaves : (view : PartitionView) (time : ℕ) (an_event : Event) (word : ℕ) (type : Option ℕ) (ps : PartitionState)
    → Leaves view (trap_bytes type) ps.memory (event_handled view time an_event word type ps).after.memory
unfolding event_handled answered_by
event_leaves view time an_event word type ps =
    let effect = effect_of (action_in view.part.hm an_event) ps.traps.enabled in
    let logged_state = entered_if (is_logged view.part.hm an_event) time an_event word effect.action ps in
    let passed = passed_over_if (is_passed_over an_event effect) logged_state in
    subst (λ (before : Memory). Leaves view (trap_bytes type) before (done_to_itself view time type effect.own passed).after.memory)
    (passed_memory (is_passed_over an_event effect) logged_state ∙ entered_memory (is_logged view.part.hm an_event) time an_event word effect.action ps)
    (itself_leaves effect.own view time type passed)

-- a call
act_rests : (act : Act) (view : PartitionView) (ps : PartitionState) → Rests view ps.memory (by_act act view ps).after.memory
act_rests emission.Nothing view ps = record { is = inl refl }
act_rests (emission.Trades traffic) view ps = record { is = inl refl }
act_rests (emission.Upon id an_order) view ps = by (id == view.id)
  where
    by : (b : Bool) → Rests view ps.memory (if b then self_ordered view an_order ps else record (quiet ps) { act = emission.Upon id an_order }).after.memory
    by true = self_rests view an_order ps
    by false = record { is = inl refl }
act_rests (emission.Plans change) view ps = record { is = inl refl }
act_rests (emission.UponAll event) view ps = record { is = inl refl }

upshot_leaves : (u : Upshot) (view : PartitionView) (time : ℕ) (ps : PartitionState) → Leaves view 0 ps.memory (by_upshot u view time ps).after.memory
unfolding trap_bytes
upshot_leaves (Acts act) view time ps = rested_leaves view 0 ps.memory _ (act_rests act view ps)
upshot_leaves (Meets an_event word) view time ps = event_leaves view time an_event word None ps

called_leaves : (caller : Caller) → IsShortCall caller → Leaves caller.view 4100 caller.state.memory (called caller).after.memory
unfolding called clocked
called_leaves caller short =
    then_leaves caller.view 4100 0 caller.state.memory (served caller).after.memory _ (served_few caller short)
    (upshot_leaves (served caller).upshot caller.view caller.time (clocked (served caller).after))

-- a tick of its own
turn_leaves : (turn : Outcome) (view : PartitionView) (contents : List (Option Content)) (time : ℕ) (sight : Sight) (before ps : PartitionState)
    → ((q : ℕ) (content : Content) → slice_index_or contents q None ≡ Some content → HoldsShort 4096 content) → ShowsAtMost 24 sight → HasLoads ps
    → Leaves view 4100 ps.memory (by_turn turn view contents time sight before ps).after.memory
unfolding clocked trap_bytes
turn_leaves Went view contents time sight before ps messages shown loads = same view 4100 ps.memory ps.memory refl
turn_leaves (Trap type) view contents time sight before ps messages shown loads =
    more_leaves view 64 4100 ps.memory _ (omega arith) (event_leaves view time (event_of_type type) before.core.pc (Some type) (clocked ps))
turn_leaves Call view contents time sight before ps messages shown loads = called_leaves _ (record { messages = messages; shown = shown; loads = loads })

executed_leaves : (view : PartitionView) (contents : List (Option Content)) (time : ℕ) (sight : Sight) (ps : PartitionState)
    → ((q : ℕ) (content : Content) → slice_index_or contents q None ≡ Some content → HoldsShort 4096 content) → ShowsAtMost 24 sight → HasLoads ps
    → Leaves view 4172 ps.memory (executed_in_tick view contents time sight ps).after.memory
unfolding executed_in_tick
executed_leaves view contents time sight ps messages shown loads =
    let t = settled (areas_of view) ps.core ps.memory in
    then_leaves view 72 4100 ps.memory t.memory _ (settled_few (areas_of view) ps.core ps.memory)
    (turn_leaves t.turn view contents time sight ps (turned_state t ps) messages shown loads)

delivered_leaves : (o : Option ℕ) (enabled : Bool) (view : PartitionView) (contents : List (Option Content)) (time : ℕ) (sight : Sight) (ps : PartitionState)
    → ((q : ℕ) (content : Content) → slice_index_or contents q None ≡ Some content → HoldsShort 4096 content) → ShowsAtMost 24 sight → HasLoads ps
    → Leaves view 4172 ps.memory (delivered_or_executed o enabled view contents time sight ps).after.memory
unfolding clocked
delivered_leaves None enabled view contents time sight ps messages shown loads = executed_leaves view contents time sight ps messages shown loads
delivered_leaves (Some n) true view contents time sight ps messages shown loads = more_leaves view 64 4172 ps.memory _ (omega arith) (interrupt_leaves view time n (clocked ps))
delivered_leaves (Some n) false view contents time sight ps messages shown loads = executed_leaves view contents time sight ps messages shown loads

worked_leaves : (view : PartitionView) (contents : List (Option Content)) (time : ℕ) (first : Bool) (sight : Sight) (ps : PartitionState)
    → ((q : ℕ) (content : Content) → slice_index_or contents q None ≡ Some content → HoldsShort 4096 content) → ShowsAtMost 24 sight → HasLoads ps
    → Leaves view 4172 ps.memory (worked view contents time first sight ps).after.memory
unfolding worked with_interrupts execution_looked_at hardware_looked_at
worked_leaves view contents time first sight ps messages shown loads = by (goes_on (with_interrupts time first ps).state first (due (with_interrupts time first ps).traps))
  where
    by : (b : Bool) → Leaves view 4172 ps.memory (worked_if b view contents time sight (with_interrupts time first ps)).after.memory
    by false = same view 4172 ps.memory ps.memory refl
    by true =
        let ready = with_interrupts time first ps in
        delivered_leaves (due ready.traps) ready.traps.enabled view contents time sight (record ready { state = Ready }) messages shown loads

local_leaves : (view : PartitionView) (ps : PartitionState) (contents : List (Option Content)) (n time : ℕ) (first : Bool) (sight : Sight)
    → ((q : ℕ) (content : Content) → slice_index_or contents q None ≡ Some content → HoldsShort 4096 content) → ShowsAtMost 24 sight → HasLoads ps
    → Leaves view 4172 ps.memory (local_tick view ps contents n time first sight).after.memory
unfolding local_tick
local_leaves view ps contents n time first sight messages shown loads = worked_leaves view contents time first sight ps messages shown loads

own_leaves : (view : PartitionView) (a : Alone) (cue : Cue) → IsShort a cue.seen → Leaves view 4172 a.state.memory (worked_in (alone_local view a cue) a.state).memory
unfolding alone_local
own_leaves view a cue short = by cue.mine
  where
    taken : (b first : Bool) → Leaves view 4172 a.state.memory (worked_in (if b then Some (local_tick view a.state a.copies a.ticks a.time first cue.seen) else None) a.state).memory
    taken true first = local_leaves view a.state a.copies a.ticks a.time first cue.seen short.messages short.shown short.loads
    taken false first = same view 4172 a.state.memory a.state.memory refl

    by : (slot : CueSlot) → Leaves view 4172 a.state.memory (worked_in (alone_local_in slot view a cue.seen) a.state).memory
    by Away = same view 4172 a.state.memory a.state.memory refl
    by (Mine first) = taken (takes_turns a.state.state) first

-- what it receives, and rest
interrupted_memory : (o : Option ℕ) (ps : PartitionState) → (interrupted o ps).memory ≡ ps.memory
interrupted_memory None ps = refl
interrupted_memory (Some n) ps = by (is_halted ps.state) _ refl
  where
    by : (b : Bool) (raised : PartitionState) → raised.memory ≡ ps.memory → (if b then ps else raised).memory ≡ ps.memory
    by true raised is = refl
    by false raised is = is

hearing_memory : (view : PartitionView) (traffic : OwnTraffic) (ps : PartitionState) → (hearing view traffic ps).memory ≡ ps.memory
unfolding after_message
hearing_memory view OwnStill ps = refl
hearing_memory view (OwnPuts q bytes) ps = interrupted_memory (heard_from q view.part.ports ps.made view.channels) ps
hearing_memory view (OwnTakes q) ps = refl
hearing_memory view (OwnSignals number) ps = interrupted_memory (Some (8 + number)) ps

obeyed_rests : (view : PartitionView) (o : Option Order) (ps : PartitionState) → Rests view ps.memory (obeyed view o ps).memory
obeyed_rests view None ps = record { is = inl refl }
obeyed_rests view (Some an_order) ps = ordered_rests view an_order ps

event_rests : (view : PartitionView) (e : WholeEvent) (ps : PartitionState) → Rests view ps.memory (after_event view e ps).memory
event_rests view NoEvent ps = record { is = inl refl }
event_rests view (AllReset mode) ps = reset_rests view mode 0 ps
event_rests view AllHalted ps = record { is = inl refl }

rest_memory : (b : Bool) (time : ℕ) (ps : PartitionState) → (rested_unless b time ps).memory ≡ ps.memory
unfolding rested hardware_looked_at
rest_memory true time ps = refl
rest_memory false time ps = by (is_halted ps.state)
  where
    by : (h : Bool) → (if h then ps else hardware_looked_at time ps).memory ≡ ps.memory
    by true = refl
    by false = refl

after_rests : (view : PartitionView) (time : ℕ) (b : Bool) (traffic : OwnTraffic) (o : Option Order) (e : WholeEvent) (ps : PartitionState)
    → Rests view ps.memory (after_tick view time b traffic o e ps).memory
unfolding after_tick
after_rests view time b traffic o e ps =
    let heard = hearing view traffic ps in
    let told = obeyed view o heard in
    let met = after_event view e told in
    both_rest view ps.memory met.memory _
    (both_rest view ps.memory told.memory met.memory
    (both_rest view ps.memory heard.memory told.memory (rests view ps.memory heard.memory (hearing_memory view traffic ps)) (obeyed_rests view o heard))
    (event_rests view e told))
    (rests view met.memory _ (rest_memory b time met))

pub tick_changes_few : TickChangesFew
unfolding alone_step alone_after
tick_changes_few view a cue short =
    let tick = alone_local view a cue in
    (then_rests view 4172 a.state.memory (worked_in tick a.state).memory _ (own_leaves view a cue short)
    (after_rests view a.time (is_some tick) (alone_traffic tick cue.traffic) cue.order cue.whole (worked_in tick a.state))).is
