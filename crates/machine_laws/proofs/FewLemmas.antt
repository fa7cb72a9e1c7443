-- A partition's part of a tick prints at most three lines, and at most 1024 console bytes.
use Rattle.std.proofs.Common.{◌≡◌, ℕ, suc, ◌+◌, Bool, true, false, List, [], ◌∷◌, length, map, Option, None, Some, Result, Ok, Err, refl, ap, arith}
use Rattle.std.specs.Prelude.{◌==◌, if◌then◌else◌}
use Rattle.health_monitor.specs.Monitor.{action_in, effect_of, event_of_type, is_logged}
use Rattle.health_monitor.specs.declared.effects.Own.{Own}
use Rattle.health_monitor.specs.declared.effects.Own.TheVariants as own
use Rattle.sparc_step.specs.declared.outcome.Turn.{Turn as Outcome}
use Rattle.sparc_step.specs.declared.outcome.Turn.TheVariants.{Went, Trap, Call}
use Rattle.virt_traps.specs.Delivery.{Delivered, delivered}
use Rattle.virt_traps.specs.Settled.{settled}
use Rattle.virt_traps.specs.Virtual.{due}
use Rattle.virt_traps.specs.declared.windows.StackFault.{StackFault}
use Rattle.xm_base.specs.declared.partition.Order.{Order}
use Rattle.xm_base.specs.declared.partition.Order.TheVariants as order
use Rattle.xm_base.specs.declared.partition.State.TheVariants.{Ready}
use Rattle.xm_conf.specs.declared.health.Action.{Action}
use Rattle.xm_conf.specs.declared.health.Action.TheVariants as action
use Rattle.xm_conf.specs.declared.health.Event.{Event}
use Rattle.xm_conf.specs.declared.health.Event.TheVariants as event
use Rattle.xm_ports.specs.Channels.{Content}
use Rattle.machine_model.specs.Caller.{Acts, Caller, Meets, Upshot}
use Rattle.machine_model.specs.Emission as emission
use Rattle.machine_model.specs.Emission.{Act, Emission, Sight, line_of}
use Rattle.machine_model.specs.Health.{answered_by, by_delivery, by_interrupt, done_to_itself, entered_emissions, entered_if, event_handled, interrupt_delivered, is_passed_over, passed_over_if, propagated, quiet, self_ordered, trap_delivered, undelivered}
use Rattle.machine_model.specs.Hypercalls.{served}
use Rattle.machine_model.specs.LocalTick.{by_act, by_turn, by_upshot, called, clocked, delivered_or_executed, executed_in_tick, goes_on, local_tick, turned_state, with_interrupts, worked, worked_if}
use Rattle.machine_model.specs.Partition.{PartitionState, applies, areas_of, order_emissions, ordered_emissions}
use Rattle.machine_model.specs.View.{PartitionView}
use Rattle.machine_laws.specs.Few.{EmitsFew}
use Rattle.machine_laws.proofs.CallLemmas.{served_few}
use Rattle.machine_laws.proofs.SumLemmas.{Few, both_few, more_few, none_few}

-- orders, events and deliveries
order_few : (an_order : Order) → Few (order_emissions an_order) 1 0
order_few order.Halt = record { lines = omega arith; said = omega arith }
order_few order.Suspend = record { lines = omega arith; said = omega arith }
order_few order.Resume = record { lines = omega arith; said = omega arith }
order_few order.Shutdown = none_few 1 0
order_few (order.Reset mode status) = record { lines = omega arith; said = omega arith }

pub ordered_few : (an_order : Order) (ps : PartitionState) → Few (ordered_emissions an_order ps) 1 0
unfolding ordered_emissions
ordered_few an_order ps = by (applies an_order ps.state)
  where
    by : (b : Bool) → Few (if b then order_emissions an_order else []) 1 0
    by true = order_few an_order
    by false = none_few 1 0

self_few : (view : PartitionView) (an_order : Order) (ps : PartitionState) → Few (self_ordered view an_order ps).emitted 1 0
unfolding self_ordered
self_few view an_order ps = ordered_few an_order ps

entry_few : (b : Bool) (an_event : Event) (word : ℕ) (an_action : Action) → Few (entered_emissions b an_event word an_action) 1 0
entry_few true an_event word an_action = record { lines = omega arith; said = omega arith }
entry_few false an_event word an_action = none_few 1 0

undelivered_few : (view : PartitionView) (time : ℕ) (ps : PartitionState) → Few (undelivered view time ps).emitted 2 0
unfolding undelivered
undelivered_few view time ps =
    both_few (entered_emissions true event.MemProtection ps.core.pc action.Halt) (ordered_emissions order.Halt ps) 1 0 1 0 (entry_few true event.MemProtection ps.core.pc action.Halt) (ordered_few order.Halt ps)

delivery_few : (answer : Result (Unit {0}) StackFault) (view : PartitionView) (time : ℕ) (d : Delivered) (ps : PartitionState) → Few (by_delivery answer view time d ps).emitted 2 0
delivery_few (Ok made) view time d ps = none_few 2 0
delivery_few (Err fault) view time d ps = undelivered_few view time ps

trap_few : (view : PartitionView) (time type : ℕ) (ps : PartitionState) → Few (trap_delivered view time type ps).emitted 2 0
unfolding trap_delivered
trap_few view time type ps = let d = delivered (areas_of view) ps.traps ps.core ps.memory type in delivery_few d.answer view time d ps

interrupt_answer_few : (answer : Result (Unit {0}) StackFault) (view : PartitionView) (time n : ℕ) (d : Delivered) (ps : PartitionState) → Few (by_interrupt answer view time n d ps).emitted 2 0
interrupt_answer_few (Ok made) view time n d ps = none_few 2 0
interrupt_answer_few (Err fault) view time n d ps = undelivered_few view time ps

interrupt_few : (view : PartitionView) (time n : ℕ) (ps : PartitionState) → Few (interrupt_delivered view time n ps).emitted 2 0
unfolding interrupt_delivered
interrupt_few view time n ps = let d = delivered (areas_of view) ps.traps ps.core ps.memory (0xE0 + n) in interrupt_answer_few d.answer view time n d ps

propagated_few : (view : PartitionView) (time : ℕ) (type : Option ℕ) (ps : PartitionState) → Few (propagated view time type ps).emitted 2 0
propagated_few view time None ps = none_few 2 0
propagated_few view time (Some type) ps = trap_few view time type ps

itself_few : (view : PartitionView) (time : ℕ) (type : Option ℕ) (what : Own) (ps : PartitionState) → Few (done_to_itself view time type what ps).emitted 2 0
itself_few view time type own.Nothing ps = none_few 2 0
itself_few view time type own.Shutdown ps = none_few 2 0
itself_few view time type (own.Reset mode) ps = more_few _ 1 0 2 0 (self_few view (order.Reset mode 0) ps) (omega arith) (omega arith)
itself_few view time type own.Suspend ps = more_few _ 1 0 2 0 (self_few view order.Suspend ps) (omega arith) (omega arith)
itself_few view time type own.Halt ps = more_few _ 1 0 2 0 (self_few view order.Halt ps) (omega arith) (omega arith)
itself_few view time type own.Propagate ps = propagated_few view time type ps

-- where the event was no trap, no delivery can fail
itself_once_few : (view : PartitionView) (time : ℕ) (what : Own) (ps : PartitionState) → Few (done_to_itself view time None what ps).emitted 1 0
itself_once_few view time own.Nothing ps = none_few 1 0
itself_once_few view time own.Shutdown ps = none_few 1 0
itself_once_few view time (own.Reset mode) ps = self_few view (order.Reset mode 0) ps
itself_once_few view time own.Suspend ps = self_few view order.Suspend ps
itself_once_few view time own.Halt ps = self_few view order.Halt ps
itself_once_few view time own.Propagate ps = none_few 1 0

-- what an event emits: its own line, and those of what the partition's health table does to the partition
handled_few : (view : PartitionView) (time : ℕ) (an_event : Event) (word : ℕ) (type : Option ℕ) (ps : PartitionState) (most : ℕ)
    → ((what : Own) (passed : PartitionState) → Few (done_to_itself view time type what passed).emitted most 0) → Few (event_handled view time an_event word type ps).emitted (1 + most) 0
unfolding event_handled answered_by
handled_few view time an_event word type ps most few =
    let effect = effect_of (action_in view.part.hm an_event) ps.traps.enabled in
    let logged = is_logged view.part.hm an_event in
    let passed = passed_over_if (is_passed_over an_event effect) (entered_if logged time an_event word effect.action ps) in
    both_few (entered_emissions logged an_event word effect.action) (done_to_itself view time type effect.own passed).emitted 1 0 most 0
    (entry_few logged an_event word effect.action) (few effect.own passed)

event_few : (view : PartitionView) (time : ℕ) (an_event : Event) (word : ℕ) (type : Option ℕ) (ps : PartitionState) → Few (event_handled view time an_event word type ps).emitted 3 0
event_few view time an_event word type ps = handled_few view time an_event word type ps 2 (λ what passed. itself_few view time type what passed)

event_once_few : (view : PartitionView) (time : ℕ) (an_event : Event) (word : ℕ) (ps : PartitionState) → Few (event_handled view time an_event word None ps).emitted 2 0
event_once_few view time an_event word ps = handled_few view time an_event word None ps 1 (λ what passed. itself_once_few view time what passed)

-- a tick
act_few : (act : Act) (view : PartitionView) (ps : PartitionState) → Few (by_act act view ps).emitted 2 0
act_few emission.Nothing view ps = none_few 2 0
act_few (emission.Trades traffic) view ps = none_few 2 0
act_few (emission.Upon id an_order) view ps = by (id == view.id)
  where
    by : (b : Bool) → Few (if b then self_ordered view an_order ps else record (quiet ps) { act = emission.Upon id an_order }).emitted 2 0
    by true = more_few _ 1 0 2 0 (self_few view an_order ps) (omega arith) (omega arith)
    by false = none_few 2 0
act_few (emission.Plans change) view ps = none_few 2 0
act_few (emission.UponAll event) view ps = none_few 2 0

upshot_few : (u : Upshot) (view : PartitionView) (time : ℕ) (ps : PartitionState) → Few (by_upshot u view time ps).emitted 2 0
upshot_few (Acts act) view time ps = act_few act view ps
upshot_few (Meets an_event word) view time ps = event_once_few view time an_event word ps

called_few : (caller : Caller) → Few (called caller).emitted 3 1024
unfolding called
called_few caller =
    both_few (served caller).emitted (by_upshot (served caller).upshot caller.view caller.time (clocked (served caller).after)).emitted 1 1024 2 0
    (served_few caller) (upshot_few (served caller).upshot caller.view caller.time (clocked (served caller).after))

turn_few : (turn : Outcome) (view : PartitionView) (contents : List (Option Content)) (time : ℕ) (sight : Sight) (before ps : PartitionState) → Few (by_turn turn view contents time sight before ps).emitted 3 1024
turn_few Went view contents time sight before ps = none_few 3 1024
turn_few (Trap type) view contents time sight before ps =
    more_few _ 3 0 3 1024 (event_few view time (event_of_type type) before.core.pc (Some type) (clocked ps)) (omega arith) (omega arith)
turn_few Call view contents time sight before ps = called_few _

executed_few : (view : PartitionView) (contents : List (Option Content)) (time : ℕ) (sight : Sight) (ps : PartitionState) → Few (executed_in_tick view contents time sight ps).emitted 3 1024
unfolding executed_in_tick
executed_few view contents time sight ps =
    let t = settled (areas_of view) ps.core ps.memory in turn_few t.turn view contents time sight ps (turned_state t ps)

delivered_few : (o : Option ℕ) (enabled : Bool) (view : PartitionView) (contents : List (Option Content)) (time : ℕ) (sight : Sight) (ps : PartitionState)
    → Few (delivered_or_executed o enabled view contents time sight ps).emitted 3 1024
delivered_few None enabled view contents time sight ps = executed_few view contents time sight ps
delivered_few (Some n) true view contents time sight ps = more_few _ 2 0 3 1024 (interrupt_few view time n (clocked ps)) (omega arith) (omega arith)
delivered_few (Some n) false view contents time sight ps = executed_few view contents time sight ps

worked_if_few : (b : Bool) (view : PartitionView) (contents : List (Option Content)) (time : ℕ) (sight : Sight) (ps : PartitionState) → Few (worked_if b view contents time sight ps).emitted 3 1024
worked_if_few false view contents time sight ps = none_few 3 1024
worked_if_few true view contents time sight ps = delivered_few (due ps.traps) ps.traps.enabled view contents time sight (record ps { state = Ready })

worked_few : (view : PartitionView) (contents : List (Option Content)) (time : ℕ) (first : Bool) (sight : Sight) (ps : PartitionState) → Few (worked view contents time first sight ps).emitted 3 1024
unfolding worked
worked_few view contents time first sight ps =
    let ready = with_interrupts time first ps in worked_if_few (goes_on ready.state first (due ready.traps)) view contents time sight ready

pub as_many : (n p : ℕ) (emitted : List Emission) → length (map (line_of n p) emitted) ≡ length emitted
as_many n p [] = refl
as_many n p (one ∷ emitted) = ap suc (as_many n p emitted)

pub emits_few : EmitsFew
unfolding local_tick
emits_few view ps contents n time first seen =
    let few = worked_few view contents time first seen ps in
    record { lines = let e = as_many n view.id (worked view contents time first seen ps).emitted in let f = few.lines in omega (arith, e, f); said = few.said }
