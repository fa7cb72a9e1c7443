-- A partition's work is the same whatever input words it was given.
use Rattle.std.proofs.Common.{◌≡◌, ℕ, ◌+◌, ◌++◌, Bool, true, false, List, Option, None, Some, Result, Ok, Err, refl, ap, ◌∙◌}
use Rattle.std.specs.Prelude.{◌==◌, if◌then◌else◌}
use Rattle.health_monitor.specs.Monitor.{action_in, effect_of, event_of_type, is_logged}
use Rattle.health_monitor.specs.declared.effects.Own.{Own}
use Rattle.health_monitor.specs.declared.effects.Own.TheVariants as own
use Rattle.sparc_step.specs.Registers.{Registers}
use Rattle.sparc_step.specs.declared.outcome.Turn.{Turn as Outcome}
use Rattle.sparc_step.specs.declared.outcome.Turn.TheVariants.{Went, Trap, Call}
use Rattle.virt_traps.specs.Delivery.{Delivered, delivered}
use Rattle.virt_traps.specs.Settled.{settled}
use Rattle.virt_traps.specs.Virtual.{due}
use Rattle.virt_traps.specs.declared.windows.StackFault.{StackFault}
use Rattle.xm_base.specs.declared.partition.Mode.{Mode}
use Rattle.xm_base.specs.declared.partition.Mode.TheVariants.{Cold, Warm}
use Rattle.xm_base.specs.declared.partition.Order.{Order}
use Rattle.xm_base.specs.declared.partition.Order.TheVariants as order
use Rattle.xm_base.specs.declared.partition.State.TheVariants.{Ready}
use Rattle.xm_conf.specs.declared.health.Event.{Event}
use Rattle.xm_ports.specs.Channels.{Content}
use Rattle.machine_model.specs.Caller.{Acts, Caller, Meets, Served, Upshot}
use Rattle.machine_model.specs.CoreFile.{core_file, standing_bytes}
use Rattle.machine_model.specs.Emission as emission
use Rattle.machine_model.specs.Emission.{Act, AllHalted, AllReset, NoEvent, OwnPuts, OwnSignals, OwnStill, OwnTakes, OwnTraffic, Sight, WholeEvent}
use Rattle.machine_model.specs.Health.{Worked, after_emitting, answered_by, by_delivery, by_interrupt, done_to_all, done_to_itself, entered_emissions, entered_if, event_handled, interrupt_delivered, is_passed_over, passed_over_if, propagated, quiet, self_ordered, trap_delivered, undelivered}
use Rattle.machine_model.specs.Hypercalls.{served}
use Rattle.machine_model.specs.LocalTick.{bounded, by_act, by_turn, by_upshot, called, clocked, delivered_or_executed, executed_in_tick, goes_on, is_its, local_tick, seen_outside, turned_state, with_interrupts, worked, worked_if}
use Rattle.machine_model.specs.Machine.{after_tick, obeyed, rested_unless}
use Rattle.machine_model.specs.Observed.{Observation, asked_by, asks, if_call, unless_delivered}
use Rattle.machine_model.specs.Partition.{PartitionState, applies, areas_of, carried_out, loaded_memory, memory_after, ordered, ordered_emissions, reset}
use Rattle.machine_model.specs.Traffic.{after_message, hearing}
use Rattle.machine_model.specs.View.{PartitionView}
use Rattle.machine_model.specs.Whole.{after_event}
use Rattle.continuation_laws.proofs.ViewCallLemmas.{given_caller, given_view, served_same}

-- orders
memory_same : (mode : Mode) (words : List ℕ) (view : PartitionView) (ps : PartitionState) → memory_after mode (given_view words view) ps.memory ≡ memory_after mode view ps.memory
unfolding loaded_memory areas_of
memory_same Cold words view ps = refl
memory_same Warm words view ps = refl

reset_same : (mode : Mode) (status : ℕ) (words : List ℕ) (view : PartitionView) (ps : PartitionState) → reset (given_view words view) mode status ps ≡ reset view mode status ps
unfolding reset
reset_same mode status words view ps = ap (λ memory. record (reset view mode status ps) { memory = memory }) (memory_same mode words view ps)

carried_same : (an_order : Order) (words : List ℕ) (view : PartitionView) (ps : PartitionState) → carried_out (given_view words view) an_order ps ≡ carried_out view an_order ps
carried_same order.Halt words view ps = refl
carried_same order.Suspend words view ps = refl
carried_same order.Resume words view ps = refl
carried_same order.Shutdown words view ps = refl
carried_same (order.Reset mode status) words view ps = reset_same mode status words view ps

ordered_same : (an_order : Order) (words : List ℕ) (view : PartitionView) (ps : PartitionState) → ordered (given_view words view) an_order ps ≡ ordered view an_order ps
unfolding ordered
ordered_same an_order words view ps = ap (λ (after : PartitionState). if applies an_order ps.state then after else ps) (carried_same an_order words view ps)

-- health events
self_same : (an_order : Order) (words : List ℕ) (view : PartitionView) (ps : PartitionState) → self_ordered (given_view words view) an_order ps ≡ self_ordered view an_order ps
unfolding self_ordered
self_same an_order words view ps =
    ap (λ (after : PartitionState). record { after = after; emitted = ordered_emissions an_order ps; act = emission.Nothing }) (ordered_same an_order words view ps)

undelivered_same : (words : List ℕ) (view : PartitionView) (time : ℕ) (ps : PartitionState) → undelivered (given_view words view) time ps ≡ undelivered view time ps
unfolding undelivered
undelivered_same words view time ps =
    ap (λ (after : PartitionState). record (undelivered view time ps) { after = after }) (ordered_same order.Halt words view _)

delivery_same : (answer : Result (Unit {0}) StackFault) (words : List ℕ) (view : PartitionView) (time : ℕ) (d : Delivered) (ps : PartitionState)
    → by_delivery answer (given_view words view) time d ps ≡ by_delivery answer view time d ps
delivery_same (Ok made) words view time d ps = refl
delivery_same (Err fault) words view time d ps = undelivered_same words view time ps

trap_same : (words : List ℕ) (view : PartitionView) (time type : ℕ) (ps : PartitionState) → trap_delivered (given_view words view) time type ps ≡ trap_delivered view time type ps
unfolding trap_delivered areas_of
trap_same words view time type ps = let d = delivered (areas_of view) ps.traps ps.core ps.memory type in delivery_same d.answer words view time d ps

interrupt_answer_same : (answer : Result (Unit {0}) StackFault) (words : List ℕ) (view : PartitionView) (time n : ℕ) (d : Delivered) (ps : PartitionState)
    → by_interrupt answer (given_view words view) time n d ps ≡ by_interrupt answer view time n d ps
interrupt_answer_same (Ok made) words view time n d ps = refl
interrupt_answer_same (Err fault) words view time n d ps = undelivered_same words view time ps

interrupt_same : (words : List ℕ) (view : PartitionView) (time n : ℕ) (ps : PartitionState) → interrupt_delivered (given_view words view) time n ps ≡ interrupt_delivered view time n ps
unfolding interrupt_delivered areas_of
interrupt_same words view time n ps =
    let d = delivered (areas_of view) ps.traps ps.core ps.memory (0xE0 + n) in interrupt_answer_same d.answer words view time n d ps

propagated_same : (words : List ℕ) (view : PartitionView) (time : ℕ) (type : Option ℕ) (ps : PartitionState) → propagated (given_view words view) time type ps ≡ propagated view time type ps
propagated_same words view time None ps = refl
propagated_same words view time (Some type) ps = trap_same words view time type ps

itself_same : (what : Own) (words : List ℕ) (view : PartitionView) (time : ℕ) (type : Option ℕ) (ps : PartitionState) → done_to_itself (given_view words view) time type what ps ≡ done_to_itself view time type what ps
itself_same own.Nothing words view time type ps = refl
itself_same own.Shutdown words view time type ps = refl
itself_same (own.Reset mode) words view time type ps = self_same (order.Reset mode 0) words view ps
itself_same own.Suspend words view time type ps = self_same order.Suspend words view ps
itself_same own.Halt words view time type ps = self_same order.Halt words view ps
itself_same own.Propagate words view time type ps = propagated_same words view time type ps

event_same : (words : List ℕ) (view : PartitionView) (time : ℕ) (an_event : Event) (word : ℕ) (type : Option ℕ) (ps : PartitionState)
    → event_handled (given_view words view) time an_event word type ps ≡ event_handled view time an_event word type ps
unfolding event_handled answered_by
event_same words view time an_event word type ps =
    let effect = effect_of (action_in view.part.hm an_event) ps.traps.enabled in
    let logged = is_logged view.part.hm an_event in
    let passed = passed_over_if (is_passed_over an_event effect) (entered_if logged time an_event word effect.action ps) in
    ap (after_emitting (entered_emissions logged an_event word effect.action) (done_to_all effect.whole)) (itself_same effect.own words view time type passed)

-- a tick
act_same : (act : Act) (words : List ℕ) (view : PartitionView) (ps : PartitionState) → by_act act (given_view words view) ps ≡ by_act act view ps
act_same emission.Nothing words view ps = refl
act_same (emission.Trades traffic) words view ps = refl
act_same (emission.Upon id an_order) words view ps =
    ap (λ (w : Worked). if id == view.id then w else record (quiet ps) { act = emission.Upon id an_order }) (self_same an_order words view ps)
act_same (emission.Plans change) words view ps = refl
act_same (emission.UponAll event) words view ps = refl

upshot_same : (u : Upshot) (words : List ℕ) (view : PartitionView) (time : ℕ) (ps : PartitionState) → by_upshot u (given_view words view) time ps ≡ by_upshot u view time ps
upshot_same (Acts act) words view time ps = act_same act words view ps
upshot_same (Meets an_event word) words view time ps = event_same words view time an_event word None ps

-- what follows a call
after_call : PartitionView → ℕ → Served → Worked
after_call view time s = (let w = by_upshot s.upshot view time (clocked s.after) in record w { emitted = s.emitted ++ w.emitted })

called_same : (words : List ℕ) (caller : Caller) → called (given_caller words caller) ≡ called caller
unfolding called after_call
called_same words caller =
    ap (after_call (given_view words caller.view) caller.time) (served_same words caller)
    ∙ ap (λ (w : Worked). record w { emitted = (served caller).emitted ++ w.emitted }) (upshot_same (served caller).upshot words caller.view caller.time (clocked (served caller).after))

turn_same : (turn : Outcome) (words : List ℕ) (view : PartitionView) (contents : List (Option Content)) (time : ℕ) (sight : Sight) (before ps : PartitionState)
    → by_turn turn (given_view words view) contents time sight before ps ≡ by_turn turn view contents time sight before ps
turn_same Went words view contents time sight before ps = refl
turn_same (Trap type) words view contents time sight before ps = event_same words view time (event_of_type type) before.core.pc (Some type) (clocked ps)
turn_same Call words view contents time sight before ps = called_same words (record {
  view = view;
  state = ps;
  contents = contents;
  time = time;
  sight = sight;
  pc = before.core.pc;
  npc = before.core.npc;
})

executed_same : (words : List ℕ) (view : PartitionView) (contents : List (Option Content)) (time : ℕ) (sight : Sight) (ps : PartitionState)
    → executed_in_tick (given_view words view) contents time sight ps ≡ executed_in_tick view contents time sight ps
unfolding executed_in_tick areas_of
executed_same words view contents time sight ps =
    let t = settled (areas_of view) ps.core ps.memory in turn_same t.turn words view contents time sight ps (turned_state t ps)

delivered_same : (o : Option ℕ) (enabled : Bool) (words : List ℕ) (view : PartitionView) (contents : List (Option Content)) (time : ℕ) (sight : Sight) (ps : PartitionState)
    → delivered_or_executed o enabled (given_view words view) contents time sight ps ≡ delivered_or_executed o enabled view contents time sight ps
delivered_same None enabled words view contents time sight ps = executed_same words view contents time sight ps
delivered_same (Some n) true words view contents time sight ps = interrupt_same words view time n (clocked ps)
delivered_same (Some n) false words view contents time sight ps = executed_same words view contents time sight ps

worked_if_same : (b : Bool) (words : List ℕ) (view : PartitionView) (contents : List (Option Content)) (time : ℕ) (sight : Sight) (ps : PartitionState)
    → worked_if b (given_view words view) contents time sight ps ≡ worked_if b view contents time sight ps
worked_if_same false words view contents time sight ps = refl
worked_if_same true words view contents time sight ps = delivered_same (due ps.traps) ps.traps.enabled words view contents time sight (record ps { state = Ready })

worked_same : (words : List ℕ) (view : PartitionView) (contents : List (Option Content)) (time : ℕ) (first : Bool) (sight : Sight) (ps : PartitionState)
    → worked (given_view words view) contents time first sight ps ≡ worked view contents time first sight ps
unfolding worked
worked_same words view contents time first sight ps =
    let ready = with_interrupts time first ps in worked_if_same (goes_on ready.state first (due ready.traps)) words view contents time sight ready

its_same : (traffic : OwnTraffic) (words : List ℕ) (view : PartitionView) → is_its (given_view words view) traffic ≡ is_its view traffic
its_same OwnStill words view = refl
its_same (OwnPuts name bytes) words view = refl
its_same (OwnTakes name) words view = refl
its_same (OwnSignals number) words view = refl

bounded_same : (act : Act) (words : List ℕ) (view : PartitionView) → bounded (given_view words view) act ≡ bounded view act
bounded_same emission.Nothing words view = refl
bounded_same (emission.Trades traffic) words view = ap (λ (b : Bool). if b then emission.Trades traffic else emission.Nothing) (its_same traffic words view)
bounded_same (emission.Upon id an_order) words view = refl
bounded_same (emission.Plans change) words view = refl
bounded_same (emission.UponAll event) words view = refl

outside_same : (w : Worked) (n : ℕ) (words : List ℕ) (view : PartitionView) → seen_outside (given_view words view) n w ≡ seen_outside view n w
outside_same w n words view = ap (λ (act : Act). record (seen_outside view n w) { act = act }) (bounded_same w.act words view)

pub local_same : (words : List ℕ) (view : PartitionView) (ps : PartitionState) (contents : List (Option Content)) (n time : ℕ) (first : Bool) (sight : Sight)
    → local_tick (given_view words view) ps contents n time first sight ≡ local_tick view ps contents n time first sight
unfolding local_tick
local_same words view ps contents n time first sight =
    ap (seen_outside (given_view words view) n) (worked_same words view contents time first sight ps) ∙ outside_same (worked view contents time first sight ps) n words view

-- what a tick leaves
hearing_same : (traffic : OwnTraffic) (words : List ℕ) (view : PartitionView) (ps : PartitionState) → hearing (given_view words view) traffic ps ≡ hearing view traffic ps
unfolding after_message
hearing_same OwnStill words view ps = refl
hearing_same (OwnPuts q bytes) words view ps = refl
hearing_same (OwnTakes q) words view ps = refl
hearing_same (OwnSignals number) words view ps = refl

obeyed_same : (o : Option Order) (words : List ℕ) (view : PartitionView) (ps : PartitionState) → obeyed (given_view words view) o ps ≡ obeyed view o ps
obeyed_same None words view ps = refl
obeyed_same (Some an_order) words view ps = ordered_same an_order words view ps

met_same : (e : WholeEvent) (words : List ℕ) (view : PartitionView) (ps : PartitionState) → after_event (given_view words view) e ps ≡ after_event view e ps
met_same NoEvent words view ps = refl
met_same (AllReset mode) words view ps = reset_same mode 0 words view ps
met_same AllHalted words view ps = refl

pub after_same : (words : List ℕ) (view : PartitionView) (time : ℕ) (b : Bool) (traffic : OwnTraffic) (o : Option Order) (e : WholeEvent) (ps : PartitionState)
    → after_tick (given_view words view) time b traffic o e ps ≡ after_tick view time b traffic o e ps
unfolding after_tick
after_same words view time b traffic o e ps =
    ap (rested_unless b time)
    (ap (λ heard. after_event (given_view words view) e (obeyed (given_view words view) o heard)) (hearing_same traffic words view ps)
    ∙ ap (after_event (given_view words view) e) (obeyed_same o words view (hearing view traffic ps)) ∙ met_same e words view (obeyed view o (hearing view traffic ps)))

-- what it asks for
call_asked_same : (turn : Outcome) (words : List ℕ) (view : PartitionView) (core : Registers) → if_call turn (given_view words view) core ≡ if_call turn view core
call_asked_same Went words view core = refl
call_asked_same (Trap type) words view core = refl
call_asked_same Call words view core = refl

asked_by_same : (words : List ℕ) (view : PartitionView) (ps : PartitionState) → asked_by (given_view words view) ps ≡ asked_by view ps
unfolding asked_by areas_of
asked_by_same words view ps = let t = settled (areas_of view) ps.core ps.memory in call_asked_same t.turn words view t.core

asked_unless_same : (o : Option ℕ) (enabled : Bool) (words : List ℕ) (view : PartitionView) (ps : PartitionState)
    → unless_delivered o enabled (given_view words view) ps ≡ unless_delivered o enabled view ps
asked_unless_same None enabled words view ps = asked_by_same words view ps
asked_unless_same (Some n) true words view ps = refl
asked_unless_same (Some n) false words view ps = asked_by_same words view ps

pub asks_same : (words : List ℕ) (view : PartitionView) (ps : PartitionState) (time : ℕ) (first : Bool) → asks (given_view words view) ps time first ≡ asks view ps time first
unfolding asks
asks_same words view ps time first =
    let ready = with_interrupts time first ps in
    ap (λ (o : Option Observation). if goes_on ready.state first (due ready.traps) then o else None) (asked_unless_same (due ready.traps) ready.traps.enabled words view ready)

-- its core file
pub file_same : (words : List ℕ) (view : PartitionView) (ps : PartitionState) → core_file (given_view words view) ps ≡ core_file view ps
unfolding core_file standing_bytes areas_of
file_same words view ps = refl
