-- The facts are kept by each tick.
use Rattle.std.proofs.Common.{◌≡◌, ℕ, zero, suc, ◌≤◌, ◌+◌, ◌⊎◌, inl, inr, Bool, true, false, List, [], ◌∷◌, ◌++◌, length, Option, None, Some, Result, Ok, Err, refl, sym, ap, ◌∙◌, arith, subst}
use Rattle.std.specs.Prelude.{IfSome, nat_lt, ◌-◌, slice_get, slice_index_or, replicate, if◌then◌else◌, ◌==◌, is_some}
use Rattle.std.proofs.lemmas.Bool.{eqb-true}
use Rattle.std.proofs.lemmas.List.Elements.{All-head, All-nil, All-tail}
use Rattle.std.proofs.lemmas.Option.{same_Some}
use Rattle.health_monitor.specs.Monitor.{action_in, effect_of, event_of_type, is_logged}
use Rattle.health_monitor.specs.declared.effects.Effect.{Effect}
use Rattle.health_monitor.specs.declared.effects.Own.{Own}
use Rattle.health_monitor.specs.declared.effects.Own.TheVariants as own
use Rattle.sparc_step.specs.declared.outcome.Turn.{Turn as Outcome}
use Rattle.sparc_step.specs.declared.outcome.Turn.TheVariants.{Went, Trap, Call}
use Rattle.virt_clocks.specs.Clocks.{no_clocks}
use Rattle.virt_traps.specs.Delivery.{Delivered, delivered}
use Rattle.virt_traps.specs.Settled.{settled}
use Rattle.virt_traps.specs.Virtual.{due}
use Rattle.virt_traps.specs.declared.windows.StackFault.{StackFault}
use Rattle.xm_base.specs.Options.{on}
use Rattle.xm_base.specs.declared.partition.Mode.{Mode}
use Rattle.xm_base.specs.declared.partition.Order.{Order}
use Rattle.xm_base.specs.declared.partition.Order.TheVariants as order
use Rattle.xm_base.specs.declared.partition.State.{State}
use Rattle.xm_base.specs.declared.partition.State.TheVariants.{Halted, Idle, Ready, Suspended}
use Rattle.xm_conf.specs.declared.health.Action.{Action}
use Rattle.xm_conf.specs.declared.health.Action.TheVariants as action
use Rattle.xm_conf.specs.declared.health.Event.{Event}
use Rattle.xm_conf.specs.declared.health.Event.TheVariants as event
use Rattle.xm_ports.specs.Channels.{Content}
use Rattle.xm_ports.specs.Ports.{is_made, no_ports}
use Rattle.xm_traces.specs.Ring.{Kept, entry_at, first_kept, noted, nothing_kept}
use Rattle.xm_traces.specs.declared.entry.TraceEntry.{TraceEntry}
use Rattle.machine_model.specs.lemmas.TickLemmas.{step_halted, step_runs}
use Rattle.machine_model.specs.Caller.{Acts, Caller, Meets, Upshot}
use Rattle.machine_model.specs.Alone.{Alone, alone_after, alone_local, alone_local_in, alone_step}
use Rattle.machine_model.specs.Cue.{Away, Cue, Mine, CueSlot}
use Rattle.machine_model.specs.Facts.{AreEnds, AreFacts, AreLast, BootsWithFacts, HasFacts, HaveEight, IsItsOwn, KeepsFacts, KeepsFactsAlone, RunsWithFacts, ShowsItsSizeInRuns}
use Rattle.machine_model.specs.Health.{Worked, answered_by, after_delivery, by_delivery, by_interrupt, done_to_all, done_to_itself, entered, entered_if, event_handled, interrupt_delivered, is_passed_over, passed_over_if, propagated, quiet, self_ordered, trap_delivered, undelivered}
use Rattle.machine_model.specs.Hypercalls.{served}
use Rattle.machine_model.specs.Laws.{HasLoads}
use Rattle.machine_model.specs.Lists.{table}
use Rattle.machine_model.specs.LocalTick.{LocalTick, bounded, by_act, by_turn, by_upshot, called, clocked, delivered_or_executed, executed_in_tick, goes_on, is_its, local_tick, turned_state, with_interrupts, worked, worked_if}
use Rattle.machine_model.specs.Machine.{Machine, SlotTurn, act_of, after, after_tick, booted_part, copies, happened, happened_by, if_its_turn, is_halt, is_turn_of, local, local_in, local_of, obeyed, order_upon, part_after, rested_unless, run, sight_of_state, start, step, system_traffic, taken_by, tick_of, turn_of, worked_in}
use Rattle.machine_model.specs.Partition.{PartitionState, applies, areas_of, booted, carried_out, disarmed, execution_looked_at, hardware_looked_at, is_halted, link_signal, ordered, reset, rested, takes_turns}
use Rattle.machine_model.specs.Structures.{flag}
use Rattle.machine_model.specs.Emission as emission
use Rattle.machine_model.specs.Emission.{Act, OwnPuts, OwnSignals, OwnStill, OwnTakes, OwnTraffic, Sight}
use Rattle.machine_model.specs.Traffic.{after_message, heard_as, heard_from, heard_of_own, hearing, interrupted, traffic_of}
use Rattle.machine_model.specs.View.{PartitionView, System, view_of}
use Rattle.machine_model.specs.Whole.{AllHalted, AllReset, NoEvent, WholeEvent, after_event, event_of, ticks_after}
use Rattle.machine_model.proofs.WorkCallLemmas.{Goes, same_goes, served_goes, served_untraced}
use Rattle.machine_model.specs.lemmas.ListLemmas.{get_each}
use Rattle.machine_model.proofs.ObservingLemmas.{shows_its_size}
use Rattle.machine_model.proofs.RunLemmas.{step_system}

-- the last words of the last words
append_assoc : (xs ys zs : List ℕ) → xs ++ (ys ++ zs) ≡ (xs ++ ys) ++ zs
append_assoc [] ys zs = refl
append_assoc (x ∷ xs) ys zs = ap (λ rest. x ∷ rest) (append_assoc xs ys zs)

last_of : (rest some all : List ℕ) → AreLast rest some → AreLast some all → AreLast rest all
last_of rest some all one other = record {
  used = other.used ++ one.used;
  is = sym (append_assoc other.used one.used rest) ∙ ap (λ words. other.used ++ words) one.is ∙ other.is;
}

-- one step and then another
goes_then : {view : PartitionView} {t h i u k j : ℕ} {before between after : PartitionState} → Goes view t h i before between → Goes view u k j between after → Goes view (t + u) (h + k) (i + j) before after
goes_then {view} {t} {h} {i} {u} {k} {j} {before} {between} {after} one other =
    let a : between.traces.next ≤ before.traces.next + t = one.traced in
    let b : after.traces.next ≤ between.traces.next + u = other.traced in
    let c : between.health.next ≤ before.health.next + h = one.met in
    let d : after.health.next ≤ between.health.next + k = other.met in
    let e : between.clocks.execution ≤ before.clocks.execution + i = one.ran in
    let f : after.clocks.execution ≤ between.clocks.execution + j = other.ran in
    record {
      traced = omega (arith, a, b);
      met = omega (arith, c, d);
      ran = omega (arith, e, f);
      loaded = λ eight. other.loaded (one.loaded eight);
      read = last_of after.inputs between.inputs before.inputs other.read one.read;
      made = λ ends. other.made (one.made ends);
    }

-- more may have come
more_goes : {view : PartitionView} {t h i : ℕ} {before after : PartitionState} (u k j : ℕ) → Goes view t h i before after → Goes view (t + u) (h + k) (i + j) before after
more_goes {view} {t} {h} {i} {before} {after} u k j goes = goes_then goes (same_goes view u k j after after refl)

-- no port is made
none_made : (n k : ℕ) → slice_index_or (replicate n false) k false ≡ false
none_made zero k = refl
none_made (suc n) zero = refl
none_made (suc n) (suc k) = none_made n k

no_ends : (view : PartitionView) → AreEnds view no_ports
unfolding no_ports
no_ends view r is = absurd (let none : is_made r (replicate 32 false) ≡ false = none_made 32 r in let e : false ≡ true = sym none ∙ is in cc)

-- a reset
reset_goes : (view : PartitionView) (mode : Mode) (status : ℕ) (ps : PartitionState) → Goes view 0 0 0 ps (reset view mode status ps)
unfolding no_clocks reset
reset_goes view mode status ps = record {
  traced = omega arith;
  met = omega arith;
  ran = omega arith;
  loaded = λ eight. eight;
  read = record { used = []; is = refl };
  made = λ ends. no_ends view;
}

-- an order
carried_goes : (view : PartitionView) (an_order : Order) (ps : PartitionState) → Goes view 0 0 0 ps (carried_out view an_order ps)
unfolding disarmed
carried_goes view order.Halt ps = same_goes view 0 0 0 ps (carried_out view order.Halt ps) refl
carried_goes view order.Suspend ps = same_goes view 0 0 0 ps (carried_out view order.Suspend ps) refl
carried_goes view order.Resume ps = same_goes view 0 0 0 ps (carried_out view order.Resume ps) refl
carried_goes view order.Shutdown ps = same_goes view 0 0 0 ps (carried_out view order.Shutdown ps) refl
carried_goes view (order.Reset mode status) ps = reset_goes view mode status ps

ordered_goes : (view : PartitionView) (an_order : Order) (ps : PartitionState) → Goes view 0 0 0 ps (ordered view an_order ps)
unfolding ordered
ordered_goes view an_order ps = at (applies an_order ps.state)
  where
    at : (b : Bool) → Goes view 0 0 0 ps (if b then carried_out view an_order ps else ps)
    at true = carried_goes view an_order ps
    at false = same_goes view 0 0 0 ps ps refl

-- an order to halt is obeyed
halts : (view : PartitionView) (ps : PartitionState) → is_halted (ordered view order.Halt ps).state ≡ true
unfolding ordered
halts view ps = at ps.state refl
  where
    at : (state : State) → ps.state ≡ state → is_halted (if applies order.Halt state then carried_out view order.Halt ps else ps).state ≡ true
    at Ready is = refl
    at Idle is = refl
    at Suspended is = refl
    at Halted is = ap is_halted is

-- an entry in the health log
entered_goes : (view : PartitionView) (time : ℕ) (an_event : Event) (word : ℕ) (an_action : Action) (ps : PartitionState) → Goes view 0 1 0 ps (entered time an_event word an_action ps)
unfolding entered noted
entered_goes view time an_event word an_action ps =
    record { traced = omega arith; met = omega arith; ran = omega arith; loaded = λ eight. eight; read = record { used = []; is = refl }; made = λ ends. ends }

entered_if_goes : (b : Bool) (view : PartitionView) (time : ℕ) (an_event : Event) (word : ℕ) (an_action : Action) (ps : PartitionState) → Goes view 0 1 0 ps (entered_if b time an_event word an_action ps)
entered_if_goes true view time an_event word an_action ps = entered_goes view time an_event word an_action ps
entered_if_goes false view time an_event word an_action ps = same_goes view 0 1 0 ps ps refl

-- a delivery that failed is entered, and the partition has halted
record Fails (view : PartitionView) (before after : PartitionState) : Type 0 where
  goes : Goes view 0 1 0 before after
  halted : is_halted after.state ≡ true

undelivered_fails : (view : PartitionView) (time : ℕ) (ps : PartitionState) → Fails view ps (undelivered view time ps).after
unfolding undelivered
undelivered_fails view time ps = record {
  goes = goes_then (entered_goes view time event.MemProtection ps.core.pc action.Halt ps) (ordered_goes view order.Halt (entered time event.MemProtection ps.core.pc action.Halt ps));
  halted = halts view (entered time event.MemProtection ps.core.pc action.Halt ps);
}

-- a delivery, or none, makes no entry unless it fails
abbrev Tries : PartitionView → PartitionState → PartitionState → Type 0
Tries view before after = Goes view 0 0 0 before after ⊎ Fails view before after

delivery_tries : (answer : Result (Unit {0}) StackFault) (view : PartitionView) (time : ℕ) (d : Delivered) (ps : PartitionState) → Tries view ps (by_delivery answer view time d ps).after
delivery_tries (Ok made) view time d ps = inl (same_goes view 0 0 0 ps (after_delivery d ps) refl)
delivery_tries (Err fault) view time d ps = inr (undelivered_fails view time ps)

interrupt_goes : (answer : Result (Unit {0}) StackFault) (view : PartitionView) (time n : ℕ) (d : Delivered) (ps : PartitionState) → Goes view 0 1 0 ps (by_interrupt answer view time n d ps).after
interrupt_goes (Ok made) view time n d ps = same_goes view 0 1 0 ps (by_interrupt (Ok made) view time n d ps).after refl
interrupt_goes (Err fault) view time n d ps = (undelivered_fails view time ps).goes

trap_tries : (view : PartitionView) (time : ℕ) (type : Option ℕ) (ps : PartitionState) → Tries view ps (propagated view time type ps).after
unfolding trap_delivered
trap_tries view time None ps = inl (same_goes view 0 0 0 ps ps refl)
trap_tries view time (Some type) ps =
    let d = delivered (areas_of view) ps.traps ps.core ps.memory type in
    delivery_tries d.answer view time d ps

-- what an action does to the partition itself makes no entry, unless the trap goes on to it and the delivery fails
own_tries : (view : PartitionView) (time : ℕ) (type : Option ℕ) (own_effect : Own) (ps : PartitionState)
    → Goes view 0 0 0 ps (done_to_itself view time type own_effect ps).after ⊎ (Fails view ps (done_to_itself view time type own_effect ps).after × (own_effect ≡ own.Propagate))
unfolding self_ordered
own_tries view time type own.Nothing ps = inl (same_goes view 0 0 0 ps ps refl)
own_tries view time type own.Shutdown ps = inl (same_goes view 0 0 0 ps (done_to_itself view time type own.Shutdown ps).after refl)
own_tries view time type (own.Reset mode) ps = inl (ordered_goes view (order.Reset mode 0) ps)
own_tries view time type own.Suspend ps = inl (ordered_goes view order.Suspend ps)
own_tries view time type own.Halt ps = inl (ordered_goes view order.Halt ps)
own_tries view time type own.Propagate ps = by (trap_tries view time type ps)
  where
    by : Tries view ps (propagated view time type ps).after → Goes view 0 0 0 ps (propagated view time type ps).after ⊎ (Fails view ps (propagated view time type ps).after × (own.Propagate ≡ own.Propagate))
    by (inl goes) = inl goes
    by (inr fails) = inr (fails, refl)

passed_goes : (b : Bool) (view : PartitionView) (ps : PartitionState) → Goes view 0 0 0 ps (passed_over_if b ps)
passed_goes true view ps = same_goes view 0 0 0 ps (passed_over_if true ps) refl
passed_goes false view ps = same_goes view 0 0 0 ps ps refl

-- a trap that goes on to the partition does nothing to the whole system
propagates_alone : (an_action : Action) (enabled : Bool) → (effect_of an_action enabled).own ≡ own.Propagate → done_to_all (effect_of an_action enabled).whole ≡ emission.Nothing
unfolding effect_of
propagates_alone action.Ignore enabled is = refl
propagates_alone action.Shutdown enabled is = refl
propagates_alone action.PartitionColdReset enabled is = refl
propagates_alone action.PartitionWarmReset enabled is = refl
propagates_alone action.Suspend enabled is = refl
propagates_alone action.Halt enabled is = refl
propagates_alone action.Propagate true is = refl
propagates_alone action.Propagate false is = refl
propagates_alone action.HypervisorColdReset enabled is = absurd cc
propagates_alone action.HypervisorWarmReset enabled is = absurd cc
propagates_alone action.HypervisorHalt enabled is = absurd cc
propagates_alone action.SwitchToMaintenance enabled is = absurd cc

-- a part of a tick after which the partition has halted, and that reaches nothing else
record Halts (after : PartitionState) (act : Act) : Type 0 where
  halted : is_halted after.state ≡ true
  alone : act ≡ emission.Nothing

-- whether an act halts the hypervisor
abbrev halts_all : Act → Bool
halts_all act = is_halt (event_of act)

-- a part of a tick goes on so, with at most one health entry, or with two after which the partition has halted; where its act halts the
-- hypervisor it made no trace entry
record Works (view : PartitionView) (traces ticks : ℕ) (before after : PartitionState) (act : Act) : Type 0 where
  goes : Goes view traces 2 ticks before after
  entries : (after.health.next ≤ before.health.next + 1) ⊎ Halts after act
  untraced : halts_all act ≡ true → after.traces.next ≤ before.traces.next

abbrev IsWork : PartitionView → ℕ → ℕ → PartitionState → Worked → Type 0
IsWork view traces ticks before w = Works view traces ticks before w.after w.act

works_once : {view : PartitionView} {t i : ℕ} {before after : PartitionState} {act : Act} → Goes view t 1 i before after → (halts_all act ≡ true → after.traces.next ≤ before.traces.next)
    → Works view t i before after act
works_once {view} {t} {i} {before} {after} {act} goes untraced =
    let met : after.health.next ≤ before.health.next + 1 = goes.met in
    record {
      goes = record { traced = goes.traced; met = omega (arith, met); ran = goes.ran; loaded = goes.loaded; read = goes.read; made = goes.made };
      entries = inl met;
      untraced = untraced;
    }

-- no trace entry is made
none_traced : {view : PartitionView} {h i : ℕ} {before after : PartitionState} → Goes view 0 h i before after → after.traces.next ≤ before.traces.next
none_traced {view} {h} {i} {before} {after} goes = let traced : after.traces.next ≤ before.traces.next + 0 = goes.traced in omega (arith, traced)

-- one step without an entry and then this
works_then : {view : PartitionView} {t i u j : ℕ} {before between after : PartitionState} {act : Act} → Goes view t 0 i before between → (halts_all act ≡ true → between.traces.next ≤ before.traces.next)
    → Works view u j between after act → Works view (t + u) (i + j) before after act
works_then {view} {t} {i} {u} {j} {before} {between} {after} {act} one first other = record {
  goes = goes_then one other.goes;
  entries = by other.entries;
  untraced = λ halts.
      let a : between.traces.next ≤ before.traces.next = first halts in
      let b : after.traces.next ≤ between.traces.next = other.untraced halts in
      omega (arith, a, b);
}
  where
    by : (after.health.next ≤ between.health.next + 1) ⊎ Halts after act → (after.health.next ≤ before.health.next + 1) ⊎ Halts after act
    by (inl few) =
        let none : between.health.next ≤ before.health.next + 0 = one.met in
        inl (omega (arith, few, none))
    by (inr halts) = inr halts

-- an event
event_works : (view : PartitionView) (time : ℕ) (an_event : Event) (word : ℕ) (type : Option ℕ) (ps : PartitionState) → IsWork view 0 0 ps (event_handled view time an_event word type ps)
unfolding answered_by event_handled
event_works view time an_event word type ps =
    let effect : Effect = effect_of (action_in view.part.hm an_event) ps.traps.enabled in
    let noted_state : PartitionState = entered_if (is_logged view.part.hm an_event) time an_event word effect.action ps in
    let passed : PartitionState = passed_over_if (is_passed_over an_event effect) noted_state in
    by effect passed (goes_then (entered_if_goes (is_logged view.part.hm an_event) view time an_event word effect.action ps) (passed_goes (is_passed_over an_event effect) view noted_state))
    (propagates_alone (action_in view.part.hm an_event) ps.traps.enabled) (own_tries view time type effect.own passed)
  where
    by : (effect : Effect) (passed : PartitionState) → Goes view 0 1 0 ps passed → (effect.own ≡ own.Propagate → done_to_all effect.whole ≡ emission.Nothing)
        → Goes view 0 0 0 passed (done_to_itself view time type effect.own passed).after ⊎ (Fails view passed (done_to_itself view time type effect.own passed).after × (effect.own ≡ own.Propagate))
        → Works view 0 0 ps (done_to_itself view time type effect.own passed).after (done_to_all effect.whole)
    by effect passed before alone (inl goes) = works_once (goes_then before goes) (λ halts. none_traced (goes_then before goes))
    by effect passed before alone (inr fails) = record {
      goes = goes_then before fails.0.goes;
      entries = inr (record { halted = fails.0.halted; alone = alone fails.1 });
      untraced = λ halts. none_traced (goes_then before fails.0.goes);
    }

-- the outcome of a call
act_goes : (act : Act) (view : PartitionView) (ps : PartitionState) → Goes view 0 0 0 ps (by_act act view ps).after
unfolding self_ordered
act_goes emission.Nothing view ps = same_goes view 0 0 0 ps ps refl
act_goes (emission.Trades traffic) view ps = same_goes view 0 0 0 ps ps refl
act_goes (emission.Upon id an_order) view ps = at (id == view.id)
  where
    at : (b : Bool) → Goes view 0 0 0 ps (if b then self_ordered view an_order ps else record (quiet ps) { act = emission.Upon id an_order }).after
    at true = ordered_goes view an_order ps
    at false = same_goes view 0 0 0 ps ps refl
act_goes (emission.Plans change) view ps = same_goes view 0 0 0 ps ps refl
act_goes (emission.UponAll event) view ps = same_goes view 0 0 0 ps ps refl

upshot_works : (upshot : Upshot) (view : PartitionView) (time : ℕ) (ps : PartitionState) → IsWork view 0 0 ps (by_upshot upshot view time ps)
upshot_works (Acts act) view time ps = works_once (more_goes 0 1 0 (act_goes act view ps)) (λ halts. none_traced (act_goes act view ps))
upshot_works (Meets event word) view time ps = event_works view time event word None ps

clocked_goes : (view : PartitionView) (ps : PartitionState) → Goes view 0 0 1 ps (clocked ps)
unfolding clocked
clocked_goes view ps =
    record { traced = omega arith; met = omega arith; ran = omega arith; loaded = λ eight. eight; read = record { used = []; is = refl }; made = λ ends. ends }

called_works : (caller : Caller) → IsWork caller.view 1 1 caller.state (called caller)
unfolding called
called_works caller =
    works_then (goes_then (served_goes caller) (clocked_goes caller.view (served caller).after)) (by (served_untraced caller))
    (upshot_works (served caller).upshot caller.view caller.time (clocked (served caller).after))
  where
    counted : PartitionState
    counted = clocked (served caller).after

    none : counted.traces.next ≤ (served caller).after.traces.next
    none = none_traced (clocked_goes caller.view (served caller).after)

    by : ((served caller).after.traces.next ≤ caller.state.traces.next) ⊎ ((served caller).upshot ≡ Acts emission.Nothing)
        → halts_all (by_upshot (served caller).upshot caller.view caller.time counted).act ≡ true → counted.traces.next ≤ caller.state.traces.next
    by (inl few) halts = omega (arith, none, few)
    by (inr nothing) halts =
        absurd (let wrong : true ≡ false = sym halts ∙ ap (λ (u : Upshot). halts_all (by_upshot u caller.view caller.time counted).act) nothing in cc)

-- an instruction
turn_works : (outcome : Outcome) (view : PartitionView) (contents : List (Option Content)) (time : ℕ) (sight : Sight) (before ps : PartitionState) → IsWork view 1 1 ps (by_turn outcome view contents time sight before ps)
turn_works Went view contents time sight before ps = works_once (more_goes 1 1 0 (clocked_goes view ps)) (λ halts. none_traced (clocked_goes view ps))
turn_works (Trap type) view contents time sight before ps =
    works_then (more_goes 1 0 0 (clocked_goes view ps)) (λ halts. none_traced (clocked_goes view ps)) (event_works view time (event_of_type type) before.core.pc (Some type) (clocked ps))
turn_works Call view contents time sight before ps =
    called_works (record { view = view; state = ps; contents = contents; time = time; sight = sight; pc = before.core.pc; npc = before.core.npc })

executed_works : (view : PartitionView) (contents : List (Option Content)) (time : ℕ) (sight : Sight) (ps : PartitionState) → IsWork view 1 1 ps (executed_in_tick view contents time sight ps)
unfolding executed_in_tick
executed_works view contents time sight ps =
    let t = settled (areas_of view) ps.core ps.memory in
    works_then (same_goes view 0 0 0 ps (turned_state t ps) refl) (λ halts. none_traced (same_goes view 0 0 0 ps (turned_state t ps) refl)) (turn_works t.turn view contents time sight ps (turned_state t ps))

delivered_works : (o : Option ℕ) (enabled : Bool) (view : PartitionView) (contents : List (Option Content)) (time : ℕ) (sight : Sight) (ps : PartitionState)
    → IsWork view 1 1 ps (delivered_or_executed o enabled view contents time sight ps)
unfolding interrupt_delivered
delivered_works None enabled view contents time sight ps = executed_works view contents time sight ps
delivered_works (Some n) true view contents time sight ps =
    let d = delivered (areas_of view) (clocked ps).traps (clocked ps).core (clocked ps).memory (0xE0 + n) in
    works_once (more_goes 1 0 0 (goes_then (clocked_goes view ps) (interrupt_goes d.answer view time n d (clocked ps))))
    (λ halts. none_traced (goes_then (clocked_goes view ps) (interrupt_goes d.answer view time n d (clocked ps))))
delivered_works (Some n) false view contents time sight ps = executed_works view contents time sight ps

going_works : (b : Bool) (view : PartitionView) (contents : List (Option Content)) (time : ℕ) (sight : Sight) (ps : PartitionState) → IsWork view 1 1 ps (worked_if b view contents time sight ps)
going_works false view contents time sight ps = works_once (same_goes view 1 1 1 ps ps refl) (λ halts. omega arith)
going_works true view contents time sight ps =
    works_then (same_goes view 0 0 0 ps (record ps { state = Ready }) refl) (λ halts. omega arith) (delivered_works (due ps.traps) ps.traps.enabled view contents time sight (record ps { state = Ready }))

ready_goes : (view : PartitionView) (time : ℕ) (first : Bool) (ps : PartitionState) → Goes view 0 0 0 ps (with_interrupts time first ps)
unfolding execution_looked_at hardware_looked_at with_interrupts
ready_goes view time first ps = same_goes view 0 0 0 ps (with_interrupts time first ps) refl

work_works : (view : PartitionView) (contents : List (Option Content)) (time : ℕ) (first : Bool) (sight : Sight) (ps : PartitionState) → IsWork view 1 1 ps (worked view contents time first sight ps)
unfolding worked
work_works view contents time first sight ps =
    let ready = with_interrupts time first ps in
    works_then (ready_goes view time first ps) (λ halts. none_traced (ready_goes view time first ps)) (going_works (goes_on ready.state first (due ready.traps)) view contents time sight ready)

-- what follows in a tick
heard_goes : (view : PartitionView) (o : Option ℕ) (ps : PartitionState) → Goes view 0 0 0 ps (interrupted o ps)
heard_goes view None ps = same_goes view 0 0 0 ps ps refl
heard_goes view (Some n) ps = at (is_halted ps.state) refl
  where
    at : (b : Bool) → is_halted ps.state ≡ b → Goes view 0 0 0 ps (interrupted (Some n) ps)
    at true is = rw is (same_goes view 0 0 0 ps ps refl)
    at false is = rw is (same_goes view 0 0 0 ps _ refl)

hearing_goes : (view : PartitionView) (traffic : OwnTraffic) (ps : PartitionState) → Goes view 0 0 0 ps (hearing view traffic ps)
unfolding after_message
hearing_goes view OwnStill ps = same_goes view 0 0 0 ps ps refl
hearing_goes view (OwnPuts q bytes) ps = heard_goes view (heard_from q view.part.ports ps.made view.channels) ps
hearing_goes view (OwnTakes q) ps = same_goes view 0 0 0 ps ps refl
hearing_goes view (OwnSignals number) ps = heard_goes view (Some (link_signal number)) ps

obeyed_goes : (view : PartitionView) (o : Option Order) (ps : PartitionState) → Goes view 0 0 0 ps (obeyed view o ps)
obeyed_goes view None ps = same_goes view 0 0 0 ps ps refl
obeyed_goes view (Some an_order) ps = ordered_goes view an_order ps

whole_goes : (view : PartitionView) (e : WholeEvent) (ps : PartitionState) → Goes view 0 0 0 ps (after_event view e ps)
whole_goes view NoEvent ps = same_goes view 0 0 0 ps ps refl
whole_goes view (AllReset mode) ps = reset_goes view mode 0 ps
whole_goes view AllHalted ps = same_goes view 0 0 0 ps ps refl

rested_goes : (view : PartitionView) (worked : Bool) (time : ℕ) (ps : PartitionState) → Goes view 0 0 0 ps (rested_unless worked time ps)
unfolding hardware_looked_at rested
rested_goes view true time ps = same_goes view 0 0 0 ps ps refl
rested_goes view false time ps = at (is_halted ps.state)
  where
    at : (b : Bool) → Goes view 0 0 0 ps (if b then ps else hardware_looked_at time ps)
    at true = same_goes view 0 0 0 ps ps refl
    at false = same_goes view 0 0 0 ps (hardware_looked_at time ps) refl

after_tick_goes : (view : PartitionView) (time : ℕ) (worked : Bool) (traffic : OwnTraffic) (o : Option Order) (e : WholeEvent) (ps : PartitionState)
    → Goes view 0 0 0 ps (after_tick view time worked traffic o e ps)
unfolding after_tick
after_tick_goes view time worked traffic o e ps =
    let heard : PartitionState = hearing view traffic ps in
    let obedient : PartitionState = obeyed view o heard in
    let met : PartitionState = after_event view e obedient in
    goes_then (hearing_goes view traffic ps) (goes_then (obeyed_goes view o heard) (goes_then (whole_goes view e obedient) (rested_goes view worked time met)))

-- what halts the hypervisor as the rest of the system sees it, does so
bounded_halts : (view : PartitionView) (act : Act) → halts_all (bounded view act) ≡ true → halts_all act ≡ true
bounded_halts view emission.Nothing halts = halts
bounded_halts view (emission.Trades traffic) halts = at (is_its view traffic) halts
  where
    at : (b : Bool) → halts_all (if b then emission.Trades traffic else emission.Nothing) ≡ true → halts_all (emission.Trades traffic) ≡ true
    at true is = is
    at false is = absurd cc
bounded_halts view (emission.Upon id an_order) halts = at (id == view.id) halts
  where
    at : (b : Bool) → halts_all (if b then emission.Nothing else emission.Upon id an_order) ≡ true → halts_all (emission.Upon id an_order) ≡ true
    at true is = absurd cc
    at false is = is
bounded_halts view (emission.Plans change) halts = halts
bounded_halts view (emission.UponAll event) halts = halts

-- a partition's own part of a tick, as the rest of the system sees it
bounded_works : {view : PartitionView} {t i : ℕ} {before after : PartitionState} {act : Act} → Works view t i before after act → Works view t i before after (bounded view act)
bounded_works {view} {t} {i} {before} {after} {act} works = record { goes = works.goes; entries = by works.entries; untraced = λ halts. works.untraced (bounded_halts view act halts) }
  where
    by : (after.health.next ≤ before.health.next + 1) ⊎ Halts after act → (after.health.next ≤ before.health.next + 1) ⊎ Halts after (bounded view act)
    by (inl few) = inl few
    by (inr halts) = inr (record { halted = halts.halted; alone = ap (bounded view) halts.alone })

local_works : (g : Machine) (p : ℕ) (first : Bool) (ps : PartitionState) → Works (view_of g.system p) 1 1 ps (local_of g p first ps).after (local_of g p first ps).act
unfolding local_of local_tick
local_works g p first ps = bounded_works (work_works (view_of g.system p) (copies g p) g.time first (sight_of_state g p first ps) ps)

-- a tick in which the hypervisor halts makes no trace entry, and at most one health entry
record HaltsBy (before after : PartitionState) : Type 0 where
  untraced : after.traces.next ≤ before.traces.next
  met : after.health.next + flag (is_halted before.state) ≤ before.health.next + 1

-- a tick of the machine moves a partition on so: one health entry more at most, where a partition that has halted counts one less
record Ticks (view : PartitionView) (e : WholeEvent) (before after : PartitionState) : Type 0 where
  goes : Goes view 1 2 1 before after
  met : after.health.next + flag (is_halted before.state) ≤ before.health.next + 1 + flag (is_halted after.state)
  halting : is_halt e ≡ true → HaltsBy before after

flag_most : (b : Bool) → flag b ≤ 1
flag_most true = omega arith
flag_most false = omega arith

-- a partition that does no work
rest_ticks : (view : PartitionView) (time : ℕ) (traffic : OwnTraffic) (o : Option Order) (e : WholeEvent) (ps : PartitionState) → Ticks view e ps (after_tick view time false traffic o e ps)
rest_ticks view time traffic o e ps =
    let goes = after_tick_goes view time false traffic o e ps in
    let none : (after_tick view time false traffic o e ps).health.next ≤ ps.health.next + 0 = goes.met in
    let most = flag_most (is_halted ps.state) in
    record { goes = more_goes 1 2 1 goes; met = omega (arith, none, most); halting = λ halts. record { untraced = none_traced goes; met = omega (arith, none, most) } }

-- a partition that works: nothing follows its work where two entries were made
work_ticks : (view : PartitionView) (time : ℕ) (traffic : OwnTraffic) (o : Option Order) (e : WholeEvent) (before after : PartitionState) (act : Act) → is_halted before.state ≡ false
    → Works view 1 1 before after act → e ≡ event_of act → (act ≡ emission.Nothing → after_tick view time true traffic o e after ≡ after) → Ticks view e before (after_tick view time true traffic o e after)
work_ticks view time traffic o e before after act awake works event quiet_after = record {
  goes = goes_then works.goes (after_tick_goes view time true traffic o e after);
  met = by works.entries;
  halting = λ halts. record { untraced = still halts; met = once halts works.entries };
}
  where
    end : PartitionState
    end = after_tick view time true traffic o e after

    none : flag (is_halted before.state) ≡ 0
    none = ap flag awake

    still : is_halt e ≡ true → end.traces.next ≤ before.traces.next
    still halts =
        let a : end.traces.next ≤ after.traces.next = none_traced (after_tick_goes view time true traffic o e after) in
        let b : after.traces.next ≤ before.traces.next = works.untraced (sym (ap is_halt event) ∙ halts) in
        omega (arith, a, b)

    once : is_halt e ≡ true → (after.health.next ≤ before.health.next + 1) ⊎ Halts after act → end.health.next + flag (is_halted before.state) ≤ before.health.next + 1
    once halts (inl few) =
        let kept : end.health.next ≤ after.health.next + 0 = (after_tick_goes view time true traffic o e after).met in
        omega (arith, few, kept, none)
    once halts (inr alone) = absurd (let wrong : true ≡ false = sym halts ∙ ap is_halt event ∙ ap halts_all alone.alone in cc)

    by : (after.health.next ≤ before.health.next + 1) ⊎ Halts after act → end.health.next + flag (is_halted before.state) ≤ before.health.next + 1 + flag (is_halted end.state)
    by (inl few) =
        let kept : end.health.next ≤ after.health.next + 0 = (after_tick_goes view time true traffic o e after).met in
        omega (arith, few, kept, none)
    by (inr halts) =
        let same : end ≡ after = quiet_after halts.alone in
        let one : flag (is_halted after.state) ≡ 1 = ap flag halts.halted in
        let two : after.health.next ≤ before.health.next + 2 = works.goes.met in
        subst (λ (last : PartitionState). last.health.next + flag (is_halted before.state) ≤ before.health.next + 1 + flag (is_halted last.state)) (sym same) (omega (arith, one, two, none))

-- what a tick leaves of a partition, by the local tick of the machine and the one of this partition
abbrev left_by : Machine → ℕ → Option SlotTurn → Option LocalTick → Option LocalTick → PartitionState → PartitionState
left_by g p turn tick its ps =
    after_tick (view_of g.system p) g.time (is_some its) (heard_as g.system.conf p (system_traffic g.system.conf turn (traffic_of (act_of tick)))) (order_upon (act_of tick) p)
    (event_of (act_of tick)) (worked_in its ps)

-- a tick that reaches nothing leaves a partition as its work did
nothing_follows : (g : Machine) (p : ℕ) (turn : Option SlotTurn) (act : Act) (ps : PartitionState) → act ≡ emission.Nothing
    → after_tick (view_of g.system p) g.time true (heard_as g.system.conf p (system_traffic g.system.conf turn (traffic_of act))) (order_upon act p) (event_of act) ps ≡ ps
unfolding after_tick
nothing_follows g p None act ps is = rw is refl
nothing_follows g p (Some turn) act ps is = rw is refl

awake : (state : State) → takes_turns state ≡ true → is_halted state ≡ false
awake Ready is = refl
awake Idle is = refl
awake Suspended is = absurd cc
awake Halted is = absurd cc

-- the partition of the slot
taken_ticks : (g : Machine) (p : ℕ) (ps : PartitionState) (turn : Option SlotTurn) (first : Bool)
    → Ticks (view_of g.system p) (event_of (act_of (taken_by g p first (Some ps)))) ps (left_by g p turn (taken_by g p first (Some ps)) (taken_by g p first (Some ps)) ps)
taken_ticks g p ps turn first = at (takes_turns ps.state) refl
  where
    tick : LocalTick
    tick = local_of g p first ps

    at : (b : Bool) → takes_turns ps.state ≡ b → Ticks (view_of g.system p) (event_of (act_of (if b then Some tick else None))) ps (left_by g p turn (if b then Some tick else None) (if b then Some tick else None) ps)
    at true is = work_ticks (view_of g.system p) g.time _ _ _ ps tick.after tick.act (awake ps.state is) (local_works g p first ps) refl (nothing_follows g p turn tick.act tick.after)
    at false is = rest_ticks (view_of g.system p) g.time _ _ _ ps

turn_ticks : (g : Machine) (p : ℕ) (ps : PartitionState) (turn : Option SlotTurn) → slice_get g.parts p ≡ Some ps
    → Ticks (view_of g.system p) (event_of (act_of (local_in g turn))) ps (left_by g p turn (local_in g turn) (if_its_turn (is_turn_of turn p) (local_in g turn)) ps)
turn_ticks g p ps None there = rest_ticks (view_of g.system p) g.time _ _ _ ps
turn_ticks g p ps (Some turn) there = at (turn.part == p) refl
  where
    at : (b : Bool) → (turn.part == p) ≡ b → Ticks (view_of g.system p) (event_of (act_of (local_in g (Some turn)))) ps (left_by g p (Some turn) (local_in g (Some turn)) (if_its_turn b (local_in g (Some turn))) ps)
    at true its =
        let same : turn.part ≡ p = eqb-true turn.part p its in
        let is : local_in g (Some turn) ≡ taken_by g p turn.first (Some ps) = ap (λ q. taken_by g q turn.first (slice_get g.parts q)) same ∙ ap (taken_by g p turn.first) there in
        subst (λ (tick : Option LocalTick). Ticks (view_of g.system p) (event_of (act_of tick)) ps (left_by g p (Some turn) tick tick ps)) (sym is) (taken_ticks g p ps (Some turn) turn.first)
    at false other = rest_ticks (view_of g.system p) g.time _ _ _ ps

part_ticks : (g : Machine) (p : ℕ) (ps : PartitionState) → slice_get g.parts p ≡ Some ps → Ticks (view_of g.system p) (happened g).event ps (part_after g (happened g) p ps)
unfolding part_after happened happened_by local tick_of
part_ticks g p ps there = turn_ticks g p ps (turn_of g) there

-- the facts after one more tick, by its event
facts_after : (view : PartitionView) (e : WholeEvent) (n : ℕ) (ps qs : PartitionState) → AreFacts view n false ps → Ticks view e ps qs → AreFacts view (ticks_after e n) (is_halt e) qs
facts_after view e n ps qs facts ticks = by e ticks.halting
  where
    a : ps.traces.next ≤ n
    a = facts.traces

    b : qs.traces.next ≤ ps.traces.next + 1
    b = ticks.goes.traced

    c : ps.health.next ≤ n + flag (is_halted ps.state)
    c = facts.health

    d : qs.health.next + flag (is_halted ps.state) ≤ ps.health.next + 1 + flag (is_halted qs.state)
    d = ticks.met

    f : ps.clocks.execution ≤ n + 0
    f = facts.execution

    g : qs.clocks.execution ≤ ps.clocks.execution + 1
    g = ticks.goes.ran

    counted : AreFacts view (n + 1) false qs
    counted = record {
      traces = omega (arith, a, b);
      health = omega (arith, c, d);
      execution = omega (arith, f, g);
      loads = ticks.goes.loaded facts.loads;
      inputs = last_of qs.inputs ps.inputs view.inputs ticks.goes.read facts.inputs;
      made = ticks.goes.made facts.made;
    }

    by : (event : WholeEvent) → (is_halt event ≡ true → HaltsBy ps qs) → AreFacts view (ticks_after event n) (is_halt event) qs
    by NoEvent halting = counted
    by (AllReset mode) halting = counted
    by AllHalted halting =
        let untraced : qs.traces.next ≤ ps.traces.next = (halting refl).untraced in
        let met : qs.health.next + flag (is_halted ps.state) ≤ ps.health.next + 1 = (halting refl).met in
        record {
          traces = omega (arith, a, untraced);
          health = omega (arith, c, met);
          execution = omega (arith, f, g);
          loads = counted.loads;
          inputs = counted.inputs;
          made = counted.made;
        }

-- a partition alone without a local tick, and with one
alone_rests : (view : PartitionView) (a : Alone) (cue : Cue) → alone_local view a cue ≡ None → Ticks view cue.whole a.state (alone_step view a cue).state
unfolding alone_after alone_step
alone_rests view a cue none =
    subst (λ (tick : Option LocalTick). Ticks view cue.whole a.state (alone_after view a cue tick).state) (sym none) (rest_ticks view a.time cue.traffic cue.order cue.whole a.state)

-- an act that is nothing has nothing to follow
nothing_after : (view : PartitionView) (time : ℕ) (act : Act) (ps : PartitionState) → act ≡ emission.Nothing → after_tick view time true (heard_of_own (traffic_of act)) None (event_of act) ps ≡ ps
unfolding after_tick
nothing_after view time act ps is = rw is refl

alone_works : (view : PartitionView) (a : Alone) (cue : Cue) (first : Bool) → takes_turns a.state.state ≡ true → cue.order ≡ None
    → alone_local view a cue ≡ Some (local_tick view a.state a.copies a.ticks a.time first cue.seen)
    → cue.whole ≡ event_of (local_tick view a.state a.copies a.ticks a.time first cue.seen).act → Ticks view cue.whole a.state (alone_step view a cue).state
unfolding alone_after alone_step local_tick
alone_works view a cue first turns unordered is event =
    subst (λ (tick : Option LocalTick). Ticks view cue.whole a.state (alone_after view a cue tick).state) (sym is)
    (subst (λ (o : Option Order). Ticks view cue.whole a.state (after_tick view a.time true (heard_of_own (traffic_of tick.act)) o cue.whole tick.after)) (sym unordered)
    (subst (λ (e : WholeEvent). Ticks view e a.state (after_tick view a.time true (heard_of_own (traffic_of tick.act)) None e tick.after)) (sym event)
    (work_ticks view a.time (heard_of_own (traffic_of tick.act)) None (event_of tick.act) a.state tick.after tick.act (awake a.state.state turns)
    (bounded_works (work_works view a.copies a.time first cue.seen a.state)) refl (nothing_after view a.time tick.act tick.after))))
  where
    tick : LocalTick
    tick = local_tick view a.state a.copies a.ticks a.time first cue.seen

-- a tick of a partition alone, by whose slot it is
alone_ticks : (view : PartitionView) (a : Alone) (cue : Cue) (mine : CueSlot) → cue.mine ≡ mine → IsItsOwn mine view a cue → Ticks view cue.whole a.state (alone_step view a cue).state
unfolding alone_local
alone_ticks view a cue Away is its = alone_rests view a cue (ap (λ (slot : CueSlot). alone_local_in slot view a cue.seen) is)
alone_ticks view a cue (Mine first) is its = at (takes_turns a.state.state) refl
  where
    tick : LocalTick
    tick = local_tick view a.state a.copies a.ticks a.time first cue.seen

    at : (b : Bool) → takes_turns a.state.state ≡ b → Ticks view cue.whole a.state (alone_step view a cue).state
    at true turns =
        let local_is : alone_local view a cue ≡ Some tick = ap (λ (slot : CueSlot). alone_local_in slot view a cue.seen) is ∙ ap (λ (b : Bool). if b then Some tick else None) turns in
        alone_works view a cue first turns its.0 local_is (its.1 ∙ ap (λ (o : Option LocalTick). event_of (act_of o)) local_is)
    at false rests = alone_rests view a cue (ap (λ (slot : CueSlot). alone_local_in slot view a cue.seen) is ∙ ap (λ (b : Bool). if b then Some tick else None) rests)

pub keeps_facts_alone : KeepsFactsAlone
keeps_facts_alone view a cue n its facts = facts_after view cue.whole n a.state (alone_step view a cue).state facts (alone_ticks view a cue cue.mine refl its)

-- the ticks that were counted after one more, and whether the hypervisor has halted in it
after_ticks : (g : Machine) → (after g (happened g)).ticks ≡ ticks_after (happened g).event g.ticks
unfolding after
after_ticks g = refl

after_halts : (g : Machine) → (after g (happened g)).halted ≡ is_halt (happened g).event
unfolding after
after_halts g = refl

-- a partition after a tick, where it was there before it
after_where : (g : Machine) (p : ℕ) → slice_get (after g (happened g)).parts p ≡ on (part_after g (happened g) p) (slice_get g.parts p)
unfolding after
after_where g p = get_each (part_after g (happened g)) g.parts p

pub keeps_facts : KeepsFacts
keeps_facts g facts p qs there = at g.halted refl
  where
    from : (o : Option PartitionState) → g.halted ≡ false → slice_get g.parts p ≡ o → on (part_after g (happened g) p) o ≡ Some qs → AreFacts (view_of (step g).system p) (step g).ticks (step g).halted qs
    from None runs is found = absurd cc
    from (Some ps) runs is found =
        let ticks : (step g).ticks ≡ ticks_after (happened g).event g.ticks = ap (λ (m : Machine). m.ticks) (step_runs g runs) ∙ after_ticks g in
        let halts : (step g).halted ≡ is_halt (happened g).event = ap (λ (m : Machine). m.halted) (step_runs g runs) ∙ after_halts g in
        let before : AreFacts (view_of g.system p) g.ticks false ps = subst (λ (b : Bool). AreFacts (view_of g.system p) g.ticks b ps) runs (facts p ps is) in
        subst (λ (system : System). AreFacts (view_of system p) (step g).ticks (step g).halted qs) (sym (step_system g))
        (subst (λ (n : ℕ). AreFacts (view_of g.system p) n (step g).halted qs) (sym ticks)
        (subst (λ (b : Bool). AreFacts (view_of g.system p) (ticks_after (happened g).event g.ticks) b qs) (sym halts)
        (subst (AreFacts (view_of g.system p) (ticks_after (happened g).event g.ticks) (is_halt (happened g).event)) (same_Some (part_after g (happened g) p ps) qs found)
        (facts_after (view_of g.system p) (happened g).event g.ticks ps (part_after g (happened g) p ps) before (part_ticks g p ps is)))))

    at : (b : Bool) → g.halted ≡ b → AreFacts (view_of (step g).system p) (step g).ticks (step g).halted qs
    at true halts = subst HasFacts (sym (step_halted g halts)) facts p qs there
    at false runs = from (slice_get g.parts p) runs refl (sym (after_where g p) ∙ ap (λ m. slice_get m.parts p) (sym (step_runs g runs)) ∙ there)

-- the facts of a machine that boots
table_is : {Y : Type 0} (f : ℕ → Y) (n p : ℕ) (y : Y) → slice_get (table f n) p ≡ Some y → f p ≡ y
table_is f zero p y is = absurd cc
table_is f (suc n) zero y is = same_Some (f 0) y is
table_is f (suc n) (suc p) y is = table_is (λ k. f (suc k)) n p y is

booted_facts : (view : PartitionView) → AreFacts view 0 false (booted view)
unfolding booted no_clocks nothing_kept
booted_facts view = record { traces = omega arith; health = omega arith; execution = omega arith; loads = All-nil (λ (e : TraceEntry). length e.load ≡ 8); inputs = record { used = []; is = refl }; made = no_ends view }

pub boots_with_facts : BootsWithFacts
unfolding start
boots_with_facts system p ps there = subst (AreFacts (view_of system p) 0 false) (table_is (booted_part system) (length system.conf.parts) p ps there) (booted_facts (view_of system p))

run_facts : (count : ℕ) (g : Machine) → HasFacts g → HasFacts (run g count)
run_facts zero g facts = facts
run_facts (suc count) g facts = run_facts count (step g) (keeps_facts g facts)

pub runs_with_facts : RunsWithFacts
runs_with_facts system count = run_facts count (start system) (boots_with_facts system)

-- an entry that is kept is one of the entries
kept_eight : (entries : List TraceEntry) (k : ℕ) → HaveEight entries → IfSome (slice_get entries k) (λ entry. length entry.load ≡ 8)
kept_eight [] k all = tt
kept_eight (entry ∷ entries) zero all = All-head (λ (e : TraceEntry). length e.load ≡ 8) entry entries all
kept_eight (entry ∷ entries) (suc k) all = kept_eight entries k (All-tail (λ (e : TraceEntry). length e.load ≡ 8) entry entries all)

entry_eight : (kept : Kept TraceEntry) (number : ℕ) → HaveEight kept.entries → IfSome (entry_at number kept) (λ entry. length entry.load ≡ 8)
unfolding entry_at
entry_eight kept number all = by (nat_lt number (first_kept kept)) (nat_lt number kept.next)
  where
    by : (a b : Bool) → IfSome (if a then None else if b then slice_get kept.entries (number - first_kept kept) else None) (λ entry. length entry.load ≡ 8)
    by true b = tt
    by false true = kept_eight kept.entries (number - first_kept kept) all
    by false false = tt

pub have_loads : (g : Machine) (id : ℕ) (o : Option PartitionState) → slice_get g.parts id ≡ o → HasFacts g → IfSome o HasLoads
have_loads g id None is facts = tt
have_loads g id (Some ps) is facts = λ number. entry_eight ps.traces number (facts id ps is).loads

pub shows_its_size_in_runs : ShowsItsSizeInRuns
shows_its_size_in_runs system count view core call is =
    let g : Machine = run (start system) count in
    shows_its_size g view core call (λ id. have_loads g id (slice_get g.parts id) refl (runs_with_facts system count)) is
