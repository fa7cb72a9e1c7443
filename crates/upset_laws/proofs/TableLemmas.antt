-- The table of a partition's traps begins at a multiple of its 4096 bytes, when the partition boots and after every tick.
use Rattle.std.proofs.Common.{◌≡◌, ℕ, zero, suc, ◌+◌, Bool, true, false, List, [], ◌∷◌, ◌++◌, length, Option, None, Some, Result, Ok, Err, refl, sym, ap, ◌∙◌, subst, arith}
use Rattle.std.specs.Prelude.{◌==◌, ◌-◌, ◌%◌, if◌then◌else◌, is_some, nat_lt, slice_get}
use Rattle.std.proofs.lemmas.Option.{same_Some}
use Rattle.guest_bus.specs.Memory.{Area, Memory}
use Rattle.health_monitor.specs.Monitor.{action_in, effect_of, event_of_type, is_logged}
use Rattle.health_monitor.specs.declared.effects.Effect.{Effect}
use Rattle.health_monitor.specs.declared.effects.Own.{Own}
use Rattle.health_monitor.specs.declared.effects.Own.TheVariants as own
use Rattle.sparc_step.specs.Registers.{Registers, register_at}
use Rattle.sparc_step.specs.declared.outcome.Turn.{Turn}
use Rattle.sparc_step.specs.declared.outcome.Turn.TheVariants as turn
use Rattle.virt_clocks.specs.Clocks.{is_due}
use Rattle.virt_traps.specs.Delivery.{Delivered, Returned, are_aligned, brought_above, delivered, delivered_below, freed_below, refused_return, returned, returned_above}
use Rattle.virt_traps.specs.Moves.{move_made}
use Rattle.virt_traps.specs.Settled.{settled}
use Rattle.virt_traps.specs.Virtual.{VirtualTraps, due, interrupt_cleared, no_traps, raised}
use Rattle.virt_traps.specs.declared.delivery.IretFault.{IretFault}
use Rattle.virt_traps.specs.declared.delivery.IretFault.TheVariants.{Stack, Unaligned}
use Rattle.virt_traps.specs.declared.windows.StackFault.{StackFault}
use Rattle.xm_base.specs.Options.{on}
use Rattle.xm_base.specs.declared.partition.Mode.{Mode}
use Rattle.xm_base.specs.declared.partition.Order.{Order}
use Rattle.xm_base.specs.declared.partition.Order.TheVariants as order
use Rattle.xm_base.specs.declared.partition.State.TheVariants.{Ready}
use Rattle.xm_conf.specs.declared.health.Action.{Action}
use Rattle.xm_conf.specs.declared.health.Event.{Event}
use Rattle.xm_conf.specs.declared.port.Kind.{Kind}
use Rattle.xm_conf.specs.declared.port.Kind.TheVariants as kind
use Rattle.xm_ports.specs.Channels.{Content, HeldSample, first_message, sample_of}
use Rattle.xm_ports.specs.Ports.{created_over, with_port}
use Rattle.xm_ports.specs.declared.ports.CreateFault.{CreateFault}
use Rattle.xm_traces.specs.Ring.{noted}
use Rattle.machine_model.specs.Caller.{Acts, Caller, Meets, Served, Test, Upshot, a_of, acting, answering, b_of, c_of, caller_bytes, d_of, invalid_parameter, no_action, not_available, refused_if, room, tested, text, unknown_call, with_answer, with_written}
use Rattle.machine_model.specs.declared.numbers.Call.{Call}
use Rattle.machine_model.specs.declared.numbers.Call.TheVariants.{ClearIrqmask, CreateQueuingPort, CreateSamplingPort, FlushRegwin, GetPartitionStatus, GetPlanStatus, GetQueuingPortStatus, GetSamplingPortStatus, GetSelf, GetSystemStatus, GetTime, HaltPartition, HaltSystem, HmRead, HmStatus, IdleSelf, Iret, RaiseEvent, RaiseIpvi, ReadInput, ReadSamplingMessage, ReceiveQueuingMessage, ResetPartition, ResetSystem, ResumePartition, SendQueuingMessage, SetIrqmask, SetPsr, SetTbr, SetTimer, ShutdownPartition, SuspendPartition, SwitchSchedPlan, TraceEvent, TraceRead, TraceStatus, WriteConsole, WriteSamplingMessage}
use Rattle.machine_model.specs.Calls.{effect_of_call}
use Rattle.machine_model.specs.Effects.{ArmsTimer, CallEffect, ChangesOwn, CreatesPort, DoesToAll, EntersTrace, GivesAnswer, GivesOrder, GoesBack, MeetsEvent, OwnChange, PrintsBytes, PutsBytes, RequestsPlan, SendsSignal, SetsBase, SetsCodes, SetsMask, ShowsPort, ShowsSample, SpillsWindows, TakesMessage, TestedEffect, UsesInput, Waits, Writing, comes_to, performed, putting_bytes, queue_room, right_tests, with_change, with_writings}
use Rattle.machine_model.specs.Emission as emission
use Rattle.machine_model.specs.Emission.{Act, OwnPuts, OwnSignals, OwnStill, OwnTakes, OwnTraffic, Sight}
use Rattle.machine_model.specs.Health.{answered_by, by_delivery, by_interrupt, done_to_itself, entered, entered_if, event_handled, interrupt_delivered, is_passed_over, passed_over_if, propagated, quiet, self_ordered, trap_delivered, undelivered}
use Rattle.machine_model.specs.Hypercalls.{served}
use Rattle.machine_model.specs.LocalTick.{LocalTick, by_act, by_turn, by_upshot, called, clocked, delivered_or_executed, executed_in_tick, goes_on, local_tick, turned_state, with_interrupts, worked, worked_if}
use Rattle.machine_model.specs.Lists.{each, table}
use Rattle.machine_model.specs.Machine.{Happened, Machine, SlotTurn, after, after_tick, booted_part, copies, happened, happened_by, if_its_turn, is_turn_of, local, local_in, local_of, obeyed, order_upon, part_after, rested_unless, sight_of_state, start, step, taken_by, tick_of, turn_of, worked_in}
use Rattle.machine_model.specs.OwnEffects.{by_flush, by_return, flushed, input_read, trace_entry, undone}
use Rattle.machine_model.specs.Partition.{PartitionState, applies, areas_of, booted, carried_out, disarmed, execution_looked_at, hardware_looked_at, is_halted, link_signal, ordered, raised_if, reset, rested, slot_start, takes_turns}
use Rattle.machine_model.specs.Partition as partition
use Rattle.machine_model.specs.PortEffects.{MadePort, by_created, create_refusal, creating, destination_only, first_read, held_read, made_port, on_port, shape_at, size_fits, source_only}
use Rattle.machine_model.specs.Structures.{validity, word}
use Rattle.machine_model.specs.Traffic.{after_message, heard_as, heard_from, hearing, interrupted}
use Rattle.machine_model.specs.View.{PartitionView, System, view_of}
use Rattle.machine_model.specs.Whole.{AllHalted, AllReset, NoEvent, WholeEvent, after_event}
use Rattle.machine_model.specs.lemmas.CallLemmas.{every_call}
use Rattle.machine_model.specs.lemmas.ListLemmas.{get_each}
use Rattle.machine_model.specs.lemmas.TickLemmas.{step_halted, step_runs}

-- the table begins so
abbrev pub OnPage : PartitionState → Type 0
OnPage ps = ps.traps.base % 4096 ≡ 0

-- another address of the table that is the same
same_page : (a b : ℕ) → a ≡ b → b % 4096 ≡ 0 → a % 4096 ≡ 0
same_page a b same has = subst (λ (n : ℕ). n % 4096 ≡ 0) (sym same) has

-- a reset, an order
reset_page : (view : PartitionView) (mode : Mode) (status : ℕ) (ps : PartitionState) → OnPage (reset view mode status ps)
unfolding no_traps reset
reset_page view mode status ps = refl

booted_page : (view : PartitionView) → OnPage (booted view)
unfolding booted no_traps
booted_page view = refl

carried_page : (view : PartitionView) (an_order : Order) (ps : PartitionState) → OnPage ps → OnPage (carried_out view an_order ps)
unfolding disarmed raised
carried_page view order.Halt ps has = has
carried_page view order.Suspend ps has = has
carried_page view order.Resume ps has = has
carried_page view order.Shutdown ps has = has
carried_page view (order.Reset mode status) ps has = reset_page view mode status ps

ordered_page : (view : PartitionView) (an_order : Order) (ps : PartitionState) → OnPage ps → OnPage (ordered view an_order ps)
unfolding ordered
ordered_page view an_order ps has = at (applies an_order ps.state)
  where
    at : (b : Bool) → OnPage (if b then carried_out view an_order ps else ps)
    at true = carried_page view an_order ps has
    at false = has

self_page : (view : PartitionView) (an_order : Order) (ps : PartitionState) → OnPage ps → OnPage (self_ordered view an_order ps).after
unfolding self_ordered
self_page view an_order ps has = ordered_page view an_order ps has

-- a health event
entered_page : (b : Bool) (time : ℕ) (an_event : Event) (word : ℕ) (an_action : Action) (ps : PartitionState) → OnPage ps → OnPage (entered_if b time an_event word an_action ps)
unfolding entered
entered_page true time an_event word an_action ps has = has
entered_page false time an_event word an_action ps has = has

undelivered_page : (view : PartitionView) (time : ℕ) (ps : PartitionState) → OnPage ps → OnPage (undelivered view time ps).after
unfolding undelivered entered
undelivered_page view time ps has = ordered_page view order.Halt _ has

delivered_base : (areas : List Area) (v : VirtualTraps) (core : Registers) (memory : Memory) (type : ℕ) → (delivered areas v core memory type).traps.base ≡ v.base
unfolding delivered
delivered_base areas v core memory type = by (freed_below areas core memory).answer
  where
    by : (answer : Result (Unit {0}) StackFault) → (delivered_below answer v (freed_below areas core memory).core (freed_below areas core memory).memory type).traps.base ≡ v.base
    by (Ok free) = refl
    by (Err fault) = refl

delivery_page : (answer : Result (Unit {0}) StackFault) (view : PartitionView) (time : ℕ) (d : Delivered) (ps : PartitionState) → d.traps.base ≡ ps.traps.base → OnPage ps → OnPage (by_delivery answer view time d ps).after
delivery_page (Ok made) view time d ps same has = same_page d.traps.base ps.traps.base same has
delivery_page (Err fault) view time d ps same has = undelivered_page view time ps has

trap_page : (view : PartitionView) (time type : ℕ) (ps : PartitionState) → OnPage ps → OnPage (trap_delivered view time type ps).after
unfolding trap_delivered
trap_page view time type ps has =
    let d = delivered (areas_of view) ps.traps ps.core ps.memory type in
    delivery_page d.answer view time d ps (delivered_base (areas_of view) ps.traps ps.core ps.memory type) has

interrupt_page : (answer : Result (Unit {0}) StackFault) (view : PartitionView) (time n : ℕ) (d : Delivered) (ps : PartitionState) → d.traps.base ≡ ps.traps.base → OnPage ps → OnPage (by_interrupt answer view time n d ps).after
unfolding interrupt_cleared
interrupt_page (Ok made) view time n d ps same has = same_page d.traps.base ps.traps.base same has
interrupt_page (Err fault) view time n d ps same has = undelivered_page view time ps has

interrupt_delivered_page : (view : PartitionView) (time n : ℕ) (ps : PartitionState) → OnPage ps → OnPage (interrupt_delivered view time n ps).after
unfolding interrupt_delivered
interrupt_delivered_page view time n ps has =
    let d = delivered (areas_of view) ps.traps ps.core ps.memory (0xE0 + n) in
    interrupt_page d.answer view time n d ps (delivered_base (areas_of view) ps.traps ps.core ps.memory (0xE0 + n)) has

propagated_page : (view : PartitionView) (time : ℕ) (type : Option ℕ) (ps : PartitionState) → OnPage ps → OnPage (propagated view time type ps).after
propagated_page view time None ps has = has
propagated_page view time (Some type) ps has = trap_page view time type ps has

own_page : (view : PartitionView) (time : ℕ) (type : Option ℕ) (own_effect : Own) (ps : PartitionState) → OnPage ps → OnPage (done_to_itself view time type own_effect ps).after
unfolding raised
own_page view time type own.Nothing ps has = has
own_page view time type own.Shutdown ps has = has
own_page view time type (own.Reset mode) ps has = self_page view (order.Reset mode 0) ps has
own_page view time type own.Suspend ps has = self_page view order.Suspend ps has
own_page view time type own.Halt ps has = self_page view order.Halt ps has
own_page view time type own.Propagate ps has = propagated_page view time type ps has

passed_page : (b : Bool) (ps : PartitionState) → OnPage ps → OnPage (passed_over_if b ps)
passed_page true ps has = has
passed_page false ps has = has

event_page : (view : PartitionView) (time : ℕ) (an_event : Event) (word : ℕ) (type : Option ℕ) (ps : PartitionState) → OnPage ps → OnPage (event_handled view time an_event word type ps).after
unfolding answered_by event_handled
event_page view time an_event word type ps has =
    let effect : Effect = effect_of (action_in view.part.hm an_event) ps.traps.enabled in
    let noted_state : PartitionState = entered_if (is_logged view.part.hm an_event) time an_event word effect.action ps in
    own_page view time type effect.own (passed_over_if (is_passed_over an_event effect) noted_state)
    (passed_page (is_passed_over an_event effect) noted_state (entered_page (is_logged view.part.hm an_event) time an_event word effect.action ps has))

-- a call
answer_page : (value : ℕ) (ps : PartitionState) → OnPage ps → OnPage (with_answer value ps)
unfolding with_answer
answer_page value ps has = has

written_page : (address : ℕ) (bytes : List ℕ) (ps : PartitionState) → OnPage ps → OnPage (with_written address bytes ps)
unfolding with_written
written_page address bytes ps has = has

writings_page : (writings : List Writing) (ps : PartitionState) → OnPage ps → OnPage (with_writings writings ps)
writings_page [] ps has = has
writings_page (writing ∷ writings) ps has = writings_page writings (with_written writing.address writing.bytes ps) (written_page writing.address writing.bytes ps has)

-- and what a call leaves
record IsServedOnPage (s : Served) : Type 0 where
  after : OnPage s.after

answers : (value : ℕ) (ps : PartitionState) → OnPage ps → IsServedOnPage (answering value ps)
answers value ps has = record { after = answer_page value ps has }

acts_so : (act : Act) (value : ℕ) (ps : PartitionState) → OnPage ps → IsServedOnPage (acting act value ps)
acts_so act value ps has = record { after = answer_page value ps has }

tested_page : (tests : List Test) (caller : Caller) (comes : Served) → OnPage caller.state → IsServedOnPage comes → IsServedOnPage (tested tests caller comes)
tested_page [] caller comes has is = is
tested_page (Some code ∷ tests) caller comes has is = answers code caller.state has
tested_page (None ∷ tests) caller comes has is = tested_page tests caller comes has is

on_port_page : (o : Option MadePort) (caller : Caller) (call : MadePort → Served) → OnPage caller.state → ((port : MadePort) → IsServedOnPage (call port)) → IsServedOnPage (on_port o caller call)
on_port_page None caller call has each = answers invalid_parameter caller.state has
on_port_page (Some port) caller call has each = each port

creating_page : (the_kind : Kind) (way size most : ℕ) (name : Option (List ℕ)) (caller : Caller) → OnPage caller.state → IsServedOnPage (creating the_kind way size most name caller)
creating_page the_kind way size most None caller has = answers invalid_parameter caller.state has
creating_page the_kind way size most (Some name) caller has = by (created_over caller.view.part.ports (shape_at caller.view) name the_kind way size most caller.state.made)
  where
    by : (answer : Result ℕ CreateFault) → IsServedOnPage (by_created answer caller)
    by (Ok r) = answers r (record caller.state { made = with_port r caller.state.made }) has
    by (Err fault) = answers (create_refusal fault) caller.state has

first_page : (o : Option (List ℕ)) (caller : Caller) (port : MadePort) → OnPage caller.state → IsServedOnPage (first_read o caller port)
first_page None caller port has = answers not_available caller.state has
first_page (Some message) caller port has =
    tested_page (refused_if (nat_lt (c_of caller) (length message)) invalid_parameter ∷ room caller (b_of caller) (length message) ∷ []) caller _ has
    (acts_so (emission.Trades (OwnTakes port.name)) (length message) (with_written (b_of caller) message caller.state) (written_page (b_of caller) message caller.state has))

held_page : (o : Option HeldSample) (caller : Caller) (port : MadePort) → OnPage caller.state → IsServedOnPage (held_read o caller port)
held_page None caller port has = answers no_action caller.state has
held_page (Some sample) caller port has =
    let first : PartitionState = with_written (b_of caller) sample.bytes caller.state in
    let valid : List ℕ = word (validity port.shape.kind caller.time sample) in
    tested_page (refused_if (nat_lt (c_of caller) (length sample.bytes)) invalid_parameter ∷ room caller (b_of caller) (length sample.bytes) ∷ room caller (d_of caller) 4 ∷ []) caller _ has
    (answers (length sample.bytes) (with_written (d_of caller) valid first) (written_page (d_of caller) valid first (written_page (b_of caller) sample.bytes caller.state has)))

input_page : (inputs : List ℕ) (caller : Caller) → OnPage caller.state → IsServedOnPage (input_read inputs caller)
unfolding with_written
input_page [] caller has = answers not_available caller.state has
input_page (next ∷ rest) caller has =
    tested_page (room caller (a_of caller) 4 ∷ []) caller _ has
    (answers 0 (record (with_written (a_of caller) (word next) caller.state) { inputs = rest }) has)

-- back from a trap
undone_page : (caller : Caller) (ps : PartitionState) → OnPage ps → IsServedOnPage (undone caller ps)
undone_page caller ps has = record { after = has }

return_page : (answer : Result (Unit {0}) IretFault) (r : Returned) (caller : Caller) → r.traps.base ≡ caller.state.traps.base → OnPage caller.state → IsServedOnPage (by_return answer r caller)
return_page (Ok left) r caller same has = record { after = same_page r.traps.base caller.state.traps.base same has }
return_page (Err Unaligned) r caller same has = answers invalid_parameter caller.state has
return_page (Err Stack) r caller same has = undone_page caller caller.state has

returned_base : (areas : List Area) (v : VirtualTraps) (core : Registers) (memory : Memory) → (returned areas v core memory).traps.base ≡ v.base
unfolding returned
returned_base areas v core memory = at (are_aligned core) (brought_above areas core memory).answer
  where
    at : (b : Bool) (answer : Result (Unit {0}) StackFault)
        → (if b then returned_above answer (register_at core 16) (register_at core 17) (register_at core 18) v (brought_above areas core memory).core else refused_return Unaligned v core).traps.base ≡ v.base
    at true (Ok there) = refl
    at true (Err fault) = refl
    at false answer = refl

flush_page : (answer : Result (Unit {0}) StackFault) (ps : PartitionState) (caller : Caller) → OnPage ps → IsServedOnPage (by_flush answer ps caller)
flush_page (Ok all) ps caller has = answers 0 ps has
flush_page (Err fault) ps caller has = undone_page caller ps has

-- what is changed
abbrev IsChangeOnPage : OwnChange → Type 0
IsChangeOnPage Waits = Unit {0}
IsChangeOnPage (ArmsTimer clock timer) = Unit {0}
IsChangeOnPage (SetsMask mask) = Unit {0}
IsChangeOnPage (SetsCodes icc enabled) = Unit {0}
IsChangeOnPage (SetsBase base) = base % 4096 ≡ 0

change_page : (change : OwnChange) (ps : PartitionState) → IsChangeOnPage change → OnPage ps → OnPage (with_change change ps)
change_page Waits ps is has = has
change_page (ArmsTimer clock timer) ps is has = has
change_page (SetsMask mask) ps is has = has
change_page (SetsCodes icc enabled) ps is has = has
change_page (SetsBase base) ps is has = is

abbrev IsEffectOnPage : CallEffect → Type 0
IsEffectOnPage (GivesAnswer value writings) = Unit {0}
IsEffectOnPage (PrintsBytes bytes value) = Unit {0}
IsEffectOnPage (GivesOrder id an_order) = Unit {0}
IsEffectOnPage (DoesToAll event) = Unit {0}
IsEffectOnPage (RequestsPlan plan writings) = Unit {0}
IsEffectOnPage (PutsBytes the_kind address size) = Unit {0}
IsEffectOnPage TakesMessage = Unit {0}
IsEffectOnPage (SendsSignal number) = Unit {0}
IsEffectOnPage ShowsSample = Unit {0}
IsEffectOnPage (ShowsPort the_kind size status) = Unit {0}
IsEffectOnPage (CreatesPort the_kind way size most name) = Unit {0}
IsEffectOnPage (ChangesOwn change) = IsChangeOnPage change
IsEffectOnPage EntersTrace = Unit {0}
IsEffectOnPage UsesInput = Unit {0}
IsEffectOnPage (MeetsEvent event word) = Unit {0}
IsEffectOnPage GoesBack = Unit {0}
IsEffectOnPage SpillsWindows = Unit {0}

put_page : (the_kind : Kind) (address size : ℕ) (caller : Caller) (port : MadePort) → OnPage caller.state
    → IsServedOnPage (tested (source_only port ∷ size_fits port size ∷ text caller address size ∷ queue_room the_kind port) caller (putting_bytes address size caller port))
put_page the_kind address size caller port has =
    tested_page (source_only port ∷ size_fits port size ∷ text caller address size ∷ queue_room the_kind port) caller (putting_bytes address size caller port) has
    (acts_so (emission.Trades (OwnPuts port.name (caller_bytes caller address size))) 0 caller.state has)

effect_page : (effect : CallEffect) (caller : Caller) → IsEffectOnPage effect → OnPage caller.state → IsServedOnPage (comes_to effect caller)
effect_page (GivesAnswer value writings) caller is has = answers value (with_writings writings caller.state) (writings_page writings caller.state has)
effect_page (PrintsBytes bytes value) caller is has = record { after = answer_page value caller.state has }
effect_page (GivesOrder id an_order) caller is has = acts_so (emission.Upon id an_order) 0 caller.state has
effect_page (DoesToAll event) caller is has = acts_so (emission.UponAll event) 0 caller.state has
effect_page (RequestsPlan plan writings) caller is has = acts_so (emission.Plans (emission.Asked plan)) 0 (with_writings writings caller.state) (writings_page writings caller.state has)
effect_page (PutsBytes the_kind address size) caller is has = on_port_page (made_port the_kind caller) caller _ has (λ port. put_page the_kind address size caller port has)
effect_page TakesMessage caller is has =
    on_port_page (made_port kind.Queuing caller) caller _ has (λ port. tested_page (destination_only port ∷ []) caller _ has (first_page (first_message port.content) caller port has))
effect_page (SendsSignal number) caller is has = acts_so (emission.Trades (OwnSignals number)) 0 caller.state has
effect_page ShowsSample caller is has =
    on_port_page (made_port kind.Sampling caller) caller _ has (λ port. tested_page (destination_only port ∷ []) caller _ has (held_page (sample_of port.content) caller port has))
effect_page (ShowsPort the_kind size status) caller is has =
    on_port_page (made_port the_kind caller) caller _ has (λ port. tested_page (room caller (b_of caller) size ∷ []) caller _ has
    (answers 0 (with_written (b_of caller) (status port) caller.state) (written_page (b_of caller) (status port) caller.state has)))
effect_page (CreatesPort the_kind way size most name) caller is has = creating_page the_kind way size most name caller has
effect_page (ChangesOwn change) caller is has = answers 0 (with_change change caller.state) (change_page change caller.state is has)
effect_page EntersTrace caller is has =
    record { after = answer_page 0 (record caller.state { traces = noted (trace_entry caller) caller.state.traces }) has }
effect_page UsesInput caller is has = input_page caller.state.inputs caller has
effect_page (MeetsEvent event word) caller is has = record { after = answer_page 0 caller.state has }
effect_page GoesBack caller is has =
    let r = returned (areas_of caller.view) caller.state.traps caller.state.core caller.state.memory in
    return_page r.answer r caller (returned_base (areas_of caller.view) caller.state.traps caller.state.core caller.state.memory) has
effect_page SpillsWindows caller is has =
    let moved = flushed 8 (areas_of caller.view) (move_made caller.state.core caller.state.memory) in
    flush_page moved.answer (record caller.state { core = moved.core; memory = moved.memory }) caller has

-- the call that sets the base takes a multiple
whole_pages : (a : ℕ) → (a - a % 4096) % 4096 ≡ 0
whole_pages a = omega arith

call_page : (call : Call) (caller : Caller) → IsEffectOnPage (effect_of_call call caller).effect
call_page GetSelf caller = tt
call_page HaltPartition caller = tt
call_page ResetPartition caller = tt
call_page SuspendPartition caller = tt
call_page ResumePartition caller = tt
call_page ShutdownPartition caller = tt
call_page IdleSelf caller = tt
call_page GetPartitionStatus caller = tt
call_page HaltSystem caller = tt
call_page ResetSystem caller = tt
call_page GetSystemStatus caller = tt
call_page GetTime caller = tt
call_page SetTimer caller = tt
call_page SwitchSchedPlan caller = tt
call_page GetPlanStatus caller = tt
call_page CreateSamplingPort caller = tt
call_page WriteSamplingMessage caller = tt
call_page ReadSamplingMessage caller = tt
call_page GetSamplingPortStatus caller = tt
call_page CreateQueuingPort caller = tt
call_page SendQueuingMessage caller = tt
call_page ReceiveQueuingMessage caller = tt
call_page GetQueuingPortStatus caller = tt
call_page TraceEvent caller = tt
call_page TraceRead caller = tt
call_page TraceStatus caller = tt
call_page RaiseEvent caller = tt
call_page HmRead caller = tt
call_page HmStatus caller = tt
call_page SetIrqmask caller = tt
call_page ClearIrqmask caller = tt
call_page WriteConsole caller = tt
call_page ReadInput caller = tt
call_page Iret caller = tt
call_page SetPsr caller = tt
call_page SetTbr caller = whole_pages (a_of caller)
call_page FlushRegwin caller = tt
call_page RaiseIpvi caller = tt

served_page : (caller : Caller) → OnPage caller.state → IsServedOnPage (served caller)
served_page caller has = every_call caller IsServedOnPage each (answers unknown_call caller.state has)
  where
    each : (call : Call) → IsServedOnPage (performed (effect_of_call call caller) caller)
    each call =
        let asked : TestedEffect = effect_of_call call caller in
        tested_page (right_tests asked.effect caller ++ asked.tests) caller (comes_to asked.effect caller) has (effect_page asked.effect caller (call_page call caller) has)

-- the work of a tick
act_page : (act : Act) (view : PartitionView) (ps : PartitionState) → OnPage ps → OnPage (by_act act view ps).after
act_page emission.Nothing view ps has = has
act_page (emission.Trades traffic) view ps has = has
act_page (emission.Upon id an_order) view ps has = at (id == view.id)
  where
    at : (b : Bool) → OnPage (if b then self_ordered view an_order ps else record (quiet ps) { act = emission.Upon id an_order }).after
    at true = self_page view an_order ps has
    at false = has
act_page (emission.Plans change) view ps has = has
act_page (emission.UponAll event) view ps has = has

upshot_page : (upshot : Upshot) (view : PartitionView) (time : ℕ) (ps : PartitionState) → OnPage ps → OnPage (by_upshot upshot view time ps).after
upshot_page (Acts act) view time ps has = act_page act view ps has
upshot_page (Meets event word) view time ps has = event_page view time event word None ps has

clocked_page : (ps : PartitionState) → OnPage ps → OnPage (clocked ps)
unfolding clocked
clocked_page ps has = has

called_page : (caller : Caller) → OnPage caller.state → OnPage (called caller).after
unfolding called
called_page caller has = upshot_page (served caller).upshot caller.view caller.time (clocked (served caller).after) (clocked_page (served caller).after (served_page caller has).after)

turn_page : (turn : Turn) (view : PartitionView) (contents : List (Option Content)) (time : ℕ) (sight : Sight) (before ps : PartitionState) → OnPage ps → OnPage (by_turn turn view contents time sight before ps).after
turn_page turn.Went view contents time sight before ps has = clocked_page ps has
turn_page (turn.Trap type) view contents time sight before ps has = event_page view time (event_of_type type) before.core.pc (Some type) (clocked ps) (clocked_page ps has)
turn_page turn.Call view contents time sight before ps has =
    called_page (record { view = view; state = ps; contents = contents; time = time; sight = sight; pc = before.core.pc; npc = before.core.npc }) has

executed_page : (view : PartitionView) (contents : List (Option Content)) (time : ℕ) (sight : Sight) (ps : PartitionState) → OnPage ps → OnPage (executed_in_tick view contents time sight ps).after
unfolding executed_in_tick
executed_page view contents time sight ps has =
    let t = settled (areas_of view) ps.core ps.memory in
    turn_page t.turn view contents time sight ps (turned_state t ps) has

delivered_page : (o : Option ℕ) (enabled : Bool) (view : PartitionView) (contents : List (Option Content)) (time : ℕ) (sight : Sight) (ps : PartitionState) → OnPage ps
    → OnPage (delivered_or_executed o enabled view contents time sight ps).after
delivered_page None enabled view contents time sight ps has = executed_page view contents time sight ps has
delivered_page (Some n) true view contents time sight ps has = interrupt_delivered_page view time n (clocked ps) (clocked_page ps has)
delivered_page (Some n) false view contents time sight ps has = executed_page view contents time sight ps has

going_page : (b : Bool) (view : PartitionView) (contents : List (Option Content)) (time : ℕ) (sight : Sight) (ps : PartitionState) → OnPage ps → OnPage (worked_if b view contents time sight ps).after
going_page false view contents time sight ps has = has
going_page true view contents time sight ps has = delivered_page (due ps.traps) ps.traps.enabled view contents time sight (record ps { state = Ready }) has

raised_page : (b : Bool) (n : ℕ) (v : VirtualTraps) → v.base % 4096 ≡ 0 → (raised_if b n v).base % 4096 ≡ 0
unfolding raised
raised_page true n v has = has
raised_page false n v has = has

looked_page : (time : ℕ) (ps : PartitionState) → OnPage ps → OnPage (hardware_looked_at time ps)
unfolding hardware_looked_at
looked_page time ps has = raised_page (is_due time ps.clocks.hardware_timer) partition.hardware_timer ps.traps has

execution_page : (ps : PartitionState) → OnPage ps → OnPage (execution_looked_at ps)
unfolding execution_looked_at
execution_page ps has = raised_page (is_due ps.clocks.execution ps.clocks.execution_timer) partition.execution_timer ps.traps has

ready_page : (time : ℕ) (first : Bool) (ps : PartitionState) → OnPage ps → OnPage (with_interrupts time first ps)
unfolding with_interrupts
ready_page time first ps has =
    execution_page (hardware_looked_at time (record ps { traps = raised_if first slot_start ps.traps }))
    (looked_page time (record ps { traps = raised_if first slot_start ps.traps }) (raised_page first slot_start ps.traps has))

local_page : (view : PartitionView) (ps : PartitionState) (contents : List (Option Content)) (n time : ℕ) (first : Bool) (sight : Sight) → OnPage ps → OnPage (local_tick view ps contents n time first sight).after
unfolding local_tick worked
local_page view ps contents n time first sight has =
    let now = with_interrupts time first ps in
    going_page (goes_on now.state first (due now.traps)) view contents time sight now (ready_page time first ps has)

-- a tick of the machine
abbrev IsTickOnPage : Option LocalTick → Type 0
IsTickOnPage None = Unit {0}
IsTickOnPage (Some tick) = OnPage tick.after

-- of each partition
abbrev pub HaveTables : Machine → Type 0
HaveTables g = (p : ℕ) (ps : PartitionState) → slice_get g.parts p ≡ Some ps → OnPage ps

local_of_page : (g : Machine) (p : ℕ) (first : Bool) (ps : PartitionState) → OnPage ps → OnPage (local_of g p first ps).after
unfolding local_of
local_of_page g p first ps has = local_page (view_of g.system p) ps (copies g p) g.ticks g.time first (sight_of_state g p first ps) has

taken_page : (g : Machine) (p : ℕ) (first : Bool) (o : Option PartitionState) → slice_get g.parts p ≡ o → HaveTables g → IsTickOnPage (taken_by g p first o)
taken_page g p first None there all = tt
taken_page g p first (Some ps) there all = at (takes_turns ps.state)
  where
    at : (b : Bool) → IsTickOnPage (if b then Some (local_of g p first ps) else None)
    at true = local_of_page g p first ps (all p ps there)
    at false = tt

local_in_page : (g : Machine) (o : Option SlotTurn) → HaveTables g → IsTickOnPage (local_in g o)
local_in_page g None all = tt
local_in_page g (Some turn) all = taken_page g turn.part turn.first (slice_get g.parts turn.part) refl all

happened_page : (g : Machine) → HaveTables g → IsTickOnPage (happened g).local
unfolding happened happened_by local
happened_page g all = local_in_page g (turn_of g) all

interrupted_page : (o : Option ℕ) (ps : PartitionState) → OnPage ps → OnPage (interrupted o ps)
unfolding raised
interrupted_page None ps has = has
interrupted_page (Some n) ps has = at (is_halted ps.state)
  where
    at : (b : Bool) → OnPage (if b then ps else record ps { traps = raised n ps.traps })
    at true = has
    at false = has

hearing_page : (view : PartitionView) (traffic : OwnTraffic) (ps : PartitionState) → OnPage ps → OnPage (hearing view traffic ps)
unfolding after_message
hearing_page view OwnStill ps has = has
hearing_page view (OwnPuts q bytes) ps has = interrupted_page (heard_from q view.part.ports ps.made view.channels) ps has
hearing_page view (OwnTakes q) ps has = has
hearing_page view (OwnSignals number) ps has = interrupted_page (Some (link_signal number)) ps has

obeyed_page : (view : PartitionView) (o : Option Order) (ps : PartitionState) → OnPage ps → OnPage (obeyed view o ps)
obeyed_page view None ps has = has
obeyed_page view (Some an_order) ps has = ordered_page view an_order ps has

whole_page : (view : PartitionView) (e : WholeEvent) (ps : PartitionState) → OnPage ps → OnPage (after_event view e ps)
whole_page view NoEvent ps has = has
whole_page view (AllReset mode) ps has = reset_page view mode 0 ps
whole_page view AllHalted ps has = has

rested_page : (worked : Bool) (time : ℕ) (ps : PartitionState) → OnPage ps → OnPage (rested_unless worked time ps)
unfolding rested
rested_page true time ps has = has
rested_page false time ps has = at (is_halted ps.state)
  where
    at : (b : Bool) → OnPage (if b then ps else hardware_looked_at time ps)
    at true = has
    at false = looked_page time ps has

after_tick_page : (view : PartitionView) (time : ℕ) (worked : Bool) (traffic : OwnTraffic) (o : Option Order) (e : WholeEvent) (ps : PartitionState) → OnPage ps → OnPage (after_tick view time worked traffic o e ps)
unfolding after_tick
after_tick_page view time worked traffic o e ps has =
    rested_page worked time _ (whole_page view e _ (obeyed_page view o (hearing view traffic ps) (hearing_page view traffic ps has)))

its_turn_page : (b : Bool) (o : Option LocalTick) → IsTickOnPage o → IsTickOnPage (if_its_turn b o)
its_turn_page true o is = is
its_turn_page false o is = tt

worked_page : (o : Option LocalTick) (ps : PartitionState) → IsTickOnPage o → OnPage ps → OnPage (worked_in o ps)
worked_page None ps is has = has
worked_page (Some tick) ps is has = is

part_page : (g : Machine) (h : Happened) (p : ℕ) (ps : PartitionState) → IsTickOnPage h.local → OnPage ps → OnPage (part_after g h p ps)
unfolding part_after tick_of
part_page g h p ps is has =
    after_tick_page (view_of g.system p) g.time (is_some (if_its_turn (is_turn_of h.turn p) h.local)) (heard_as g.system.conf p h.traffic) (order_upon h.act p) h.event
    (worked_in (if_its_turn (is_turn_of h.turn p) h.local) ps)
    (worked_page (if_its_turn (is_turn_of h.turn p) h.local) ps (its_turn_page (is_turn_of h.turn p) h.local is) has)

after_page : (g : Machine) → HaveTables g → HaveTables (after g (happened g))
unfolding after
after_page g all p ps there = by (slice_get g.parts p) refl there
  where
    by : (o : Option PartitionState) → slice_get g.parts p ≡ o → slice_get (each (part_after g (happened g)) g.parts) p ≡ Some ps → OnPage ps
    by None before is = absurd (let none = sym (get_each (part_after g (happened g)) g.parts p ∙ ap (on (part_after g (happened g) p)) before) ∙ is in cc)
    by (Some qs) before is =
        let same : part_after g (happened g) p qs ≡ ps = same_Some _ ps (sym (get_each (part_after g (happened g)) g.parts p ∙ ap (on (part_after g (happened g) p)) before) ∙ is) in
        subst OnPage same (part_page g (happened g) p qs (happened_page g all) (all p qs before))

-- so each tick keeps it
pub step_tables : (g : Machine) → HaveTables g → HaveTables (step g)
step_tables g all = at g.halted refl
  where
    at : (b : Bool) → g.halted ≡ b → HaveTables (step g)
    at true halts = subst HaveTables (sym (step_halted g halts)) all
    at false runs = subst HaveTables (sym (step_runs g runs)) (after_page g all)

-- and a machine boots so
start_pages : (system : System) (n p : ℕ) (from : ℕ → ℕ) (ps : PartitionState) → slice_get (table (λ k. booted_part system (from k)) n) p ≡ Some ps → OnPage ps
start_pages system zero p from ps there = absurd cc
start_pages system (suc n) zero from ps there = subst OnPage (same_Some _ ps there) (booted_page (view_of system (from 0)))
start_pages system (suc n) (suc p) from ps there = start_pages system n p (λ k. from (suc k)) ps there

pub start_tables : (system : System) → HaveTables (start system)
unfolding start
start_tables system p ps there = start_pages system (length system.conf.parts) p (λ k. k) ps there
