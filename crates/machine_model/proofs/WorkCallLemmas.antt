-- What each call leaves of the facts.
use Rattle.std.proofs.Common.{length, ◌++◌, ◌≡◌, ◌⊎◌, inl, inr, ℕ, zero, suc, ◌≤◌, ◌+◌, Bool, true, false, List, [], ◌∷◌, Option, None, Some, Result, Ok, Err, refl, sym, ap, arith, subst}
use Rattle.std.specs.Prelude.{◌-◌, drop, slice_get, slice_index_or, ◌&&◌, IsSome}
use Rattle.std.proofs.lemmas.List.Elements.{All-append, All-cons, All-drop, All-nil}
use Rattle.guest_bus.specs.lemmas.MemoryLemmas.{length-bytes_at}
use Rattle.health_monitor.specs.declared.entry.HealthEntry.{HealthEntry}
use Rattle.virt_clocks.specs.Clocks.{with_timer}
use Rattle.virt_clocks.specs.declared.timer.Clock.{Clock}
use Rattle.virt_clocks.specs.declared.timer.Clock.TheVariants.{Exec, Hw}
use Rattle.virt_clocks.specs.declared.timer.Timer.{Timer}
use Rattle.virt_traps.specs.Delivery.{Returned, returned}
use Rattle.virt_traps.specs.Moves.{move_made}
use Rattle.virt_traps.specs.declared.delivery.IretFault.{IretFault}
use Rattle.virt_traps.specs.declared.delivery.IretFault.TheVariants.{Stack, Unaligned}
use Rattle.virt_traps.specs.declared.windows.StackFault.{StackFault}
use Rattle.xm_base.specs.Options.{on}
use Rattle.xm_conf.specs.declared.port.Kind.{Kind}
use Rattle.xm_conf.specs.declared.port.Kind.TheVariants as kind
use Rattle.xm_conf.specs.declared.port.Port.{Port}
use Rattle.xm_ports.specs.Channels.{HeldSample, Shape, first_message, sample_of}
use Rattle.xm_ports.specs.Ports.{agrees_end, created_over, granted, is_made, is_way_of, port_with, unless_differs, unless_made, unless_missing, with_port}
use Rattle.xm_ports.specs.declared.ports.CreateFault.{CreateFault}
use Rattle.xm_traces.specs.Ring.{Kept, RING_ENTRIES, noted}
use Rattle.xm_traces.specs.declared.entry.TraceEntry.{TraceEntry}
use Rattle.machine_model.specs.Caller.{Acts, Caller, Served, Test, a_of, answering, b_of, invalid_parameter, room, tested, text, unknown_call, with_answer, with_written}
use Rattle.machine_model.specs.lemmas.CallLemmas.{every_effect}
use Rattle.machine_model.specs.Effects.{ArmsTimer, CallEffect, ChangesOwn, CreatesPort, DoesToAll, EntersTrace, GivesAnswer, GivesOrder, GoesBack, MeetsEvent, OwnChange, PrintsBytes, PutsBytes, RequestsPlan, SendsSignal, SetsBase, SetsCodes, SetsMask, ShowsPort, ShowsSample, SpillsWindows, TakesMessage, UsesInput, Waits, Writing, comes_to, putting_bytes, queue_room, right_tests, with_change, with_writings}
use Rattle.machine_model.specs.Facts.{AreEnds, AreLast, HaveEight, IsChannelEnd}
use Rattle.machine_model.specs.Hypercalls.{served}
use Rattle.machine_model.specs.OwnEffects.{trace_entry, tracing, by_flush, by_return, flushed, input_read}
use Rattle.machine_model.specs.Partition.{PartitionState, areas_of}
use Rattle.machine_model.specs.PortEffects.{MadePort, by_created, creating, destination_only, first_read, held_read, made_port, on_port, shape_at, size_fits, source_only}
use Rattle.machine_model.specs.Emission as emission
use Rattle.machine_model.specs.View.{PartitionView, PortChannel}

-- the parts of a partition's state of which the facts speak
pub record FactParts : Type 0 where
  pub traces : Kept TraceEntry
  pub health : Kept HealthEntry
  pub execution : ℕ
  pub inputs : List ℕ
  pub made : List Bool

abbrev pub fact_parts : PartitionState → FactParts
fact_parts ps = record { traces = ps.traces; health = ps.health; execution = ps.clocks.execution; inputs = ps.inputs; made = ps.made }

-- a partition goes on so: this many entries come at most, the execution clock counts at most this many ticks, input words are used, and what is made is an end
pub record Goes (view : PartitionView) (traces health ticks : ℕ) (before after : PartitionState) : Type 0 where
  pub traced : after.traces.next ≤ before.traces.next + traces
  pub met : after.health.next ≤ before.health.next + health
  pub ran : after.clocks.execution ≤ before.clocks.execution + ticks
  pub loaded : HaveEight before.traces.entries → HaveEight after.traces.entries
  pub read : AreLast after.inputs before.inputs
  pub made : AreEnds view before.made → AreEnds view after.made

-- nothing of it changed
pub same_goes : (view : PartitionView) (traces health ticks : ℕ) (before after : PartitionState) → fact_parts after ≡ fact_parts before → Goes view traces health ticks before after
same_goes view traces health ticks before after same =
    let traced : after.traces.next ≡ before.traces.next = ap (λ f. f.traces.next) same in
    let met : after.health.next ≡ before.health.next = ap (λ f. f.health.next) same in
    let ran : after.clocks.execution ≡ before.clocks.execution = ap (λ f. f.execution) same in
    record {
      traced = omega (arith, traced);
      met = omega (arith, met);
      ran = omega (arith, ran);
      loaded = λ eight. subst HaveEight (sym (ap (λ f. f.traces.entries) same)) eight;
      read = record { used = []; is = ap (λ f. f.inputs) same };
      made = λ ends. subst (AreEnds view) (sym (ap (λ f. f.made) same)) ends;
    }

-- a call leaves it so; one that makes a trace entry reaches nothing else
record Leaves (caller : Caller) (comes : Served) : Type 0 where
  goes : Goes caller.view 1 0 0 caller.state comes.after
  untraced : (comes.after.traces.next ≤ caller.state.traces.next) ⊎ (comes.upshot ≡ Acts emission.Nothing)

-- where no entry is made
untraced_leaves : (caller : Caller) (comes : Served) → Goes caller.view 0 0 0 caller.state comes.after → Leaves caller comes
untraced_leaves caller comes goes =
    let traced : comes.after.traces.next ≤ caller.state.traces.next + 0 = goes.traced in
    record {
      goes = record { traced = omega (arith, traced); met = goes.met; ran = goes.ran; loaded = goes.loaded; read = goes.read; made = goes.made };
      untraced = inl (omega (arith, traced));
    }

keeps : (caller : Caller) (comes : Served) → fact_parts comes.after ≡ fact_parts caller.state → Leaves caller comes
keeps caller comes same = untraced_leaves caller comes (same_goes caller.view 0 0 0 caller.state comes.after same)

-- a call that is refused keeps all
tested_keeps : (tests : List Test) (caller : Caller) (comes : Served) → fact_parts comes.after ≡ fact_parts caller.state → fact_parts (tested tests caller comes).after ≡ fact_parts caller.state
unfolding with_answer
tested_keeps [] caller comes same = same
tested_keeps (Some code ∷ tests) caller comes same = refl
tested_keeps (None ∷ tests) caller comes same = tested_keeps tests caller comes same

tested_leaves : (tests : List Test) (caller : Caller) (comes : Served) → Leaves caller comes → Leaves caller (tested tests caller comes)
unfolding with_answer
tested_leaves [] caller comes leaves = leaves
tested_leaves (Some code ∷ tests) caller comes leaves = keeps caller (answering code caller.state) refl
tested_leaves (None ∷ tests) caller comes leaves = tested_leaves tests caller comes leaves

on_port_keeps : (o : Option MadePort) (caller : Caller) (call : MadePort → Served) → ((port : MadePort) → fact_parts (call port).after ≡ fact_parts caller.state) → fact_parts (on_port o caller call).after ≡ fact_parts caller.state
unfolding with_answer
on_port_keeps None caller call same = refl
on_port_keeps (Some port) caller call same = same port

held_keeps : (o : Option HeldSample) (caller : Caller) (port : MadePort) → fact_parts (held_read o caller port).after ≡ fact_parts caller.state
unfolding with_answer with_written
held_keeps None caller port = refl
held_keeps (Some sample) caller port = grind (arith)

first_keeps : (o : Option (List ℕ)) (caller : Caller) (port : MadePort) → fact_parts (first_read o caller port).after ≡ fact_parts caller.state
unfolding with_answer with_written
first_keeps None caller port = refl
first_keeps (Some message) caller port = grind (arith)

return_keeps : (answer : Result (Unit {0}) IretFault) (r : Returned) (caller : Caller) → fact_parts (by_return answer r caller).after ≡ fact_parts caller.state
unfolding with_answer
return_keeps (Ok left) r caller = refl
return_keeps (Err Unaligned) r caller = refl
return_keeps (Err Stack) r caller = refl

flush_keeps : (answer : Result (Unit {0}) StackFault) (ps : PartitionState) (caller : Caller) → fact_parts ps ≡ fact_parts caller.state → fact_parts (by_flush answer ps caller).after ≡ fact_parts caller.state
unfolding with_answer
flush_keeps (Ok all) ps caller same = same
flush_keeps (Err fault) ps caller same = same

-- an input word is used
input_leaves : (inputs : List ℕ) (caller : Caller) → caller.state.inputs ≡ inputs → Leaves caller (input_read inputs caller)
unfolding with_answer with_written
input_leaves [] caller is = keeps caller (input_read [] caller) refl
input_leaves (next ∷ rest) caller is = tested_leaves (room caller (a_of caller) 4 ∷ []) caller _ (untraced_leaves caller _
    (record { traced = omega arith; met = omega arith; ran = omega arith; loaded = λ eight. eight; read = record { used = next ∷ []; is = sym is }; made = λ ends. ends }))

-- entries of eight bytes with one more, of which the last are kept
one_more : (entries : List TraceEntry) (entry : TraceEntry) → length entry.load ≡ 8 → HaveEight entries → HaveEight (entries ++ entry ∷ [])
one_more entries entry eight all =
    All-append (λ (e : TraceEntry). length e.load ≡ 8) entries (entry ∷ []) all
    (All-cons (λ (e : TraceEntry). length e.load ≡ 8) entry [] eight (All-nil (λ (e : TraceEntry). length e.load ≡ 8)))

last_eight : (entries : List TraceEntry) → HaveEight entries → HaveEight (drop (length entries - RING_ENTRIES) entries)
last_eight entries all = All-drop (λ (e : TraceEntry). length e.load ≡ 8) (length entries - RING_ENTRIES) entries all

-- a trace is entered
trace_leaves : (caller : Caller) → Leaves caller (tracing caller)
unfolding noted with_answer
trace_leaves caller = record {
  goes = record {
    traced = omega arith;
    met = omega arith;
    ran = omega arith;
    loaded = λ eight. last_eight (caller.state.traces.entries ++ trace_entry caller ∷ []) (one_more caller.state.traces.entries (trace_entry caller) (length-bytes_at caller.state.memory (b_of caller) 8) eight);
    read = record { used = []; is = refl };
    made = λ ends. ends;
  };
  untraced = inr refl;
}

-- what is made with one more port
made_or : (P : ℕ → Type 0) (made : List Bool) (r : ℕ) → P r → ((k : ℕ) → is_made k made ≡ true → P k) → (k : ℕ) → is_made k (with_port r made) ≡ true → P k
made_or P [] r new old k is = old k is
made_or P (one ∷ made) zero new old zero is = new
made_or P (one ∷ made) zero new old (suc k) is = old (suc k) is
made_or P (one ∷ made) (suc r) new old zero is = old zero is
made_or P (one ∷ made) (suc r) new old (suc k) is = made_or (λ j. P (suc j)) made r new (λ j e. old (suc j) e) k is

-- a port that is granted is an end
channel_there : (o : Option PortChannel) (shape : Shape) → on (λ channel. channel.shape) o ≡ Some shape → IsSome o
channel_there None shape is = absurd cc
channel_there (Some channel) shape is = refl

port_there : (way : ℕ) (o : Option Port) → is_way_of way o ≡ true → IsSome o
port_there way None is = absurd cc
port_there way (Some port) is = refl

is_granted : (view : PartitionView) (way length most : ℕ) (made : List Bool) (port r : ℕ) → granted view.part.ports (shape_at view) way length most made port ≡ Ok r → IsChannelEnd view r
unfolding granted
is_granted view way length most made port r is =
    by (is_way_of way (slice_get view.part.ports port)) (agrees_end length most (shape_at view port)) (shape_at view port) (is_made port made) refl refl refl is
  where
    by : (a b : Bool) (o : Option Shape) (already : Bool) → is_way_of way (slice_get view.part.ports port) ≡ a → shape_at view port ≡ o → is_made port made ≡ already
        → unless_differs (a && b) o made port ≡ Ok r → IsChannelEnd view r
    by false b o already its shape made_is said = absurd cc
    by true false o already its shape made_is said = absurd cc
    by true true None already its shape made_is said = absurd cc
    by true true (Some some) already its shape made_is said = at (is_made port made) said
      where
        at : (c : Bool) → unless_made c port ≡ Ok r → IsChannelEnd view r
        at true said = absurd cc
        at false said =
            let same : port ≡ r = cc in
            subst (IsChannelEnd view) same (record { port = port_there way (slice_get view.part.ports port) its; channel = channel_there (slice_index_or view.channels port None) some shape })

is_created : (view : PartitionView) (name : List ℕ) (the_kind : Kind) (way length most : ℕ) (made : List Bool) (r : ℕ)
    → created_over view.part.ports (shape_at view) name the_kind way length most made ≡ Ok r → IsChannelEnd view r
unfolding created_over
is_created view name the_kind way length most made r is = by (port_with name the_kind view.part.ports) is
  where
    by : (o : Option ℕ) → unless_missing (granted view.part.ports (shape_at view) way length most made) o ≡ Ok r → IsChannelEnd view r
    by None said = absurd cc
    by (Some port) said = is_granted view way length most made port r said

creating_leaves : (the_kind : Kind) (way size most : ℕ) (name : Option (List ℕ)) (caller : Caller) → Leaves caller (creating the_kind way size most name caller)
unfolding with_answer
creating_leaves the_kind way size most None caller = keeps caller (answering invalid_parameter caller.state) refl
creating_leaves the_kind way size most (Some name) caller =
    by (created_over caller.view.part.ports (shape_at caller.view) name the_kind way size most caller.state.made) refl
  where
    by : (answer : Result ℕ CreateFault) → created_over caller.view.part.ports (shape_at caller.view) name the_kind way size most caller.state.made ≡ answer → Leaves caller (by_created answer caller)
    by (Err fault) is = keeps caller (by_created (Err fault) caller) refl
    by (Ok r) is = untraced_leaves caller (by_created (Ok r) caller) (record {
      traced = omega arith;
      met = omega arith;
      ran = omega arith;
      loaded = λ eight. eight;
      read = record { used = []; is = refl };
      made = λ ends. made_or (IsChannelEnd caller.view) caller.state.made r (is_created caller.view name the_kind way size most caller.state.made r is) ends;
    })

-- a timer that is set leaves the execution clock
timer_keeps : (clock : Clock) (timer : Option Timer) (ps : PartitionState) → fact_parts (record ps { clocks = with_timer clock timer ps.clocks }) ≡ fact_parts ps
timer_keeps Hw timer ps = refl
timer_keeps Exec timer ps = refl

-- and so does every other change of the partition's own
change_keeps : (change : OwnChange) (ps : PartitionState) → fact_parts (with_change change ps) ≡ fact_parts ps
change_keeps Waits ps = refl
change_keeps (ArmsTimer clock timer) ps = timer_keeps clock timer ps
change_keeps (SetsMask mask) ps = refl
change_keeps (SetsCodes icc enabled) ps = refl
change_keeps (SetsBase base) ps = refl

-- bytes that are written leave it, too
writings_keep : (writings : List Writing) (ps : PartitionState) → fact_parts (with_writings writings ps) ≡ fact_parts ps
unfolding with_written
writings_keep [] ps = refl
writings_keep (writing ∷ writings) ps = writings_keep writings (with_written writing.address writing.bytes ps)

-- what each effect leaves
effect_leaves : (effect : CallEffect) (caller : Caller) → Leaves caller (comes_to effect caller)
unfolding with_answer with_written
effect_leaves (GivesAnswer value writings) caller = keeps caller (comes_to (GivesAnswer value writings) caller) (writings_keep writings caller.state)
effect_leaves (PrintsBytes bytes value) caller = keeps caller (comes_to (PrintsBytes bytes value) caller) refl
effect_leaves (GivesOrder id order) caller = keeps caller (comes_to (GivesOrder id order) caller) refl
effect_leaves (DoesToAll event) caller = keeps caller (comes_to (DoesToAll event) caller) refl
effect_leaves (RequestsPlan plan writings) caller = keeps caller (comes_to (RequestsPlan plan writings) caller) (writings_keep writings caller.state)
effect_leaves (PutsBytes the_kind address size) caller = keeps caller (comes_to (PutsBytes the_kind address size) caller) (on_port_keeps (made_port the_kind caller) caller _ (λ port.
    tested_keeps (source_only port ∷ size_fits port size ∷ text caller address size ∷ queue_room the_kind port) caller (putting_bytes address size caller port) refl))
effect_leaves TakesMessage caller = keeps caller (comes_to TakesMessage caller) (on_port_keeps (made_port kind.Queuing caller) caller _ (λ port.
    tested_keeps (destination_only port ∷ []) caller _ (first_keeps (first_message port.content) caller port)))
effect_leaves (SendsSignal number) caller = keeps caller (comes_to (SendsSignal number) caller) refl
effect_leaves ShowsSample caller = keeps caller (comes_to ShowsSample caller) (on_port_keeps (made_port kind.Sampling caller) caller _ (λ port.
    tested_keeps (destination_only port ∷ []) caller _ (held_keeps (sample_of port.content) caller port)))
effect_leaves (ShowsPort the_kind size status) caller = keeps caller (comes_to (ShowsPort the_kind size status) caller) (on_port_keeps (made_port the_kind caller) caller _ (λ port.
    tested_keeps (room caller (b_of caller) size ∷ []) caller (answering 0 (with_written (b_of caller) (status port) caller.state)) refl))
effect_leaves (CreatesPort the_kind way size most name) caller = creating_leaves the_kind way size most name caller
effect_leaves (ChangesOwn change) caller = keeps caller (comes_to (ChangesOwn change) caller) (change_keeps change caller.state)
effect_leaves EntersTrace caller = trace_leaves caller
effect_leaves UsesInput caller = input_leaves caller.state.inputs caller refl
effect_leaves (MeetsEvent event word) caller = keeps caller (comes_to (MeetsEvent event word) caller) refl
effect_leaves GoesBack caller =
    let r = returned (areas_of caller.view) caller.state.traps caller.state.core caller.state.memory in
    keeps caller (comes_to GoesBack caller) (return_keeps r.answer r caller)
effect_leaves SpillsWindows caller =
    let moved = flushed 8 (areas_of caller.view) (move_made caller.state.core caller.state.memory) in
    keeps caller (comes_to SpillsWindows caller) (flush_keeps moved.answer (record caller.state { core = moved.core; memory = moved.memory }) caller refl)

served_leaves : (caller : Caller) → Leaves caller (served caller)
unfolding with_answer
served_leaves caller =
    every_effect caller (Leaves caller) (λ asked. tested_leaves (right_tests asked.effect caller ++ asked.tests) caller (comes_to asked.effect caller) (effect_leaves asked.effect caller))
    (keeps caller (answering unknown_call caller.state) refl)

-- a call goes on so
pub served_goes : (caller : Caller) → Goes caller.view 1 0 0 caller.state (served caller).after
served_goes caller = (served_leaves caller).goes

-- one that makes a trace entry reaches nothing else
pub served_untraced : (caller : Caller) → ((served caller).after.traces.next ≤ caller.state.traces.next) ⊎ ((served caller).upshot ≡ Acts emission.Nothing)
served_untraced caller = (served_leaves caller).untraced
