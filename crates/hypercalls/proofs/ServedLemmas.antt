-- What each call keeps: the health log and the execution clock; one that reports something does nothing else.
use Rattle.std.proofs.Common.{◌++◌, ◌≡◌, ◌⊎◌, inl, inr, ℕ, List, [], ◌∷◌, Option, None, Some, Result, Ok, Err, refl, arith}
use Rattle.health_monitor.specs.declared.entry.HealthEntry.{HealthEntry}
use Rattle.virt_clocks.specs.Clocks.{with_timer}
use Rattle.virt_clocks.specs.declared.timer.Clock.{Clock}
use Rattle.virt_clocks.specs.declared.timer.Clock.TheVariants.{Exec, Hw}
use Rattle.virt_clocks.specs.declared.timer.Timer.{Timer}
use Rattle.virt_traps.specs.Delivery.{Returned, returned}
use Rattle.virt_traps.specs.Moves.{move_made}
use Rattle.virt_traps.specs.declared.delivery.IretFault.{IretFault}
use Rattle.virt_traps.specs.declared.delivery.IretFault.TheVariants.{Stack, Unaligned}
use Rattle.virt_traps.specs.declared.windows.StackFault.{StackFault}
use Rattle.xm_conf.specs.declared.port.Kind.{Kind}
use Rattle.xm_conf.specs.declared.port.Kind.TheVariants as kind
use Rattle.xm_ports.specs.Channels.{HeldSample, first_message, sample_of}
use Rattle.xm_ports.specs.Ports.{created_over}
use Rattle.xm_ports.specs.declared.ports.CreateFault.{CreateFault}
use Rattle.xm_traces.specs.Ring.{Kept}
use Rattle.machine_model.specs.Caller.{Acts, Caller, Served, Test, answering, b_of, invalid_parameter, no_action, not_available, room, tested, text, unknown_call, with_answer, with_written}
use Rattle.machine_model.specs.lemmas.CallLemmas.{every_effect}
use Rattle.machine_model.specs.Effects.{ArmsTimer, CallEffect, ChangesOwn, CreatesPort, DoesToAll, EntersTrace, GivesAnswer, GivesOrder, GoesBack, MeetsEvent, OwnChange, PrintsBytes, PutsBytes, RequestsPlan, SendsSignal, SetsBase, SetsCodes, SetsMask, ShowsPort, ShowsSample, SpillsWindows, TakesMessage, UsesInput, Waits, Writing, comes_to, putting_bytes, queue_room, right_tests, with_change, with_writings}
use Rattle.machine_model.specs.Hypercalls.{served}
use Rattle.machine_model.specs.Partition.{PartitionState, areas_of}
use Rattle.machine_model.specs.PortEffects.{MadePort, by_created, creating, destination_only, first_read, held_read, made_port, message_read, on_port, sample_read, shape_at, size_fits, source_only}
use Rattle.machine_model.specs.OwnEffects.{by_flush, by_return, flushed, input_read}
use Rattle.machine_model.specs.Emission.{Nothing}

-- what a call keeps of its partition
pub record KeptParts : Type 0 where
  pub health : Kept HealthEntry
  pub execution : ℕ

abbrev pub kept_parts : PartitionState → KeptParts
kept_parts ps = record { health = ps.health; execution = ps.clocks.execution }

-- a call keeps it, and does nothing where it reports something
pub record Keeps (caller : Caller) (comes : Served) : Type 0 where
  pub same : kept_parts comes.after ≡ kept_parts caller.state
  pub acts : (comes.emitted ≡ []) ⊎ (comes.upshot ≡ Acts Nothing)

-- a call that reports nothing
emits_nothing : (caller : Caller) (comes : Served) → kept_parts comes.after ≡ kept_parts caller.state → comes.emitted ≡ [] → Keeps caller comes
emits_nothing caller comes same silent = record { same = same; acts = inl silent }

-- a call that answers
answers : (caller : Caller) (value : ℕ) (ps : PartitionState) → kept_parts ps ≡ kept_parts caller.state → Keeps caller (answering value ps)
unfolding with_answer
answers caller value ps same = record { same = same; acts = inl refl }

-- a call that may be refused
tested_keeps : (tests : List Test) (caller : Caller) (comes : Served) → Keeps caller comes → Keeps caller (tested tests caller comes)
tested_keeps [] caller comes keeps = keeps
tested_keeps (Some code ∷ tests) caller comes keeps = answers caller code caller.state refl
tested_keeps (None ∷ tests) caller comes keeps = tested_keeps tests caller comes keeps

-- a call on a port
on_port_keeps : (o : Option MadePort) (caller : Caller) (call : MadePort → Served) → ((port : MadePort) → Keeps caller (call port)) → Keeps caller (on_port o caller call)
on_port_keeps None caller call keeps = answers caller invalid_parameter caller.state refl
on_port_keeps (Some port) caller call keeps = keeps port

-- a sampling message that is read
held_keeps : (o : Option HeldSample) (caller : Caller) (port : MadePort) → Keeps caller (held_read o caller port)
unfolding with_answer with_written
held_keeps None caller port = answers caller no_action caller.state refl
held_keeps (Some sample) caller port = emits_nothing caller (sample_read caller port sample) (grind (arith)) (grind (arith))

-- a queued message that is taken
first_keeps : (o : Option (List ℕ)) (caller : Caller) (port : MadePort) → Keeps caller (first_read o caller port)
unfolding with_answer with_written
first_keeps None caller port = answers caller not_available caller.state refl
first_keeps (Some message) caller port = emits_nothing caller (message_read caller port message) (grind (arith)) (grind (arith))

-- a timer that is set leaves the execution clock
timer_keeps : (clock : Clock) (timer : Option Timer) (ps : PartitionState) → kept_parts (record ps { clocks = with_timer clock timer ps.clocks }) ≡ kept_parts ps
timer_keeps Hw timer ps = refl
timer_keeps Exec timer ps = refl

-- a port that is made
created_keeps : (answer : Result ℕ CreateFault) (caller : Caller) → Keeps caller (by_created answer caller)
unfolding with_answer
created_keeps (Ok r) caller = emits_nothing caller (by_created (Ok r) caller) refl refl
created_keeps (Err fault) caller = emits_nothing caller (by_created (Err fault) caller) refl refl

creating_keeps : (the_kind : Kind) (way size most : ℕ) (name : Option (List ℕ)) (caller : Caller) → Keeps caller (creating the_kind way size most name caller)
creating_keeps the_kind way size most None caller = answers caller invalid_parameter caller.state refl
creating_keeps the_kind way size most (Some name) caller = created_keeps (created_over caller.view.part.ports (shape_at caller.view) name the_kind way size most caller.state.made) caller

-- an input word that is read
input_keeps : (inputs : List ℕ) (caller : Caller) → Keeps caller (input_read inputs caller)
unfolding with_answer with_written
input_keeps [] caller = answers caller not_available caller.state refl
input_keeps (next ∷ rest) caller = emits_nothing caller (input_read (next ∷ rest) caller) (grind (arith)) (grind (arith))

-- a return from a trap
return_keeps : (answer : Result (Unit {0}) IretFault) (r : Returned) (caller : Caller) → Keeps caller (by_return answer r caller)
unfolding with_answer
return_keeps (Ok left) r caller = emits_nothing caller (by_return (Ok left) r caller) refl refl
return_keeps (Err Unaligned) r caller = emits_nothing caller (by_return (Err Unaligned) r caller) refl refl
return_keeps (Err Stack) r caller = emits_nothing caller (by_return (Err Stack) r caller) refl refl

-- windows that are spilled
flush_keeps : (answer : Result (Unit {0}) StackFault) (ps : PartitionState) (caller : Caller) → kept_parts ps ≡ kept_parts caller.state → Keeps caller (by_flush answer ps caller)
unfolding with_answer
flush_keeps (Ok all) ps caller same = emits_nothing caller (by_flush (Ok all) ps caller) same refl
flush_keeps (Err fault) ps caller same = emits_nothing caller (by_flush (Err fault) ps caller) same refl

-- what is changed of the partition's own keeps it
change_keeps : (change : OwnChange) (ps : PartitionState) → kept_parts (with_change change ps) ≡ kept_parts ps
change_keeps Waits ps = refl
change_keeps (ArmsTimer clock timer) ps = timer_keeps clock timer ps
change_keeps (SetsMask mask) ps = refl
change_keeps (SetsCodes icc enabled) ps = refl
change_keeps (SetsBase base) ps = refl

-- and so do bytes that are written
writings_keep : (writings : List Writing) (ps : PartitionState) → kept_parts (with_writings writings ps) ≡ kept_parts ps
unfolding with_written
writings_keep [] ps = refl
writings_keep (writing ∷ writings) ps = writings_keep writings (with_written writing.address writing.bytes ps)

-- what each effect keeps
effect_keeps : (effect : CallEffect) (caller : Caller) → Keeps caller (comes_to effect caller)
unfolding with_answer with_written
effect_keeps (GivesAnswer value writings) caller = answers caller value (with_writings writings caller.state) (writings_keep writings caller.state)
effect_keeps (PrintsBytes bytes value) caller = record { same = refl; acts = inr refl }
effect_keeps (GivesOrder id order) caller = emits_nothing caller _ refl refl
effect_keeps (DoesToAll event) caller = emits_nothing caller _ refl refl
effect_keeps (RequestsPlan plan writings) caller = emits_nothing caller (comes_to (RequestsPlan plan writings) caller) (writings_keep writings caller.state) refl
effect_keeps (PutsBytes the_kind address size) caller = on_port_keeps (made_port the_kind caller) caller _ (λ port.
    tested_keeps (source_only port ∷ size_fits port size ∷ text caller address size ∷ queue_room the_kind port) caller (putting_bytes address size caller port)
    (emits_nothing caller (putting_bytes address size caller port) refl refl))
effect_keeps TakesMessage caller = on_port_keeps (made_port kind.Queuing caller) caller _ (λ port. tested_keeps (destination_only port ∷ []) caller _ (first_keeps (first_message port.content) caller port))
effect_keeps (SendsSignal number) caller = emits_nothing caller _ refl refl
effect_keeps ShowsSample caller = on_port_keeps (made_port kind.Sampling caller) caller _ (λ port. tested_keeps (destination_only port ∷ []) caller _ (held_keeps (sample_of port.content) caller port))
effect_keeps (ShowsPort the_kind size status) caller = on_port_keeps (made_port the_kind caller) caller _ (λ port.
    let comes = answering 0 (with_written (b_of caller) (status port) caller.state) in
    tested_keeps (room caller (b_of caller) size ∷ []) caller comes (emits_nothing caller comes refl refl))
effect_keeps (CreatesPort the_kind way size most name) caller = creating_keeps the_kind way size most name caller
effect_keeps (ChangesOwn change) caller = answers caller 0 (with_change change caller.state) (change_keeps change caller.state)
effect_keeps EntersTrace caller = record { same = refl; acts = inr refl }
effect_keeps UsesInput caller = input_keeps caller.state.inputs caller
effect_keeps (MeetsEvent event word) caller = emits_nothing caller (comes_to (MeetsEvent event word) caller) refl refl
effect_keeps GoesBack caller =
    let r = returned (areas_of caller.view) caller.state.traps caller.state.core caller.state.memory in
    return_keeps r.answer r caller
effect_keeps SpillsWindows caller =
    let moved = flushed 8 (areas_of caller.view) (move_made caller.state.core caller.state.memory) in
    flush_keeps moved.answer (record caller.state { core = moved.core; memory = moved.memory }) caller refl

-- the call that a partition makes
pub served_keeps : (caller : Caller) → Keeps caller (served caller)
served_keeps caller =
    every_effect caller (Keeps caller) (λ asked. tested_keeps (right_tests asked.effect caller ++ asked.tests) caller (comes_to asked.effect caller) (effect_keeps asked.effect caller))
    (answers caller unknown_call caller.state refl)
