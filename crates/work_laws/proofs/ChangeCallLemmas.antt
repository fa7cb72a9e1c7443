-- The bytes of memory that a call changes.
use Rattle.std.proofs.Common.{◌≡◌, ℕ, zero, suc, ◌+◌, ◌*◌, ◌≤◌, Bool, true, false, List, [], ◌∷◌, ◌++◌, length, Option, None, Some, Result, Ok, Err, refl, ◌∙◌, arith, subst}
use Rattle.std.specs.Prelude.{◌==◌, ◌%◌, if◌then◌else◌, slice_get, slice_index_or, nat_lt, IfSome}
use Rattle.std.proofs.lemmas.List.Elements.{All-head}
use Rattle.std.proofs.lemmas.Option.{same_Some}
use Rattle.guest_bus.specs.Memory.{Area}
use Rattle.virt_traps.specs.Delivery.{Returned, returned}
use Rattle.virt_traps.specs.Moves.{Moved, move_made, spilled}
use Rattle.virt_traps.specs.declared.delivery.IretFault.{IretFault}
use Rattle.virt_traps.specs.declared.delivery.IretFault.TheVariants.{Stack, Unaligned}
use Rattle.virt_traps.specs.declared.windows.StackFault.{StackFault}
use Rattle.xm_conf.specs.declared.channel.ChanKind.{ChanKind}
use Rattle.xm_conf.specs.declared.port.Kind.{Kind}
use Rattle.xm_conf.specs.declared.port.Kind.TheVariants as kind
use Rattle.xm_conf.specs.declared.port.Port.{Port}
use Rattle.xm_ports.specs.Channels.{Content, HeldSample, Queuing, Sampling, first_message, sample_of}
use Rattle.xm_ports.specs.Ports.{are_same_kind, created_over, is_made}
use Rattle.xm_ports.specs.declared.ports.CreateFault.{CreateFault}
use Rattle.xm_traces.specs.Ring.{Kept, entry_at}
use Rattle.xm_traces.specs.declared.entry.TraceEntry.{TraceEntry}
use Rattle.health_monitor.specs.declared.entry.HealthEntry.{HealthEntry}
use Rattle.machine_model.specs.Caller.{Caller, Served, Test, a_of, answering, b_of, c_of, d_of, invalid_parameter, refused_if, room, shown, tested, text, with_answer, with_written}
use Rattle.machine_model.specs.Calls.{effect_of_call, written_at}
use Rattle.machine_model.specs.declared.numbers.Call.{Call}
use Rattle.machine_model.specs.declared.numbers.Call.TheVariants.{ClearIrqmask, CreateQueuingPort, CreateSamplingPort, FlushRegwin, GetPartitionStatus, GetPlanStatus, GetQueuingPortStatus, GetSamplingPortStatus, GetSelf, GetSystemStatus, GetTime, HaltPartition, HaltSystem, HmRead, HmStatus, IdleSelf, Iret, RaiseEvent, RaiseIpvi, ReadInput, ReadSamplingMessage, ReceiveQueuingMessage, ResetPartition, ResetSystem, ResumePartition, SendQueuingMessage, SetIrqmask, SetPsr, SetTbr, SetTimer, ShutdownPartition, SuspendPartition, SwitchSchedPlan, TraceEvent, TraceRead, TraceStatus, WriteConsole, WriteSamplingMessage}
use Rattle.machine_model.specs.Effects.{ArmsTimer, CallEffect, ChangesOwn, CreatesPort, DoesToAll, EntersTrace, GivesAnswer, GivesOrder, GoesBack, MeetsEvent, OwnChange, PrintsBytes, PutsBytes, RequestsPlan, SendsSignal, SetsBase, SetsCodes, SetsMask, ShowsPort, ShowsSample, SpillsWindows, TakesMessage, UsesInput, Waits, Writing, comes_to, putting_bytes, queue_room, right_tests, with_writings}
use Rattle.machine_model.specs.Emission.{NotKept, Sight, Unseen, Words}
use Rattle.machine_model.specs.Hypercalls.{served}
use Rattle.machine_model.specs.Laws.{HasLoads}
use Rattle.machine_model.specs.Lengths.{ShowsAtMost}
use Rattle.machine_model.specs.Lists.{and_then}
use Rattle.machine_model.specs.OwnEffects.{by_flush, by_return, flushed, flushed_after, input_read}
use Rattle.machine_model.specs.Partition.{PartitionState, areas_of}
use Rattle.machine_model.specs.PortEffects.{MadePort, by_created, creating, destination_only, first_read, held_read, made_port, on_port, port_with_content, shape_at, size_fits, source_only, with_channel}
use Rattle.machine_model.specs.Readings.{bytes_of_entry, entry_seen, log_counts, status_seen}
use Rattle.machine_model.specs.Structures.{counts_bytes, health_bytes, partition_status, queuing_status, sample_status, sampling_status, trace_bytes, validity, word}
use Rattle.machine_model.specs.View.{PortChannel}
use Rattle.machine_model.specs.lemmas.CallLemmas.{every_call}
use Rattle.work_laws.specs.Changes.{ChangesFew, HoldsShort}
use Rattle.work_laws.proofs.ChangeLemmas.{both, bytes_within, more, spilled_few, stays, stays_as}

-- what a call may read is short
pub record IsShortCall (caller : Caller) : Type 0 where
  pub messages : (q : ℕ) (content : Content) → slice_index_or caller.contents q None ≡ Some content → HoldsShort 4096 content
  pub shown : ShowsAtMost 24 caller.sight
  pub loads : HasLoads caller.state

-- what a call leaves of its partition's memory
record Leaves (caller : Caller) (comes : Served) : Type 0 where
  few : ChangesFew 4100 caller.state.memory comes.after.memory

same : (caller : Caller) (comes : Served) → comes.after.memory ≡ caller.state.memory → Leaves caller comes
same caller comes is = record { few = stays_as 4100 caller.state.memory comes.after.memory is }

tested_leaves : (tests : List Test) (caller : Caller) (comes : Served) → Leaves caller comes → Leaves caller (tested tests caller comes)
unfolding with_answer
tested_leaves [] caller comes leaves = leaves
tested_leaves (Some code ∷ tests) caller comes leaves = same caller (answering code caller.state) refl
tested_leaves (None ∷ tests) caller comes leaves = tested_leaves tests caller comes leaves

-- bytes that are written
length_writings : List Writing → ℕ
length_writings [] = 0
length_writings (writing ∷ writings) = length writing.bytes + length_writings writings

writings_few : (writings : List Writing) (ps : PartitionState) → ChangesFew (length_writings writings) ps.memory (with_writings writings ps).memory
unfolding with_written length_writings
writings_few [] ps = stays 0 ps.memory
writings_few (writing ∷ writings) ps =
    both (length writing.bytes) (length_writings writings) ps.memory (with_written writing.address writing.bytes ps).memory _
    (bytes_within (length writing.bytes) ps.memory writing.address writing.bytes (omega arith)) (writings_few writings (with_written writing.address writing.bytes ps))

-- ports
content_found : (caller : Caller) (the_kind : Kind) (port : Port) (o : Option PortChannel) (found : MadePort) → with_channel caller the_kind port o ≡ Some found
    → slice_index_or caller.contents found.name None ≡ Some found.content
content_found caller the_kind port None found is = absurd cc
content_found caller the_kind port (Some channel) found is = by (are_same_kind port.kind the_kind) (slice_index_or caller.contents channel.name None) refl is
  where
    by : (b : Bool) (o : Option Content) → slice_index_or caller.contents channel.name None ≡ o → (if b then port_with_content port channel o else None) ≡ Some found
        → slice_index_or caller.contents found.name None ≡ Some found.content
    by true None at said = absurd cc
    by true (Some content) at said =
        let made : record { way = port.way; shape = channel.shape; name = channel.name; content = content } ≡ found = same_Some _ found said in
        subst (λ (m : MadePort). slice_index_or caller.contents m.name None ≡ Some m.content) made at
    by false o at said = absurd cc

port_found : (caller : Caller) (the_kind : Kind) (found : MadePort) → made_port the_kind caller ≡ Some found → slice_index_or caller.contents found.name None ≡ Some found.content
unfolding made_port
port_found caller the_kind found is = by (is_made (a_of caller) caller.state.made) (slice_get caller.view.part.ports (a_of caller)) is
  where
    by : (b : Bool) (o : Option Port) → (if b then and_then o (λ port. with_channel caller the_kind port (slice_index_or caller.view.channels (a_of caller) None)) else None) ≡ Some found
        → slice_index_or caller.contents found.name None ≡ Some found.content
    by true None said = absurd cc
    by true (Some port) said = content_found caller the_kind port (slice_index_or caller.view.channels (a_of caller) None) found said
    by false o said = absurd cc

on_leaves : (the_kind : Kind) (caller : Caller) (call : MadePort → Served)
    → ((port : MadePort) → slice_index_or caller.contents port.name None ≡ Some port.content → Leaves caller (call port)) → Leaves caller (on_port (made_port the_kind caller) caller call)
unfolding with_answer
on_leaves the_kind caller call leaves = by (made_port the_kind caller) refl
  where
    by : (o : Option MadePort) → made_port the_kind caller ≡ o → Leaves caller (on_port o caller call)
    by None is = same caller _ refl
    by (Some port) is = leaves port (port_found caller the_kind port is)

sample_short : (content : Content) (sample : HeldSample) → HoldsShort 4096 content → sample_of content ≡ Some sample → length sample.bytes ≤ 4096
sample_short (Sampling None) sample short is = absurd cc
sample_short (Sampling (Some held)) sample short is = subst (λ (s : HeldSample). length s.bytes ≤ 4096) (same_Some held sample is) short
sample_short (Queuing messages) sample short is = absurd cc

message_short : (content : Content) (message : List ℕ) → HoldsShort 4096 content → first_message content ≡ Some message → length message ≤ 4096
message_short (Sampling None) message short is = absurd cc
message_short (Sampling (Some held)) message short is = absurd cc
message_short (Queuing []) message short is = absurd cc
message_short (Queuing (first ∷ rest)) message short is = subst (λ (m : List ℕ). length m ≤ 4096) (same_Some first message is) (All-head (λ (m : List ℕ). length m ≤ 4096) first rest short)

word_four : (n : ℕ) → length (word n) ≤ 4
word_four n = omega arith

sample_written : (caller : Caller) (n : ℕ) (bytes : List ℕ) → length bytes ≤ 4096
    → ChangesFew 4100 caller.state.memory (with_written (d_of caller) (word n) (with_written (b_of caller) bytes caller.state)).memory
unfolding with_written
sample_written caller n bytes short =
    both 4096 4 caller.state.memory _ _ (bytes_within 4096 caller.state.memory (b_of caller) bytes short) (bytes_within 4 _ (d_of caller) (word n) (word_four n))

message_written : (caller : Caller) (message : List ℕ) → length message ≤ 4096 → ChangesFew 4100 caller.state.memory (with_written (b_of caller) message caller.state).memory
unfolding with_written
message_written caller message few = bytes_within 4100 caller.state.memory (b_of caller) message (omega (arith, few))

held_by : (o : Option HeldSample) (caller : Caller) (port : MadePort) → ((sample : HeldSample) → o ≡ Some sample → length sample.bytes ≤ 4096) → Leaves caller (held_read o caller port)
unfolding with_answer
held_by None caller port short = same caller _ refl
held_by (Some sample) caller port short =
    tested_leaves (refused_if (nat_lt (c_of caller) (length sample.bytes)) invalid_parameter ∷ room caller (b_of caller) (length sample.bytes) ∷ room caller (d_of caller) 4 ∷ []) caller _
    (record { few = sample_written caller (validity port.shape.kind caller.time sample) sample.bytes (short sample refl) })

held_leaves : (caller : Caller) (port : MadePort) → HoldsShort 4096 port.content → Leaves caller (held_read (sample_of port.content) caller port)
held_leaves caller port short = held_by (sample_of port.content) caller port (λ sample is. sample_short port.content sample short is)

first_by : (o : Option (List ℕ)) (caller : Caller) (port : MadePort) → ((message : List ℕ) → o ≡ Some message → length message ≤ 4096) → Leaves caller (first_read o caller port)
unfolding with_answer
first_by None caller port short = same caller _ refl
first_by (Some message) caller port short =
    tested_leaves (refused_if (nat_lt (c_of caller) (length message)) invalid_parameter ∷ room caller (b_of caller) (length message) ∷ []) caller _
    (record { few = message_written caller message (short message refl) })

first_leaves : (caller : Caller) (port : MadePort) → HoldsShort 4096 port.content → Leaves caller (first_read (first_message port.content) caller port)
first_leaves caller port short = first_by (first_message port.content) caller port (λ message is. message_short port.content message short is)

-- windows, and the way back from a trap
flush_few : (count : ℕ) (areas : List Area) (moved : Moved) → ChangesFew (64 * count) moved.memory (flushed count areas moved).memory
flush_few zero areas moved = stays 0 moved.memory
flush_few (suc count) areas moved = by ((moved.core.cwp + 1) % 8 == moved.core.inv) (flush_few count areas (spilled areas moved.core moved.memory))
  where
    further : (answer : Result (Unit {0}) StackFault) → ChangesFew (64 * count) (spilled areas moved.core moved.memory).memory (flushed count areas (spilled areas moved.core moved.memory)).memory
        → ChangesFew (64 * count) (spilled areas moved.core moved.memory).memory (flushed_after (flushed count areas) (spilled areas moved.core moved.memory) answer).memory
    further (Ok one) fewer = fewer
    further (Err fault) fewer = stays (64 * count) (spilled areas moved.core moved.memory).memory

    by : (b : Bool) → ChangesFew (64 * count) (spilled areas moved.core moved.memory).memory (flushed count areas (spilled areas moved.core moved.memory)).memory
        → ChangesFew (64 * suc count) moved.memory
        (if b then moved else flushed_after (flushed count areas) (spilled areas moved.core moved.memory) (spilled areas moved.core moved.memory).answer).memory
    by true fewer = stays (64 * suc count) moved.memory
    by false fewer =
        more (64 + 64 * count) (64 * suc count) moved.memory _ (omega arith)
        (both 64 (64 * count) moved.memory (spilled areas moved.core moved.memory).memory _ (spilled_few areas moved.core moved.memory) (further (spilled areas moved.core moved.memory).answer fewer))

flush_leaves : (answer : Result (Unit {0}) StackFault) (ps : PartitionState) (caller : Caller) → ChangesFew 4100 caller.state.memory ps.memory → Leaves caller (by_flush answer ps caller)
unfolding with_answer
flush_leaves (Ok all) ps caller few = record { few = few }
flush_leaves (Err fault) ps caller few = record { few = few }

return_leaves : (answer : Result (Unit {0}) IretFault) (r : Returned) (caller : Caller) → Leaves caller (by_return answer r caller)
unfolding with_answer
return_leaves (Ok left) r caller = same caller _ refl
return_leaves (Err Unaligned) r caller = same caller _ refl
return_leaves (Err Stack) r caller = same caller _ refl

word_written : (caller : Caller) (n : ℕ) → ChangesFew 4100 caller.state.memory (with_written (a_of caller) (word n) caller.state).memory
unfolding with_written
word_written caller n = bytes_within 4100 caller.state.memory (a_of caller) (word n) (omega (arith, word_four n))

input_leaves : (inputs : List ℕ) (caller : Caller) → Leaves caller (input_read inputs caller)
unfolding with_answer
input_leaves [] caller = same caller _ refl
input_leaves (next ∷ rest) caller = tested_leaves (room caller (a_of caller) 4 ∷ []) caller _ (record { few = word_written caller next })

created_leaves : (answer : Result ℕ CreateFault) (caller : Caller) → Leaves caller (by_created answer caller)
unfolding with_answer
created_leaves (Ok r) caller = same caller _ refl
created_leaves (Err fault) caller = same caller _ refl

creating_leaves : (the_kind : Kind) (way size most : ℕ) (name : Option (List ℕ)) (caller : Caller) → Leaves caller (creating the_kind way size most name caller)
unfolding with_answer
creating_leaves the_kind way size most None caller = same caller _ refl
creating_leaves the_kind way size most (Some name) caller =
    created_leaves (created_over caller.view.part.ports (shape_at caller.view) name the_kind way size most caller.state.made) caller

change_leaves : (change : OwnChange) (caller : Caller) → Leaves caller (comes_to (ChangesOwn change) caller)
unfolding with_answer
change_leaves Waits caller = same caller _ refl
change_leaves (ArmsTimer clock timer) caller = same caller _ refl
change_leaves (SetsMask mask) caller = same caller _ refl
change_leaves (SetsCodes icc enabled) caller = same caller _ refl
change_leaves (SetsBase base) caller = same caller _ refl

-- an effect that writes few bytes, as each one does that writes none
abbrev WritesFew : CallEffect → Type 0
WritesFew (GivesAnswer value writings) = length_writings writings ≤ 4100
WritesFew (PrintsBytes bytes value) = Unit {0}
WritesFew (GivesOrder id order) = Unit {0}
WritesFew (DoesToAll event) = Unit {0}
WritesFew (RequestsPlan plan writings) = length_writings writings ≤ 4100
WritesFew (PutsBytes the_kind address size) = Unit {0}
WritesFew TakesMessage = Unit {0}
WritesFew (SendsSignal number) = Unit {0}
WritesFew ShowsSample = Unit {0}
WritesFew (ShowsPort the_kind size status) = (port : MadePort) → length (status port) ≤ 4100
WritesFew (CreatesPort the_kind way size most name) = Unit {0}
WritesFew (ChangesOwn change) = Unit {0}
WritesFew EntersTrace = Unit {0}
WritesFew UsesInput = Unit {0}
WritesFew (MeetsEvent event said) = Unit {0}
WritesFew GoesBack = Unit {0}
WritesFew SpillsWindows = Unit {0}

status_written : (caller : Caller) (bytes : List ℕ) → length bytes ≤ 4100 → ChangesFew 4100 caller.state.memory (with_written (b_of caller) bytes caller.state).memory
unfolding with_written
status_written caller bytes few = bytes_within 4100 caller.state.memory (b_of caller) bytes few

effect_leaves : (effect : CallEffect) (caller : Caller) → IsShortCall caller → WritesFew effect → Leaves caller (comes_to effect caller)
unfolding with_answer
effect_leaves (GivesAnswer value writings) caller short few = record { few = more (length_writings writings) 4100 caller.state.memory _ few (writings_few writings caller.state) }
effect_leaves (PrintsBytes bytes value) caller short few = same caller _ refl
effect_leaves (GivesOrder id order) caller short few = same caller _ refl
effect_leaves (DoesToAll event) caller short few = same caller _ refl
effect_leaves (RequestsPlan plan writings) caller short few = record { few = more (length_writings writings) 4100 caller.state.memory _ few (writings_few writings caller.state) }
effect_leaves (PutsBytes the_kind address size) caller short few = on_leaves the_kind caller _ (λ port at.
    tested_leaves (source_only port ∷ size_fits port size ∷ text caller address size ∷ queue_room the_kind port) caller (putting_bytes address size caller port) (same caller _ refl))
effect_leaves TakesMessage caller short few = on_leaves kind.Queuing caller _ (λ port at.
    tested_leaves (destination_only port ∷ []) caller _ (first_leaves caller port (short.messages port.name port.content at)))
effect_leaves (SendsSignal number) caller short few = same caller _ refl
effect_leaves ShowsSample caller short few = on_leaves kind.Sampling caller _ (λ port at.
    tested_leaves (destination_only port ∷ []) caller _ (held_leaves caller port (short.messages port.name port.content at)))
effect_leaves (ShowsPort the_kind size status) caller short few = on_leaves the_kind caller _ (λ port at.
    tested_leaves (room caller (b_of caller) size ∷ []) caller _ (record { few = status_written caller (status port) (few port) }))
effect_leaves (CreatesPort the_kind way size most name) caller short few = creating_leaves the_kind way size most name caller
effect_leaves (ChangesOwn change) caller short few = change_leaves change caller
effect_leaves EntersTrace caller short few = same caller _ refl
effect_leaves UsesInput caller short few = input_leaves caller.state.inputs caller
effect_leaves (MeetsEvent event said) caller short few = same caller _ refl
effect_leaves GoesBack caller short few =
    let r = returned (areas_of caller.view) caller.state.traps caller.state.core caller.state.memory in return_leaves r.answer r caller
effect_leaves SpillsWindows caller short few =
    let moved = flushed 8 (areas_of caller.view) (move_made caller.state.core caller.state.memory) in
    flush_leaves moved.answer (record caller.state { core = moved.core; memory = moved.memory }) caller
    (more (64 * 8) 4100 caller.state.memory moved.memory (omega arith) (flush_few 8 (areas_of caller.view) (move_made caller.state.core caller.state.memory)))

-- the bytes that calls write
shown_few : (seen : Sight) → ShowsAtMost 24 seen → length (shown seen) ≤ 24
shown_few Unseen few = omega arith
shown_few NotKept few = omega arith
shown_few (Words bytes) few = few

either_few : (b : Bool) (one other : List ℕ) → length one ≤ 24 → length other ≤ 24 → length (if b then one else other) ≤ 24
either_few true one other first second = first
either_few false one other first second = second

own_status : (ps : PartitionState) → length (partition_status ps) ≤ 24
unfolding partition_status
own_status ps = omega arith

own_counts : {T : Type 0} (kept : Kept T) → length (counts_bytes kept) ≤ 24
unfolding counts_bytes
own_counts kept = omega arith

health_few : (entry : HealthEntry) → length (health_bytes entry) ≤ 24
unfolding health_bytes
health_few entry = omega arith

trace_few : (entry : TraceEntry) → length entry.load ≡ 8 → length (trace_bytes entry) ≤ 24
unfolding trace_bytes
trace_few entry eight = omega (arith, eight)

entry_few : {T : Type 0} (bytes : T → List ℕ) (o : Option T) → ((entry : T) → o ≡ Some entry → length (bytes entry) ≤ 24) → length (bytes_of_entry bytes o) ≤ 24
entry_few bytes None few = omega arith
entry_few bytes (Some entry) few = few entry refl

loads_few : (kept : Kept TraceEntry) (n : ℕ) (o : Option TraceEntry) → entry_at n kept ≡ o → IfSome (entry_at n kept) (λ entry. length entry.load ≡ 8) → (entry : TraceEntry) → o ≡ Some entry → length (trace_bytes entry) ≤ 24
loads_few kept n o is eight entry there =
    trace_few entry (subst (λ (found : Option TraceEntry). IfSome found (λ one. length one.load ≡ 8)) (is ∙ there) eight)

sampling_few : (the_kind : ChanKind) (time : ℕ) (content : Content) → length (sampling_status the_kind time content) ≤ 4100
unfolding sampling_status
sampling_few the_kind time content = by (sample_of content)
  where
    by : (o : Option HeldSample) → length (sample_status the_kind time o) ≤ 4100
    by None = omega arith
    by (Some sample) = omega arith

queuing_few : (the_kind : ChanKind) (content : Content) → length (queuing_status the_kind content) ≤ 4100
unfolding queuing_status
queuing_few the_kind content = omega arith

-- a call that writes bytes at one address
at_few : (address : ℕ) (bytes : List ℕ) → length bytes ≤ 24 → length_writings (written_at address bytes) ≤ 4100
unfolding length_writings
at_few address bytes few = omega (arith, few)

zero_few : length_writings [] ≤ 4100
unfolding length_writings
zero_few = omega arith

asked_few : (call : Call) (caller : Caller) → IsShortCall caller → WritesFew (effect_of_call call caller).effect
asked_few GetSelf caller short = zero_few
asked_few HaltPartition caller short = tt
asked_few ResetPartition caller short = tt
asked_few SuspendPartition caller short = tt
asked_few ResumePartition caller short = tt
asked_few ShutdownPartition caller short = tt
asked_few IdleSelf caller short = tt
asked_few GetPartitionStatus caller short = at_few (b_of caller) (status_seen caller) (either_few (a_of caller == caller.view.id) (partition_status caller.state) (shown caller.sight) (own_status caller.state) (shown_few caller.sight short.shown))
asked_few HaltSystem caller short = tt
asked_few ResetSystem caller short = tt
asked_few GetSystemStatus caller short = at_few (a_of caller) (shown caller.sight) (shown_few caller.sight short.shown)
asked_few GetTime caller short = at_few (b_of caller) _ (omega arith)
asked_few SetTimer caller short = tt
asked_few SwitchSchedPlan caller short = at_few (b_of caller) (shown caller.sight) (shown_few caller.sight short.shown)
asked_few GetPlanStatus caller short = at_few (a_of caller) (shown caller.sight) (shown_few caller.sight short.shown)
asked_few CreateSamplingPort caller short = tt
asked_few WriteSamplingMessage caller short = tt
asked_few ReadSamplingMessage caller short = tt
asked_few GetSamplingPortStatus caller short = λ port. sampling_few port.shape.kind caller.time port.content
asked_few CreateQueuingPort caller short = tt
asked_few SendQueuingMessage caller short = tt
asked_few ReceiveQueuingMessage caller short = tt
asked_few GetQueuingPortStatus caller short = λ port. queuing_few port.shape.kind port.content
asked_few TraceEvent caller short = tt
asked_few TraceRead caller short = at_few (c_of caller) (entry_seen trace_bytes caller caller.state.traces) (either_few (a_of caller == caller.view.id) _ (shown caller.sight) (entry_few trace_bytes (entry_at (b_of caller) caller.state.traces) (loads_few caller.state.traces (b_of caller) _ refl (short.loads (b_of caller)))) (shown_few caller.sight short.shown))
asked_few TraceStatus caller short = at_few (b_of caller) (log_counts caller caller.state.traces) (either_few (a_of caller == caller.view.id) _ (shown caller.sight) (own_counts caller.state.traces) (shown_few caller.sight short.shown))
asked_few RaiseEvent caller short = tt
asked_few HmRead caller short = at_few (c_of caller) (entry_seen health_bytes caller caller.state.health) (either_few (a_of caller == caller.view.id) _ (shown caller.sight) (entry_few health_bytes (entry_at (b_of caller) caller.state.health) (λ entry there. health_few entry)) (shown_few caller.sight short.shown))
asked_few HmStatus caller short = at_few (b_of caller) (log_counts caller caller.state.health) (either_few (a_of caller == caller.view.id) _ (shown caller.sight) (own_counts caller.state.health) (shown_few caller.sight short.shown))
asked_few SetIrqmask caller short = tt
asked_few ClearIrqmask caller short = tt
asked_few WriteConsole caller short = tt
asked_few ReadInput caller short = tt
asked_few Iret caller short = tt
asked_few SetPsr caller short = tt
asked_few SetTbr caller short = tt
asked_few FlushRegwin caller short = tt
asked_few RaiseIpvi caller short = tt

pub served_few : (caller : Caller) → IsShortCall caller → ChangesFew 4100 caller.state.memory (served caller).after.memory
unfolding with_answer
served_few caller short =
    (every_call caller (Leaves caller)
    (λ call. tested_leaves (right_tests (effect_of_call call caller).effect caller ++ (effect_of_call call caller).tests) caller (comes_to (effect_of_call call caller).effect caller)
    (effect_leaves (effect_of_call call caller).effect caller short (asked_few call caller short)))
    (same caller _ refl)).few
