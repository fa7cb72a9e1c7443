-- A call does the same whatever input words its partition was given.
use Rattle.std.proofs.Common.{◌≡◌, ℕ, ◌++◌, List, [], ◌∷◌, length, Option, None, Some, Result, Ok, Err, refl, ap, ◌∙◌}
use Rattle.std.specs.Prelude.{if◌then◌else◌, nat_lt, slice_get, slice_index_or}
use Rattle.virt_clocks.specs.declared.timer.Clock.{Clock}
use Rattle.virt_clocks.specs.declared.timer.Clock.TheVariants.{Exec, Hw}
use Rattle.virt_traps.specs.Delivery.{Returned, returned}
use Rattle.virt_traps.specs.Moves.{move_made}
use Rattle.virt_traps.specs.declared.delivery.IretFault.{IretFault}
use Rattle.virt_traps.specs.declared.delivery.IretFault.TheVariants.{Stack, Unaligned}
use Rattle.virt_traps.specs.declared.windows.StackFault.{StackFault}
use Rattle.xm_conf.specs.declared.port.Kind.{Kind}
use Rattle.xm_conf.specs.declared.port.Kind.TheVariants as kind
use Rattle.xm_conf.specs.declared.port.Port.{Port}
use Rattle.xm_ports.specs.Channels.{HeldSample, first_message, sample_of}
use Rattle.xm_ports.specs.Ports.{created_over, is_made}
use Rattle.xm_ports.specs.declared.ports.CreateFault.{CreateFault}
use Rattle.machine_model.specs.Caller.{Caller, Served, Test, a_of, b_of, c_of, d_of, invalid_parameter, is_neither, number_of, refused_if, room, tested, text}
use Rattle.machine_model.specs.Calls.{by_call, call_of, effect_of_call, where_passed, written_at}
use Rattle.machine_model.specs.declared.numbers.Call.{Call}
use Rattle.machine_model.specs.declared.numbers.Call.TheVariants.{ClearIrqmask, CreateQueuingPort, CreateSamplingPort, FlushRegwin, GetPartitionStatus, GetPlanStatus, GetQueuingPortStatus, GetSamplingPortStatus, GetSelf, GetSystemStatus, GetTime, HaltPartition, HaltSystem, HmRead, HmStatus, IdleSelf, Iret, RaiseEvent, RaiseIpvi, ReadInput, ReadSamplingMessage, ReceiveQueuingMessage, ResetPartition, ResetSystem, ResumePartition, SendQueuingMessage, SetIrqmask, SetPsr, SetTbr, SetTimer, ShutdownPartition, SuspendPartition, SwitchSchedPlan, TraceEvent, TraceRead, TraceStatus, WriteConsole, WriteSamplingMessage}
use Rattle.machine_model.specs.Effects.{CallEffect, ChangesOwn, CreatesPort, DoesToAll, EntersTrace, GivesAnswer, GivesOrder, GoesBack, MeetsEvent, PrintsBytes, PutsBytes, RequestsPlan, SendsSignal, ShowsPort, ShowsSample, SpillsWindows, TakesMessage, TestedEffect, UsesInput, comes_to, performed, putting_bytes, queue_room, right_tests}
use Rattle.machine_model.specs.Hypercalls.{served}
use Rattle.machine_model.specs.Lists.{and_then}
use Rattle.machine_model.specs.OwnEffects.{by_flush, by_return, flushed, input_read}
use Rattle.machine_model.specs.Partition.{PartitionState, areas_of}
use Rattle.machine_model.specs.PortEffects.{MadePort, by_created, creating, destination_only, first_read, held_read, made_port, on_port, shape_at, size_fits, source_only, with_channel}
use Rattle.machine_model.specs.Readings.{clock_numbered, clock_of}
use Rattle.machine_model.specs.Structures.{double}
use Rattle.machine_model.specs.View.{PartitionView, PortChannel}

-- what a partition has of its own, with these input words as those that it was given
abbrev pub given_view : List ℕ → PartitionView → PartitionView
given_view words view = record view { inputs = words }

-- a call of a partition that was given these words
abbrev pub given_caller : List ℕ → Caller → Caller
given_caller words caller = record caller { view = given_view words caller.view }

tested_same : (tests : List Test) (words : List ℕ) (caller : Caller) (one other : Served) → one ≡ other → tested tests (given_caller words caller) one ≡ tested tests caller other
tested_same [] words caller one other same = same
tested_same (Some code ∷ tests) words caller one other same = refl
tested_same (None ∷ tests) words caller one other same = tested_same tests words caller one other same

then_same : {X Y : Type 0} (o : Option X) (f g : X → Option Y) → ((x : X) → f x ≡ g x) → and_then o f ≡ and_then o g
then_same None f g same = refl
then_same (Some x) f g same = same x

channel_same : (words : List ℕ) (caller : Caller) (the_kind : Kind) (port : Port) (o : Option PortChannel) → with_channel (given_caller words caller) the_kind port o ≡ with_channel caller the_kind port o
channel_same words caller the_kind port None = refl
channel_same words caller the_kind port (Some channel) = refl

made_same : (the_kind : Kind) (words : List ℕ) (caller : Caller) → made_port the_kind (given_caller words caller) ≡ made_port the_kind caller
unfolding made_port
made_same the_kind words caller =
    ap (λ (found : Option MadePort). if is_made (a_of caller) caller.state.made then found else None)
    (then_same (slice_get caller.view.part.ports (a_of caller)) _ _ (λ port. channel_same words caller the_kind port (slice_index_or caller.view.channels (a_of caller) None)))

on_same : (o : Option MadePort) (words : List ℕ) (caller : Caller) (f g : MadePort → Served) → ((port : MadePort) → f port ≡ g port) → on_port o (given_caller words caller) f ≡ on_port o caller g
on_same None words caller f g same = refl
on_same (Some port) words caller f g same = same port

port_same : (the_kind : Kind) (words : List ℕ) (caller : Caller) (f g : MadePort → Served) → ((port : MadePort) → f port ≡ g port)
    → on_port (made_port the_kind (given_caller words caller)) (given_caller words caller) f ≡ on_port (made_port the_kind caller) caller g
port_same the_kind words caller f g same =
    ap (λ (o : Option MadePort). on_port o (given_caller words caller) f) (made_same the_kind words caller) ∙ on_same (made_port the_kind caller) words caller f g same

held_same : (o : Option HeldSample) (words : List ℕ) (caller : Caller) (port : MadePort) → held_read o (given_caller words caller) port ≡ held_read o caller port
unfolding areas_of
held_same None words caller port = refl
held_same (Some sample) words caller port =
    tested_same (refused_if (nat_lt (c_of caller) (length sample.bytes)) invalid_parameter ∷ room caller (b_of caller) (length sample.bytes) ∷ room caller (d_of caller) 4 ∷ []) words caller _ _ refl

first_same : (o : Option (List ℕ)) (words : List ℕ) (caller : Caller) (port : MadePort) → first_read o (given_caller words caller) port ≡ first_read o caller port
unfolding areas_of
first_same None words caller port = refl
first_same (Some message) words caller port =
    tested_same (refused_if (nat_lt (c_of caller) (length message)) invalid_parameter ∷ room caller (b_of caller) (length message) ∷ []) words caller _ _ refl

return_same : (answer : Result (Unit {0}) IretFault) (r : Returned) (words : List ℕ) (caller : Caller) → by_return answer r (given_caller words caller) ≡ by_return answer r caller
return_same (Ok left) r words caller = refl
return_same (Err Unaligned) r words caller = refl
return_same (Err Stack) r words caller = refl

flush_same : (answer : Result (Unit {0}) StackFault) (ps : PartitionState) (words : List ℕ) (caller : Caller) → by_flush answer ps (given_caller words caller) ≡ by_flush answer ps caller
flush_same (Ok all) ps words caller = refl
flush_same (Err fault) ps words caller = refl

input_same : (inputs : List ℕ) (words : List ℕ) (caller : Caller) → input_read inputs (given_caller words caller) ≡ input_read inputs caller
unfolding areas_of
input_same [] words caller = refl
input_same (next ∷ rest) words caller = tested_same (room caller (a_of caller) 4 ∷ []) words caller _ _ refl

created_same : (answer : Result ℕ CreateFault) (words : List ℕ) (caller : Caller) → by_created answer (given_caller words caller) ≡ by_created answer caller
created_same (Ok r) words caller = refl
created_same (Err fault) words caller = refl

creating_same : (the_kind : Kind) (way size most : ℕ) (name : Option (List ℕ)) (words : List ℕ) (caller : Caller)
    → creating the_kind way size most name (given_caller words caller) ≡ creating the_kind way size most name caller
creating_same the_kind way size most None words caller = refl
creating_same the_kind way size most (Some name) words caller =
    created_same (created_over caller.view.part.ports (shape_at caller.view) name the_kind way size most caller.state.made) words caller

effect_same : (effect : CallEffect) (words : List ℕ) (caller : Caller) → comes_to effect (given_caller words caller) ≡ comes_to effect caller
unfolding areas_of
effect_same (GivesAnswer value writings) words caller = refl
effect_same (PrintsBytes bytes value) words caller = refl
effect_same (GivesOrder id order) words caller = refl
effect_same (DoesToAll event) words caller = refl
effect_same (RequestsPlan plan writings) words caller = refl
effect_same (PutsBytes the_kind address size) words caller = port_same the_kind words caller _ _ (λ port.
    tested_same (source_only port ∷ size_fits port size ∷ text caller address size ∷ queue_room the_kind port) words caller _ (putting_bytes address size caller port) refl)
effect_same TakesMessage words caller = port_same kind.Queuing words caller _ _ (λ port.
    tested_same (destination_only port ∷ []) words caller _ _ (first_same (first_message port.content) words caller port))
effect_same (SendsSignal number) words caller = refl
effect_same ShowsSample words caller = port_same kind.Sampling words caller _ _ (λ port.
    tested_same (destination_only port ∷ []) words caller _ _ (held_same (sample_of port.content) words caller port))
effect_same (ShowsPort the_kind size status) words caller = port_same the_kind words caller _ _ (λ port.
    tested_same (room caller (b_of caller) size ∷ []) words caller _ _ refl)
effect_same (CreatesPort the_kind way size most name) words caller = creating_same the_kind way size most name words caller
effect_same (ChangesOwn change) words caller = refl
effect_same EntersTrace words caller = refl
effect_same UsesInput words caller = input_same caller.state.inputs words caller
effect_same (MeetsEvent event word) words caller = refl
effect_same GoesBack words caller =
    let r = returned (areas_of caller.view) caller.state.traps caller.state.core caller.state.memory in return_same r.answer r words caller
effect_same SpillsWindows words caller =
    let moved = flushed 8 (areas_of caller.view) (move_made caller.state.core caller.state.memory) in
    flush_same moved.answer (record caller.state { core = moved.core; memory = moved.memory }) words caller

rights_same : (effect : CallEffect) (words : List ℕ) (caller : Caller) → right_tests effect (given_caller words caller) ≡ right_tests effect caller
rights_same (GivesAnswer value writings) words caller = refl
rights_same (PrintsBytes bytes value) words caller = refl
rights_same (GivesOrder id order) words caller = refl
rights_same (DoesToAll event) words caller = refl
rights_same (RequestsPlan plan writings) words caller = refl
rights_same (PutsBytes the_kind address size) words caller = refl
rights_same TakesMessage words caller = refl
rights_same (SendsSignal number) words caller = refl
rights_same ShowsSample words caller = refl
rights_same (ShowsPort the_kind size status) words caller = refl
rights_same (CreatesPort the_kind way size most name) words caller = refl
rights_same (ChangesOwn change) words caller = refl
rights_same EntersTrace words caller = refl
rights_same UsesInput words caller = refl
rights_same (MeetsEvent event word) words caller = refl
rights_same GoesBack words caller = refl
rights_same SpillsWindows words caller = refl

performed_same : (asked : TestedEffect) (words : List ℕ) (caller : Caller) → performed asked (given_caller words caller) ≡ performed asked caller
performed_same asked words caller =
    ap (λ (rights : List Test). tested (rights ++ asked.tests) (given_caller words caller) (comes_to asked.effect (given_caller words caller))) (rights_same asked.effect words caller)
    ∙ tested_same (right_tests asked.effect caller ++ asked.tests) words caller _ _ (effect_same asked.effect words caller)

clock_same : (clock : Clock) (words : List ℕ) (caller : Caller) → clock_of clock (given_caller words caller) ≡ clock_of clock caller
clock_same Hw words caller = refl
clock_same Exec words caller = refl

asked_same : (call : Call) (words : List ℕ) (caller : Caller) → effect_of_call call (given_caller words caller) ≡ effect_of_call call caller
unfolding areas_of
asked_same GetSelf words caller = refl
asked_same HaltPartition words caller = refl
asked_same ResetPartition words caller = refl
asked_same SuspendPartition words caller = refl
asked_same ResumePartition words caller = refl
asked_same ShutdownPartition words caller = refl
asked_same IdleSelf words caller = refl
asked_same GetPartitionStatus words caller = refl
asked_same HaltSystem words caller = refl
asked_same ResetSystem words caller = refl
asked_same GetSystemStatus words caller = refl
asked_same GetTime words caller =
    ap (λ (n : ℕ). where_passed (refused_if (is_neither (a_of caller)) invalid_parameter ∷ room caller (b_of caller) 8 ∷ []) (GivesAnswer 0 (written_at (b_of caller) (double n))))
    (clock_same (clock_numbered (a_of caller)) words caller)
asked_same SetTimer words caller = refl
asked_same SwitchSchedPlan words caller = refl
asked_same GetPlanStatus words caller = refl
asked_same CreateSamplingPort words caller = refl
asked_same WriteSamplingMessage words caller = refl
asked_same ReadSamplingMessage words caller = refl
asked_same GetSamplingPortStatus words caller = refl
asked_same CreateQueuingPort words caller = refl
asked_same SendQueuingMessage words caller = refl
asked_same ReceiveQueuingMessage words caller = refl
asked_same GetQueuingPortStatus words caller = refl
asked_same TraceEvent words caller = refl
asked_same TraceRead words caller = refl
asked_same TraceStatus words caller = refl
asked_same RaiseEvent words caller = refl
asked_same HmRead words caller = refl
asked_same HmStatus words caller = refl
asked_same SetIrqmask words caller = refl
asked_same ClearIrqmask words caller = refl
asked_same WriteConsole words caller = refl
asked_same ReadInput words caller = refl
asked_same Iret words caller = refl
asked_same SetPsr words caller = refl
asked_same SetTbr words caller = refl
asked_same FlushRegwin words caller = refl
asked_same RaiseIpvi words caller = refl

call_same : (o : Option Call) (words : List ℕ) (caller : Caller) → by_call o (given_caller words caller) ≡ by_call o caller
call_same None words caller = refl
call_same (Some call) words caller =
    ap (λ (asked : TestedEffect). performed asked (given_caller words caller)) (asked_same call words caller) ∙ performed_same (effect_of_call call caller) words caller

pub served_same : (words : List ℕ) (caller : Caller) → served (given_caller words caller) ≡ served caller
unfolding served
served_same words caller = call_same (call_of (number_of caller)) words caller
