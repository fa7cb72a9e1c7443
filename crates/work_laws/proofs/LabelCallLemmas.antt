-- A call does the same whatever the labels of its partition are.
use Rattle.std.proofs.Common.{◌≡◌, ℕ, ◌++◌, List, [], ◌∷◌, length, Option, None, Some, Result, Ok, Err, refl, ap, ◌∙◌}
use Rattle.std.specs.Prelude.{if◌then◌else◌, nat_lt, slice_get, slice_index_or}
use Rattle.guest_memory.specs.Loading.{memory_areas}
use Rattle.virt_clocks.specs.declared.timer.Clock.{Clock}
use Rattle.virt_clocks.specs.declared.timer.Clock.TheVariants.{Exec, Hw}
use Rattle.virt_traps.specs.Delivery.{Returned, returned}
use Rattle.virt_traps.specs.Moves.{move_made}
use Rattle.virt_traps.specs.declared.delivery.IretFault.{IretFault}
use Rattle.virt_traps.specs.declared.delivery.IretFault.TheVariants.{Stack, Unaligned}
use Rattle.virt_traps.specs.declared.windows.StackFault.{StackFault}
use Rattle.xm_conf.specs.declared.port.Kind.{Kind}
use Rattle.xm_conf.specs.declared.port.Kind.TheVariants as kind
use Rattle.xm_conf.specs.declared.port.Port.{Port}
use Rattle.xm_ports.specs.Channels.{HeldSample, first_message, sample_of}
use Rattle.xm_ports.specs.Ports.{created_over, is_made}
use Rattle.xm_ports.specs.declared.ports.CreateFault.{CreateFault}
use Rattle.machine_model.specs.Caller.{Caller, Served, Test, a_of, b_of, c_of, d_of, invalid_parameter, is_neither, number_of, refused_if, room, tested, text}
use Rattle.machine_model.specs.Calls.{by_call, call_of, effect_of_call, where_passed, written_at}
use Rattle.machine_model.specs.declared.numbers.Call.{Call}
use Rattle.machine_model.specs.declared.numbers.Call.TheVariants.{ClearIrqmask, CreateQueuingPort, CreateSamplingPort, FlushRegwin, GetPartitionStatus, GetPlanStatus, GetQueuingPortStatus, GetSamplingPortStatus, GetSelf, GetSystemStatus, GetTime, HaltPartition, HaltSystem, HmRead, HmStatus, IdleSelf, Iret, RaiseEvent, RaiseIpvi, ReadInput, ReadSamplingMessage, ReceiveQueuingMessage, ResetPartition, ResetSystem, ResumePartition, SendQueuingMessage, SetIrqmask, SetPsr, SetTbr, SetTimer, ShutdownPartition, SuspendPartition, SwitchSchedPlan, TraceEvent, TraceRead, TraceStatus, WriteConsole, WriteSamplingMessage}
use Rattle.machine_model.specs.Effects.{CallEffect, ChangesOwn, CreatesPort, DoesToAll, EntersTrace, GivesAnswer, GivesOrder, GoesBack, MeetsEvent, PrintsBytes, PutsBytes, RequestsPlan, SendsSignal, ShowsPort, ShowsSample, SpillsWindows, TakesMessage, TestedEffect, UsesInput, comes_to, performed, putting_bytes, queue_room, right_tests}
use Rattle.machine_model.specs.Hypercalls.{served}
use Rattle.machine_model.specs.Lists.{and_then}
use Rattle.machine_model.specs.OwnEffects.{by_flush, by_return, flushed, input_read}
use Rattle.machine_model.specs.Partition.{PartitionState, areas_of}
use Rattle.machine_model.specs.PortEffects.{MadePort, by_created, creating, destination_only, first_read, held_read, made_port, on_port, shape_at, size_fits, source_only, with_channel}
use Rattle.machine_model.specs.Readings.{clock_numbered, clock_of}
use Rattle.machine_model.specs.Structures.{double}
use Rattle.machine_model.specs.View.{PortChannel}
use Rattle.work_laws.specs.Labels.{Labels, labelled}

-- a call of a partition with other labels
abbrev pub labelled_caller : Labels → Caller → Caller
labelled_caller l caller = record caller { view = labelled l caller.view }

tested_same : (tests : List Test) (l : Labels) (caller : Caller) (one other : Served) → one ≡ other → tested tests (labelled_caller l caller) one ≡ tested tests caller other
tested_same [] l caller one other same = same
tested_same (Some code ∷ tests) l caller one other same = refl
tested_same (None ∷ tests) l caller one other same = tested_same tests l caller one other same

then_same : {X Y : Type 0} (o : Option X) (f g : X → Option Y) → ((x : X) → f x ≡ g x) → and_then o f ≡ and_then o g
then_same None f g same = refl
then_same (Some x) f g same = same x

channel_same : (l : Labels) (caller : Caller) (the_kind : Kind) (port : Port) (o : Option PortChannel) → with_channel (labelled_caller l caller) the_kind port o ≡ with_channel caller the_kind port o
channel_same l caller the_kind port None = refl
channel_same l caller the_kind port (Some channel) = refl

made_same : (the_kind : Kind) (l : Labels) (caller : Caller) → made_port the_kind (labelled_caller l caller) ≡ made_port the_kind caller
unfolding made_port
made_same the_kind l caller =
    ap (λ (found : Option MadePort). if is_made (a_of caller) caller.state.made then found else None)
    (then_same (slice_get caller.view.part.ports (a_of caller)) _ _ (λ port. channel_same l caller the_kind port (slice_index_or caller.view.channels (a_of caller) None)))

on_same : (o : Option MadePort) (l : Labels) (caller : Caller) (f g : MadePort → Served) → ((port : MadePort) → f port ≡ g port) → on_port o (labelled_caller l caller) f ≡ on_port o caller g
on_same None l caller f g same = refl
on_same (Some port) l caller f g same = same port

port_same : (the_kind : Kind) (l : Labels) (caller : Caller) (f g : MadePort → Served) → ((port : MadePort) → f port ≡ g port)
    → on_port (made_port the_kind (labelled_caller l caller)) (labelled_caller l caller) f ≡ on_port (made_port the_kind caller) caller g
port_same the_kind l caller f g same =
    ap (λ (o : Option MadePort). on_port o (labelled_caller l caller) f) (made_same the_kind l caller) ∙ on_same (made_port the_kind caller) l caller f g same

held_same : (o : Option HeldSample) (l : Labels) (caller : Caller) (port : MadePort) → held_read o (labelled_caller l caller) port ≡ held_read o caller port
unfolding areas_of memory_areas
held_same None l caller port = refl
held_same (Some sample) l caller port =
    tested_same (refused_if (nat_lt (c_of caller) (length sample.bytes)) invalid_parameter ∷ room caller (b_of caller) (length sample.bytes) ∷ room caller (d_of caller) 4 ∷ []) l caller _ _ refl

first_same : (o : Option (List ℕ)) (l : Labels) (caller : Caller) (port : MadePort) → first_read o (labelled_caller l caller) port ≡ first_read o caller port
unfolding areas_of memory_areas
first_same None l caller port = refl
first_same (Some message) l caller port =
    tested_same (refused_if (nat_lt (c_of caller) (length message)) invalid_parameter ∷ room caller (b_of caller) (length message) ∷ []) l caller _ _ refl

return_same : (answer : Result (Unit {0}) IretFault) (r : Returned) (l : Labels) (caller : Caller) → by_return answer r (labelled_caller l caller) ≡ by_return answer r caller
return_same (Ok left) r l caller = refl
return_same (Err Unaligned) r l caller = refl
return_same (Err Stack) r l caller = refl

flush_same : (answer : Result (Unit {0}) StackFault) (ps : PartitionState) (l : Labels) (caller : Caller) → by_flush answer ps (labelled_caller l caller) ≡ by_flush answer ps caller
flush_same (Ok all) ps l caller = refl
flush_same (Err fault) ps l caller = refl

input_same : (inputs : List ℕ) (l : Labels) (caller : Caller) → input_read inputs (labelled_caller l caller) ≡ input_read inputs caller
unfolding areas_of memory_areas
input_same [] l caller = refl
input_same (next ∷ rest) l caller = tested_same (room caller (a_of caller) 4 ∷ []) l caller _ _ refl

created_same : (answer : Result ℕ CreateFault) (l : Labels) (caller : Caller) → by_created answer (labelled_caller l caller) ≡ by_created answer caller
created_same (Ok r) l caller = refl
created_same (Err fault) l caller = refl

creating_same : (the_kind : Kind) (way size most : ℕ) (name : Option (List ℕ)) (l : Labels) (caller : Caller)
    → creating the_kind way size most name (labelled_caller l caller) ≡ creating the_kind way size most name caller
creating_same the_kind way size most None l caller = refl
creating_same the_kind way size most (Some name) l caller =
    created_same (created_over caller.view.part.ports (shape_at caller.view) name the_kind way size most caller.state.made) l caller

effect_same : (effect : CallEffect) (l : Labels) (caller : Caller) → comes_to effect (labelled_caller l caller) ≡ comes_to effect caller
unfolding areas_of memory_areas
effect_same (GivesAnswer value writings) l caller = refl
effect_same (PrintsBytes bytes value) l caller = refl
effect_same (GivesOrder id order) l caller = refl
effect_same (DoesToAll event) l caller = refl
effect_same (RequestsPlan plan writings) l caller = refl
effect_same (PutsBytes the_kind address size) l caller = port_same the_kind l caller _ _ (λ port.
    tested_same (source_only port ∷ size_fits port size ∷ text caller address size ∷ queue_room the_kind port) l caller _ (putting_bytes address size caller port) refl)
effect_same TakesMessage l caller = port_same kind.Queuing l caller _ _ (λ port.
    tested_same (destination_only port ∷ []) l caller _ _ (first_same (first_message port.content) l caller port))
effect_same (SendsSignal number) l caller = refl
effect_same ShowsSample l caller = port_same kind.Sampling l caller _ _ (λ port.
    tested_same (destination_only port ∷ []) l caller _ _ (held_same (sample_of port.content) l caller port))
effect_same (ShowsPort the_kind size status) l caller = port_same the_kind l caller _ _ (λ port.
    tested_same (room caller (b_of caller) size ∷ []) l caller _ _ refl)
effect_same (CreatesPort the_kind way size most name) l caller = creating_same the_kind way size most name l caller
effect_same (ChangesOwn change) l caller = refl
effect_same EntersTrace l caller = refl
effect_same UsesInput l caller = input_same caller.state.inputs l caller
effect_same (MeetsEvent event word) l caller = refl
effect_same GoesBack l caller =
    let r = returned (areas_of caller.view) caller.state.traps caller.state.core caller.state.memory in return_same r.answer r l caller
effect_same SpillsWindows l caller =
    let moved = flushed 8 (areas_of caller.view) (move_made caller.state.core caller.state.memory) in
    flush_same moved.answer (record caller.state { core = moved.core; memory = moved.memory }) l caller

rights_same : (effect : CallEffect) (l : Labels) (caller : Caller) → right_tests effect (labelled_caller l caller) ≡ right_tests effect caller
rights_same (GivesAnswer value writings) l caller = refl
rights_same (PrintsBytes bytes value) l caller = refl
rights_same (GivesOrder id order) l caller = refl
rights_same (DoesToAll event) l caller = refl
rights_same (RequestsPlan plan writings) l caller = refl
rights_same (PutsBytes the_kind address size) l caller = refl
rights_same TakesMessage l caller = refl
rights_same (SendsSignal number) l caller = refl
rights_same ShowsSample l caller = refl
rights_same (ShowsPort the_kind size status) l caller = refl
rights_same (CreatesPort the_kind way size most name) l caller = refl
rights_same (ChangesOwn change) l caller = refl
rights_same EntersTrace l caller = refl
rights_same UsesInput l caller = refl
rights_same (MeetsEvent event word) l caller = refl
rights_same GoesBack l caller = refl
rights_same SpillsWindows l caller = refl

performed_same : (asked : TestedEffect) (l : Labels) (caller : Caller) → performed asked (labelled_caller l caller) ≡ performed asked caller
performed_same asked l caller =
    ap (λ (rights : List Test). tested (rights ++ asked.tests) (labelled_caller l caller) (comes_to asked.effect (labelled_caller l caller))) (rights_same asked.effect l caller)
    ∙ tested_same (right_tests asked.effect caller ++ asked.tests) l caller _ _ (effect_same asked.effect l caller)

clock_same : (clock : Clock) (l : Labels) (caller : Caller) → clock_of clock (labelled_caller l caller) ≡ clock_of clock caller
clock_same Hw l caller = refl
clock_same Exec l caller = refl

asked_same : (call : Call) (l : Labels) (caller : Caller) → effect_of_call call (labelled_caller l caller) ≡ effect_of_call call caller
unfolding areas_of memory_areas
asked_same GetSelf l caller = refl
asked_same HaltPartition l caller = refl
asked_same ResetPartition l caller = refl
asked_same SuspendPartition l caller = refl
asked_same ResumePartition l caller = refl
asked_same ShutdownPartition l caller = refl
asked_same IdleSelf l caller = refl
asked_same GetPartitionStatus l caller = refl
asked_same HaltSystem l caller = refl
asked_same ResetSystem l caller = refl
asked_same GetSystemStatus l caller = refl
asked_same GetTime l caller =
    ap (λ (n : ℕ). where_passed (refused_if (is_neither (a_of caller)) invalid_parameter ∷ room caller (b_of caller) 8 ∷ []) (GivesAnswer 0 (written_at (b_of caller) (double n))))
    (clock_same (clock_numbered (a_of caller)) l caller)
asked_same SetTimer l caller = refl
asked_same SwitchSchedPlan l caller = refl
asked_same GetPlanStatus l caller = refl
asked_same CreateSamplingPort l caller = refl
asked_same WriteSamplingMessage l caller = refl
asked_same ReadSamplingMessage l caller = refl
asked_same GetSamplingPortStatus l caller = refl
asked_same CreateQueuingPort l caller = refl
asked_same SendQueuingMessage l caller = refl
asked_same ReceiveQueuingMessage l caller = refl
asked_same GetQueuingPortStatus l caller = refl
asked_same TraceEvent l caller = refl
asked_same TraceRead l caller = refl
asked_same TraceStatus l caller = refl
asked_same RaiseEvent l caller = refl
asked_same HmRead l caller = refl
asked_same HmStatus l caller = refl
asked_same SetIrqmask l caller = refl
asked_same ClearIrqmask l caller = refl
asked_same WriteConsole l caller = refl
asked_same ReadInput l caller = refl
asked_same Iret l caller = refl
asked_same SetPsr l caller = refl
asked_same SetTbr l caller = refl
asked_same FlushRegwin l caller = refl
asked_same RaiseIpvi l caller = refl

call_same : (o : Option Call) (l : Labels) (caller : Caller) → by_call o (labelled_caller l caller) ≡ by_call o caller
call_same None l caller = refl
call_same (Some call) l caller =
    ap (λ (asked : TestedEffect). performed asked (labelled_caller l caller)) (asked_same call l caller) ∙ performed_same (effect_of_call call caller) l caller

pub served_same : (l : Labels) (caller : Caller) → served (labelled_caller l caller) ≡ served caller
unfolding served
served_same l caller = call_same (call_of (number_of caller)) l caller
