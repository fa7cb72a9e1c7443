-- A call prints at most one line, with at most 1024 bytes.
use Rattle.std.proofs.Common.{◌≡◌, ℕ, ◌≤◌, Bool, true, false, List, [], ◌∷◌, ◌++◌, length, Option, None, Some, Result, Ok, Err, refl, sym, arith, subst}
use Rattle.std.specs.Prelude.{nat_lt}
use Rattle.std.proofs.lemmas.Bool.Decides.{nat_tests}
use Rattle.std.proofs.lemmas.List.{length-append}
use Rattle.guest_bus.specs.lemmas.MemoryLemmas.{length-bytes_at}
use Rattle.virt_traps.specs.Delivery.{Returned, returned}
use Rattle.virt_traps.specs.Moves.{move_made}
use Rattle.virt_traps.specs.declared.delivery.IretFault.{IretFault}
use Rattle.virt_traps.specs.declared.delivery.IretFault.TheVariants.{Stack, Unaligned}
use Rattle.virt_traps.specs.declared.windows.StackFault.{StackFault}
use Rattle.xm_base.specs.declared.limits.TheConstants.{CONSOLE_BYTES}
use Rattle.xm_conf.specs.declared.port.Kind.{Kind}
use Rattle.xm_conf.specs.declared.port.Kind.TheVariants as kind
use Rattle.xm_ports.specs.Channels.{HeldSample, first_message, sample_of}
use Rattle.xm_ports.specs.Ports.{created_over}
use Rattle.xm_ports.specs.declared.ports.CreateFault.{CreateFault}
use Rattle.machine_model.specs.Caller.{Caller, Served, Test, a_of, answering, b_of, caller_bytes, invalid_parameter, refused_if, room, tested, text, unknown_call}
use Rattle.machine_model.specs.Calls.{effect_of_call}
use Rattle.machine_model.specs.declared.numbers.Call.{Call}
use Rattle.machine_model.specs.declared.numbers.Call.TheVariants.{ClearIrqmask, CreateQueuingPort, CreateSamplingPort, FlushRegwin, GetPartitionStatus, GetPlanStatus, GetQueuingPortStatus, GetSamplingPortStatus, GetSelf, GetSystemStatus, GetTime, HaltPartition, HaltSystem, HmRead, HmStatus, IdleSelf, Iret, RaiseEvent, RaiseIpvi, ReadInput, ReadSamplingMessage, ReceiveQueuingMessage, ResetPartition, ResetSystem, ResumePartition, SendQueuingMessage, SetIrqmask, SetPsr, SetTbr, SetTimer, ShutdownPartition, SuspendPartition, SwitchSchedPlan, TraceEvent, TraceRead, TraceStatus, WriteConsole, WriteSamplingMessage}
use Rattle.machine_model.specs.Effects.{CallEffect, ChangesOwn, CreatesPort, DoesToAll, EntersTrace, GivesAnswer, GivesOrder, GoesBack, MeetsEvent, PrintsBytes, PutsBytes, RequestsPlan, SendsSignal, ShowsPort, ShowsSample, SpillsWindows, TakesMessage, TestedEffect, UsesInput, comes_to, performed, putting_bytes, queue_room, right_tests}
use Rattle.machine_model.specs.Hypercalls.{served}
use Rattle.machine_model.specs.lemmas.CallLemmas.{every_call}
use Rattle.machine_model.specs.OwnEffects.{by_flush, by_return, flushed, input_read, printed}
use Rattle.machine_model.specs.Partition.{PartitionState, areas_of}
use Rattle.machine_model.specs.PortEffects.{MadePort, by_created, creating, destination_only, first_read, held_read, made_port, on_port, shape_at, size_fits, source_only}
use Rattle.machine_laws.proofs.SumLemmas.{Few, none_few}

-- what a call emits
record Leaves (comes : Served) : Type 0 where
  few : Few comes.emitted 1 1024

keeps : (comes : Served) → comes.emitted ≡ [] → Leaves comes
keeps comes same = record { few = subst (λ emitted. Few emitted 1 1024) (sym same) (none_few 1 1024) }

-- a call that is refused emits nothing
tested_keeps : (tests : List Test) (caller : Caller) (comes : Served) → comes.emitted ≡ [] → (tested tests caller comes).emitted ≡ []
tested_keeps [] caller comes same = same
tested_keeps (Some code ∷ tests) caller comes same = refl
tested_keeps (None ∷ tests) caller comes same = tested_keeps tests caller comes same

tested_leaves : (tests : List Test) (caller : Caller) (comes : Served) → Leaves comes → Leaves (tested tests caller comes)
tested_leaves [] caller comes leaves = leaves
tested_leaves (Some code ∷ tests) caller comes leaves = keeps (answering code caller.state) refl
tested_leaves (None ∷ tests) caller comes leaves = tested_leaves tests caller comes leaves

on_port_keeps : (o : Option MadePort) (caller : Caller) (call : MadePort → Served) → ((port : MadePort) → (call port).emitted ≡ []) → (on_port o caller call).emitted ≡ []
on_port_keeps None caller call same = refl
on_port_keeps (Some port) caller call same = same port

held_keeps : (o : Option HeldSample) (caller : Caller) (port : MadePort) → (held_read o caller port).emitted ≡ []
held_keeps None caller port = refl
held_keeps (Some sample) caller port = grind (arith)

first_keeps : (o : Option (List ℕ)) (caller : Caller) (port : MadePort) → (first_read o caller port).emitted ≡ []
first_keeps None caller port = refl
first_keeps (Some message) caller port = grind (arith)

return_keeps : (answer : Result (Unit {0}) IretFault) (r : Returned) (caller : Caller) → (by_return answer r caller).emitted ≡ []
return_keeps (Ok left) r caller = refl
return_keeps (Err Unaligned) r caller = refl
return_keeps (Err Stack) r caller = refl

flush_keeps : (answer : Result (Unit {0}) StackFault) (ps : PartitionState) (caller : Caller) → (by_flush answer ps caller).emitted ≡ []
flush_keeps (Ok all) ps caller = refl
flush_keeps (Err fault) ps caller = refl

input_keeps : (inputs : List ℕ) (caller : Caller) → (input_read inputs caller).emitted ≡ []
input_keeps [] caller = refl
input_keeps (next ∷ rest) caller = tested_keeps (room caller (a_of caller) 4 ∷ []) caller _ refl

created_keeps : (answer : Result ℕ CreateFault) (caller : Caller) → (by_created answer caller).emitted ≡ []
created_keeps (Err fault) caller = refl
created_keeps (Ok r) caller = refl

creating_keeps : (the_kind : Kind) (way size most : ℕ) (name : Option (List ℕ)) (caller : Caller) → (creating the_kind way size most name caller).emitted ≡ []
creating_keeps the_kind way size most None caller = refl
creating_keeps the_kind way size most (Some name) caller =
    created_keeps (created_over caller.view.part.ports (shape_at caller.view) name the_kind way size most caller.state.made) caller

-- bytes that are printed are one line
printed_few : (bytes : List ℕ) → length bytes ≤ 1024 → Few (printed bytes) 1 1024
printed_few [] short = none_few 1 1024
printed_few (byte ∷ bytes) short = record { lines = omega arith; said = let e = length-append (byte ∷ bytes) [] in omega (arith, e, short) }

-- an effect that prints at most 1024 bytes, as each one does that prints none
abbrev IsShort : CallEffect → Type 0
IsShort (GivesAnswer value writings) = Unit {0}
IsShort (PrintsBytes bytes value) = length bytes ≤ 1024
IsShort (GivesOrder id order) = Unit {0}
IsShort (DoesToAll event) = Unit {0}
IsShort (RequestsPlan plan writings) = Unit {0}
IsShort (PutsBytes the_kind address size) = Unit {0}
IsShort TakesMessage = Unit {0}
IsShort (SendsSignal number) = Unit {0}
IsShort ShowsSample = Unit {0}
IsShort (ShowsPort the_kind size status) = Unit {0}
IsShort (CreatesPort the_kind way size most name) = Unit {0}
IsShort (ChangesOwn change) = Unit {0}
IsShort EntersTrace = Unit {0}
IsShort UsesInput = Unit {0}
IsShort (MeetsEvent event word) = Unit {0}
IsShort GoesBack = Unit {0}
IsShort SpillsWindows = Unit {0}

effect_leaves : (effect : CallEffect) (caller : Caller) → IsShort effect → Leaves (comes_to effect caller)
effect_leaves (GivesAnswer value writings) caller short = keeps (comes_to (GivesAnswer value writings) caller) refl
effect_leaves (PrintsBytes bytes value) caller short = record { few = printed_few bytes short }
effect_leaves (GivesOrder id order) caller short = keeps (comes_to (GivesOrder id order) caller) refl
effect_leaves (DoesToAll event) caller short = keeps (comes_to (DoesToAll event) caller) refl
effect_leaves (RequestsPlan plan writings) caller short = keeps (comes_to (RequestsPlan plan writings) caller) refl
effect_leaves (PutsBytes the_kind address size) caller short = keeps (comes_to (PutsBytes the_kind address size) caller) (on_port_keeps (made_port the_kind caller) caller _ (λ port.
    tested_keeps (source_only port ∷ size_fits port size ∷ text caller address size ∷ queue_room the_kind port) caller (putting_bytes address size caller port) refl))
effect_leaves TakesMessage caller short = keeps (comes_to TakesMessage caller) (on_port_keeps (made_port kind.Queuing caller) caller _ (λ port.
    tested_keeps (destination_only port ∷ []) caller _ (first_keeps (first_message port.content) caller port)))
effect_leaves (SendsSignal number) caller short = keeps (comes_to (SendsSignal number) caller) refl
effect_leaves ShowsSample caller short = keeps (comes_to ShowsSample caller) (on_port_keeps (made_port kind.Sampling caller) caller _ (λ port.
    tested_keeps (destination_only port ∷ []) caller _ (held_keeps (sample_of port.content) caller port)))
effect_leaves (ShowsPort the_kind size status) caller short = keeps (comes_to (ShowsPort the_kind size status) caller) (on_port_keeps (made_port the_kind caller) caller _ (λ port.
    tested_keeps (room caller (b_of caller) size ∷ []) caller _ refl))
effect_leaves (CreatesPort the_kind way size most name) caller short = keeps (comes_to (CreatesPort the_kind way size most name) caller) (creating_keeps the_kind way size most name caller)
effect_leaves (ChangesOwn change) caller short = keeps (comes_to (ChangesOwn change) caller) refl
effect_leaves EntersTrace caller short = record { few = record { lines = omega arith; said = omega arith } }
effect_leaves UsesInput caller short = keeps (comes_to UsesInput caller) (input_keeps caller.state.inputs caller)
effect_leaves (MeetsEvent event word) caller short = keeps (comes_to (MeetsEvent event word) caller) refl
effect_leaves GoesBack caller short =
    let r = returned (areas_of caller.view) caller.state.traps caller.state.core caller.state.memory in keeps (comes_to GoesBack caller) (return_keeps r.answer r caller)
effect_leaves SpillsWindows caller short =
    let moved = flushed 8 (areas_of caller.view) (move_made caller.state.core caller.state.memory) in
    keeps (comes_to SpillsWindows caller) (flush_keeps moved.answer (record caller.state { core = moved.core; memory = moved.memory }) caller)

asked_leaves : (asked : TestedEffect) (caller : Caller) → IsShort asked.effect → Leaves (performed asked caller)
asked_leaves asked caller short = tested_leaves (right_tests asked.effect caller ++ asked.tests) caller (comes_to asked.effect caller) (effect_leaves asked.effect caller short)

-- the console call refuses more than 1024 bytes
short_console : (n : ℕ) → nat_lt CONSOLE_BYTES n ≡ false → n ≤ 1024
short_console n test = grind (arith, nat_tests)

console_leaves : (caller : Caller) (b : Bool) → nat_lt CONSOLE_BYTES (b_of caller) ≡ b
    → Leaves (tested (refused_if b invalid_parameter ∷ text caller (a_of caller) (b_of caller) ∷ []) caller (comes_to (PrintsBytes (caller_bytes caller (a_of caller) (b_of caller)) (b_of caller)) caller))
console_leaves caller true is = keeps (answering invalid_parameter caller.state) refl
console_leaves caller false is =
    let e = length-bytes_at caller.state.memory (a_of caller) (b_of caller) in let f = short_console (b_of caller) is in
    tested_leaves (text caller (a_of caller) (b_of caller) ∷ []) caller _
    (effect_leaves (PrintsBytes (caller_bytes caller (a_of caller) (b_of caller)) (b_of caller)) caller (omega (arith, e, f)))

call_leaves : (call : Call) (caller : Caller) → Leaves (performed (effect_of_call call caller) caller)
call_leaves GetSelf caller = asked_leaves (effect_of_call GetSelf caller) caller tt
call_leaves HaltPartition caller = asked_leaves (effect_of_call HaltPartition caller) caller tt
call_leaves ResetPartition caller = asked_leaves (effect_of_call ResetPartition caller) caller tt
call_leaves SuspendPartition caller = asked_leaves (effect_of_call SuspendPartition caller) caller tt
call_leaves ResumePartition caller = asked_leaves (effect_of_call ResumePartition caller) caller tt
call_leaves ShutdownPartition caller = asked_leaves (effect_of_call ShutdownPartition caller) caller tt
call_leaves IdleSelf caller = asked_leaves (effect_of_call IdleSelf caller) caller tt
call_leaves GetPartitionStatus caller = asked_leaves (effect_of_call GetPartitionStatus caller) caller tt
call_leaves HaltSystem caller = asked_leaves (effect_of_call HaltSystem caller) caller tt
call_leaves ResetSystem caller = asked_leaves (effect_of_call ResetSystem caller) caller tt
call_leaves GetSystemStatus caller = asked_leaves (effect_of_call GetSystemStatus caller) caller tt
call_leaves GetTime caller = asked_leaves (effect_of_call GetTime caller) caller tt
call_leaves SetTimer caller = asked_leaves (effect_of_call SetTimer caller) caller tt
call_leaves SwitchSchedPlan caller = asked_leaves (effect_of_call SwitchSchedPlan caller) caller tt
call_leaves GetPlanStatus caller = asked_leaves (effect_of_call GetPlanStatus caller) caller tt
call_leaves CreateSamplingPort caller = asked_leaves (effect_of_call CreateSamplingPort caller) caller tt
call_leaves WriteSamplingMessage caller = asked_leaves (effect_of_call WriteSamplingMessage caller) caller tt
call_leaves ReadSamplingMessage caller = asked_leaves (effect_of_call ReadSamplingMessage caller) caller tt
call_leaves GetSamplingPortStatus caller = asked_leaves (effect_of_call GetSamplingPortStatus caller) caller tt
call_leaves CreateQueuingPort caller = asked_leaves (effect_of_call CreateQueuingPort caller) caller tt
call_leaves SendQueuingMessage caller = asked_leaves (effect_of_call SendQueuingMessage caller) caller tt
call_leaves ReceiveQueuingMessage caller = asked_leaves (effect_of_call ReceiveQueuingMessage caller) caller tt
call_leaves GetQueuingPortStatus caller = asked_leaves (effect_of_call GetQueuingPortStatus caller) caller tt
call_leaves TraceEvent caller = asked_leaves (effect_of_call TraceEvent caller) caller tt
call_leaves TraceRead caller = asked_leaves (effect_of_call TraceRead caller) caller tt
call_leaves TraceStatus caller = asked_leaves (effect_of_call TraceStatus caller) caller tt
call_leaves RaiseEvent caller = asked_leaves (effect_of_call RaiseEvent caller) caller tt
call_leaves HmRead caller = asked_leaves (effect_of_call HmRead caller) caller tt
call_leaves HmStatus caller = asked_leaves (effect_of_call HmStatus caller) caller tt
call_leaves SetIrqmask caller = asked_leaves (effect_of_call SetIrqmask caller) caller tt
call_leaves ClearIrqmask caller = asked_leaves (effect_of_call ClearIrqmask caller) caller tt
call_leaves WriteConsole caller = console_leaves caller (nat_lt CONSOLE_BYTES (b_of caller)) refl
call_leaves ReadInput caller = asked_leaves (effect_of_call ReadInput caller) caller tt
call_leaves Iret caller = asked_leaves (effect_of_call Iret caller) caller tt
call_leaves SetPsr caller = asked_leaves (effect_of_call SetPsr caller) caller tt
call_leaves SetTbr caller = asked_leaves (effect_of_call SetTbr caller) caller tt
call_leaves FlushRegwin caller = asked_leaves (effect_of_call FlushRegwin caller) caller tt
call_leaves RaiseIpvi caller = asked_leaves (effect_of_call RaiseIpvi caller) caller tt

pub served_few : (caller : Caller) → Few (served caller).emitted 1 1024
served_few caller = (every_call caller Leaves (λ call. call_leaves call caller) (keeps (answering unknown_call caller.state) refl)).few
