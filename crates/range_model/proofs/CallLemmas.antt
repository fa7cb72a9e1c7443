-- Each call leaves a partition's numbers in their ranges.
use Rattle.std.proofs.Common.{◌≡◌, ℕ, zero, suc, ◌<◌, ◌≤◌, ◌+◌, Bool, true, false, List, [], ◌∷◌, ◌++◌, length, Option, None, Some, Result, Ok, Err, refl, sym, arith, subst}
use Rattle.std.specs.Prelude.{◌-◌, ◌%◌, ◌^◌, ◌==◌, ◌&&◌, cond, not, nat_lt, if◌then◌else◌, drop, slice_get, slice_index_or}
use Rattle.std.specs.List.{AllByRecursion, position_from}
use Rattle.std.specs.Int.{to_be_bytes, w16, w32, w64}
use Rattle.std.proofs.lemmas.Bool.Decides.{nat_tests}
use Rattle.guest_bus.specs.Memory.{Area, with_bytes}
use Rattle.health_monitor.specs.declared.entry.HealthEntry.{HealthEntry}
use Rattle.sparc_step.specs.Registers.{with_register}
use Rattle.virt_traps.specs.Delivery.{Returned, returned}
use Rattle.virt_traps.specs.Moves.{Moved, move_made, spilled}
use Rattle.virt_traps.specs.declared.delivery.IretFault.{IretFault}
use Rattle.virt_traps.specs.declared.delivery.IretFault.TheVariants.{Stack, Unaligned}
use Rattle.virt_traps.specs.declared.windows.StackFault.{StackFault}
use Rattle.xm_base.specs.Bytes.{AreBytes}
use Rattle.xm_base.specs.declared.partition.State.TheVariants.{Idle}
use Rattle.xm_conf.specs.Health.{action_row, event_row}
use Rattle.xm_conf.specs.declared.channel.ChanKind.{ChanKind}
use Rattle.xm_conf.specs.declared.health.Action.{Action}
use Rattle.xm_conf.specs.declared.health.Action.TheVariants as action
use Rattle.xm_conf.specs.declared.health.Event.{Event}
use Rattle.xm_conf.specs.declared.health.Event.TheVariants as event
use Rattle.xm_conf.specs.declared.port.Kind.{Kind}
use Rattle.xm_conf.specs.declared.port.Kind.TheVariants as kind
use Rattle.xm_conf.specs.declared.port.Port.{Port}
use Rattle.xm_ports.specs.Channels.{Content, HeldSample, Queuing, Sampling, Shape, first_message, messages_of, most_of, sample_of}
use Rattle.xm_ports.specs.Ports.{agrees_end, are_same_kind, created_over, granted, is_called, is_made, is_way_of, port_with, unless_differs, unless_made, unless_missing, with_port}
use Rattle.xm_ports.specs.declared.ports.CreateFault.{CreateFault}
use Rattle.xm_ports.specs.declared.ports.CreateFault.TheVariants.{Already, Differs, NoChannel, NoPort}
use Rattle.xm_traces.specs.Ring.{Kept, entry_at, first_kept, noted}
use Rattle.xm_traces.specs.declared.entry.TraceEntry.{TraceEntry}
use Rattle.machine_model.specs.Caller.{Acts, Caller, Meets, Served, Test, Upshot, a_of, acting, answering, b_of, c_of, caller_bytes, d_of, invalid_mode, invalid_parameter, is_not_system, no_action, no_permission, not_allowed, not_available, refused_if, room, shown, system_only, target, tested, text, unknown_call, with_answer, with_written}
use Rattle.machine_model.specs.lemmas.CallLemmas.{every_call}
use Rattle.machine_model.specs.Calls.{effect_of_call}
use Rattle.machine_model.specs.declared.numbers.Call.{Call}
use Rattle.machine_model.specs.declared.numbers.Call.TheVariants.{GetSelf, HaltPartition, ResetPartition, SuspendPartition, ResumePartition, ShutdownPartition, IdleSelf, GetPartitionStatus, HaltSystem, ResetSystem, GetSystemStatus, GetTime, SetTimer, SwitchSchedPlan, GetPlanStatus, CreateSamplingPort, WriteSamplingMessage, ReadSamplingMessage, GetSamplingPortStatus, CreateQueuingPort, SendQueuingMessage, ReceiveQueuingMessage, GetQueuingPortStatus, TraceEvent, TraceRead, TraceStatus, RaiseEvent, HmRead, HmStatus, SetIrqmask, ClearIrqmask, WriteConsole, ReadInput, Iret, SetPsr, SetTbr, FlushRegwin, RaiseIpvi}
use Rattle.machine_model.specs.Effects.{ArmsTimer, CallEffect, ChangesOwn, CreatesPort, DoesToAll, EntersTrace, GivesAnswer, GivesOrder, GoesBack, MeetsEvent, OwnChange, PrintsBytes, PutsBytes, RequestsPlan, SendsSignal, SetsBase, SetsCodes, SetsMask, ShowsPort, ShowsSample, SpillsWindows, TakesMessage, TestedEffect, UsesInput, Waits, Writing, comes_to, performed, putting_bytes, queue_room, right_tests, with_change, with_writings}
use Rattle.machine_model.specs.Hypercalls.{served}
use Rattle.machine_model.specs.Lists.{and_then}
use Rattle.machine_model.specs.Readings.{bytes_of_entry, is_own}
use Rattle.machine_model.specs.OwnEffects.{trace_entry, tracing, by_flush, by_return, flushed, flushed_after, input_read, undone}
use Rattle.machine_model.specs.Partition.{PartitionState, areas_of}
use Rattle.machine_model.specs.PortEffects.{MadePort, by_created, create_refusal, creating, destination_only, first_read, held_read, is_full, made_port, message_read, on_port, port_with_content, sample_read, shape_at, size_fits, source_only, with_channel}
use Rattle.machine_model.specs.Structures.{counts_bytes, double, health_bytes, partition_status, queuing_status, sample_status, sampling_status, state_number, trace_bytes, validity, word}
use Rattle.machine_model.specs.Emission as emission
use Rattle.machine_model.specs.Emission.{Act, NotKept, OwnPuts, OwnSignals, OwnTakes, Sight, Unseen, Words}
use Rattle.machine_model.specs.View.{PartitionView, PortChannel}
use Rattle.cue_scripts.specs.Script.{IsOrder}
use Rattle.range_model.specs.Cues.{HasMessageBytes, HasShownBytes}
use Rattle.range_model.specs.Numbers.{IsByteMemory}
use Rattle.range_model.specs.Ranges.{IsContentInRange, IsImageInRange, IsPartitionInRange}
use Rattle.range_model.specs.Registers.{AreWordRegisters}
use Rattle.range_model.proofs.NumberLemmas.{append_below, memory_bytes, more_below, none_below, number_bytes, written_bytes}
use Rattle.range_model.proofs.StepLemmas.{placed_words, register_word, with_icc_words, with_register_word}
use Rattle.range_model.proofs.TrapLemmas.{IsMovedInRange, returned_in_range, spill_in_range}

-- what a partition has of its own is in range: its number and the numbers of its ports are words, and its image is in range
pub record IsViewInRange (view : PartitionView) : Type 0 where
  pub id : view.id < 2 ^ 32
  pub ports : length view.part.ports ≤ 2 ^ 32
  pub image : IsImageInRange view.image

-- what a channel holds, where there is one
abbrev pub IsCopyInRange : Option Content → Type 0
IsCopyInRange None = Unit {0}
IsCopyInRange (Some content) = IsContentInRange content

-- the numbers in an act are in range
abbrev pub IsActInRange : Act → Type 0
IsActInRange emission.Nothing = Unit {0}
IsActInRange (emission.Trades traffic) = HasMessageBytes traffic
IsActInRange (emission.Upon id an_order) = IsOrder (Some an_order)
IsActInRange (emission.Plans change) = Unit {0}
IsActInRange (emission.UponAll event) = Unit {0}

-- what a call is given is in range
pub record IsCallerInRange (caller : Caller) : Type 0 where
  pub view : IsViewInRange caller.view
  pub state : IsPartitionInRange caller.state
  pub contents : AllByRecursion IsCopyInRange caller.contents
  pub sight : HasShownBytes caller.sight
  pub pc : caller.pc < 2 ^ 32
  pub npc : caller.npc < 2 ^ 32

-- the outcome of a call
abbrev pub IsUpshotInRange : Upshot → Type 0
IsUpshotInRange (Acts act) = IsActInRange act
IsUpshotInRange (Meets event word) = Unit {0}

-- what a call leaves is in range
pub record IsServedInRange (s : Served) : Type 0 where
  pub after : IsPartitionInRange s.after
  pub upshot : IsUpshotInRange s.upshot

-- a partition with other registers, or with other bytes in its memory
with_core : (ps : PartitionState) (qs : PartitionState) → AreWordRegisters qs.core → qs.memory ≡ ps.memory → qs.traps.base ≡ ps.traps.base → qs.reset_status ≡ ps.reset_status → qs.traces ≡ ps.traces → IsPartitionInRange ps → IsPartitionInRange qs
with_core ps qs core memory base status traces has = record {
  core = core;
  memory = subst IsByteMemory (sym memory) has.memory;
  table = subst (λ (n : ℕ). n + 4096 ≤ 2 ^ 32) (sym base) has.table;
  status = subst (λ (n : ℕ). n < 2 ^ 32) (sym status) has.status;
  traces = subst (λ (kept : Kept TraceEntry). AllByRecursion (λ (entry : TraceEntry). AreBytes entry.load) kept.entries) (sym traces) has.traces;
}

-- nothing of its numbers has changed
pub same_range : (ps qs : PartitionState) → qs.core ≡ ps.core → qs.memory ≡ ps.memory → qs.traps.base ≡ ps.traps.base → qs.reset_status ≡ ps.reset_status → qs.traces ≡ ps.traces → IsPartitionInRange ps → IsPartitionInRange qs
same_range ps qs core memory base status traces has = with_core ps qs (subst AreWordRegisters (sym core) has.core) memory base status traces has

pub core_in_range : (ps qs : PartitionState) → AreWordRegisters qs.core → IsByteMemory qs.memory → qs.traps.base ≡ ps.traps.base → qs.reset_status ≡ ps.reset_status → qs.traces ≡ ps.traces → IsPartitionInRange ps → IsPartitionInRange qs
core_in_range ps qs core memory base status traces has = record {
  core = core;
  memory = memory;
  table = subst (λ (n : ℕ). n + 4096 ≤ 2 ^ 32) (sym base) has.table;
  status = subst (λ (n : ℕ). n < 2 ^ 32) (sym status) has.status;
  traces = subst (λ (kept : Kept TraceEntry). AllByRecursion (λ (entry : TraceEntry). AreBytes entry.load) kept.entries) (sym traces) has.traces;
}

answer_range : (value : ℕ) (ps : PartitionState) → value < 2 ^ 32 → IsPartitionInRange ps → IsPartitionInRange (with_answer value ps)
unfolding with_answer
answer_range value ps small has = with_core ps (record ps { core = with_register ps.core 8 value }) (with_register_word ps.core 8 value small has.core) refl refl refl refl has

written_range : (address : ℕ) (bytes : List ℕ) (ps : PartitionState) → AreBytes bytes → IsPartitionInRange ps → IsPartitionInRange (with_written address bytes ps)
unfolding with_written
written_range address bytes ps each has =
    core_in_range ps (record ps { memory = with_bytes ps.memory address bytes }) has.core (written_bytes ps.memory address bytes each has.memory) refl refl refl has

-- a call that acts, and one that answers
acts_so : (act : Act) (value : ℕ) (ps : PartitionState) → IsActInRange act → value < 2 ^ 32 → IsPartitionInRange ps → IsServedInRange (acting act value ps)
acts_so act value ps is small has = record { after = answer_range value ps small has; upshot = is }

answers : (value : ℕ) (ps : PartitionState) → value < 2 ^ 32 → IsPartitionInRange ps → IsServedInRange (answering value ps)
answers value ps small has = acts_so emission.Nothing value ps tt small has

-- a test refuses with a word
abbrev IsTest : Test → Type 0
IsTest None = Unit {0}
IsTest (Some code) = code < 2 ^ 32

abbrev AreTests : List Test → Type 0
AreTests tests = AllByRecursion IsTest tests

refuses : (b : Bool) (code : ℕ) → code < 2 ^ 32 → IsTest (refused_if b code)
refuses true code small = small
refuses false code small = tt

tested_range : (tests : List Test) (caller : Caller) (comes : Served) → AreTests tests → IsCallerInRange caller → IsServedInRange comes → IsServedInRange (tested tests caller comes)
tested_range [] caller comes all has is = is
tested_range (Some code ∷ tests) caller comes all has is = answers code caller.state all.0 has.state
tested_range (None ∷ tests) caller comes all has is = tested_range tests caller comes all.1 has is

target_test : (caller : Caller) (id : ℕ) → IsTest (target caller id)
target_test caller id = by (id == caller.view.id) (is_not_system caller) (not (nat_lt id caller.view.sees.parts))
  where
    by : (a b c : Bool) → IsTest (if a then None else if b then Some no_permission else refused_if c invalid_parameter)
    by true b c = tt
    by false true c = omega arith
    by false false c = refuses c invalid_parameter (omega arith)

room_test : (caller : Caller) (address size : ℕ) → IsTest (room caller address size)
room_test caller address size = refuses _ invalid_parameter (omega arith)

text_test : (caller : Caller) (address size : ℕ) → IsTest (text caller address size)
text_test caller address size = refuses _ invalid_parameter (omega arith)

system_test : (caller : Caller) → IsTest (system_only caller)
system_test caller = refuses _ no_permission (omega arith)

parameter_test : (b : Bool) → IsTest (refused_if b invalid_parameter)
parameter_test b = refuses b invalid_parameter (omega arith)

mode_test : (b : Bool) → IsTest (refused_if b invalid_mode)
mode_test b = refuses b invalid_mode (omega arith)

action_test : (b : Bool) → IsTest (refused_if b no_action)
action_test b = refuses b no_action (omega arith)

available_test : (b : Bool) → IsTest (refused_if b not_available)
available_test b = refuses b not_available (omega arith)

allowed_test : (b : Bool) → IsTest (refused_if b not_allowed)
allowed_test b = refuses b not_allowed (omega arith)

-- the bytes of the structures
pub status_bytes : (ps : PartitionState) → AreBytes (partition_status ps)
unfolding partition_status
status_bytes ps =
    append_below 256 (word (state_number ps.state) ++ word ps.resets ++ word ps.reset_status) (double ps.clocks.execution)
    (append_below 256 (word (state_number ps.state) ++ word ps.resets) (word ps.reset_status)
    (append_below 256 (word (state_number ps.state)) (word ps.resets) (number_bytes w32 (state_number ps.state)) (number_bytes w32 ps.resets)) (number_bytes w32 ps.reset_status))
    (number_bytes w64 ps.clocks.execution)

event_byte : (e : Event) → (event_row e).number < 256
event_byte event.PartitionError = omega arith
event_byte event.MemProtection = omega arith
event_byte event.UnexpectedTrap = omega arith
event_byte event.SparcIllegalInstruction = omega arith
event_byte event.SparcPrivilegedInstruction = omega arith
event_byte event.SparcFpDisabled = omega arith
event_byte event.SparcCpDisabled = omega arith
event_byte event.SparcAddressNotAligned = omega arith
event_byte event.SparcTagOverflow = omega arith
event_byte event.SparcDivideException = omega arith
event_byte event.SparcInstrAccess = omega arith
event_byte event.SparcDataAccess = omega arith

action_byte : (a : Action) → (action_row a).number < 256
action_byte action.Ignore = omega arith
action_byte action.Shutdown = omega arith
action_byte action.PartitionColdReset = omega arith
action_byte action.PartitionWarmReset = omega arith
action_byte action.Suspend = omega arith
action_byte action.Halt = omega arith
action_byte action.Propagate = omega arith
action_byte action.HypervisorColdReset = omega arith
action_byte action.HypervisorWarmReset = omega arith
action_byte action.HypervisorHalt = omega arith
action_byte action.SwitchToMaintenance = omega arith

pub health_entry_bytes : (entry : HealthEntry) → AreBytes (health_bytes entry)
unfolding health_bytes
health_entry_bytes entry =
    append_below 256 (double entry.time ++ word entry.seq ++ (event_row entry.event).number ∷ (action_row entry.action).number ∷ [] ++ to_be_bytes w16 0) (word entry.word)
    (append_below 256 (double entry.time ++ word entry.seq ++ (event_row entry.event).number ∷ (action_row entry.action).number ∷ []) (to_be_bytes w16 0)
    (append_below 256 (double entry.time ++ word entry.seq) ((event_row entry.event).number ∷ (action_row entry.action).number ∷ [])
    (append_below 256 (double entry.time) (word entry.seq) (number_bytes w64 _) (number_bytes w32 _))
    (more_below 256 (event_row entry.event).number ((action_row entry.action).number ∷ []) (event_byte entry.event)
    (more_below 256 (action_row entry.action).number [] (action_byte entry.action) (none_below 256 (omega arith)))))
    (number_bytes w16 0))
    (number_bytes w32 entry.word)

pub trace_entry_bytes : (entry : TraceEntry) → AreBytes entry.load → AreBytes (trace_bytes entry)
unfolding trace_bytes
trace_entry_bytes entry each =
    append_below 256 (double entry.time ++ word entry.bits ++ word entry.seq) entry.load
    (append_below 256 (double entry.time ++ word entry.bits) (word entry.seq)
    (append_below 256 (double entry.time) (word entry.bits) (number_bytes w64 entry.time) (number_bytes w32 entry.bits)) (number_bytes w32 entry.seq))
    each

pub count_bytes : {T : Type 0} (kept : Kept T) → AreBytes (counts_bytes kept)
unfolding counts_bytes
count_bytes kept = append_below 256 (word (first_kept kept)) (word kept.next) (number_bytes w32 _) (number_bytes w32 _)

shown_are_bytes : (sight : Sight) → HasShownBytes sight → AreBytes (shown sight)
shown_are_bytes Unseen is = none_below 256 (omega arith)
shown_are_bytes NotKept is = none_below 256 (omega arith)
shown_are_bytes (Words bytes) is = is

either_bytes : (b : Bool) (one other : List ℕ) → AreBytes one → AreBytes other → AreBytes (if b then one else other)
either_bytes true one other first second = first
either_bytes false one other first second = second

-- an entry of a log, where it is kept
pub entry_kept : {T : Type 0} (P : T → Type 0) (number : ℕ) (kept : Kept T) (Q : Option T → Type 0) → AllByRecursion P kept.entries → Q None → ((entry : T) → P entry → Q (Some entry)) → Q (entry_at number kept)
unfolding entry_at
entry_kept {T} P number kept Q each none some = by (nat_lt number (first_kept kept)) (nat_lt number kept.next)
  where
    at : (entries : List T) (k : ℕ) → AllByRecursion P entries → Q (slice_get entries k)
    at [] k all = none
    at (entry ∷ entries) zero all = some entry all.0
    at (entry ∷ entries) (suc k) all = at entries k all.1

    by : (a b : Bool) → Q (if a then None else if b then slice_get kept.entries (number - first_kept kept) else None)
    by true b = none
    by false true = at kept.entries (number - first_kept kept) each
    by false false = none

trace_read_bytes : (number : ℕ) (kept : Kept TraceEntry) → AllByRecursion (λ entry. AreBytes entry.load) kept.entries → AreBytes (bytes_of_entry trace_bytes (entry_at number kept))
trace_read_bytes number kept each =
    entry_kept (λ (entry : TraceEntry). AreBytes entry.load) number kept (λ o. AreBytes (bytes_of_entry trace_bytes o)) each (none_below 256 (omega arith)) trace_entry_bytes

health_read_bytes : (o : Option HealthEntry) → AreBytes (bytes_of_entry health_bytes o)
health_read_bytes None = none_below 256 (omega arith)
health_read_bytes (Some entry) = health_entry_bytes entry

-- the number of a port that is made is below the number of ports
position_small : {X : Type 0} (test : X → Bool) (from : ℕ) (xs : List X) (r : ℕ) → position_from test from xs ≡ Some r → r < from + length xs
position_small test from [] r is = absurd cc
position_small test from (x ∷ xs) r is = by (test x) is (λ later. position_small test (from + 1) xs r later)
  where
    by : (b : Bool) → cond b (Some from) (position_from test (from + 1) xs) ≡ Some r → (position_from test (from + 1) xs ≡ Some r → r < from + 1 + length xs) → r < from + suc (length xs)
    by true here further = let same : from ≡ r = cc in omega (arith, same)
    by false later further = let small = further later in omega (arith, small)

granted_same : (view : PartitionView) (way size most : ℕ) (made : List Bool) (port r : ℕ) → granted view.part.ports (shape_at view) way size most made port ≡ Ok r → port ≡ r
unfolding granted
granted_same view way size most made port r is = by (is_way_of way (slice_get view.part.ports port) && agrees_end size most (shape_at view port)) (shape_at view port) (is_made port made) is
  where
    by : (a : Bool) (o : Option Shape) (already : Bool) → unless_differs a o made port ≡ Ok r → port ≡ r
    by false o already said = absurd cc
    by true None already said = absurd cc
    by true (Some some) already said = at (is_made port made) said
      where
        at : (c : Bool) → unless_made c port ≡ Ok r → port ≡ r
        at true said = absurd cc
        at false said = cc

created_small : (view : PartitionView) (name : List ℕ) (the_kind : Kind) (way size most : ℕ) (made : List Bool) (r : ℕ)
    → created_over view.part.ports (shape_at view) name the_kind way size most made ≡ Ok r → r < length view.part.ports
unfolding created_over port_with
created_small view name the_kind way size most made r is = by (position_from (is_called name the_kind) 0 view.part.ports) refl is
  where
    by : (o : Option ℕ) → position_from (is_called name the_kind) 0 view.part.ports ≡ o → unless_missing (granted view.part.ports (shape_at view) way size most made) o ≡ Ok r → r < length view.part.ports
    by None found said = absurd cc
    by (Some port) found said =
        let same = granted_same view way size most made port r said in
        let small = position_small (is_called name the_kind) 0 view.part.ports port found in
        omega (arith, same, small)

refusal_word : (fault : CreateFault) → create_refusal fault < 2 ^ 32
refusal_word NoPort = omega arith
refusal_word Differs = omega arith
refusal_word NoChannel = omega arith
refusal_word Already = omega arith

creating_range : (the_kind : Kind) (way size most : ℕ) (name : Option (List ℕ)) (caller : Caller) → IsCallerInRange caller → IsServedInRange (creating the_kind way size most name caller)
creating_range the_kind way size most None caller has = answers invalid_parameter caller.state (omega arith) has.state
creating_range the_kind way size most (Some name) caller has = by (created_over caller.view.part.ports (shape_at caller.view) name the_kind way size most caller.state.made) refl
  where
    by : (answer : Result ℕ CreateFault) → created_over caller.view.part.ports (shape_at caller.view) name the_kind way size most caller.state.made ≡ answer → IsServedInRange (by_created answer caller)
    by (Err fault) is = answers (create_refusal fault) caller.state (refusal_word fault) has.state
    by (Ok r) is =
        let small = created_small caller.view name the_kind way size most caller.state.made r is in
        let few : length caller.view.part.ports ≤ 2 ^ 32 = has.view.ports in
        answers r (record caller.state { made = with_port r caller.state.made }) (omega (arith, small, few))
        (same_range caller.state (record caller.state { made = with_port r caller.state.made }) refl refl refl refl refl has.state)

-- what the channel of a made port holds is in range
abbrev IsMadeInRange : Option MadePort → Type 0
IsMadeInRange None = Unit {0}
IsMadeInRange (Some port) = IsContentInRange port.content

copy_held : (contents : List (Option Content)) (name : ℕ) → AllByRecursion IsCopyInRange contents → IsCopyInRange (slice_index_or contents name None)
copy_held [] name each = tt
copy_held (content ∷ contents) zero each = each.0
copy_held (content ∷ contents) (suc name) each = copy_held contents name each.1

held_port : (port : Port) (channel : PortChannel) (o : Option Content) → IsCopyInRange o → IsMadeInRange (port_with_content port channel o)
held_port port channel None is = tt
held_port port channel (Some content) is = is

made_in_range : (the_kind : Kind) (caller : Caller) → IsCallerInRange caller → IsMadeInRange (made_port the_kind caller)
unfolding made_port
made_in_range the_kind caller has = by (is_made (a_of caller) caller.state.made) (slice_get caller.view.part.ports (a_of caller))
  where
    on_channel : (port : Port) (o : Option PortChannel) → IsMadeInRange (with_channel caller the_kind port o)
    on_channel port None = tt
    on_channel port (Some channel) = at (are_same_kind port.kind the_kind)
      where
        at : (b : Bool) → IsMadeInRange (if b then port_with_content port channel (slice_index_or caller.contents channel.name None) else None)
        at true = held_port port channel (slice_index_or caller.contents channel.name None) (copy_held caller.contents channel.name has.contents)
        at false = tt

    by : (b : Bool) (o : Option Port) → IsMadeInRange (if b then and_then o (λ port. with_channel caller the_kind port (slice_index_or caller.view.channels (a_of caller) None)) else None)
    by false o = tt
    by true None = tt
    by true (Some port) = on_channel port (slice_index_or caller.view.channels (a_of caller) None)

on_port_range : (o : Option MadePort) (caller : Caller) (call : MadePort → Served) → IsMadeInRange o → IsCallerInRange caller → ((port : MadePort) → IsContentInRange port.content → IsServedInRange (call port)) → IsServedInRange (on_port o caller call)
on_port_range None caller call is has further = answers invalid_parameter caller.state (omega arith) has.state
on_port_range (Some port) caller call is has further = further port is

-- a message is put
puts : (address size : ℕ) (caller : Caller) (port : MadePort) → IsCallerInRange caller → IsServedInRange (putting_bytes address size caller port)
puts address size caller port has =
    acts_so (emission.Trades (OwnPuts port.name (caller_bytes caller address size))) 0 caller.state (memory_bytes caller.state.memory address size has.state.memory) (omega arith) has.state

-- a message is read; it is no longer than the call allows, and that is a word
not_longer : (most size : ℕ) → nat_lt most size ≡ false → most < 2 ^ 32 → size < 2 ^ 32
not_longer most size is small = let short : size ≤ most = grind (arith, nat_tests) in omega (arith, short, small)

sample_range : (caller : Caller) (port : MadePort) (sample : HeldSample) → AreBytes sample.bytes → IsCallerInRange caller → IsServedInRange (sample_read caller port sample)
sample_range caller port sample each has = by (nat_lt (c_of caller) (length sample.bytes)) refl
  where
    first : IsPartitionInRange (with_written (b_of caller) sample.bytes caller.state)
    first = written_range (b_of caller) sample.bytes caller.state each has.state

    second : IsPartitionInRange (with_written (d_of caller) (word (validity port.shape.kind caller.time sample)) (with_written (b_of caller) sample.bytes caller.state))
    second = written_range (d_of caller) (word (validity port.shape.kind caller.time sample)) (with_written (b_of caller) sample.bytes caller.state) (number_bytes w32 _) first

    by : (b : Bool) → nat_lt (c_of caller) (length sample.bytes) ≡ b → IsServedInRange (
        tested (refused_if b invalid_parameter ∷ room caller (b_of caller) (length sample.bytes) ∷ room caller (d_of caller) 4 ∷ []) caller
        (answering (length sample.bytes) (with_written (d_of caller) (word (validity port.shape.kind caller.time sample)) (with_written (b_of caller) sample.bytes caller.state))))
    by true is = answers invalid_parameter caller.state (omega arith) has.state
    by false is =
        tested_range (room caller (b_of caller) (length sample.bytes) ∷ room caller (d_of caller) 4 ∷ []) caller _ (room_test caller (b_of caller) (length sample.bytes), (room_test caller (d_of caller) 4, tt)) has
        (answers (length sample.bytes) _ (not_longer (c_of caller) (length sample.bytes) is (register_word caller.state.core 11 has.state.core)) second)

held_range : (content : Content) (caller : Caller) (port : MadePort) → IsContentInRange content → IsCallerInRange caller → IsServedInRange (held_read (sample_of content) caller port)
held_range (Sampling None) caller port is has = answers no_action caller.state (omega arith) has.state
held_range (Sampling (Some sample)) caller port is has = sample_range caller port sample is has
held_range (Queuing messages) caller port is has = answers no_action caller.state (omega arith) has.state

message_range : (caller : Caller) (port : MadePort) (message : List ℕ) → AreBytes message → IsCallerInRange caller → IsServedInRange (message_read caller port message)
message_range caller port message each has = by (nat_lt (c_of caller) (length message)) refl
  where
    by : (b : Bool) → nat_lt (c_of caller) (length message) ≡ b → IsServedInRange (
        tested (refused_if b invalid_parameter ∷ room caller (b_of caller) (length message) ∷ []) caller
        (acting (emission.Trades (OwnTakes port.name)) (length message) (with_written (b_of caller) message caller.state)))
    by true is = answers invalid_parameter caller.state (omega arith) has.state
    by false is =
        tested_range (room caller (b_of caller) (length message) ∷ []) caller _ (room_test caller (b_of caller) (length message), tt) has
        (acts_so (emission.Trades (OwnTakes port.name)) (length message) (with_written (b_of caller) message caller.state) tt
        (not_longer (c_of caller) (length message) is (register_word caller.state.core 11 has.state.core)) (written_range (b_of caller) message caller.state each has.state))

first_range : (content : Content) (caller : Caller) (port : MadePort) → IsContentInRange content → IsCallerInRange caller → IsServedInRange (first_read (first_message content) caller port)
first_range (Sampling None) caller port is has = answers not_available caller.state (omega arith) has.state
first_range (Sampling (Some sample)) caller port is has = answers not_available caller.state (omega arith) has.state
first_range (Queuing []) caller port is has = answers not_available caller.state (omega arith) has.state
first_range (Queuing (message ∷ messages)) caller port is has = message_range caller port message is.0 has

-- the status of a port
sample_status_bytes : (the_kind : ChanKind) (time : ℕ) (o : Option HeldSample) → AreBytes (sample_status the_kind time o)
sample_status_bytes the_kind time None = append_below 256 (double 0 ++ word 0) (word 0) (append_below 256 (double 0) (word 0) (number_bytes w64 0) (number_bytes w32 0)) (number_bytes w32 0)
sample_status_bytes the_kind time (Some sample) =
    append_below 256 (double sample.time ++ word (length sample.bytes)) (word (validity the_kind time sample))
    (append_below 256 (double sample.time) (word (length sample.bytes)) (number_bytes w64 _) (number_bytes w32 _)) (number_bytes w32 _)

sampling_status_bytes : (the_kind : ChanKind) (time : ℕ) (content : Content) → AreBytes (sampling_status the_kind time content)
unfolding sampling_status
sampling_status_bytes the_kind time content = sample_status_bytes the_kind time (sample_of content)

queuing_status_bytes : (the_kind : ChanKind) (content : Content) → AreBytes (queuing_status the_kind content)
unfolding queuing_status
queuing_status_bytes the_kind content = append_below 256 (word (length (messages_of content))) (word (most_of the_kind)) (number_bytes w32 _) (number_bytes w32 _)

-- the calls on traces and on the health log
all_more : (entries : List TraceEntry) (entry : TraceEntry) → AreBytes entry.load → AllByRecursion (λ (e : TraceEntry). AreBytes e.load) entries → AllByRecursion (λ (e : TraceEntry). AreBytes e.load) (entries ++ entry ∷ [])
all_more [] entry each all = (each, tt)
all_more (one ∷ entries) entry each all = (all.0, all_more entries entry each all.1)

all_last : (n : ℕ) (entries : List TraceEntry) → AllByRecursion (λ (e : TraceEntry). AreBytes e.load) entries → AllByRecursion (λ (e : TraceEntry). AreBytes e.load) (drop n entries)
all_last zero entries all = all
all_last (suc n) [] all = tt
all_last (suc n) (entry ∷ entries) all = all_last n entries all.1

traced_range : (caller : Caller) → IsCallerInRange caller → IsPartitionInRange (record caller.state { traces = noted (trace_entry caller) caller.state.traces })
unfolding noted
traced_range caller has = record {
  core = has.state.core;
  memory = has.state.memory;
  table = has.state.table;
  status = has.state.status;
  traces = all_last _ (caller.state.traces.entries ++ trace_entry caller ∷ [])
      (all_more caller.state.traces.entries (trace_entry caller) (memory_bytes caller.state.memory (b_of caller) 8 has.state.memory) has.state.traces);
}

tracing_range : (caller : Caller) → IsCallerInRange caller → IsServedInRange (tracing caller)
tracing_range caller has = record {
  after = answer_range 0 (record caller.state { traces = noted (trace_entry caller) caller.state.traces }) (omega arith) (traced_range caller has);
  upshot = tt;
}

input_range : (inputs : List ℕ) (caller : Caller) → IsCallerInRange caller → IsServedInRange (input_read inputs caller)
unfolding with_written
input_range [] caller has = answers not_available caller.state (omega arith) has.state
input_range (next ∷ rest) caller has =
    tested_range (room caller (a_of caller) 4 ∷ []) caller _ (room_test caller (a_of caller) 4, tt) has
    (answers 0 (record (with_written (a_of caller) (word next) caller.state) { inputs = rest }) (omega arith)
    (same_range (with_written (a_of caller) (word next) caller.state) (record (with_written (a_of caller) (word next) caller.state) { inputs = rest }) refl refl refl refl refl
    (written_range (a_of caller) (word next) caller.state (number_bytes w32 next) has.state)))

-- a call that is undone
undone_range : (caller : Caller) (ps : PartitionState) → IsCallerInRange caller → IsPartitionInRange ps → IsServedInRange (undone caller ps)
undone_range caller ps has is = record {
  after = with_core ps (record ps { core = record ps.core { pc = caller.pc; npc = caller.npc } }) (placed_words ps.core caller.pc caller.npc has.pc has.npc is.core) refl refl refl refl is;
  upshot = tt;
}

return_range : (answer : Result (Unit {0}) IretFault) (r : Returned) (caller : Caller) → AreWordRegisters r.core → r.traps.base ≡ caller.state.traps.base → IsCallerInRange caller → IsServedInRange (by_return answer r caller)
return_range (Ok left) r caller core base has = record { after = with_core caller.state (record caller.state { core = r.core; traps = r.traps }) core refl base refl refl has.state; upshot = tt }
return_range (Err Unaligned) r caller core base has = answers invalid_parameter caller.state (omega arith) has.state
return_range (Err Stack) r caller core base has = undone_range caller caller.state has has.state

table_ends : (a : ℕ) → a < 2 ^ 32 → a - a % 4096 + 4096 ≤ 2 ^ 32
table_ends a small = omega (arith, small)

flushed_range : (count : ℕ) (areas : List Area) (moved : Moved) → IsMovedInRange moved → IsMovedInRange (flushed count areas moved)
flushed_range zero areas moved is = is
flushed_range (suc count) areas moved is = by ((moved.core.cwp + 1) % 8 == moved.core.inv) (spilled areas moved.core moved.memory).answer (flushed_range count areas (spilled areas moved.core moved.memory) (spill_in_range areas moved.core moved.memory is.core is.memory))
  where
    by : (b : Bool) (answer : Result (Unit {0}) StackFault) → IsMovedInRange (flushed count areas (spilled areas moved.core moved.memory))
        → IsMovedInRange (if b then moved else flushed_after (flushed count areas) (spilled areas moved.core moved.memory) answer)
    by true answer further = is
    by false (Ok one) further = further
    by false (Err fault) further = spill_in_range areas moved.core moved.memory is.core is.memory

flush_range : (answer : Result (Unit {0}) StackFault) (ps : PartitionState) (caller : Caller) → IsPartitionInRange ps → IsCallerInRange caller → IsServedInRange (by_flush answer ps caller)
flush_range (Ok all) ps caller is has = answers 0 ps (omega arith) is
flush_range (Err fault) ps caller is has = undone_range caller ps has is

-- the bytes of each of these are bytes
abbrev AreWritings : List Writing → Type 0
AreWritings writings = AllByRecursion (λ (writing : Writing). AreBytes writing.bytes) writings

writings_range : (writings : List Writing) (ps : PartitionState) → AreWritings writings → IsPartitionInRange ps → IsPartitionInRange (with_writings writings ps)
writings_range [] ps each has = has
writings_range (writing ∷ writings) ps each has = writings_range writings (with_written writing.address writing.bytes ps) each.1 (written_range writing.address writing.bytes ps each.0 has)

-- the numbers of what is changed
abbrev IsChangeInRange : OwnChange → Type 0
IsChangeInRange Waits = Unit {0}
IsChangeInRange (ArmsTimer clock timer) = Unit {0}
IsChangeInRange (SetsMask mask) = Unit {0}
IsChangeInRange (SetsCodes icc enabled) = icc < 16
IsChangeInRange (SetsBase base) = base + 4096 ≤ 2 ^ 32

change_range : (change : OwnChange) (ps : PartitionState) → IsChangeInRange change → IsPartitionInRange ps → IsPartitionInRange (with_change change ps)
change_range Waits ps is has = same_range ps (record ps { state = Idle }) refl refl refl refl refl has
change_range (ArmsTimer clock timer) ps is has = same_range ps (with_change (ArmsTimer clock timer) ps) refl refl refl refl refl has
change_range (SetsMask mask) ps is has = same_range ps (with_change (SetsMask mask) ps) refl refl refl refl refl has
change_range (SetsCodes icc enabled) ps is has = with_core ps (with_change (SetsCodes icc enabled) ps) (with_icc_words ps.core icc is has.core) refl refl refl refl has
change_range (SetsBase base) ps is has = record { core = has.core; memory = has.memory; table = is; status = has.status; traces = has.traces }

-- the numbers of an effect
abbrev IsEffectInRange : CallEffect → Type 0
IsEffectInRange (GivesAnswer value writings) = (value < 2 ^ 32) × AreWritings writings
IsEffectInRange (PrintsBytes bytes value) = value < 2 ^ 32
IsEffectInRange (GivesOrder id an_order) = IsOrder (Some an_order)
IsEffectInRange (DoesToAll event) = Unit {0}
IsEffectInRange (RequestsPlan plan writings) = AreWritings writings
IsEffectInRange (PutsBytes the_kind address size) = Unit {0}
IsEffectInRange TakesMessage = Unit {0}
IsEffectInRange (SendsSignal number) = Unit {0}
IsEffectInRange ShowsSample = Unit {0}
IsEffectInRange (ShowsPort the_kind size status) = (port : MadePort) → AreBytes (status port)
IsEffectInRange (CreatesPort the_kind way size most name) = Unit {0}
IsEffectInRange (ChangesOwn change) = IsChangeInRange change
IsEffectInRange EntersTrace = Unit {0}
IsEffectInRange UsesInput = Unit {0}
IsEffectInRange (MeetsEvent event word) = Unit {0}
IsEffectInRange GoesBack = Unit {0}
IsEffectInRange SpillsWindows = Unit {0}

-- the tests of a right refuse with words
right_range : (effect : CallEffect) (caller : Caller) → AreTests (right_tests effect caller)
right_range (GivesAnswer value writings) caller = tt
right_range (PrintsBytes bytes value) caller = tt
right_range (GivesOrder id an_order) caller = (target_test caller id, tt)
right_range (DoesToAll event) caller = (system_test caller, tt)
right_range (RequestsPlan plan writings) caller = (system_test caller, (parameter_test _, tt))
right_range (PutsBytes the_kind address size) caller = tt
right_range TakesMessage caller = tt
right_range (SendsSignal number) caller = (parameter_test _, tt)
right_range ShowsSample caller = tt
right_range (ShowsPort the_kind size status) caller = tt
right_range (CreatesPort the_kind way size most name) caller = tt
right_range (ChangesOwn change) caller = tt
right_range EntersTrace caller = tt
right_range UsesInput caller = tt
right_range (MeetsEvent event word) caller = tt
right_range GoesBack caller = tt
right_range SpillsWindows caller = tt

more_tests : (one other : List Test) → AreTests one → AreTests other → AreTests (one ++ other)
more_tests [] other first second = second
more_tests (test ∷ tests) other first second = (first.0, more_tests tests other first.1 second)

-- a message that is put through a port of a kind
put_range : (the_kind : Kind) (address size : ℕ) (caller : Caller) (port : MadePort) → IsCallerInRange caller
    → IsServedInRange (tested (source_only port ∷ size_fits port size ∷ text caller address size ∷ queue_room the_kind port) caller (putting_bytes address size caller port))
put_range kind.Sampling address size caller port has =
    tested_range (source_only port ∷ size_fits port size ∷ text caller address size ∷ []) caller (putting_bytes address size caller port)
    (allowed_test _, (parameter_test _, (text_test caller address size, tt))) has (puts address size caller port has)
put_range kind.Queuing address size caller port has =
    tested_range (source_only port ∷ size_fits port size ∷ text caller address size ∷ refused_if (is_full port) not_available ∷ []) caller (putting_bytes address size caller port)
    (allowed_test _, (parameter_test _, (text_test caller address size, (available_test _, tt)))) has (puts address size caller port has)

-- the outcome of each effect
effect_range : (effect : CallEffect) (caller : Caller) → IsEffectInRange effect → IsCallerInRange caller → IsServedInRange (comes_to effect caller)
effect_range (GivesAnswer value writings) caller is has = answers value (with_writings writings caller.state) is.0 (writings_range writings caller.state is.1 has.state)
effect_range (PrintsBytes bytes value) caller is has = record { after = answer_range value caller.state is has.state; upshot = tt }
effect_range (GivesOrder id an_order) caller is has = acts_so (emission.Upon id an_order) 0 caller.state is (omega arith) has.state
effect_range (DoesToAll event) caller is has = acts_so (emission.UponAll event) 0 caller.state tt (omega arith) has.state
effect_range (RequestsPlan plan writings) caller is has = acts_so (emission.Plans (emission.Asked plan)) 0 (with_writings writings caller.state) tt (omega arith) (writings_range writings caller.state is has.state)
effect_range (PutsBytes the_kind address size) caller is has = on_port_range (made_port the_kind caller) caller _ (made_in_range the_kind caller has) has (λ port in_range. put_range the_kind address size caller port has)
effect_range TakesMessage caller is has = on_port_range (made_port kind.Queuing caller) caller _ (made_in_range kind.Queuing caller has) has (λ port in_range.
    tested_range (destination_only port ∷ []) caller _ (allowed_test _, tt) has (first_range port.content caller port in_range has))
effect_range (SendsSignal number) caller is has = acts_so (emission.Trades (OwnSignals number)) 0 caller.state tt (omega arith) has.state
effect_range ShowsSample caller is has = on_port_range (made_port kind.Sampling caller) caller _ (made_in_range kind.Sampling caller has) has (λ port in_range.
    tested_range (destination_only port ∷ []) caller _ (allowed_test _, tt) has (held_range port.content caller port in_range has))
effect_range (ShowsPort the_kind size status) caller is has = on_port_range (made_port the_kind caller) caller _ (made_in_range the_kind caller has) has (λ port in_range.
    tested_range (room caller (b_of caller) size ∷ []) caller _ (room_test caller (b_of caller) size, tt) has
    (answers 0 (with_written (b_of caller) (status port) caller.state) (omega arith) (written_range (b_of caller) (status port) caller.state (is port) has.state)))
effect_range (CreatesPort the_kind way size most name) caller is has = creating_range the_kind way size most name caller has
effect_range (ChangesOwn change) caller is has = answers 0 (with_change change caller.state) (omega arith) (change_range change caller.state is has.state)
effect_range EntersTrace caller is has = tracing_range caller has
effect_range UsesInput caller is has = input_range caller.state.inputs caller has
effect_range (MeetsEvent event word) caller is has = record { after = answer_range 0 caller.state (omega arith) has.state; upshot = tt }
effect_range GoesBack caller is has =
    let r = returned (areas_of caller.view) caller.state.traps caller.state.core caller.state.memory in
    let in_range = returned_in_range (areas_of caller.view) caller.state.traps caller.state.core caller.state.memory has.state.core has.state.memory in
    return_range r.answer r caller in_range.core in_range.base has
effect_range SpillsWindows caller is has =
    let moved = flushed 8 (areas_of caller.view) (move_made caller.state.core caller.state.memory) in
    let in_range = flushed_range 8 (areas_of caller.view) (move_made caller.state.core caller.state.memory) (record { core = has.state.core; memory = has.state.memory }) in
    flush_range moved.answer (record caller.state { core = moved.core; memory = moved.memory }) caller
    (core_in_range caller.state (record caller.state { core = moved.core; memory = moved.memory }) in_range.core in_range.memory refl refl refl has.state) has

-- an effect after tests is in range
record IsAskedInRange (asked : TestedEffect) : Type 0 where
  tests : AreTests asked.tests
  effect : IsEffectInRange asked.effect

-- so is what each call tests and does
call_in_range : (call : Call) (caller : Caller) → IsCallerInRange caller → IsAskedInRange (effect_of_call call caller)
call_in_range GetSelf caller has = record { tests = tt; effect = (has.view.id, tt) }
call_in_range HaltPartition caller has = record { tests = tt; effect = tt }
call_in_range ResetPartition caller has = record { tests = (mode_test _, tt); effect = register_word caller.state.core 11 has.state.core }
call_in_range SuspendPartition caller has = record { tests = tt; effect = tt }
call_in_range ResumePartition caller has = record { tests = tt; effect = tt }
call_in_range ShutdownPartition caller has = record { tests = tt; effect = tt }
call_in_range IdleSelf caller has = record { tests = tt; effect = tt }
call_in_range GetPartitionStatus caller has = record {
  tests = (target_test caller (a_of caller), (room_test caller (b_of caller) 20, tt));
  effect = (omega arith, (either_bytes (a_of caller == caller.view.id) (partition_status caller.state) (shown caller.sight) (status_bytes caller.state) (shown_are_bytes caller.sight has.sight), tt));
}
call_in_range HaltSystem caller has = record { tests = tt; effect = tt }
call_in_range ResetSystem caller has = record { tests = (mode_test _, tt); effect = tt }
call_in_range GetSystemStatus caller has = record { tests = (system_test caller, (room_test caller (a_of caller) 8, tt)); effect = (omega arith, (shown_are_bytes caller.sight has.sight, tt)) }
call_in_range GetTime caller has = record { tests = (parameter_test _, (room_test caller (b_of caller) 8, tt)); effect = (omega arith, (number_bytes w64 _, tt)) }
call_in_range SetTimer caller has = record { tests = (parameter_test _, (parameter_test _, tt)); effect = tt }
call_in_range SwitchSchedPlan caller has = record { tests = (room_test caller (b_of caller) 4, tt); effect = (shown_are_bytes caller.sight has.sight, tt) }
call_in_range GetPlanStatus caller has = record { tests = (system_test caller, (room_test caller (a_of caller) 20, tt)); effect = (omega arith, (shown_are_bytes caller.sight has.sight, tt)) }
call_in_range CreateSamplingPort caller has = record { tests = tt; effect = tt }
call_in_range WriteSamplingMessage caller has = record { tests = tt; effect = tt }
call_in_range ReadSamplingMessage caller has = record { tests = tt; effect = tt }
call_in_range GetSamplingPortStatus caller has = record { tests = tt; effect = λ port. sampling_status_bytes port.shape.kind caller.time port.content }
call_in_range CreateQueuingPort caller has = record { tests = tt; effect = tt }
call_in_range SendQueuingMessage caller has = record { tests = tt; effect = tt }
call_in_range ReceiveQueuingMessage caller has = record { tests = tt; effect = tt }
call_in_range GetQueuingPortStatus caller has = record { tests = tt; effect = λ port. queuing_status_bytes port.shape.kind port.content }
call_in_range TraceEvent caller has = record { tests = (text_test caller (b_of caller) 8, (action_test _, tt)); effect = tt }
call_in_range TraceRead caller has = record {
  tests = (target_test caller (a_of caller), (available_test _, (room_test caller (c_of caller) 24, tt)));
  effect = (omega arith, (either_bytes (is_own caller) (bytes_of_entry trace_bytes (entry_at (b_of caller) caller.state.traces)) (shown caller.sight) (trace_read_bytes (b_of caller) caller.state.traces has.state.traces) (shown_are_bytes caller.sight has.sight), tt));
}
call_in_range TraceStatus caller has = record {
  tests = (target_test caller (a_of caller), (room_test caller (b_of caller) 8, tt));
  effect = (omega arith, (either_bytes (is_own caller) (counts_bytes caller.state.traces) (shown caller.sight) (count_bytes caller.state.traces) (shown_are_bytes caller.sight has.sight), tt));
}
call_in_range RaiseEvent caller has = record { tests = tt; effect = tt }
call_in_range HmRead caller has = record {
  tests = (target_test caller (a_of caller), (available_test _, (room_test caller (c_of caller) 20, tt)));
  effect = (omega arith, (either_bytes (is_own caller) (bytes_of_entry health_bytes (entry_at (b_of caller) caller.state.health)) (shown caller.sight) (health_read_bytes (entry_at (b_of caller) caller.state.health)) (shown_are_bytes caller.sight has.sight), tt));
}
call_in_range HmStatus caller has = record {
  tests = (target_test caller (a_of caller), (room_test caller (b_of caller) 8, tt));
  effect = (omega arith, (either_bytes (is_own caller) (counts_bytes caller.state.health) (shown caller.sight) (count_bytes caller.state.health) (shown_are_bytes caller.sight has.sight), tt));
}
call_in_range SetIrqmask caller has = record { tests = tt; effect = tt }
call_in_range ClearIrqmask caller has = record { tests = tt; effect = tt }
call_in_range WriteConsole caller has = record { tests = (parameter_test _, (text_test caller (a_of caller) (b_of caller), tt)); effect = register_word caller.state.core 10 has.state.core }
call_in_range ReadInput caller has = record { tests = tt; effect = tt }
call_in_range Iret caller has = record { tests = tt; effect = tt }
call_in_range SetPsr caller has = record { tests = tt; effect = omega arith }
call_in_range SetTbr caller has = record { tests = tt; effect = table_ends (a_of caller) (register_word caller.state.core 9 has.state.core) }
call_in_range FlushRegwin caller has = record { tests = tt; effect = tt }
call_in_range RaiseIpvi caller has = record { tests = tt; effect = tt }

asked_range : (asked : TestedEffect) (caller : Caller) → IsAskedInRange asked → IsCallerInRange caller → IsServedInRange (performed asked caller)
asked_range asked caller is has =
    tested_range (right_tests asked.effect caller ++ asked.tests) caller (comes_to asked.effect caller)
    (more_tests (right_tests asked.effect caller) asked.tests (right_range asked.effect caller) is.tests) has (effect_range asked.effect caller is.effect has)

pub served_range : (caller : Caller) → IsCallerInRange caller → IsServedInRange (served caller)
served_range caller has =
    every_call caller IsServedInRange (λ call. asked_range (effect_of_call call caller) caller (call_in_range call caller has) has) (answers unknown_call caller.state (omega arith) has.state)
