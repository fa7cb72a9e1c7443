-- The hypercalls: their numbers, and what each tests and does.
use Rattle.std.specs.Int.{bit_at, bit_not, w32}
use Rattle.std.specs.Prelude.{ℕ, if◌then◌else◌, ◌%◌, ◌-◌, ◌/◌, ◌==◌, ◌^◌, ◌||◌, ◌∷◌, List, None, Option, Some, [], bit_and, bit_or, nat_lt}
use Rattle.virt_clocks.specs.Clocks.{armed}
use Rattle.xm_base.specs.declared.limits.TheConstants.{CONSOLE_BYTES}
use Rattle.xm_base.specs.declared.partition.Order.TheVariants as order
use Rattle.xm_conf.specs.declared.health.Event.TheVariants.{PartitionError}
use Rattle.xm_conf.specs.declared.port.Kind.TheVariants as kind
use Rattle.xm_traces.specs.Ring.{Kept}
use Rattle.machine_model.specs.Caller.{Caller, Served, Test, a_of, answering, b_of, c_of, caller_bytes, d_of, e_of, invalid_mode, invalid_parameter, is_neither, mode_numbered, no_action, not_available, refused_if, room, shown, system_only, target, text, unknown_call}
use Rattle.machine_model.specs.Effects.{ArmsTimer, CallEffect, ChangesOwn, CreatesPort, DoesToAll, EntersTrace, GivesAnswer, GivesOrder, GoesBack, MeetsEvent, OwnChange, PrintsBytes, PutsBytes, RequestsPlan, SendsSignal, SetsBase, SetsCodes, SetsMask, ShowsPort, ShowsSample, SpillsWindows, TakesMessage, TestedEffect, UsesInput, Waits, Writing, performed}
use Rattle.machine_model.specs.PortEffects.{name_given}
use Rattle.machine_model.specs.Readings.{clock_numbered, clock_of, entry_seen, is_missing, is_negative, joined, log_counts, status_seen}
use Rattle.machine_model.specs.Structures.{double, health_bytes, queuing_status, sampling_status, trace_bytes}
use Rattle.machine_model.specs.Emission.{AllHalted, AllReset}
pub use Rattle.machine_model.specs.declared.numbers.Call.{Call}
pub use Rattle.machine_model.specs.declared.numbers.Call.TheVariants.{GetSelf, HaltPartition, ResetPartition, SuspendPartition, ResumePartition, ShutdownPartition, IdleSelf, GetPartitionStatus, HaltSystem, ResetSystem, GetSystemStatus, GetTime, SetTimer, SwitchSchedPlan, GetPlanStatus, CreateSamplingPort, WriteSamplingMessage, ReadSamplingMessage, GetSamplingPortStatus, CreateQueuingPort, SendQueuingMessage, ReceiveQueuingMessage, GetQueuingPortStatus, TraceEvent, TraceRead, TraceStatus, RaiseEvent, HmRead, HmStatus, SetIrqmask, ClearIrqmask, WriteConsole, ReadInput, Iret, SetPsr, SetTbr, FlushRegwin, RaiseIpvi}

-- an effect after these tests
abbrev pub where_passed : List Test → CallEffect → TestedEffect
where_passed tests effect = record { tests = tests; effect = effect }

-- an effect that needs no test but those of its right
abbrev pub always : CallEffect → TestedEffect
always effect = where_passed [] effect

-- bytes at an address
abbrev pub written_at : ℕ → List ℕ → List Writing
written_at address bytes = record { address = address; bytes = bytes } ∷ []

-- the timer of clock a is set, with the deadline b:c and the interval d:e
abbrev pub timer_set : Caller → OwnChange
timer_set caller = ArmsTimer (clock_numbered (a_of caller)) (armed (joined (b_of caller) (c_of caller)) (joined (d_of caller) (e_of caller)))

-- an entry of this many bytes of a log, the caller's own or another's, is read to c
abbrev pub entry_read : {T : Type 0} → ℕ → (T → List ℕ) → Kept T → Caller → TestedEffect
entry_read size bytes kept caller =
    where_passed (target caller (a_of caller) ∷ refused_if (is_missing caller kept) not_available ∷ room caller (c_of caller) size ∷ [])
    (GivesAnswer 0 (written_at (c_of caller) (entry_seen bytes caller kept)))

-- the counts of a log, the caller's own or another's, are read to b
abbrev pub counts_read : {T : Type 0} → Kept T → Caller → TestedEffect
counts_read kept caller =
    where_passed (target caller (a_of caller) ∷ room caller (b_of caller) 8 ∷ []) (GivesAnswer 0 (written_at (b_of caller) (log_counts caller kept)))

-- what each call tests, in this order, and does; a to e are its arguments
abbrev pub effect_of_call : Call → Caller → TestedEffect
effect_of_call GetSelf caller = always (GivesAnswer caller.view.id [])
effect_of_call HaltPartition caller = always (GivesOrder (a_of caller) order.Halt)
effect_of_call ResetPartition caller =
    where_passed (refused_if (is_neither (b_of caller)) invalid_mode ∷ [])
    (GivesOrder (a_of caller) (order.Reset (mode_numbered (b_of caller)) (c_of caller)))
effect_of_call SuspendPartition caller = always (GivesOrder (a_of caller) order.Suspend)
effect_of_call ResumePartition caller = always (GivesOrder (a_of caller) order.Resume)
effect_of_call ShutdownPartition caller = always (GivesOrder (a_of caller) order.Shutdown)
effect_of_call IdleSelf caller = always (ChangesOwn Waits)
effect_of_call GetPartitionStatus caller =
    where_passed (target caller (a_of caller) ∷ room caller (b_of caller) 20 ∷ [])
    (GivesAnswer 0 (written_at (b_of caller) (status_seen caller)))
effect_of_call HaltSystem caller = always (DoesToAll AllHalted)
effect_of_call ResetSystem caller =
    where_passed (refused_if (is_neither (a_of caller)) invalid_mode ∷ [])
    (DoesToAll (AllReset (mode_numbered (a_of caller))))
effect_of_call GetSystemStatus caller =
    where_passed (system_only caller ∷ room caller (a_of caller) 8 ∷ [])
    (GivesAnswer 0 (written_at (a_of caller) (shown caller.sight)))
effect_of_call GetTime caller =
    where_passed (refused_if (is_neither (a_of caller)) invalid_parameter ∷ room caller (b_of caller) 8 ∷ [])
    (GivesAnswer 0 (written_at (b_of caller) (double (clock_of (clock_numbered (a_of caller)) caller))))
effect_of_call SetTimer caller =
    where_passed (refused_if (is_neither (a_of caller)) invalid_parameter ∷ refused_if (is_negative (b_of caller) || is_negative (d_of caller)) invalid_parameter ∷ [])
    (ChangesOwn (timer_set caller))
effect_of_call SwitchSchedPlan caller =
    where_passed (room caller (b_of caller) 4 ∷ [])
    (RequestsPlan (a_of caller) (written_at (b_of caller) (shown caller.sight)))
effect_of_call GetPlanStatus caller =
    where_passed (system_only caller ∷ room caller (a_of caller) 20 ∷ [])
    (GivesAnswer 0 (written_at (a_of caller) (shown caller.sight)))
effect_of_call CreateSamplingPort caller = always (CreatesPort kind.Sampling (c_of caller) (b_of caller) 0 (name_given caller))
effect_of_call WriteSamplingMessage caller = always (PutsBytes kind.Sampling (b_of caller) (c_of caller))
effect_of_call ReadSamplingMessage caller = always ShowsSample
effect_of_call GetSamplingPortStatus caller = always (ShowsPort kind.Sampling 16 (λ port. sampling_status port.shape.kind caller.time port.content))
effect_of_call CreateQueuingPort caller = always (CreatesPort kind.Queuing (d_of caller) (c_of caller) (b_of caller) (name_given caller))
effect_of_call SendQueuingMessage caller = always (PutsBytes kind.Queuing (b_of caller) (c_of caller))
effect_of_call ReceiveQueuingMessage caller = always TakesMessage
effect_of_call GetQueuingPortStatus caller = always (ShowsPort kind.Queuing 8 (λ port. queuing_status port.shape.kind port.content))
effect_of_call TraceEvent caller =
    where_passed (text caller (b_of caller) 8 ∷ refused_if (bit_and (a_of caller) caller.view.part.trace_mask == 0) no_action ∷ [])
    EntersTrace
effect_of_call TraceRead caller = entry_read 24 trace_bytes caller.state.traces caller
effect_of_call TraceStatus caller = counts_read caller.state.traces caller
effect_of_call RaiseEvent caller = always (MeetsEvent PartitionError (a_of caller))
effect_of_call HmRead caller = entry_read 20 health_bytes caller.state.health caller
effect_of_call HmStatus caller = counts_read caller.state.health caller
effect_of_call SetIrqmask caller = always (ChangesOwn (SetsMask (bit_or caller.state.traps.mask (a_of caller))))
effect_of_call ClearIrqmask caller = always (ChangesOwn (SetsMask (bit_and caller.state.traps.mask (bit_not w32 (a_of caller)))))
effect_of_call WriteConsole caller =
    where_passed (refused_if (nat_lt CONSOLE_BYTES (b_of caller)) invalid_parameter ∷ text caller (a_of caller) (b_of caller) ∷ [])
    (PrintsBytes (caller_bytes caller (a_of caller) (b_of caller)) (b_of caller))
effect_of_call ReadInput caller = always UsesInput
effect_of_call Iret caller = always GoesBack
effect_of_call SetPsr caller = always (ChangesOwn (SetsCodes (a_of caller / 2 ^ 20 % 16) (bit_at (a_of caller) 5 == 1)))
effect_of_call SetTbr caller = always (ChangesOwn (SetsBase (a_of caller - a_of caller % 4096)))
effect_of_call FlushRegwin caller = always SpillsWindows
effect_of_call RaiseIpvi caller = always (SendsSignal (a_of caller))

-- the number of a call
abbrev pub number_of_call : Call → ℕ
number_of_call GetSelf = 1
number_of_call HaltPartition = 2
number_of_call ResetPartition = 3
number_of_call SuspendPartition = 4
number_of_call ResumePartition = 5
number_of_call ShutdownPartition = 6
number_of_call IdleSelf = 7
number_of_call GetPartitionStatus = 8
number_of_call HaltSystem = 9
number_of_call ResetSystem = 10
number_of_call GetSystemStatus = 11
number_of_call GetTime = 12
number_of_call SetTimer = 13
number_of_call SwitchSchedPlan = 14
number_of_call GetPlanStatus = 15
number_of_call CreateSamplingPort = 16
number_of_call WriteSamplingMessage = 17
number_of_call ReadSamplingMessage = 18
number_of_call GetSamplingPortStatus = 19
number_of_call CreateQueuingPort = 20
number_of_call SendQueuingMessage = 21
number_of_call ReceiveQueuingMessage = 22
number_of_call GetQueuingPortStatus = 23
number_of_call TraceEvent = 24
number_of_call TraceRead = 25
number_of_call TraceStatus = 26
number_of_call RaiseEvent = 27
number_of_call HmRead = 28
number_of_call HmStatus = 29
number_of_call SetIrqmask = 30
number_of_call ClearIrqmask = 31
number_of_call WriteConsole = 32
number_of_call ReadInput = 33
number_of_call Iret = 34
number_of_call SetPsr = 35
number_of_call SetTbr = 36
number_of_call FlushRegwin = 37
number_of_call RaiseIpvi = 38

-- the call of a number, where it is a call's
abbrev pub call_of : ℕ → Option Call
call_of number =
    if number == 1 then Some GetSelf
    else if number == 2 then Some HaltPartition
    else if number == 3 then Some ResetPartition
    else if number == 4 then Some SuspendPartition
    else if number == 5 then Some ResumePartition
    else if number == 6 then Some ShutdownPartition
    else if number == 7 then Some IdleSelf
    else if number == 8 then Some GetPartitionStatus
    else if number == 9 then Some HaltSystem
    else if number == 10 then Some ResetSystem
    else if number == 11 then Some GetSystemStatus
    else if number == 12 then Some GetTime
    else if number == 13 then Some SetTimer
    else if number == 14 then Some SwitchSchedPlan
    else if number == 15 then Some GetPlanStatus
    else if number == 16 then Some CreateSamplingPort
    else if number == 17 then Some WriteSamplingMessage
    else if number == 18 then Some ReadSamplingMessage
    else if number == 19 then Some GetSamplingPortStatus
    else if number == 20 then Some CreateQueuingPort
    else if number == 21 then Some SendQueuingMessage
    else if number == 22 then Some ReceiveQueuingMessage
    else if number == 23 then Some GetQueuingPortStatus
    else if number == 24 then Some TraceEvent
    else if number == 25 then Some TraceRead
    else if number == 26 then Some TraceStatus
    else if number == 27 then Some RaiseEvent
    else if number == 28 then Some HmRead
    else if number == 29 then Some HmStatus
    else if number == 30 then Some SetIrqmask
    else if number == 31 then Some ClearIrqmask
    else if number == 32 then Some WriteConsole
    else if number == 33 then Some ReadInput
    else if number == 34 then Some Iret
    else if number == 35 then Some SetPsr
    else if number == 36 then Some SetTbr
    else if number == 37 then Some FlushRegwin
    else if number == 38 then Some RaiseIpvi
    else None

-- the outcome of a call; a number that is no call's is answered so
abbrev pub by_call : Option Call → Caller → Served
by_call None caller = answering unknown_call caller.state
by_call (Some call) caller = performed (effect_of_call call caller) caller
