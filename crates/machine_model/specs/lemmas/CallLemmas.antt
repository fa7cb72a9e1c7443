-- All calls at once: each call that is served is an effect that is performed, so what holds of every effect holds of every call.
use Rattle.std.proofs.Common.{◌≡◌, ◌∙◌, ℕ, Bool, true, false, Option, Some, None, ap, refl, sym, ◌==◌}
use Rattle.std.proofs.lemmas.Bool.{eqb-true}
use Rattle.std.proofs.lemmas.Option.{same_Some}
use Rattle.std.specs.Prelude.{if◌then◌else◌}
use Rattle.machine_model.specs.Caller.{Caller, Served, answering, number_of, unknown_call}
use Rattle.machine_model.specs.Calls.{Call, ClearIrqmask, CreateQueuingPort, CreateSamplingPort, FlushRegwin, GetPartitionStatus, GetPlanStatus, GetQueuingPortStatus, GetSamplingPortStatus, GetSelf, GetSystemStatus, GetTime, HaltPartition, HaltSystem, HmRead, HmStatus, IdleSelf, Iret, RaiseEvent, RaiseIpvi, ReadInput, ReadSamplingMessage, ReceiveQueuingMessage, ResetPartition, ResetSystem, ResumePartition, SendQueuingMessage, SetIrqmask, SetPsr, SetTbr, SetTimer, ShutdownPartition, SuspendPartition, SwitchSchedPlan, TraceEvent, TraceRead, TraceStatus, WriteConsole, WriteSamplingMessage, by_call, call_of, effect_of_call, number_of_call}
use Rattle.machine_model.specs.Effects.{TestedEffect, performed}
use Rattle.machine_model.specs.Hypercalls.{served}

-- the number of a call is that call's
pub number_is_call : (call : Call) → call_of (number_of_call call) ≡ Some call
number_is_call GetSelf = refl
number_is_call HaltPartition = refl
number_is_call ResetPartition = refl
number_is_call SuspendPartition = refl
number_is_call ResumePartition = refl
number_is_call ShutdownPartition = refl
number_is_call IdleSelf = refl
number_is_call GetPartitionStatus = refl
number_is_call HaltSystem = refl
number_is_call ResetSystem = refl
number_is_call GetSystemStatus = refl
number_is_call GetTime = refl
number_is_call SetTimer = refl
number_is_call SwitchSchedPlan = refl
number_is_call GetPlanStatus = refl
number_is_call CreateSamplingPort = refl
number_is_call WriteSamplingMessage = refl
number_is_call ReadSamplingMessage = refl
number_is_call GetSamplingPortStatus = refl
number_is_call CreateQueuingPort = refl
number_is_call SendQueuingMessage = refl
number_is_call ReceiveQueuingMessage = refl
number_is_call GetQueuingPortStatus = refl
number_is_call TraceEvent = refl
number_is_call TraceRead = refl
number_is_call TraceStatus = refl
number_is_call RaiseEvent = refl
number_is_call HmRead = refl
number_is_call HmStatus = refl
number_is_call SetIrqmask = refl
number_is_call ClearIrqmask = refl
number_is_call WriteConsole = refl
number_is_call ReadInput = refl
number_is_call Iret = refl
number_is_call SetPsr = refl
number_is_call SetTbr = refl
number_is_call FlushRegwin = refl
number_is_call RaiseIpvi = refl

-- the call of a number, or of a later one
numbered : (number own : ℕ) (call found : Call) (more : Option Call) → number_of_call call ≡ own → (more ≡ Some found → number ≡ number_of_call found)
    → (if number == own then Some call else more) ≡ Some found → number ≡ number_of_call found
numbered number own call found more same further = at (number == own) refl
  where
    at : (b : Bool) → (number == own) ≡ b → (if b then Some call else more) ≡ Some found → number ≡ number_of_call found
    at true is found_is = eqb-true number own is ∙ sym same ∙ ap number_of_call (same_Some call found found_is)
    at false is found_is = further found_is

-- a number has no other call than the one whose number it is
pub call_is_numbered : (number : ℕ) (found : Call) → call_of number ≡ Some found → number ≡ number_of_call found
call_is_numbered number found =
    numbered number 1 GetSelf found _ refl
    (numbered number 2 HaltPartition found _ refl
    (numbered number 3 ResetPartition found _ refl
    (numbered number 4 SuspendPartition found _ refl
    (numbered number 5 ResumePartition found _ refl
    (numbered number 6 ShutdownPartition found _ refl
    (numbered number 7 IdleSelf found _ refl
    (numbered number 8 GetPartitionStatus found _ refl
    (numbered number 9 HaltSystem found _ refl
    (numbered number 10 ResetSystem found _ refl
    (numbered number 11 GetSystemStatus found _ refl
    (numbered number 12 GetTime found _ refl
    (numbered number 13 SetTimer found _ refl
    (numbered number 14 SwitchSchedPlan found _ refl
    (numbered number 15 GetPlanStatus found _ refl
    (numbered number 16 CreateSamplingPort found _ refl
    (numbered number 17 WriteSamplingMessage found _ refl
    (numbered number 18 ReadSamplingMessage found _ refl
    (numbered number 19 GetSamplingPortStatus found _ refl
    (numbered number 20 CreateQueuingPort found _ refl
    (numbered number 21 SendQueuingMessage found _ refl
    (numbered number 22 ReceiveQueuingMessage found _ refl
    (numbered number 23 GetQueuingPortStatus found _ refl
    (numbered number 24 TraceEvent found _ refl
    (numbered number 25 TraceRead found _ refl
    (numbered number 26 TraceStatus found _ refl
    (numbered number 27 RaiseEvent found _ refl
    (numbered number 28 HmRead found _ refl
    (numbered number 29 HmStatus found _ refl
    (numbered number 30 SetIrqmask found _ refl
    (numbered number 31 ClearIrqmask found _ refl
    (numbered number 32 WriteConsole found _ refl
    (numbered number 33 ReadInput found _ refl
    (numbered number 34 Iret found _ refl
    (numbered number 35 SetPsr found _ refl
    (numbered number 36 SetTbr found _ refl
    (numbered number 37 FlushRegwin found _ refl
    (numbered number 38 RaiseIpvi found _ refl
    (λ none. absurd cc))))))))))))))))))))))))))))))))))))))

-- what holds of what each call does, and of the answer to a number that is no call's, holds of the outcome of a partition's call
pub every_call : (caller : Caller) (P : Served → Type 0) → ((call : Call) → P (performed (effect_of_call call caller) caller)) → P (answering unknown_call caller.state) → P (served caller)
unfolding served
every_call caller P each unknown = by (call_of (number_of caller))
  where
    by : (o : Option Call) → P (by_call o caller)
    by None = unknown
    by (Some call) = each call

-- so what holds of every effect after whatever tests holds of it
pub every_effect : (caller : Caller) (P : Served → Type 0) → ((asked : TestedEffect) → P (performed asked caller)) → P (answering unknown_call caller.state) → P (served caller)
every_effect caller P each unknown = every_call caller P (λ call. each (effect_of_call call caller)) unknown
