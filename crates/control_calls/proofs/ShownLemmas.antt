-- What a partition that makes an observing call is shown, by the tests of the call.
use Rattle.std.proofs.Common.{◌≡◌, ℕ, Bool, true, false, List, [], ◌∷◌, length, Option, None, Some, refl, ap, ◌∙◌}
use Rattle.std.specs.Prelude.{if◌then◌else◌, ◌==◌, ◌&&◌, not, nat_lt, slice_get}
use Rattle.cyclic_plans.specs.PlanClock.{here}
use Rattle.xm_traces.specs.Ring.{Kept, entry_at}
use Rattle.machine_model.specs.Caller.{Caller, a_of, b_of, c_of, invalid_parameter, is_room, no_permission, number_of, refused_if, room, system_only, target}
use Rattle.machine_model.specs.Lists.{then_some}
use Rattle.machine_model.specs.Readings.{is_own}
use Rattle.machine_model.specs.Machine.{answer_to, shown_entry, shown_of, sight_for, with_room}
use Rattle.machine_model.specs.Partition.{PartitionState}
use Rattle.machine_model.specs.Observed.{CurrentPlan, HealthCounts, HealthEntryOf, Observation, PartitionStatus, PlanStatus, Question, SystemStatus, TraceCounts, TraceEntryOf, about_other, about_system, observing}
use Rattle.machine_model.specs.Structures.{counts_bytes, health_bytes, partition_status, plan_status, system_status, trace_bytes, word}
use Rattle.machine_model.specs.lemmas.TimeCallsTerms.{is_no_plan}
use Rattle.machine_model.specs.Emission.{Unseen, Words}
use Rattle.system_state.specs.lemmas.SightLemmas.{sight_of_number}
use Rattle.system_state.specs.Serving.{caller_of}
use Rattle.system_state.specs.lemmas.Shown.{seen_when}
use Rattle.system_state.specs.State.{SysState}
use Rattle.system_state.specs.declared.call_site.CallSite.{CallSite}

-- bytes are shown where there is room for them
roomed : (free : Bool) (bytes : List ℕ) → with_room free (Words bytes) ≡ seen_when (refused_if (not free) invalid_parameter ∷ []) (Words bytes)
roomed true bytes = refl
roomed false bytes = refl

-- call 14 is shown the current plan
pub plan_sight : (site : CallSite) (sys : SysState) → number_of (caller_of site sys) ≡ 14
    → (caller_of site sys).sight
    ≡ seen_when (system_only (caller_of site sys) ∷ refused_if (is_no_plan (caller_of site sys)) invalid_parameter ∷ room (caller_of site sys) (b_of (caller_of site sys)) 4 ∷ []) (Words (word sys.machine.clock.plan))
plan_sight site sys number = sight_of_number site sys 14 number ∙ at caller.view.part.system (is_no_plan caller)
  where
    caller : Caller
    caller = caller_of site sys

    asked : Bool → Bool → Option Observation
    asked system no_plan = if system then (if no_plan then None else Some (record { question = CurrentPlan; address = b_of caller; size = 4 })) else None

    at : (system no_plan : Bool) → sight_for sys.machine caller.view (asked system no_plan)
        ≡ seen_when (refused_if (not system) no_permission ∷ refused_if no_plan invalid_parameter ∷ room caller (b_of caller) 4 ∷ []) (Words (word sys.machine.clock.plan))
    at false no_plan = refl
    at true true = refl
    at true false = roomed (is_room caller (b_of caller) 4) _

-- a call that asks about the system is shown the answer
system_sight : (site : CallSite) (sys : SysState) (number : ℕ) (question : Question) (address size : ℕ) (bytes : List ℕ) → number_of (caller_of site sys) ≡ number
    → observing (caller_of site sys).view number (a_of (caller_of site sys)) (b_of (caller_of site sys)) (c_of (caller_of site sys)) ≡ about_system question address size
    → answer_to sys.machine question ≡ Words bytes
    → (caller_of site sys).sight ≡ seen_when (system_only (caller_of site sys) ∷ room (caller_of site sys) address size ∷ []) (Words bytes)
system_sight site sys number question address size bytes is asks answers =
    sight_of_number site sys number is
    ∙ ap (λ asked. sight_for sys.machine caller.view (if caller.view.part.system then asked else None)) asks
    ∙ at caller.view.part.system
  where
    caller : Caller
    caller = caller_of site sys

    at : (system : Bool) → sight_for sys.machine caller.view (if system then about_system question address size else None)
        ≡ seen_when (refused_if (not system) no_permission ∷ room caller address size ∷ []) (Words bytes)
    at false = refl
    at true = ap (with_room (is_room caller address size)) answers ∙ roomed (is_room caller address size) bytes

-- call 11 is shown the status of the system
pub system_status_sight : (site : CallSite) (sys : SysState) → number_of (caller_of site sys) ≡ 11
    → (caller_of site sys).sight
    ≡ seen_when (system_only (caller_of site sys) ∷ room (caller_of site sys) (a_of (caller_of site sys)) 8 ∷ []) (Words (system_status sys.machine.resets (length sys.machine.system.conf.parts)))
system_status_sight site sys number = system_sight site sys 11 SystemStatus (a_of (caller_of site sys)) 8 _ number refl refl

-- call 15 is shown the status of the plan
pub plan_status_sight : (site : CallSite) (sys : SysState) → number_of (caller_of site sys) ≡ 15
    → (caller_of site sys).sight
    ≡ seen_when (system_only (caller_of site sys) ∷ room (caller_of site sys) (a_of (caller_of site sys)) 20 ∷ []) (Words (plan_status sys.machine.clock (here sys.machine.system.conf sys.machine.clock sys.machine.time)))
plan_status_sight site sys number = system_sight site sys 15 PlanStatus (a_of (caller_of site sys)) 20 _ number refl refl

-- a call that asks about the partition that it names is shown the answer where that is another
asked_sight : (site : CallSite) (sys : SysState) (number : ℕ) (question : Question) (address size : ℕ) → number_of (caller_of site sys) ≡ number
    → observing (caller_of site sys).view number (a_of (caller_of site sys)) (b_of (caller_of site sys)) (c_of (caller_of site sys)) ≡ about_other (caller_of site sys).view (a_of (caller_of site sys)) question address size
    → (caller_of site sys).sight
    ≡ seen_when (target (caller_of site sys) (a_of (caller_of site sys)) ∷ []) (if a_of (caller_of site sys) == (caller_of site sys).view.id then Unseen else with_room (is_room (caller_of site sys) address size) (answer_to sys.machine question))
asked_sight site sys number question address size is asks =
    sight_of_number site sys number is
    ∙ ap (λ asked. sight_for sys.machine caller.view (if caller.view.part.system then asked else None)) asks
    ∙ at (a_of caller == caller.view.id) caller.view.part.system (nat_lt (a_of caller) caller.view.sees.parts)
  where
    caller : Caller
    caller = caller_of site sys

    at : (own system there : Bool)
        → sight_for sys.machine caller.view (if system then then_some (not own && there) (record { question = question; address = address; size = size }) else None)
        ≡ seen_when ((if own then None else if not system then Some no_permission else refused_if (not there) invalid_parameter) ∷ []) (if own then Unseen else with_room (is_room caller address size) (answer_to sys.machine question))
    at true true there = refl
    at true false there = refl
    at false false there = refl
    at false true true = refl
    at false true false = refl

-- of a log of this many bytes an entry a caller is shown that of the partition that it names, where that is another
abbrev pub IsShownEntry : {T : Type 0} → CallSite → SysState → ℕ → (T → List ℕ) → (PartitionState → Kept T) → Type 0
IsShownEntry site sys size bytes log =
    (caller_of site sys).sight
    ≡ seen_when (target (caller_of site sys) (a_of (caller_of site sys)) ∷ []) (if is_own (caller_of site sys) then Unseen else with_room (is_room (caller_of site sys) (c_of (caller_of site sys)) size) (shown_of (slice_get sys.machine.parts (a_of (caller_of site sys))) (λ ps. shown_entry bytes (entry_at (b_of (caller_of site sys)) (log ps)))))

-- and of this many bytes of a state
abbrev pub IsShownBytes : CallSite → SysState → ℕ → (PartitionState → List ℕ) → Type 0
IsShownBytes site sys size bytes =
    (caller_of site sys).sight
    ≡ seen_when (target (caller_of site sys) (a_of (caller_of site sys)) ∷ []) (if is_own (caller_of site sys) then Unseen else with_room (is_room (caller_of site sys) (b_of (caller_of site sys)) size) (shown_of (slice_get sys.machine.parts (a_of (caller_of site sys))) (λ ps. Words (bytes ps))))

-- call 8 is shown the status
pub partition_status_sight : (site : CallSite) (sys : SysState) → number_of (caller_of site sys) ≡ 8 → IsShownBytes site sys 20 partition_status
partition_status_sight site sys number = asked_sight site sys 8 (PartitionStatus (a_of (caller_of site sys))) (b_of (caller_of site sys)) 20 number refl

-- call 25 is shown the entry
pub trace_read_sight : (site : CallSite) (sys : SysState) → number_of (caller_of site sys) ≡ 25 → IsShownEntry site sys 24 trace_bytes (λ ps. ps.traces)
trace_read_sight site sys number = asked_sight site sys 25 (TraceEntryOf (a_of (caller_of site sys)) (b_of (caller_of site sys))) (c_of (caller_of site sys)) 24 number refl

-- call 28 is, too
pub health_read_sight : (site : CallSite) (sys : SysState) → number_of (caller_of site sys) ≡ 28 → IsShownEntry site sys 20 health_bytes (λ ps. ps.health)
health_read_sight site sys number = asked_sight site sys 28 (HealthEntryOf (a_of (caller_of site sys)) (b_of (caller_of site sys))) (c_of (caller_of site sys)) 20 number refl

-- call 26 is shown the counts
pub trace_status_sight : (site : CallSite) (sys : SysState) → number_of (caller_of site sys) ≡ 26 → IsShownBytes site sys 8 (λ ps. counts_bytes ps.traces)
trace_status_sight site sys number = asked_sight site sys 26 (TraceCounts (a_of (caller_of site sys))) (b_of (caller_of site sys)) 8 number refl

-- call 29 is, too
pub health_status_sight : (site : CallSite) (sys : SysState) → number_of (caller_of site sys) ≡ 29 → IsShownBytes site sys 8 (λ ps. counts_bytes ps.health)
health_status_sight site sys number = asked_sight site sys 29 (HealthCounts (a_of (caller_of site sys))) (b_of (caller_of site sys)) 8 number refl
