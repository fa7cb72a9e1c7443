-- What a partition asks for is what its call tests, and what it is shown has that size.
use Rattle.std.proofs.Common.{◌≡◌, ℕ, ◌≤◌, Bool, true, false, List, [], ◌∷◌, length, Option, None, Some, refl, sym, ap, ◌∙◌, subst, arith}
use Rattle.std.specs.Prelude.{slice_get, IfSome, if◌then◌else◌, ◌==◌, ◌&&◌, ◌||◌, not, nat_lt}
use Rattle.std.proofs.lemmas.Bool.{eqb-true}
use Rattle.std.proofs.lemmas.Option.{same_Some}
use Rattle.sparc_step.specs.Registers.{register_at}
use Rattle.xm_traces.specs.Ring.{Kept, entry_at}
use Rattle.xm_traces.specs.declared.entry.TraceEntry.{TraceEntry}
use Rattle.health_monitor.specs.declared.entry.HealthEntry.{HealthEntry}
use Rattle.machine_model.specs.Caller.{Caller, Served, a_of, acting, b_of, c_of, invalid_parameter, is_not_kept, is_room, number_of, refused_if, room, shown, tested, with_written}
use Rattle.machine_model.specs.Hypercalls.{call_numbered, served}
use Rattle.machine_model.specs.Laws.{HasLength, HasLoads, IsObserving, ObservesAsTested, ShowsItsSize}
use Rattle.machine_model.specs.Lists.{then_some}
use Rattle.machine_model.specs.lemmas.LogCallsTerms.{counting, reading}
use Rattle.machine_model.specs.Machine.{Machine, answer_to, shown_entry, shown_of}
use Rattle.machine_model.specs.Observed.{CurrentPlan, HealthCounts, HealthEntryOf, Observation, PartitionStatus, PlanStatus, Question, SystemStatus, TraceCounts, TraceEntryOf, about_other, about_system, observing}
use Rattle.machine_model.specs.Partition.{PartitionState}
use Rattle.machine_model.specs.Structures.{counts_bytes, health_bytes, partition_status, plan_status, system_status, trace_bytes}
use Rattle.machine_model.specs.lemmas.TimeCallsTerms.{is_no_plan}
use Rattle.machine_model.specs.Emission.{Act, Asked, Nothing, Plans, Words}
use Rattle.machine_model.specs.View.{PartitionView}

-- another partition that there is
pub record IsOther (view : PartitionView) (id : ℕ) : Type 0 where
  pub own : (id == view.id) ≡ false
  pub there : nat_lt id view.sees.parts ≡ true

-- what a call that asks about another partition says
pub record AsksOther (view : PartitionView) (id : ℕ) (asked call : Observation) : Type 0 where
  pub other : IsOther view id
  pub same : asked ≡ call

pub asks_other : (view : PartitionView) (id : ℕ) (question : Question) (address size : ℕ) (call : Observation) → about_other view id question address size ≡ Some call
    → AsksOther view id (record { question = question; address = address; size = size }) call
asks_other view id question address size call is = at (id == view.id) (nat_lt id view.sees.parts) refl refl is
  where
    at : (own there : Bool) → (id == view.id) ≡ own → nat_lt id view.sees.parts ≡ there
        → then_some (not own && there) (record { question = question; address = address; size = size }) ≡ Some call
        → AsksOther view id (record { question = question; address = address; size = size }) call
    at false true own there is = record { other = record { own = own; there = there }; same = same_Some (record { question = question; address = address; size = size }) call is }
    at false false own there is = absurd cc
    at true true own there is = absurd cc
    at true false own there is = absurd cc

-- only the room is left to be tested, and then these bytes are written
record TestsRoom (caller : Caller) (call : Observation) : Type 0 where
  act : Act
  is : served caller ≡ tested (room caller call.address call.size ∷ []) caller (acting act 0 (with_written call.address (shown caller.sight) caller.state))

observes : (caller : Caller) (call : Observation) → TestsRoom caller call → IsObserving caller call
observes caller call tests = record {
  refused = λ full. tests.is ∙ at false full;
  shown = λ free. ap (λ s. s.after) (tests.is ∙ at true free);
}
  where
    comes : Served
    comes = acting tests.act 0 (with_written call.address (shown caller.sight) caller.state)

    at : (b : Bool) → is_room caller call.address call.size ≡ b → tested (room caller call.address call.size ∷ []) caller comes ≡ tested (refused_if (not b) invalid_parameter ∷ []) caller comes
    at b is = ap (λ r. tested (refused_if (not r) invalid_parameter ∷ []) caller comes) is

-- a call that reads an entry, or the counts, of another partition
reading_is : {T : Type 0} (size : ℕ) (bytes : T → List ℕ) (kept : Kept T) (caller : Caller) → caller.view.part.system ≡ true
    → IsOther caller.view (a_of caller) → is_not_kept caller.sight ≡ false
    → reading size bytes kept caller ≡ tested (room caller (c_of caller) size ∷ []) caller (acting Nothing 0 (with_written (c_of caller) (shown caller.sight) caller.state))
reading_is size bytes kept caller system other is_kept = rw (other.own, system, other.there, is_kept) refl

counting_is : {T : Type 0} (kept : Kept T) (caller : Caller) → caller.view.part.system ≡ true → IsOther caller.view (a_of caller)
    → counting kept caller ≡ tested (room caller (b_of caller) 8 ∷ []) caller (acting Nothing 0 (with_written (b_of caller) (shown caller.sight) caller.state))
counting_is kept caller system other = rw (other.own, system, other.there) refl

status_is : (caller : Caller) → caller.view.part.system ≡ true → IsOther caller.view (a_of caller)
    → call_numbered 8 caller ≡ tested (room caller (b_of caller) 20 ∷ []) caller (acting Nothing 0 (with_written (b_of caller) (shown caller.sight) caller.state))
status_is caller system other = rw (other.own, system, other.there) refl

-- the observing call with a number, where an entry that is not kept is not shown so
record Asking (caller : Caller) (call : Observation) : Type 0 where
  system : caller.view.part.system ≡ true
  is_kept : is_not_kept caller.sight ≡ false

of_status : (caller : Caller) (call : Observation) → Asking caller call → number_of caller ≡ 8
    → about_other caller.view (a_of caller) (PartitionStatus (a_of caller)) (b_of caller) 20 ≡ Some call → TestsRoom caller call
unfolding served
of_status caller call asking number is =
    let asks = asks_other caller.view (a_of caller) (PartitionStatus (a_of caller)) (b_of caller) 20 call is in
    subst (TestsRoom caller) asks.same (record { act = Nothing; is = ap (λ n. call_numbered n caller) number ∙ status_is caller asking.system asks.other })

of_system : (caller : Caller) (call : Observation) → Asking caller call → number_of caller ≡ 11 → about_system SystemStatus (a_of caller) 8 ≡ Some call → TestsRoom caller call
unfolding served
of_system caller call asking number is =
    subst (TestsRoom caller) (same_Some (record { question = SystemStatus; address = a_of caller; size = 8 }) call is)
    (record { act = Nothing; is = ap (λ n. call_numbered n caller) number ∙ rw asking.system refl })

of_plan : (caller : Caller) (call : Observation) → Asking caller call → number_of caller ≡ 14
    → (if a_of caller == 0 || not (nat_lt (a_of caller) caller.view.sees.plans) then None else about_system CurrentPlan (b_of caller) 4) ≡ Some call → TestsRoom caller call
unfolding served
of_plan caller call asking number is = at (is_no_plan caller) refl is
  where
    at : (b : Bool) → is_no_plan caller ≡ b → (if b then None else about_system CurrentPlan (b_of caller) 4) ≡ Some call → TestsRoom caller call
    at true none said = absurd cc
    at false plan said =
        subst (TestsRoom caller) (same_Some (record { question = CurrentPlan; address = b_of caller; size = 4 }) call said)
        (record { act = Plans (Asked (a_of caller)); is = ap (λ n. call_numbered n caller) number ∙ rw (asking.system, plan) refl })

of_plan_status : (caller : Caller) (call : Observation) → Asking caller call → number_of caller ≡ 15 → about_system PlanStatus (a_of caller) 20 ≡ Some call → TestsRoom caller call
unfolding served
of_plan_status caller call asking number is =
    subst (TestsRoom caller) (same_Some (record { question = PlanStatus; address = a_of caller; size = 20 }) call is)
    (record { act = Nothing; is = ap (λ n. call_numbered n caller) number ∙ rw asking.system refl })

of_trace : (caller : Caller) (call : Observation) → Asking caller call → number_of caller ≡ 25
    → about_other caller.view (a_of caller) (TraceEntryOf (a_of caller) (b_of caller)) (c_of caller) 24 ≡ Some call → TestsRoom caller call
unfolding served
of_trace caller call asking number is =
    let asks = asks_other caller.view (a_of caller) (TraceEntryOf (a_of caller) (b_of caller)) (c_of caller) 24 call is in
    subst (TestsRoom caller) asks.same (record {
      act = Nothing;
      is = ap (λ n. call_numbered n caller) number ∙ reading_is 24 trace_bytes caller.state.traces caller asking.system asks.other asking.is_kept;
    })

of_trace_counts : (caller : Caller) (call : Observation) → Asking caller call → number_of caller ≡ 26
    → about_other caller.view (a_of caller) (TraceCounts (a_of caller)) (b_of caller) 8 ≡ Some call → TestsRoom caller call
unfolding served
of_trace_counts caller call asking number is =
    let asks = asks_other caller.view (a_of caller) (TraceCounts (a_of caller)) (b_of caller) 8 call is in
    subst (TestsRoom caller) asks.same (record { act = Nothing; is = ap (λ n. call_numbered n caller) number ∙ counting_is caller.state.traces caller asking.system asks.other })

of_health : (caller : Caller) (call : Observation) → Asking caller call → number_of caller ≡ 28
    → about_other caller.view (a_of caller) (HealthEntryOf (a_of caller) (b_of caller)) (c_of caller) 20 ≡ Some call → TestsRoom caller call
unfolding served
of_health caller call asking number is =
    let asks = asks_other caller.view (a_of caller) (HealthEntryOf (a_of caller) (b_of caller)) (c_of caller) 20 call is in
    subst (TestsRoom caller) asks.same (record {
      act = Nothing;
      is = ap (λ n. call_numbered n caller) number ∙ reading_is 20 health_bytes caller.state.health caller asking.system asks.other asking.is_kept;
    })

of_health_counts : (caller : Caller) (call : Observation) → Asking caller call → number_of caller ≡ 29
    → about_other caller.view (a_of caller) (HealthCounts (a_of caller)) (b_of caller) 8 ≡ Some call → TestsRoom caller call
unfolding served
of_health_counts caller call asking number is =
    let asks = asks_other caller.view (a_of caller) (HealthCounts (a_of caller)) (b_of caller) 8 call is in
    subst (TestsRoom caller) asks.same (record { act = Nothing; is = ap (λ n. call_numbered n caller) number ∙ counting_is caller.state.health caller asking.system asks.other })

-- a row of a table by numbers, or the rest of it
pub by_number : {R : Type 0} {found : Option Observation} (number n : ℕ) (row rest : Option Observation) → (number ≡ n → row ≡ found → R) → (rest ≡ found → R)
    → (if number == n then row else rest) ≡ found → R
by_number {R = R} {found = found} number n row rest here further is = at (number == n) refl is
  where
    at : (b : Bool) → (number == n) ≡ b → (if b then row else rest) ≡ found → R
    at true e said = here (eqb-true number n e) said
    at false e said = further said

tests_room : (caller : Caller) (call : Observation) → Asking caller call
    → observing caller.view (number_of caller) (a_of caller) (b_of caller) (c_of caller) ≡ Some call → TestsRoom caller call
tests_room caller call asking =
    by_number (number_of caller) 8 _ _ (of_status caller call asking)
    (by_number (number_of caller) 11 _ _ (of_system caller call asking)
    (by_number (number_of caller) 14 _ _ (of_plan caller call asking)
    (by_number (number_of caller) 15 _ _ (of_plan_status caller call asking)
    (by_number (number_of caller) 25 _ _ (of_trace caller call asking)
    (by_number (number_of caller) 26 _ _ (of_trace_counts caller call asking)
    (by_number (number_of caller) 28 _ _ (of_health caller call asking)
    (by_number (number_of caller) 29 _ _ (of_health_counts caller call asking) (λ none. absurd cc))))))))

-- only a system partition asks
pub asks_by_flag : (b : Bool) (o : Option Observation) (call : Observation) → (if b then o else None) ≡ Some call → (b ≡ true) × (o ≡ Some call)
asks_by_flag true o call is = (refl, is)
asks_by_flag false o call is = absurd cc

pub observes_as_tested : ObservesAsTested
observes_as_tested caller call is is_kept =
    let asks = asks_by_flag caller.view.part.system (observing caller.view (number_of caller) (a_of caller) (b_of caller) (c_of caller)) call is in
    observes caller call (tests_room caller call (record { system = asks.0; is_kept = is_kept }) asks.1)

-- the size of what a question asks for
pub size_of : Question → ℕ
size_of (PartitionStatus id) = 20
size_of SystemStatus = 8
size_of CurrentPlan = 4
size_of PlanStatus = 20
size_of (TraceEntryOf id number) = 24
size_of (TraceCounts id) = 8
size_of (HealthEntryOf id number) = 20
size_of (HealthCounts id) = 8

pub size_few : (question : Question) → size_of question ≤ 24
unfolding size_of
size_few (PartitionStatus id) = omega arith
size_few SystemStatus = omega arith
size_few CurrentPlan = omega arith
size_few PlanStatus = omega arith
size_few (TraceEntryOf id number) = omega arith
size_few (TraceCounts id) = omega arith
size_few (HealthEntryOf id number) = omega arith
size_few (HealthCounts id) = omega arith

-- a call asks for the size of its question
SizeFits : Observation → Type 0
SizeFits call = call.size ≡ size_of call.question

other_fits : (view : PartitionView) (id : ℕ) (question : Question) (address size : ℕ) (call : Observation) → size ≡ size_of question
    → about_other view id question address size ≡ Some call → SizeFits call
unfolding SizeFits
other_fits view id question address size call fits is = subst SizeFits (asks_other view id question address size call is).same fits

system_fits : (question : Question) (address size : ℕ) (call : Observation) → size ≡ size_of question → about_system question address size ≡ Some call → SizeFits call
unfolding SizeFits
system_fits question address size call fits is = subst SizeFits (same_Some (record { question = question; address = address; size = size }) call is) fits

plan_fits : (b : Bool) (address : ℕ) (call : Observation) → (if b then None else about_system CurrentPlan address 4) ≡ Some call → SizeFits call
unfolding size_of
plan_fits true address call is = absurd cc
plan_fits false address call is = system_fits CurrentPlan address 4 call refl is

size_fits : (view : PartitionView) (number a b c : ℕ) (call : Observation) → observing view number a b c ≡ Some call → SizeFits call
unfolding size_of
size_fits view number a b c call =
    by_number number 8 _ _ (λ e. other_fits view a (PartitionStatus a) b 20 call refl)
    (by_number number 11 _ _ (λ e. system_fits SystemStatus a 8 call refl)
    (by_number number 14 _ _ (λ e. plan_fits (a == 0 || not (nat_lt a view.sees.plans)) b call)
    (by_number number 15 _ _ (λ e. system_fits PlanStatus a 20 call refl)
    (by_number number 25 _ _ (λ e. other_fits view a (TraceEntryOf a b) c 24 call refl)
    (by_number number 26 _ _ (λ e. other_fits view a (TraceCounts a) b 8 call refl)
    (by_number number 28 _ _ (λ e. other_fits view a (HealthEntryOf a b) c 20 call refl)
    (by_number number 29 _ _ (λ e. other_fits view a (HealthCounts a) b 8 call refl) (λ none. absurd cc))))))))

-- an entry that is shown has the size of an entry
trace_has : (o : Option TraceEntry) → IfSome o (λ entry. length entry.load ≡ 8) → HasLength 24 (shown_entry trace_bytes o)
unfolding trace_bytes
trace_has None has = tt
trace_has (Some entry) has = rw has refl

health_has : (o : Option HealthEntry) → HasLength 20 (shown_entry health_bytes o)
unfolding health_bytes
health_has None = tt
health_has (Some entry) = refl

-- what each question is answered has its size
pub answer_has : (g : Machine) (question : Question) → ((id : ℕ) → IfSome (slice_get g.parts id) HasLoads) → HasLength (size_of question) (answer_to g question)
unfolding counts_bytes partition_status plan_status size_of system_status
answer_has g (PartitionStatus id) loads = at (slice_get g.parts id)
  where
    at : (o : Option PartitionState) → HasLength 20 (shown_of o (λ ps. Words (partition_status ps)))
    at None = tt
    at (Some ps) = refl
answer_has g SystemStatus loads = refl
answer_has g CurrentPlan loads = refl
answer_has g PlanStatus loads = refl
answer_has g (TraceEntryOf id number) loads = at (slice_get g.parts id) (loads id)
  where
    at : (o : Option PartitionState) → IfSome o HasLoads → HasLength 24 (shown_of o (λ ps. shown_entry trace_bytes (entry_at number ps.traces)))
    at None has = tt
    at (Some ps) has = trace_has (entry_at number ps.traces) (has number)
answer_has g (TraceCounts id) loads = at (slice_get g.parts id)
  where
    at : (o : Option PartitionState) → HasLength 8 (shown_of o (λ ps. Words (counts_bytes ps.traces)))
    at None = tt
    at (Some ps) = refl
answer_has g (HealthEntryOf id number) loads = at (slice_get g.parts id)
  where
    at : (o : Option PartitionState) → HasLength 20 (shown_of o (λ ps. shown_entry health_bytes (entry_at number ps.health)))
    at None = tt
    at (Some ps) = health_has (entry_at number ps.health)
answer_has g (HealthCounts id) loads = at (slice_get g.parts id)
  where
    at : (o : Option PartitionState) → HasLength 8 (shown_of o (λ ps. Words (counts_bytes ps.health)))
    at None = tt
    at (Some ps) = refl

pub shows_its_size : ShowsItsSize
unfolding SizeFits
shows_its_size g view core call loads is =
    let asks = asks_by_flag view.part.system (observing view (register_at core 8) (register_at core 9) (register_at core 10) (register_at core 11)) call is in
    let fits : call.size ≡ size_of call.question = size_fits view (register_at core 8) (register_at core 9) (register_at core 10) (register_at core 11) call asks.1 in
    subst (λ (n : ℕ). HasLength n (answer_to g call.question)) (sym fits) (answer_has g call.question loads)
