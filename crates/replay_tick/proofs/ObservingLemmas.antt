-- What an observing call leaves of its caller, whatever it is shown: it reports nothing, and does nothing beyond it or asks for a plan.
use Rattle.std.proofs.Common.{◌≡◌, ◌⊎◌, inl, inr, ℕ, Bool, true, false, List, [], ◌∷◌, length, None, Some, refl, sym, ap, subst, ◌∙◌}
use Rattle.std.specs.Prelude.{◌==◌, ◌&&◌, ◌||◌, not, nat_lt, if◌then◌else◌, is_none}
use Rattle.std.proofs.lemmas.Bool.{eqb-true}
use Rattle.std.proofs.lemmas.Option.{same_Some}
use Rattle.xm_traces.specs.Ring.{Kept, entry_at}
use Rattle.machine_model.specs.Caller.{Acts, Caller, Served, Test, a_of, answering, b_of, c_of, invalid_parameter, is_not_kept, is_room, no_permission, not_available, number_of, refused_if, room, system_only, target, tested, with_answer, with_written}
use Rattle.machine_model.specs.Hypercalls.{call_numbered, served}
use Rattle.machine_model.specs.Laws.{ObservesAsTested}
use Rattle.machine_model.specs.Lists.{then_some}
use Rattle.machine_model.specs.Readings.{entry_seen}
use Rattle.machine_model.specs.lemmas.LogCallsTerms.{reading}
use Rattle.machine_model.specs.Observed.{CurrentPlan, HealthCounts, HealthEntryOf, Observation, PartitionStatus, PlanStatus, Question, SystemStatus, TraceCounts, TraceEntryOf, about_other, about_system, observed_by, observing}
use Rattle.machine_model.specs.Partition.{PartitionState}
use Rattle.machine_model.specs.Emission as emission
use Rattle.machine_model.specs.Emission.{NotKept, Sight, Unseen, Words}
use Rattle.machine_model.specs.View.{PartitionView}
use Rattle.replay_model.specs.Taking.{asks_entry}
use Rattle.replay_tick.specs.lemmas.LoneWorkTerms.{asked_of, shown_state, shows_this}
use Rattle.replay_tick.specs.declared.call.Asked.{Asked}

-- it reports nothing, and does nothing beyond its caller or asks for a plan
pub record IsMild (comes : Served) : Type 0 where
  pub silent : comes.emitted ≡ []
  pub upshot : (comes.upshot ≡ Acts emission.Nothing) ⊎ ((plan : ℕ) × (comes.upshot ≡ Acts (emission.Plans (emission.Asked plan))))

tested_mild : (tests : List Test) (caller : Caller) (comes : Served) → IsMild comes → IsMild (tested tests caller comes)
tested_mild [] caller comes mild = mild
tested_mild (Some code ∷ tests) caller comes mild = record { silent = refl; upshot = inl refl }
tested_mild (None ∷ tests) caller comes mild = tested_mild tests caller comes mild

-- where it is shown that an entry is not kept, that is its answer
abbrev Misses : Caller → Observation → Served → Type 0
Misses caller call comes = caller.sight ≡ NotKept → asks_entry call.question ≡ true → comes.after ≡ with_answer not_available caller.state

pub record IsObserved (caller : Caller) (call : Observation) (comes : Served) : Type 0 where
  pub mild : IsMild comes
  pub missing : Misses caller call comes

-- a question about another partition is asked where there is one
some_is : (b : Bool) (x y : Observation) → then_some b x ≡ Some y → (b ≡ true) × (x ≡ y)
some_is true x y is = (refl, same_Some x y is)
some_is false x y is = absurd cc

apart : (own there : Bool) → (not own && there) ≡ true → (own ≡ false) × (there ≡ true)
apart true there is = absurd cc
apart false true is = (refl, refl)
apart false false is = absurd cc

-- a call that asks for no entry is not shown so
asks_none : (caller : Caller) (x call : Observation) (comes : Served) → x ≡ call → asks_entry x.question ≡ false → Misses caller call comes
asks_none caller x call comes same none seen entry =
    absurd (let no : true ≡ false = sym entry ∙ sym (ap (λ (o : Observation). asks_entry o.question) same) ∙ none in cc)

-- a call for an entry that is shown so
misses : {T : Type 0} (size : ℕ) (bytes : T → List ℕ) (kept : Kept T) (caller : Caller) → caller.view.part.system ≡ true
    → (not (a_of caller == caller.view.id) && nat_lt (a_of caller) caller.view.sees.parts) ≡ true → caller.sight ≡ NotKept
    → (reading size bytes kept caller).after ≡ with_answer not_available caller.state
misses {T} size bytes kept caller system named seen =
    let there = apart (a_of caller == caller.view.id) (nat_lt (a_of caller) caller.view.sees.parts) named in
    ap (λ (own : Bool). after own (not caller.view.part.system) (nat_lt (a_of caller) caller.view.sees.parts) (is_not_kept caller.sight)) there.0
    ∙ ap (λ (flag : Bool). after false (not flag) (nat_lt (a_of caller) caller.view.sees.parts) (is_not_kept caller.sight)) system
    ∙ ap (λ (is : Bool). after false false is (is_not_kept caller.sight)) there.1
    ∙ ap (λ (s : Sight). after false false true (is_not_kept s)) seen
  where
    after : Bool → Bool → Bool → Bool → PartitionState
    after own plain there missing =
        (tested ((if own then None else if plain then Some no_permission else refused_if (not there) invalid_parameter)
        ∷ refused_if (if own then is_none (entry_at (b_of caller) kept) else missing) not_available ∷ room caller (c_of caller) size ∷ []) caller
        (answering 0 (with_written (c_of caller) (entry_seen bytes caller kept) caller.state))).after

-- each observing call
status_mild : (caller : Caller) → IsMild (call_numbered 8 caller)
status_mild caller = tested_mild (target caller (a_of caller) ∷ room caller (b_of caller) 20 ∷ []) caller _ (record { silent = refl; upshot = inl refl })

system_mild : (caller : Caller) → IsMild (call_numbered 11 caller)
system_mild caller = tested_mild (system_only caller ∷ room caller (a_of caller) 8 ∷ []) caller _ (record { silent = refl; upshot = inl refl })

plan_mild : (caller : Caller) → IsMild (call_numbered 14 caller)
plan_mild caller = tested_mild (system_only caller ∷ _ ∷ room caller (b_of caller) 4 ∷ []) caller _ (record { silent = refl; upshot = inr (a_of caller, refl) })

clock_mild : (caller : Caller) → IsMild (call_numbered 15 caller)
clock_mild caller = tested_mild (system_only caller ∷ room caller (a_of caller) 20 ∷ []) caller _ (record { silent = refl; upshot = inl refl })

trace_mild : (caller : Caller) → IsMild (call_numbered 25 caller)
trace_mild caller = tested_mild (target caller (a_of caller) ∷ _ ∷ room caller (c_of caller) 24 ∷ []) caller _ (record { silent = refl; upshot = inl refl })

trace_misses : (caller : Caller) (call : Observation) → caller.view.part.system ≡ true → (not (a_of caller == caller.view.id) && nat_lt (a_of caller) caller.view.sees.parts) ≡ true
    → Misses caller call (call_numbered 25 caller)
trace_misses caller call system named seen entry = misses 24 _ caller.state.traces caller system named seen

traces_mild : (caller : Caller) → IsMild (call_numbered 26 caller)
traces_mild caller = tested_mild (target caller (a_of caller) ∷ room caller (b_of caller) 8 ∷ []) caller _ (record { silent = refl; upshot = inl refl })

health_mild : (caller : Caller) → IsMild (call_numbered 28 caller)
health_mild caller = tested_mild (target caller (a_of caller) ∷ _ ∷ room caller (c_of caller) 20 ∷ []) caller _ (record { silent = refl; upshot = inl refl })

health_misses : (caller : Caller) (call : Observation) → caller.view.part.system ≡ true → (not (a_of caller == caller.view.id) && nat_lt (a_of caller) caller.view.sees.parts) ≡ true
    → Misses caller call (call_numbered 28 caller)
health_misses caller call system named seen entry = misses 20 _ caller.state.health caller system named seen

log_mild : (caller : Caller) → IsMild (call_numbered 29 caller)
log_mild caller = tested_mild (target caller (a_of caller) ∷ room caller (b_of caller) 8 ∷ []) caller _ (record { silent = refl; upshot = inl refl })

-- by their numbers
module _ (caller : Caller) (call : Observation) (system : caller.view.part.system ≡ true) where
  abbrev view : PartitionView
  view = caller.view

  abbrev number : ℕ
  number = number_of caller

  abbrev a : ℕ
  a = a_of caller

  abbrev b : ℕ
  b = b_of caller

  abbrev c : ℕ
  c = c_of caller

  abbrev Comes : Type 0
  Comes = IsObserved caller call (call_numbered number caller)

  is_call : (n : ℕ) → (number == n) ≡ true → IsObserved caller call (call_numbered n caller) → Comes
  is_call n same it = subst (λ (k : ℕ). IsObserved caller call (call_numbered k caller)) (sym (eqb-true number n same)) it

  -- one about another partition that asks for no entry
  about : (n : ℕ) (question : Question) (address size : ℕ) → (number == n) ≡ true → about_other view a question address size ≡ Some call → asks_entry question ≡ false
      → IsMild (call_numbered n caller) → Comes
  about n question address size same is none mild =
      is_call n same (record { mild = mild; missing = asks_none caller _ call (call_numbered n caller) (some_is _ _ call is).1 none })

  at_29 : (t : Bool) → (number == 29) ≡ t → (if t then about_other view a (HealthCounts a) b 8 else None) ≡ Some call → Comes
  at_29 true same is = about 29 (HealthCounts a) b 8 same is refl (log_mild caller)
  at_29 false other is = absurd cc

  at_28 : (t : Bool) → (number == 28) ≡ t
      → (if t then about_other view a (HealthEntryOf a b) c 20 else if number == 29 then about_other view a (HealthCounts a) b 8 else None) ≡ Some call → Comes
  at_28 true same is = is_call 28 same (record { mild = health_mild caller; missing = health_misses caller call system (some_is _ _ call is).0 })
  at_28 false other is = at_29 (number == 29) refl is

  at_26 : (t : Bool) → (number == 26) ≡ t
      → (if t then about_other view a (TraceCounts a) b 8
      else if number == 28 then about_other view a (HealthEntryOf a b) c 20 else if number == 29 then about_other view a (HealthCounts a) b 8 else None) ≡ Some call → Comes
  at_26 true same is = about 26 (TraceCounts a) b 8 same is refl (traces_mild caller)
  at_26 false other is = at_28 (number == 28) refl is

  at_25 : (t : Bool) → (number == 25) ≡ t
      → (if t then about_other view a (TraceEntryOf a b) c 24 else if number == 26 then about_other view a (TraceCounts a) b 8
      else if number == 28 then about_other view a (HealthEntryOf a b) c 20 else if number == 29 then about_other view a (HealthCounts a) b 8 else None) ≡ Some call → Comes
  at_25 true same is = is_call 25 same (record { mild = trace_mild caller; missing = trace_misses caller call system (some_is _ _ call is).0 })
  at_25 false other is = at_26 (number == 26) refl is

  at_15 : (t : Bool) → (number == 15) ≡ t
      → (if t then about_system PlanStatus a 20
      else if number == 25 then about_other view a (TraceEntryOf a b) c 24 else if number == 26 then about_other view a (TraceCounts a) b 8
      else if number == 28 then about_other view a (HealthEntryOf a b) c 20 else if number == 29 then about_other view a (HealthCounts a) b 8 else None) ≡ Some call → Comes
  at_15 true same is = is_call 15 same (record { mild = clock_mild caller; missing = asks_none caller _ call (call_numbered 15 caller) (same_Some _ call is) refl })
  at_15 false other is = at_25 (number == 25) refl is

  plan_at : (none : Bool) → (number == 14) ≡ true → (if none then None else about_system CurrentPlan b 4) ≡ Some call → Comes
  plan_at true same is = absurd cc
  plan_at false same is = is_call 14 same (record { mild = plan_mild caller; missing = asks_none caller _ call (call_numbered 14 caller) (same_Some _ call is) refl })

  at_14 : (t : Bool) → (number == 14) ≡ t
      → (if t then (if a == 0 || not (nat_lt a view.sees.plans) then None else about_system CurrentPlan b 4)
      else if number == 15 then about_system PlanStatus a 20
      else if number == 25 then about_other view a (TraceEntryOf a b) c 24 else if number == 26 then about_other view a (TraceCounts a) b 8
      else if number == 28 then about_other view a (HealthEntryOf a b) c 20 else if number == 29 then about_other view a (HealthCounts a) b 8 else None) ≡ Some call → Comes
  at_14 true same is = plan_at (a == 0 || not (nat_lt a view.sees.plans)) same is
  at_14 false other is = at_15 (number == 15) refl is

  at_11 : (t : Bool) → (number == 11) ≡ t
      → (if t then about_system SystemStatus a 8
      else if number == 14 then (if a == 0 || not (nat_lt a view.sees.plans) then None else about_system CurrentPlan b 4)
      else if number == 15 then about_system PlanStatus a 20
      else if number == 25 then about_other view a (TraceEntryOf a b) c 24 else if number == 26 then about_other view a (TraceCounts a) b 8
      else if number == 28 then about_other view a (HealthEntryOf a b) c 20 else if number == 29 then about_other view a (HealthCounts a) b 8 else None) ≡ Some call → Comes
  at_11 true same is = is_call 11 same (record { mild = system_mild caller; missing = asks_none caller _ call (call_numbered 11 caller) (same_Some _ call is) refl })
  at_11 false other is = at_14 (number == 14) refl is

  at_8 : (t : Bool) → (number == 8) ≡ t
      → (if t then about_other view a (PartitionStatus a) b 20
      else if number == 11 then about_system SystemStatus a 8
      else if number == 14 then (if a == 0 || not (nat_lt a view.sees.plans) then None else about_system CurrentPlan b 4)
      else if number == 15 then about_system PlanStatus a 20
      else if number == 25 then about_other view a (TraceEntryOf a b) c 24 else if number == 26 then about_other view a (TraceCounts a) b 8
      else if number == 28 then about_other view a (HealthEntryOf a b) c 20 else if number == 29 then about_other view a (HealthCounts a) b 8 else None) ≡ Some call → Comes
  at_8 true same is = about 8 (PartitionStatus a) b 20 same is refl (status_mild caller)
  at_8 false other is = at_11 (number == 11) refl is

  observing_is : observing view number a b c ≡ Some call → Comes
  observing_is is = at_8 (number == 8) refl is

-- the call that a system partition makes
by_flag : (caller : Caller) (call : Observation) (flag : Bool) → caller.view.part.system ≡ flag
    → (if flag then observing caller.view (number_of caller) (a_of caller) (b_of caller) (c_of caller) else None) ≡ Some call → IsObserved caller call (call_numbered (number_of caller) caller)
by_flag caller call true system is = observing_is caller call system is
by_flag caller call false plain is = absurd cc

pub served_observed : (caller : Caller) (call : Observation) → observed_by caller.view caller.state.core ≡ Some call → IsObserved caller call (served caller)
unfolding served
served_observed caller call is = by_flag caller call caller.view.part.system refl is

-- what is left of a caller that is shown what it may be
pub shown_after : ObservesAsTested → (caller : Caller) (call : Observation) (asked : Asked) (seen : Sight) → observed_by caller.view caller.state.core ≡ Some call
    → asked_of (Some call) ≡ Some asked → shows_this caller asked seen ≡ true → (served (record caller { sight = seen })).after ≡ shown_state asked seen caller.state
shown_after law caller call asked seen is asks shows =
    subst (λ (x : Asked). (served (record caller { sight = seen })).after ≡ shown_state x seen caller.state) (same_Some _ asked asks)
    (by seen (subst (λ (x : Asked). shows_this caller x seen ≡ true) (sym (same_Some _ asked asks)) shows))
  where
    its : Asked
    its = record { address = call.address; size = call.size; entry = asks_entry call.question }

    no_room : (b : Bool) → not b ≡ true → b ≡ false
    no_room true none = absurd cc
    no_room false none = refl

    has_room : (b t : Bool) → (b && t) ≡ true → b ≡ true
    has_room true t both = refl
    has_room false t both = absurd cc

    by : (s : Sight) → shows_this caller its s ≡ true → (served (record caller { sight = s })).after ≡ shown_state its s caller.state
    by Unseen shows =
        ap (λ (x : Served). x.after) ((law (record caller { sight = Unseen }) call is refl).refused (no_room (is_room caller call.address call.size) shows))
    by NotKept shows = (served_observed (record caller { sight = NotKept }) call is).missing refl shows
    by (Words bytes) shows =
        (law (record caller { sight = Words bytes }) call is refl).shown (has_room (is_room caller call.address call.size) (length bytes == call.size) shows)
