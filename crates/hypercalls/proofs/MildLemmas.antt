-- An observing call does nothing, or it asks for a plan.
use Rattle.std.proofs.Common.{◌≡◌, ◌⊎◌, inl, inr, ℕ, Bool, true, false, List, [], ◌∷◌, None, Some, refl, sym, subst}
use Rattle.std.specs.Prelude.{◌==◌, ◌||◌, not, nat_lt, if◌then◌else◌}
use Rattle.std.proofs.lemmas.Bool.{eqb-true}
use Rattle.machine_model.specs.Caller.{Acts, Caller, Served, Test, Upshot, a_of, b_of, c_of, number_of, room, system_only, target, tested}
use Rattle.machine_model.specs.Hypercalls.{call_numbered, served}
use Rattle.machine_model.specs.Observed.{CurrentPlan, HealthCounts, HealthEntryOf, Observation, PartitionStatus, PlanStatus, SystemStatus, TraceCounts, TraceEntryOf, about_other, about_system, observed_by, observing}
use Rattle.machine_model.specs.Emission as emission
use Rattle.machine_model.specs.View.{PartitionView}

-- nothing is done, or a plan is asked for
abbrev pub Mild : Upshot → Type 0
Mild upshot = (upshot ≡ Acts emission.Nothing) ⊎ ((plan : ℕ) × (upshot ≡ Acts (emission.Plans (emission.Asked plan))))

-- a refused call does nothing
tested_mild : (tests : List Test) (caller : Caller) (comes : Served) → Mild comes.upshot → Mild (tested tests caller comes).upshot
tested_mild [] caller comes mild = mild
tested_mild (Some code ∷ tests) caller comes mild = inl refl
tested_mild (None ∷ tests) caller comes mild = tested_mild tests caller comes mild

-- the observing calls
status_mild : (caller : Caller) → Mild (call_numbered 8 caller).upshot
status_mild caller = tested_mild (target caller (a_of caller) ∷ room caller (b_of caller) 20 ∷ []) caller _ (inl refl)

system_mild : (caller : Caller) → Mild (call_numbered 11 caller).upshot
system_mild caller = tested_mild (system_only caller ∷ room caller (a_of caller) 8 ∷ []) caller _ (inl refl)

plan_mild : (caller : Caller) → Mild (call_numbered 14 caller).upshot
plan_mild caller = tested_mild (system_only caller ∷ _ ∷ room caller (b_of caller) 4 ∷ []) caller _ (inr (a_of caller, refl))

clock_mild : (caller : Caller) → Mild (call_numbered 15 caller).upshot
clock_mild caller = tested_mild (system_only caller ∷ room caller (a_of caller) 20 ∷ []) caller _ (inl refl)

trace_mild : (caller : Caller) → Mild (call_numbered 25 caller).upshot
trace_mild caller = tested_mild (target caller (a_of caller) ∷ _ ∷ room caller (c_of caller) 24 ∷ []) caller _ (inl refl)

traces_mild : (caller : Caller) → Mild (call_numbered 26 caller).upshot
traces_mild caller = tested_mild (target caller (a_of caller) ∷ room caller (b_of caller) 8 ∷ []) caller _ (inl refl)

health_mild : (caller : Caller) → Mild (call_numbered 28 caller).upshot
health_mild caller = tested_mild (target caller (a_of caller) ∷ _ ∷ room caller (c_of caller) 20 ∷ []) caller _ (inl refl)

log_mild : (caller : Caller) → Mild (call_numbered 29 caller).upshot
log_mild caller = tested_mild (target caller (a_of caller) ∷ room caller (b_of caller) 8 ∷ []) caller _ (inl refl)

-- by their numbers
module _ (caller : Caller) (view : PartitionView) (number a b c : ℕ) (call : Observation) where
  abbrev MildCall : Type 0
  MildCall = Mild (call_numbered number caller).upshot

  is_call : (n : ℕ) → (number == n) ≡ true → Mild (call_numbered n caller).upshot → MildCall
  is_call n same mild = subst (λ (k : ℕ). Mild (call_numbered k caller).upshot) (sym (eqb-true number n same)) mild

  at_29 : (t : Bool) → (number == 29) ≡ t → (if t then about_other view a (HealthCounts a) b 8 else None) ≡ Some call → MildCall
  at_29 true same is = is_call 29 same (log_mild caller)
  at_29 false other is = absurd cc

  at_28 : (t : Bool) → (number == 28) ≡ t
      → (if t then about_other view a (HealthEntryOf a b) c 20 else if number == 29 then about_other view a (HealthCounts a) b 8 else None) ≡ Some call → MildCall
  at_28 true same is = is_call 28 same (health_mild caller)
  at_28 false other is = at_29 (number == 29) refl is

  at_26 : (t : Bool) → (number == 26) ≡ t
      → (if t then about_other view a (TraceCounts a) b 8
      else if number == 28 then about_other view a (HealthEntryOf a b) c 20 else if number == 29 then about_other view a (HealthCounts a) b 8 else None) ≡ Some call → MildCall
  at_26 true same is = is_call 26 same (traces_mild caller)
  at_26 false other is = at_28 (number == 28) refl is

  at_25 : (t : Bool) → (number == 25) ≡ t
      → (if t then about_other view a (TraceEntryOf a b) c 24 else if number == 26 then about_other view a (TraceCounts a) b 8
      else if number == 28 then about_other view a (HealthEntryOf a b) c 20 else if number == 29 then about_other view a (HealthCounts a) b 8 else None) ≡ Some call → MildCall
  at_25 true same is = is_call 25 same (trace_mild caller)
  at_25 false other is = at_26 (number == 26) refl is

  at_15 : (t : Bool) → (number == 15) ≡ t
      → (if t then about_system PlanStatus a 20
      else if number == 25 then about_other view a (TraceEntryOf a b) c 24 else if number == 26 then about_other view a (TraceCounts a) b 8
      else if number == 28 then about_other view a (HealthEntryOf a b) c 20 else if number == 29 then about_other view a (HealthCounts a) b 8 else None) ≡ Some call → MildCall
  at_15 true same is = is_call 15 same (clock_mild caller)
  at_15 false other is = at_25 (number == 25) refl is

  at_14 : (t : Bool) → (number == 14) ≡ t
      → (if t then (if a == 0 || not (nat_lt a view.sees.plans) then None else about_system CurrentPlan b 4)
      else if number == 15 then about_system PlanStatus a 20
      else if number == 25 then about_other view a (TraceEntryOf a b) c 24 else if number == 26 then about_other view a (TraceCounts a) b 8
      else if number == 28 then about_other view a (HealthEntryOf a b) c 20 else if number == 29 then about_other view a (HealthCounts a) b 8 else None) ≡ Some call → MildCall
  at_14 true same is = is_call 14 same (plan_mild caller)
  at_14 false other is = at_15 (number == 15) refl is

  at_11 : (t : Bool) → (number == 11) ≡ t
      → (if t then about_system SystemStatus a 8
      else if number == 14 then (if a == 0 || not (nat_lt a view.sees.plans) then None else about_system CurrentPlan b 4)
      else if number == 15 then about_system PlanStatus a 20
      else if number == 25 then about_other view a (TraceEntryOf a b) c 24 else if number == 26 then about_other view a (TraceCounts a) b 8
      else if number == 28 then about_other view a (HealthEntryOf a b) c 20 else if number == 29 then about_other view a (HealthCounts a) b 8 else None) ≡ Some call → MildCall
  at_11 true same is = is_call 11 same (system_mild caller)
  at_11 false other is = at_14 (number == 14) refl is

  at_8 : (t : Bool) → (number == 8) ≡ t
      → (if t then about_other view a (PartitionStatus a) b 20
      else if number == 11 then about_system SystemStatus a 8
      else if number == 14 then (if a == 0 || not (nat_lt a view.sees.plans) then None else about_system CurrentPlan b 4)
      else if number == 15 then about_system PlanStatus a 20
      else if number == 25 then about_other view a (TraceEntryOf a b) c 24 else if number == 26 then about_other view a (TraceCounts a) b 8
      else if number == 28 then about_other view a (HealthEntryOf a b) c 20 else if number == 29 then about_other view a (HealthCounts a) b 8 else None) ≡ Some call → MildCall
  at_8 true same is = is_call 8 same (status_mild caller)
  at_8 false other is = at_11 (number == 11) refl is

  observing_mild : observing view number a b c ≡ Some call → MildCall
  observing_mild is = at_8 (number == 8) refl is

-- the call that a system partition makes
by_flag : (caller : Caller) (view : PartitionView) (call : Observation) (flag : Bool)
    → (if flag then observing view (number_of caller) (a_of caller) (b_of caller) (c_of caller) else None) ≡ Some call → Mild (call_numbered (number_of caller) caller).upshot
by_flag caller view call true is = observing_mild caller view (number_of caller) (a_of caller) (b_of caller) (c_of caller) call is
by_flag caller view call false is = absurd cc

pub served_mild : (caller : Caller) (call : Observation) → observed_by caller.view caller.state.core ≡ Some call → Mild (served caller).upshot
unfolding served
served_mild caller call is = by_flag caller caller.view call caller.view.part.system is
