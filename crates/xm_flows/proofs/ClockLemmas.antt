-- The plan clock after a tick that steers alike: the same plan, in a frame that began with the same tick.
use Rattle.std.proofs.Common.{◌≡◌, ℕ, ◌+◌, Bool, true, false, Option, None, Some, refl, sym, ap, ◌∙◌, arith}
use Rattle.std.specs.Prelude.{◌==◌, if◌then◌else◌}
use Rattle.std.proofs.lemmas.Bool.{eqb-true}
use Rattle.std.proofs.lemmas.Option.{same_Some}
use Rattle.cyclic_plans.specs.PlanClock.{CyclicClock, ended, ends_frame, frame_from, in_maintenance, next_plan, other_plan}
use Rattle.xm_conf.specs.Configuration.{Conf}
use Rattle.machine_model.specs.Machine.{clock_after, next_plan_clock}
use Rattle.machine_model.specs.Emission.{Act, AllHalted, AllReset, Asked, Maintenance, NoEvent, PlanChange, WholeEvent, reach_of}
use Rattle.xm_flows.specs.Steering.{steered_plan}
use Rattle.xm_flows.specs.Together.{RunTheSame}

-- where steering has the same of a new plan, the new plan is the same
same_plan : (old old' new new' : ℕ) → old ≡ old' → other_plan old new ≡ other_plan old' new' → new ≡ new'
same_plan old old' new new' same steered = by (new == old) (new' == old') refl refl steered
  where
    by : (a b : Bool) → (new == old) ≡ a → (new' == old') ≡ b → (if a then None else Some new) ≡ (if b then None else Some new') → new ≡ new'
    by true true is is' said = eqb-true new old is ∙ same ∙ sym (eqb-true new' old' is')
    by true false is is' said = absurd cc
    by false true is is' said = absurd cc
    by false false is is' said = same_Some new new' said

-- a frame that ends, or does not, in both
frames : (a : Bool) (one other : CyclicClock) (now : ℕ) → RunTheSame one other
    → other_plan one.plan (if a then frame_from (next_plan one) (now + 1) else one).plan ≡ other_plan other.plan (if a then frame_from (next_plan other) (now + 1) else other).plan
    → RunTheSame (if a then frame_from (next_plan one) (now + 1) else one) (if a then frame_from (next_plan other) (now + 1) else other)
frames true one other now same steered = record { plan = same_plan one.plan other.plan (next_plan one) (next_plan other) same.plan steered; frame_start = refl }
frames false one other now same steered = same

both_ended : (first second : Conf) (one other : CyclicClock) (now : ℕ) → RunTheSame one other → ends_frame first one now ≡ ends_frame second other now
    → other_plan one.plan (ended first one now).plan ≡ other_plan other.plan (ended second other now).plan → RunTheSame (ended first one now) (ended second other now)
unfolding ended
both_ended first second one other now same ends steered = by (ends_frame first one now) (ends_frame second other now) ends steered
  where
    by : (a b : Bool) → a ≡ b
        → other_plan one.plan (if a then frame_from (next_plan one) (now + 1) else one).plan ≡ other_plan other.plan (if b then frame_from (next_plan other) (now + 1) else other).plan
        → RunTheSame (if a then frame_from (next_plan one) (now + 1) else one) (if b then frame_from (next_plan other) (now + 1) else other)
    by true true e said = frames true one other now same said
    by true false e said = absurd cc
    by false true e said = absurd cc
    by false false e said = frames false one other now same said

-- no other plan is the same plan
same_again : (plan : ℕ) → other_plan plan plan ≡ None
same_again plan = let same : (plan == plan) ≡ true = grind (arith) in ap (λ b. if b then None else Some plan) same

-- the maintenance plan started in one, and so the frame of the other ended into it
maintained : (second : Conf) (other : CyclicClock) (now : ℕ) → Some 1 ≡ other_plan other.plan (ended second other now).plan → RunTheSame (in_maintenance now) (ended second other now)
unfolding ended in_maintenance
maintained second other now steered = by (ends_frame second other now) steered
  where
    entered : (b : Bool) → (next_plan other == other.plan) ≡ b → Some 1 ≡ (if b then None else Some (next_plan other)) → 1 ≡ next_plan other
    entered true same said = absurd cc
    entered false other_one said = same_Some 1 (next_plan other) said

    by : (b : Bool) → Some 1 ≡ other_plan other.plan (if b then frame_from (next_plan other) (now + 1) else other).plan
        → RunTheSame (frame_from 1 (now + 1)) (if b then frame_from (next_plan other) (now + 1) else other)
    by true said = record { plan = entered (next_plan other == other.plan) refl said; frame_start = refl }
    by false said = absurd (let none : Some 1 ≡ None = said ∙ same_again other.plan in cc)

back : (one other : CyclicClock) → RunTheSame one other → RunTheSame other one
back one other same = record { plan = sym same.plan; frame_start = sym same.frame_start }

-- the clock that a plan was asked of
abbrev asking : CyclicClock → ℕ → CyclicClock
asking clock plan = record clock { asked = Some plan }

both_planned : (change change' : Option PlanChange) (first second : Conf) (one other : CyclicClock) (now : ℕ) → RunTheSame one other → ends_frame first one now ≡ ends_frame second other now
    → steered_plan change one.plan (next_plan_clock change first one now).plan ≡ steered_plan change' other.plan (next_plan_clock change' second other now).plan
    → RunTheSame (next_plan_clock change first one now) (next_plan_clock change' second other now)
unfolding in_maintenance
both_planned None None first second one other now same ends steered = both_ended first second one other now same ends steered
both_planned None (Some (Asked plan)) first second one other now same ends steered =
    both_ended first second one (asking other plan) now (record { plan = same.plan; frame_start = same.frame_start }) ends steered
both_planned None (Some Maintenance) first second one other now same ends steered = back (in_maintenance now) (ended first one now) (maintained first one now (sym steered))
both_planned (Some (Asked plan)) None first second one other now same ends steered =
    both_ended first second (asking one plan) other now (record { plan = same.plan; frame_start = same.frame_start }) ends steered
both_planned (Some (Asked plan)) (Some (Asked plan')) first second one other now same ends steered =
    both_ended first second (asking one plan) (asking other plan') now (record { plan = same.plan; frame_start = same.frame_start }) ends steered
both_planned (Some (Asked plan)) (Some Maintenance) first second one other now same ends steered =
    back (in_maintenance now) (ended first (asking one plan) now) (maintained first (asking one plan) now (sym steered))
both_planned (Some Maintenance) None first second one other now same ends steered = maintained second other now steered
both_planned (Some Maintenance) (Some (Asked plan)) first second one other now same ends steered = maintained second (asking other plan) now steered
both_planned (Some Maintenance) (Some Maintenance) first second one other now same ends steered = record { plan = refl; frame_start = refl }

pub clocks_alike : (event : WholeEvent) (act act' : Act) (first second : Conf) (one other : CyclicClock) (now : ℕ) → RunTheSame one other → ends_frame first one now ≡ ends_frame second other now
    → steered_plan (reach_of act).plan one.plan (clock_after event first act one now).plan ≡ steered_plan (reach_of act').plan other.plan (clock_after event second act' other now).plan
    → RunTheSame (clock_after event first act one now) (clock_after event second act' other now)
clocks_alike NoEvent act act' first second one other now same ends steered = both_planned (reach_of act).plan (reach_of act').plan first second one other now same ends steered
clocks_alike (AllReset mode) act act' first second one other now same ends steered = record { plan = refl; frame_start = refl }
clocks_alike AllHalted act act' first second one other now same ends steered = same
