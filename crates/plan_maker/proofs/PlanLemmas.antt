-- What is known of the plan that is made, and of each refusal.
use Rattle.std.proofs.Common.{◌≡◌, ℕ, ◌<◌, ◌≤◌, ◌==◌, Bool, true, false, cond, List, [], ◌∷◌, length, IfErr, IfOk, Result, Ok, Err, ap, sym, ◌∙◌, subst, refl, arith}
use Rattle.std.specs.Prelude.{All, nat_lt}
use Rattle.std.proofs.lemmas.Bool.Decides.{nat_tests}
use Rattle.xm_conf.specs.Configuration.{Plan}
use Rattle.xm_conf.specs.Fits.{InFrame, InTurn, IsTime}
use Rattle.xm_conf.specs.Rules.{longest}
use Rattle.xm_conf.specs.declared.plan.Slot.{Slot}
use Rattle.plan_maker.specs.lemmas.NeededTerms.{ArePossible}
use Rattle.plan_maker.specs.Needed.{common_period, demand, longest_common}
use Rattle.plan_maker.specs.Planned.{GivesPlan, AreNeverMet, IsHopeless, IsMet, IsPlanRefused, IsRequirementServed, KeepsRules, frame_slots, most_slots, need_of, plan_in, plan_over, plan_with, planned}
use Rattle.plan_maker.specs.Served.{window_time}
use Rattle.fault_messages.specs.declared.fault.PlanFault.{PlanFault}
use Rattle.fault_messages.specs.declared.fault.PlanFault.TheVariants.{NoNeed, Period, Overload, Slots, Memory}
use Rattle.plan_maker.specs.declared.jobs.Requirement.{Requirement}
use Rattle.plan_maker.proofs.CourseLemmas.{laid_in_turn, laid_inside}
use Rattle.plan_maker.proofs.EachLemmas.{all_from_each, each_both, each_from_all}
use Rattle.plan_maker.proofs.LoadLemmas.{IsWhole}
use Rattle.plan_maker.proofs.OverloadLemmas.{IsMetIn, never_met}
use Rattle.plan_maker.proofs.PeriodLemmas.{IsCommon, common_is}
use Rattle.plan_maker.proofs.ServedLemmas.{HasWindows, course_laid, each_window, slots_at}
use Rattle.plan_maker.proofs.SharedLemmas.{laid_by_rules}

-- a plan is the one of its requirements
pub record IsMade (rs : List Requirement) (plan : Plan) : Type 0 where
  pub common : common_period rs ≡ Ok plan.frame
  pub enough : demand plan.frame rs ≤ plan.frame
  pub slots_are : plan.slots ≡ frame_slots rs plan.frame
  pub few : length plan.slots ≤ most_slots

-- a plan of a frame
abbrev frame_plan : ℕ → List Slot → Plan
frame_plan frame slots = record { frame = frame; slots = slots }

made_with : (rs : List Requirement) (frame : ℕ) (plan : Plan) → common_period rs ≡ Ok frame → demand frame rs ≤ frame → plan_with frame (frame_slots rs frame) ≡ Ok plan → IsMade rs plan
made_with rs frame plan common enough = at (nat_lt most_slots (length (frame_slots rs frame))) refl
  where
    at : (b : Bool) → nat_lt most_slots (length (frame_slots rs frame)) ≡ b → cond b (Err (Slots (length (frame_slots rs frame)))) (Ok (frame_plan frame (frame_slots rs frame))) ≡ Ok plan → IsMade rs plan
    at true many is = absurd (let never : ⊥ = cc in never)
    at false few is =
        let same : frame_plan frame (frame_slots rs frame) ≡ plan = cc in
        subst (λ (p : Plan). IsMade rs p) same
        (record { common = common; enough = enough; slots_are = refl; few = let less : length (frame_slots rs frame) ≤ most_slots = grind (arith, nat_tests) in less })

made_in : (rs : List Requirement) (frame : ℕ) (plan : Plan) → common_period rs ≡ Ok frame → plan_in rs frame ≡ Ok plan → IsMade rs plan
made_in rs frame plan common = at (nat_lt frame (demand frame rs)) refl
  where
    at : (b : Bool) → nat_lt frame (demand frame rs) ≡ b → cond b (Err (Overload (demand frame rs) frame)) (plan_with frame (frame_slots rs frame)) ≡ Ok plan → IsMade rs plan
    at true much is = absurd (let never : ⊥ = cc in never)
    at false enough is = made_with rs frame plan common (let less : demand frame rs ≤ frame = grind (arith, nat_tests) in less) is

made_over : (rs : List Requirement) (plan : Plan) (period : Result ℕ ℕ) → common_period rs ≡ period → plan_over rs period ≡ Ok plan → IsMade rs plan
made_over rs plan (Err part) common is = absurd (let never : ⊥ = cc in never)
made_over rs plan (Ok frame) common is = made_in rs frame plan common is

-- the plan that is made is the one of the requirements
pub planned_made : (rs : List Requirement) (plan : Plan) → planned rs ≡ Ok plan → IsMade rs plan
planned_made [] plan is = absurd (let never : ⊥ = cc in never)
planned_made (first ∷ rest) plan is = made_over (first ∷ rest) plan (common_period (first ∷ rest)) refl is

-- the common period of a plan that is made
pub made_common : (rs : List Requirement) (plan : Plan) → ArePossible 0 rs → IsMade rs plan → IsCommon 1 rs plan.frame
unfolding common_period
made_common rs plan possible made = common_is 1 0 rs plan.frame (omega arith) possible made.common

frame_time : (frame : ℕ) → 0 < frame → frame ≤ longest_common → IsTime frame
unfolding longest_common longest
frame_time frame some most = record { some = some; most = omega arith }

one_short : 1 ≤ longest_common
unfolding longest_common
one_short = omega arith

-- the plan that is made keeps the rules
pub made_rules : (rs : List Requirement) (plan : Plan) → ArePossible 0 rs → IsMade rs plan → KeepsRules plan
unfolding frame_slots
made_rules rs plan possible made =
    let common = made_common rs plan possible made in
    let slots = slots_at rs plan.frame in
    let inside : All (InFrame plan.frame) slots = all_from_each (InFrame plan.frame) slots (laid_inside 0 plan.frame slots (course_laid rs plan.frame)) in
    record {
      frame = frame_time plan.frame common.some (common.most one_short);
      inside = subst (λ (found : List Slot). All (InFrame plan.frame) found) (sym made.slots_are) inside;
      in_turn = subst (λ (found : List Slot). InTurn found) (sym made.slots_are) (laid_in_turn 0 plan.frame slots (course_laid rs plan.frame));
      few = made.few;
    }

-- the plan that is made serves each requirement
pub made_served : (rs : List Requirement) (plan : Plan) → ArePossible 0 rs → IsMade rs plan → All (IsRequirementServed plan) rs
unfolding frame_slots
made_served rs plan possible made =
    let common = made_common rs plan possible made in
    all_from_each (IsRequirementServed plan) rs
    (each_both (IsWhole plan.frame) (HasWindows rs plan.frame) (IsRequirementServed plan) rs served common.whole (each_window 0 plan.frame rs possible common.some common.whole made.enough))
  where
    served : (r : Requirement) → IsWhole plan.frame r → HasWindows rs plan.frame r → IsRequirementServed plan r
    served r whole windows = record {
      whole = whole.whole;
      exact = λ window inside. subst (λ (slots : List Slot). window_time r.part slots r.period window ≡ r.duration) (sym made.slots_are) (windows window inside);
    }

refused_with : (rs : List Requirement) (frame : ℕ) (fault : PlanFault) → common_period rs ≡ Ok frame → plan_with frame (frame_slots rs frame) ≡ Err fault → IsPlanRefused rs fault
refused_with rs frame fault common = at (nat_lt most_slots (length (frame_slots rs frame))) refl
  where
    at : (b : Bool) → nat_lt most_slots (length (frame_slots rs frame)) ≡ b → cond b (Err (Slots (length (frame_slots rs frame)))) (Ok (frame_plan frame (frame_slots rs frame))) ≡ Err fault → IsPlanRefused rs fault
    at true many is =
        let same : Slots (length (frame_slots rs frame)) ≡ fault = cc in
        let more : most_slots < length (frame_slots rs frame) = grind (arith, nat_tests) in
        subst (λ (f : PlanFault). IsPlanRefused rs f) same (frame, common, refl, more)
    at false few is = absurd (let never : ⊥ = cc in never)

refused_in : (rs : List Requirement) (frame : ℕ) (fault : PlanFault) → common_period rs ≡ Ok frame → plan_in rs frame ≡ Err fault → IsPlanRefused rs fault
refused_in rs frame fault common = at (nat_lt frame (demand frame rs)) refl
  where
    at : (b : Bool) → nat_lt frame (demand frame rs) ≡ b → cond b (Err (Overload (demand frame rs) frame)) (plan_with frame (frame_slots rs frame)) ≡ Err fault → IsPlanRefused rs fault
    at true much is =
        let same : Overload (demand frame rs) frame ≡ fault = cc in
        let more : frame < demand frame rs = grind (arith, nat_tests) in
        subst (λ (f : PlanFault). IsPlanRefused rs f) same (common, refl, more)
    at false enough is = refused_with rs frame fault common is

refused_over : (rs : List Requirement) (fault : PlanFault) (period : Result ℕ ℕ) → common_period rs ≡ period → plan_over rs period ≡ Err fault → IsPlanRefused rs fault
refused_over rs fault (Err part) common is =
    let same : Period part ≡ fault = cc in
    subst (λ (f : PlanFault). IsPlanRefused rs f) same common
refused_over rs fault (Ok frame) common is = refused_in rs frame fault common is

-- each refusal has its cause
pub planned_refused : (rs : List Requirement) (fault : PlanFault) → planned rs ≡ Err fault → IsPlanRefused rs fault
planned_refused [] fault is =
    let same : NoNeed ≡ fault = cc in
    subst (λ (f : PlanFault). IsPlanRefused [] f) same refl
planned_refused (first ∷ rest) fault is = refused_over (first ∷ rest) fault (common_period (first ∷ rest)) refl is

-- an answer that is no plan has its cause
pub answer_refused : (rs : List Requirement) (answer : Result Plan PlanFault) → GivesPlan answer (planned rs) → IfErr answer (IsPlanRefused rs)
answer_refused rs (Ok plan) is = tt
answer_refused rs (Err NoNeed) is = planned_refused rs NoNeed is
answer_refused rs (Err (Period part)) is = planned_refused rs (Period part) is
answer_refused rs (Err (Overload demanded frame)) is = planned_refused rs (Overload demanded frame) is
answer_refused rs (Err (Slots found)) is = planned_refused rs (Slots found) is
answer_refused rs (Err Memory) is = tt

-- an answer that is a plan keeps the rules, and serves each requirement
pub answer_rules : (rs : List Requirement) (answer : Result Plan PlanFault) → ArePossible 0 rs → GivesPlan answer (planned rs) → IfOk answer KeepsRules
answer_rules rs (Ok plan) possible is = made_rules rs plan possible (planned_made rs plan is)
answer_rules rs (Err fault) possible is = tt

pub answer_served : (rs : List Requirement) (answer : Result Plan PlanFault) → ArePossible 0 rs → GivesPlan answer (planned rs) → IfOk answer (λ plan. All (IsRequirementServed plan) rs)
answer_served rs (Ok plan) possible is = made_served rs plan possible (planned_made rs plan is)
answer_served rs (Err fault) possible is = tt

-- the requirements of an overload are never met
overload_never : (rs : List Requirement) (demanded frame : ℕ) → ArePossible 0 rs → IsPlanRefused rs (Overload demanded frame) → AreNeverMet rs
unfolding common_period
overload_never rs demanded frame possible refused = λ plan rules met.
    let common = common_is 1 0 rs frame (omega arith) possible refused.0 in
    let much : frame < demand frame rs = subst (λ (n : ℕ). frame < n) refused.1 refused.2 in
    never_met 0 frame plan.frame plan.slots rs possible common.whole much rules.frame.some (laid_by_rules plan.frame plan.slots rules.inside rules.in_turn)
    (each_both (IsWhole frame) (λ r. IsMet plan r.part (need_of r)) (IsMetIn plan.slots plan.frame) rs (λ r whole is. record { period = whole.period; whole = is.whole; enough = is.each }) common.whole
    (each_from_all (λ r. IsMet plan r.part (need_of r)) rs met))

-- an answer that reports an overload is one of requirements that are never met
pub answer_hopeless : (rs : List Requirement) (answer : Result Plan PlanFault) → ArePossible 0 rs → GivesPlan answer (planned rs) → IfErr answer (IsHopeless rs)
answer_hopeless rs (Ok plan) possible is = tt
answer_hopeless rs (Err NoNeed) possible is = tt
answer_hopeless rs (Err (Period part)) possible is = tt
answer_hopeless rs (Err (Overload demanded frame)) possible is = overload_never rs demanded frame possible (planned_refused rs (Overload demanded frame) is)
answer_hopeless rs (Err (Slots found)) possible is = tt
answer_hopeless rs (Err Memory) possible is = tt

-- where there is no requirement there is no plan
pub planned_none : (rs : List Requirement) → (length rs == 0) ≡ true → planned rs ≡ Err NoNeed
planned_none [] is = refl
planned_none (first ∷ rest) is = absurd (let none : length (first ∷ rest) ≡ 0 = grind (arith, nat_tests) in omega arith)

-- where there is one the common period comes next
pub planned_some : (rs : List Requirement) → (length rs == 0) ≡ false → planned rs ≡ plan_over rs (common_period rs)
planned_some [] is = absurd (let never : ⊥ = cc in never)
planned_some (first ∷ rest) is = refl

-- a common period that is too long
pub planned_long : (rs : List Requirement) (part : ℕ) → (length rs == 0) ≡ false → Err part ≡ common_period rs → planned rs ≡ Err (Period part)
planned_long rs part some is = planned_some rs some ∙ ap (λ (period : Result ℕ ℕ). plan_over rs period) (sym is)

-- a common period with its plan
pub planned_period : (rs : List Requirement) (frame : ℕ) (answer : Result Plan PlanFault) → (length rs == 0) ≡ false → Ok frame ≡ common_period rs → GivesPlan answer (plan_in rs frame) → GivesPlan answer (planned rs)
planned_period rs frame answer some is answers =
    subst (λ (expected : Result Plan PlanFault). GivesPlan answer expected) (ap (λ (period : Result ℕ ℕ). plan_over rs period) is ∙ sym (planned_some rs some)) answers

-- a common period is at most the longest
pub period_short : (rs : List Requirement) (frame : ℕ) → ArePossible 0 rs → Ok frame ≡ common_period rs → frame ≤ 1000000
unfolding common_period longest_common
period_short rs frame possible is =
    let common = common_is 1 0 rs frame (omega arith) possible (sym is) in
    common.most (omega arith)

-- the refusal of an overload
abbrev overload_of : ℕ → ℕ → Result Plan PlanFault
overload_of demanded frame = Err (Overload demanded frame)

-- an overload
pub plan_overload : (rs : List Requirement) (demanded frame : ℕ) → demanded ≡ demand frame rs → frame < demanded → plan_in rs frame ≡ Err (Overload demanded frame)
plan_overload rs demanded frame is much =
    let more : nat_lt frame (demand frame rs) ≡ true = grind (arith, nat_tests) in
    rw more (ap (λ (n : ℕ). overload_of n frame) (sym is))

-- no overload
pub plan_enough : (rs : List Requirement) (demanded frame : ℕ) (slots : List Slot) (answer : Result Plan PlanFault) → demanded ≡ demand frame rs → demanded ≤ frame → slots ≡ frame_slots rs frame
    → GivesPlan answer (plan_with frame slots) → GivesPlan answer (plan_in rs frame)
plan_enough rs demanded frame slots answer is enough same answers =
    let less : nat_lt frame (demand frame rs) ≡ false = grind (arith, nat_tests) in
    rw less (subst (λ (found : List Slot). GivesPlan answer (plan_with frame found)) same answers)
