-- What is said where no plan is made, and how a plan stands to a requirement.
use Rattle.std.proofs.Common.{◌≡◌, ◌≢◌, ℕ, zero, suc, ◌+◌, ◌*◌, ◌/◌, ◌%◌, ◌<◌, ◌≤◌, ◌==◌, true, false, nat_lt, ⊎_elim, List, length, Option, Some, None, Result, Err, refl, sym, ap, ◌∙◌, subst, arith}
use Rattle.std.specs.Prelude.{All, IfSome, slice_index_or}
use Rattle.std.proofs.lemmas.Bool.{cases_lt}
use Rattle.std.proofs.lemmas.Bool.Decides.{nat_tests}
use Rattle.std.proofs.lemmas.Nat.{le-div}
use Rattle.std.proofs.Math.Nat.{div-mul-le_self, mul-le-mul_right}
use Rattle.cyclic_plans.specs.lemmas.PlanLemmas.{stands_at}
use Rattle.cyclic_plans.specs.Slots.{slots_of}
use Rattle.xm_conf.specs.Configuration.{Conf, Part, Plan}
use Rattle.xm_conf.specs.Description.{described}
use Rattle.xm_conf.specs.Fits.{Fits, InFrame, InTurn, IsNeed, IsTime}
use Rattle.xm_conf.specs.declared.part.Need.{Need}
use Rattle.xm_conf.specs.declared.plan.Slot.{Slot}
use Rattle.plan_maker.specs.Needed.{longest_common}
use Rattle.plan_maker.specs.Planned.{GivesPlan, IsAnswer, IsEnough, IsMet, IsMissed}
use Rattle.plan_maker.specs.Served.{window_time}
use Rattle.fault_messages.specs.Texts.{plan_fault_text}
use Rattle.plan_maker.specs.declared.answer.Met.{Met}
use Rattle.plan_maker.specs.declared.answer.Met.TheVariants as met
use Rattle.fault_messages.specs.declared.fault.PlanFault.{PlanFault}
use Rattle.fault_messages.specs.declared.fault.PlanFault.TheVariants as variant
use Rattle.builders.specs.Makes.{IsRefusalText, IsUnmade}
use Rattle.builders.specs.Planning.{first_plan, frame_text, met_by, met_from, plan_lines_by, verdicts_by}
use Rattle.builders.specs.declared.unmade.Unmade.{Unmade}
use Rattle.builders.specs.declared.unmade.Unmade.TheVariants.{Memory}
use Rattle.builders.specs.lemmas.ParsingLemmas.{memory_makes, stated_makes}

-- why no plan is made
pub plan_unmade : (fault : PlanFault) (made : Result Plan PlanFault) (why : Unmade) → GivesPlan (Err fault) made → IsRefusalText why (plan_fault_text fault) → (fault ≡ variant.Memory → why ≡ Memory) → IsUnmade why (plan_lines_by made)
plan_unmade variant.NoNeed made why answers stated memory = stated_makes why _ _ (ap plan_lines_by answers) stated
plan_unmade (variant.Period part) made why answers stated memory = stated_makes why _ _ (ap plan_lines_by answers) stated
plan_unmade (variant.Overload demand period) made why answers stated memory = stated_makes why _ _ (ap plan_lines_by answers) stated
plan_unmade (variant.Slots found) made why answers stated memory = stated_makes why _ _ (ap plan_lines_by answers) stated
plan_unmade variant.Memory made why answers stated memory = memory_makes why _ (memory refl)

-- a plan whose frame is too long is not checked
pub checked_not : (plan : Plan) (parts : List Part) (why : Unmade) (found : ℕ) → found ≡ plan.frame → 1000000 < found → IsRefusalText why (frame_text found) → IsUnmade why (verdicts_by plan parts)
unfolding verdicts_by longest_common
checked_not plan parts why found is long stated =
    let test : nat_lt 1000000 plan.frame ≡ true = grind (arith, nat_tests, is, long) in
    stated_makes why _ _ (rw (test, is) refl) stated

-- a configuration has a plan
pub has_plan : (conf : Conf) → Fits (described conf) → 0 < length conf.plans
unfolding described
has_plan conf fits = fits.counts.plans.some

-- plan 0 of a configuration, which keeps the rules of a plan
pub record IsFirst (conf : Conf) (plan : Plan) : Type 0 where
  pub value : plan ≡ first_plan conf
  pub frame : IsTime plan.frame
  pub inside : All (InFrame plan.frame) plan.slots
  pub in_turn : InTurn plan.slots

pub is_first : (conf : Conf) (plan : Plan) → Fits (described conf) → plan ≡ slice_index_or conf.plans 0 plan → IsFirst conf plan
unfolding described
is_first conf plan fits is =
    let some : 0 < length conf.plans = fits.counts.plans.some in
    let at = stands_at conf 0 plan fits some is in
    let same : first_plan conf ≡ plan = ap (λ (n : ℕ). record { frame = n; slots = slots_of conf 0 }) at.frame ∙ ap (λ (s : List Slot). record { frame = plan.frame; slots = s }) at.slots in
    record {
      value = sym same;
      frame = subst (λ (p : Plan). IsTime p.frame) (sym is) (fits.frames 0 plan some);
      inside = subst (λ (p : Plan). All (InFrame p.frame) p.slots) (sym is) (fits.slots_inside 0 plan some);
      in_turn = subst (λ (p : Plan). InTurn p.slots) (sym is) (fits.slots_in_turn 0 plan some);
    }

-- windows that are all long enough
met_in_all : (plan : Plan) (part : ℕ) (need : Need) (window more : ℕ) → ((later : ℕ) → window ≤ later → later < window + more → IsEnough plan part need later) → met_from plan part need window more ≡ met.Met
met_in_all plan part need window zero enough = refl
met_in_all plan part need window (suc more) enough =
    let own : need.duration ≤ window_time part plan.slots need.period window = enough window (omega arith) (omega arith) in
    let test : nat_lt (window_time part plan.slots need.period window) need.duration ≡ false = grind (arith, nat_tests) in
    rw test (met_in_all plan part need (window + 1) more (λ later from below. enough later (omega arith) (omega arith)))

-- the first window that is not long enough
missed_first : (plan : Plan) (part : ℕ) (need : Need) (window more missed : ℕ) → window ≤ missed → missed < window + more → window_time part plan.slots need.period missed < need.duration
    → ((earlier : ℕ) → earlier < missed → IsEnough plan part need earlier) → met_from plan part need window more ≡ met.Missed missed
missed_first plan part need window zero missed from below short before = absurd (omega arith)
missed_first plan part need window (suc more) missed from below short before =
    ⊎_elim (λ first. later first (missed_first plan part need (window + 1) more missed (past first) (omega arith) short before)) here (cases_lt window missed)
  where
    past : window < missed → window + 1 ≤ missed
    past first = omega arith

    later : window < missed → met_from plan part need (window + 1) more ≡ met.Missed missed → met_from plan part need window (suc more) ≡ met.Missed missed
    later first rest =
        let own : need.duration ≤ window_time part plan.slots need.period window = before window first in
        let test : nat_lt (window_time part plan.slots need.period window) need.duration ≡ false = grind (arith, nat_tests) in
        rw test rest

    here : missed ≤ window → met_from plan part need window (suc more) ≡ met.Missed missed
    here last =
        let same : window ≡ missed = omega arith in
        let test : nat_lt (window_time part plan.slots need.period missed) need.duration ≡ true = grind (arith, nat_tests) in
        rw (same, test) refl

-- a window lies in the frame exactly where its number is below that of the windows
window_below : (window period frame : ℕ) → 0 < period → (window + 1) * period ≤ frame → window < frame / period
window_below window period frame some inside = (let most : window + 1 ≤ frame / period = le-div (window + 1) frame period some inside in omega arith)

window_inside : (window period frame : ℕ) → window < frame / period → (window + 1) * period ≤ frame
window_inside window period frame below =
    let more : (window + 1) * period ≤ frame / period * period = mul-le-mul_right period (let most : window + 1 ≤ frame / period = omega arith in most) in
    omega (arith, more, div-mul-le_self frame period)

-- whole windows that are all long enough
met_all : (plan : Plan) (part : ℕ) (need : Need) → IsMet plan part need → met_by plan part (Some need) ≡ met.Met
met_all plan part need is =
    let test : (plan.frame % need.period == 0) ≡ true = grind (arith, nat_tests, is.whole) in
    rw test (met_in_all plan part need 0 (plan.frame / need.period) (λ later from below. is.each later (window_inside later need.period plan.frame (omega arith))))

-- whole windows, one of which is not long enough
met_missed : (plan : Plan) (part : ℕ) (need : Need) (window : ℕ) → 0 < need.period → IsMissed plan part need window → met_by plan part (Some need) ≡ met.Missed window
met_missed plan part need window some is =
    let test : (plan.frame % need.period == 0) ≡ true = grind (arith, nat_tests, is.whole) in
    let below : window < plan.frame / need.period = window_below window need.period plan.frame some is.inside in
    rw test (missed_first plan part need 0 (plan.frame / need.period) window (omega arith) (omega arith) is.short is.before)

-- a frame that is not whole windows
met_uneven : (plan : Plan) (part : ℕ) (need : Need) → plan.frame % need.period ≢ 0 → met_by plan part (Some need) ≡ met.Uneven
met_uneven plan part need is =
    let test : (plan.frame % need.period == 0) ≡ false = grind (arith, nat_tests, is) in
    rw test refl

-- an answer to a requirement is that of the definition
pub met_is : (plan : Plan) (part : ℕ) (need : Option Need) (answer : Met) → IfSome need IsNeed → IsAnswer plan part need answer → answer ≡ met_by plan part need
met_is plan part need met.NoNeed right is = rw is refl
met_is plan part None met.Uneven right is = absurd is
met_is plan part None met.Met right is = absurd is
met_is plan part None (met.Missed window) right is = absurd is
met_is plan part (Some need) met.Uneven right is = sym (met_uneven plan part need is)
met_is plan part (Some need) met.Met right is = sym (met_all plan part need is)
met_is plan part (Some need) (met.Missed window) right is = sym (met_missed plan part need window (let some : 0 < need.period = omega (arith, right.some, right.inside) in some) is)
