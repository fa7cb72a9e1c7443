-- Where no event is answered twice there are at most 12 answers.
use Rattle.std.proofs.Common.{◌≡◌, ℕ, suc, ◌+◌, ◌≤◌, if◌then◌else◌, Bool, true, false, List, [], ◌∷◌, ◌++◌, length, get_or, take, ◌<◌, Option, Some, None, is_some, refl, sym, ◌∙◌, ap, subst, arith}
use Rattle.std.proofs.lemmas.List.{take_more}
use Rattle.std.specs.Prelude.{◌==◌}
use Rattle.std.specs.List.{position_from}
use Rattle.std.proofs.lemmas.Bool.Decides.{nat_tests}
use Rattle.xm_base.specs.Options.{on}
use Rattle.xm_conf.specs.Along.{head_of, unless}
use Rattle.xm_conf.specs.Description.{HealthAnswer}
use Rattle.xm_conf.specs.Health.{event_row, is_allowed}
use Rattle.xm_conf.specs.Rules as rules
use Rattle.xm_conf.specs.declared.health.Event.{Event}
use Rattle.xm_conf.specs.declared.health.Event.TheVariants as event
use Rattle.xm_conf.specs.declared.item.Item.TheVariants as item
use Rattle.xm_conf.specs.declared.item.Broken.{Broken}

-- one where a test passes
abbrev pub one : Bool → ℕ
one true = 1
one false = 0

-- the number of an answer's event
abbrev pub number_of : HealthAnswer → ℕ
number_of answer = (event_row answer.event).number

-- how many answers are to the event of a number
abbrev pub exactly : ℕ → List HealthAnswer → ℕ
exactly k [] = 0
exactly k (a ∷ answers) = one (number_of a == k) + exactly k answers

-- no event is answered twice
pub record IsOnce (answers : List HealthAnswer) : Type 0 where
  pub once : (k : ℕ) → exactly k answers ≤ 1

-- one more answer
pub exactly-push : (k : ℕ) (answers : List HealthAnswer) (a : HealthAnswer) → exactly k (answers ++ a ∷ []) ≡ exactly k answers + one (number_of a == k)
exactly-push k [] a = omega arith
exactly-push k (b ∷ answers) a = omega (arith, exactly-push k answers a)

-- where no answer is to an event, there are none
pub exactly-none : (n : ℕ) (a : HealthAnswer) (answers : List HealthAnswer) → position_from (λ earlier. rules.same_event earlier a) n answers ≡ None
    → exactly (number_of a) answers ≡ 0
unfolding rules.same_event
exactly-none n a [] none = refl
exactly-none n a (b ∷ answers) none = at (exactly-none (n + 1) a answers) (number_of b == number_of a) none
  where
    at : (position_from (λ earlier. number_of earlier == number_of a) (n + 1) answers ≡ None → exactly (number_of a) answers ≡ 0) → (t : Bool) → (if t then Some n else position_from (λ earlier. number_of earlier == number_of a) (n + 1) answers) ≡ None
        → one t + exactly (number_of a) answers ≡ 0
    at rest true some = cc
    at rest false later = omega (arith, rest later)

-- an answer to an event that is not answered yet
pub once_more : (answers : List HealthAnswer) (a : HealthAnswer) → IsOnce answers → position_from (λ earlier. rules.same_event earlier a) 0 answers ≡ None
    → IsOnce (answers ++ a ∷ [])
once_more answers a once none = record { once = λ k. at k (number_of a == k) refl }
  where
    at : (k : ℕ) (t : Bool) → (number_of a == k) ≡ t → exactly k (answers ++ a ∷ []) ≤ 1
    at k true same =
        let is : number_of a ≡ k = grind (arith, nat_tests) in
        let first : exactly k answers ≡ 0 = ap (λ n. exactly n answers) (sym is) ∙ exactly-none 0 a answers none in
        let last : one (number_of a == k) ≡ 1 = ap one same in
        omega (arith, exactly-push k answers a, first, last)
    at k false other =
        let last : one (number_of a == k) ≡ 0 = ap one other in
        omega (arith, exactly-push k answers a, once.once k, last)

-- each answer is to one of the 12 events
pub exactly-all : (answers : List HealthAnswer) → length answers
    ≡ exactly 0 answers + exactly 1 answers + exactly 2 answers + exactly 3 answers + exactly 4 answers + exactly 5 answers
    + exactly 6 answers + exactly 7 answers + exactly 8 answers + exactly 9 answers + exactly 10 answers + exactly 11 answers
exactly-all [] = refl
exactly-all (a ∷ answers) = at a.event (exactly-all answers)
  where
    at : (e : Event) → length answers
        ≡ exactly 0 answers + exactly 1 answers + exactly 2 answers + exactly 3 answers + exactly 4 answers + exactly 5 answers
        + exactly 6 answers + exactly 7 answers + exactly 8 answers + exactly 9 answers + exactly 10 answers + exactly 11 answers → suc (length answers)
        ≡ (one ((event_row e).number == 0) + exactly 0 answers) + (one ((event_row e).number == 1) + exactly 1 answers)
        + (one ((event_row e).number == 2) + exactly 2 answers) + (one ((event_row e).number == 3) + exactly 3 answers)
        + (one ((event_row e).number == 4) + exactly 4 answers) + (one ((event_row e).number == 5) + exactly 5 answers)
        + (one ((event_row e).number == 6) + exactly 6 answers) + (one ((event_row e).number == 7) + exactly 7 answers)
        + (one ((event_row e).number == 8) + exactly 8 answers) + (one ((event_row e).number == 9) + exactly 9 answers)
        + (one ((event_row e).number == 10) + exactly 10 answers) + (one ((event_row e).number == 11) + exactly 11 answers)
    at event.PartitionError rest = omega arith
    at event.MemProtection rest = omega arith
    at event.UnexpectedTrap rest = omega arith
    at event.SparcIllegalInstruction rest = omega arith
    at event.SparcPrivilegedInstruction rest = omega arith
    at event.SparcFpDisabled rest = omega arith
    at event.SparcCpDisabled rest = omega arith
    at event.SparcAddressNotAligned rest = omega arith
    at event.SparcTagOverflow rest = omega arith
    at event.SparcDivideException rest = omega arith
    at event.SparcInstrAccess rest = omega arith
    at event.SparcDataAccess rest = omega arith

-- where no event is answered twice, there are at most 12 answers
pub once_few : (answers : List HealthAnswer) → IsOnce answers → length answers ≤ 12
once_few answers once =
    omega (
      arith,
      exactly-all answers,
      once.once 0,
      once.once 1,
      once.once 2,
      once.once 3,
      once.once 4,
      once.once 5,
      once.once 6,
      once.once 7,
      once.once 8,
      once.once 9,
      once.once 10,
      once.once 11,
    )

-- an answer that may stand is to an event that is not answered yet
pub stands_once : (plans p : ℕ) (before : List HealthAnswer) (a : HealthAnswer) → is_some (head_of (rules.answer_broken plans p before a)) ≡ false
    → position_from (λ earlier. rules.same_event earlier a) 0 before ≡ None
unfolding rules.answer_broken
stands_once plans p before a stands =
    at (is_allowed a.event a.action) (position_from (λ earlier. rules.same_event earlier a) 0 before) stands
  where
    at : (t : Bool) (place : Option ℕ) → is_some (head_of (unless t (rules.alone 19 (item.Event p (length before)))
        ++ rules.beside 19 (item.Event p (length before)) (on (item.Event p) place)
        ++ unless (rules.has_plan plans a.action) (rules.alone 19 (item.Event p (length before))))) ≡ false → place ≡ None
    at t None none = refl
    at true (Some n) none = cc
    at false (Some n) none = cc

-- one more answer that may stand
pub once_goes_on : (plans p n : ℕ) (answers : List HealthAnswer) (d a : HealthAnswer) (found : Option Broken) → n < length answers → a ≡ get_or answers n d
    → found ≡ head_of (rules.answer_broken plans p (take n answers) a) → is_some found ≡ false → IsOnce (take n answers) → IsOnce (take (n + 1) answers)
once_goes_on plans p n answers d a found below is value none once =
    let stands : is_some (head_of (rules.answer_broken plans p (take n answers) a)) ≡ false = ap is_some (sym value) ∙ none in
    subst (λ (front : List HealthAnswer). IsOnce front) (ap (λ y. take n answers ++ y ∷ []) is ∙ sym (take_more answers n d below))
    (once_more (take n answers) a once (stands_once plans p (take n answers) a stands))
