-- No plan meets requirements that demand more than the common period.
use Rattle.std.proofs.Common.{◌≡◌, ◌≢◌, ℕ, zero, suc, ◌+◌, ◌*◌, ◌/◌, ◌%◌, ◌<◌, ◌≤◌, ◌||◌, Bool, true, false, cond, List, [], ◌∷◌, sum_by, ap, sym, ◌∙◌, subst, refl, arith}
use Rattle.std.specs.Prelude.{nat_lt}
use Rattle.std.proofs.Math.Nat.{le_of_mul-le-mul_left, mul-le-mul_left}
use Rattle.std.proofs.lemmas.Bool.Decides.{nat_tests}
use Rattle.std.proofs.lemmas.List.Sums.{sum_by-cons}
use Rattle.std.proofs.lemmas.Nat.{div-add-mod'}
use Rattle.xm_conf.specs.declared.plan.Slot.{Slot}
use Rattle.plan_maker.specs.lemmas.NeededTerms.{ArePossible}
use Rattle.plan_maker.specs.Needed.{demand, demanded}
use Rattle.plan_maker.specs.Served.{gives, runs_in, ticks_where, time_in, window_time}
use Rattle.plan_maker.specs.declared.jobs.Requirement.{Requirement}
use Rattle.plan_maker.proofs.CourseLemmas.{Laid}
use Rattle.plan_maker.proofs.EachLemmas.{Each}
use Rattle.plan_maker.proofs.LoadLemmas.{IsWhole}
use Rattle.plan_maker.proofs.SharedLemmas.{runs_not_yet, window_inside}

-- two partitions never run in one tick
pub runs_apart : (p q low high tick : ℕ) (slots : List Slot) → Laid low high slots → p ≢ q → runs_in p slots tick ≡ true → runs_in q slots tick ≡ false
runs_apart p q low high tick [] laid other runs = refl
runs_apart p q low high tick (slot ∷ rest) laid other runs = at (gives p tick slot) refl (λ later. runs_apart p q (slot.start + slot.duration) high tick rest laid.2 other later) runs
  where
    mine : (slot : Slot) → gives p tick slot ≡ true → gives q tick slot ≡ false
    mine slot is = grind (arith, nat_tests)

    inside : (slot : Slot) → gives p tick slot ≡ true → tick < slot.start + slot.duration
    inside slot is = grind (arith, nat_tests)

    past : (slot : Slot) → slot.start + slot.duration ≤ tick → gives q tick slot ≡ false
    past slot after = grind (arith, nat_tests)

    ended : (b : Bool) → nat_lt tick (slot.start + slot.duration) ≡ b → runs_in p rest tick ≡ true → slot.start + slot.duration ≤ tick
    ended true is later =
        let not : runs_in p rest tick ≡ false = runs_not_yet p (slot.start + slot.duration) high tick rest laid.2 (let e : tick < slot.start + slot.duration = grind (arith, nat_tests) in e) in
        absurd (let never : ⊥ = cc in never)
    ended false is later = grind (arith, nat_tests)

    at : (b : Bool) → gives p tick slot ≡ b → (runs_in p rest tick ≡ true → runs_in q rest tick ≡ false) → (b || runs_in p rest tick) ≡ true → (gives q tick slot || runs_in q rest tick) ≡ false
    at true is apart runs = rw (mine slot is, runs_not_yet q (slot.start + slot.duration) high tick rest laid.2 (inside slot is)) refl
    at false is apart runs = rw (past slot (ended (nat_lt tick (slot.start + slot.duration)) refl runs), apart runs) refl

-- how many of the requirements' partitions run in a tick
abbrev pub running_in : List Slot → ℕ → List Requirement → ℕ
running_in slots tick [] = 0
running_in slots tick (r ∷ rest) = cond (runs_in r.part slots tick) 1 0 + running_in slots tick rest

none_beside : (p low end tick : ℕ) (slots : List Slot) (rs : List Requirement) → Laid 0 end slots → runs_in p slots tick ≡ true → p < low → ArePossible low rs → running_in slots tick rs ≡ 0
none_beside p low end tick slots [] laid runs below possible = refl
none_beside p low end tick slots (r ∷ rest) laid runs below possible =
    let above : low ≤ r.part = possible.0 in
    rw (runs_apart p r.part 0 end tick slots laid (let other : p ≢ r.part = omega arith in other) runs, none_beside p (r.part + 1) end tick slots rest laid runs (omega arith) possible.2) refl

at_most_one : (low end tick : ℕ) (slots : List Slot) (rs : List Requirement) → Laid 0 end slots → ArePossible low rs → running_in slots tick rs ≤ 1
at_most_one low end tick slots [] laid possible = omega arith
at_most_one low end tick slots (r ∷ rest) laid possible = at (runs_in r.part slots tick) refl (at_most_one (r.part + 1) end tick slots rest laid possible.2)
  where
    at : (b : Bool) → runs_in r.part slots tick ≡ b → running_in slots tick rest ≤ 1 → cond b 1 0 + running_in slots tick rest ≤ 1
    at true is one = rw (none_beside r.part (r.part + 1) end tick slots rest laid is (omega arith) possible.2) (omega arith)
    at false is one = omega (arith, one)

-- the time that slots give all requirements' partitions
abbrev pub time_of_all : List Slot → ℕ → List Requirement → ℕ
time_of_all slots count [] = 0
time_of_all slots count (r ∷ rest) = time_in r.part slots 0 count + time_of_all slots count rest

no_time : (slots : List Slot) (rs : List Requirement) → time_of_all slots 0 rs ≡ 0
unfolding time_in
no_time slots [] = refl
no_time slots (r ∷ rest) = rw (no_time slots rest) refl

one_more : (slots : List Slot) (count : ℕ) (rs : List Requirement) → time_of_all slots (suc count) rs ≡ time_of_all slots count rs + running_in slots count rs
unfolding time_in
one_more slots count [] = refl
one_more slots count (r ∷ rest) =
    let here : 0 + count ≡ count = omega arith in
    let later : time_of_all slots (suc count) rest ≡ time_of_all slots count rest + running_in slots count rest = one_more slots count rest in
    rw (here, later) (omega arith)

-- all together have at most the time that there is
all_within : (low end count : ℕ) (slots : List Slot) (rs : List Requirement) → Laid 0 end slots → ArePossible low rs → time_of_all slots count rs ≤ count
all_within low end zero slots rs laid possible = rw (no_time slots rs) (omega arith)
all_within low end (suc count) slots rs laid possible =
    let before : time_of_all slots count rs ≤ count = all_within low end count slots rs laid possible in
    let one : running_in slots count rs ≤ 1 = at_most_one low end count slots rs laid possible in
    rw (one_more slots count rs) (omega (arith, before, one))

-- windows one after another
ticks_where_split : (f : ℕ → Bool) (start a b : ℕ) → ticks_where f start (a + b) ≡ ticks_where f start a + ticks_where f (start + a) b
ticks_where_split f start a zero = ap (λ (n : ℕ). ticks_where f start n) (let e : a + 0 ≡ a = omega arith in e) ∙ (let e : ticks_where f start a ≡ ticks_where f start a + 0 = omega arith in e)
ticks_where_split f start a (suc b) =
    let split : ticks_where f start (a + b) ≡ ticks_where f start a + ticks_where f (start + a) b = ticks_where_split f start a b in
    let number : a + suc b ≡ suc (a + b) = omega arith in
    let place : start + (a + b) ≡ start + a + b = omega arith in
    rw (number, split, place) (omega arith)

windows_time : (part period duration windows : ℕ) (slots : List Slot) → ((window : ℕ) → window < windows → duration ≤ window_time part slots period window) → windows * duration ≤ time_in part slots 0 (windows * period)
unfolding time_in
windows_time part period duration zero slots enough = omega arith
windows_time part period duration (suc windows) slots enough =
    let before : windows * duration ≤ ticks_where (runs_in part slots) 0 (windows * period) = windows_time part period duration windows slots (λ window below. enough window (omega arith)) in
    let last : duration ≤ ticks_where (runs_in part slots) (windows * period) period = enough windows (omega arith) in
    let number : suc windows * period ≡ windows * period + period = omega arith in
    let split : ticks_where (runs_in part slots) 0 (windows * period + period) ≡ ticks_where (runs_in part slots) 0 (windows * period) + ticks_where (runs_in part slots) (0 + windows * period) period =
    ticks_where_split (runs_in part slots) 0 (windows * period) period in
    let place : 0 + windows * period ≡ windows * period = omega arith in
    rw (number, split, place) (omega (arith, before, last))

-- a plan meets a requirement in a frame of this many ticks
pub record IsMetIn (slots : List Slot) (frame : ℕ) (requirement : Requirement) : Type 0 where
  pub period : 0 < requirement.period
  pub whole : frame % requirement.period ≡ 0
  pub enough : (window : ℕ) → (window + 1) * requirement.period ≤ frame → requirement.duration ≤ window_time requirement.part slots requirement.period window

windows_of : (frame period : ℕ) → frame % period ≡ 0 → frame ≡ frame / period * period
windows_of frame period whole = let split : frame / period * period + frame % period ≡ frame = div-add-mod' frame period in omega arith

demanded_less : (slots : List Slot) (frame : ℕ) (r : Requirement) → IsMetIn slots frame r → demanded frame r ≤ time_in r.part slots 0 frame
demanded_less slots frame r is =
    let windows : frame ≡ frame / r.period * r.period = windows_of frame r.period is.whole in
    let less : frame / r.period * r.duration ≤ time_in r.part slots 0 (frame / r.period * r.period) =
    windows_time r.part r.period r.duration (frame / r.period) slots (λ window below. is.enough window (window_inside window r.period frame below)) in
    subst (λ (n : ℕ). frame / r.period * r.duration ≤ time_in r.part slots 0 n) (sym windows) less

demand_less : (slots : List Slot) (frame : ℕ) (rs : List Requirement) → Each (IsMetIn slots frame) rs → demand frame rs ≤ time_of_all slots frame rs
unfolding demand
demand_less slots frame [] met = omega arith
demand_less slots frame (r ∷ rest) met =
    let here : demanded frame r ≤ time_in r.part slots 0 frame = demanded_less slots frame r met.0 in
    let later : sum_by (demanded frame) rest ≤ time_of_all slots frame rest = demand_less slots frame rest met.1 in
    rw (sum_by-cons (demanded frame) r rest) (omega (arith, here, later))

-- what is demanded of two frames of whole windows
demanded_scaled : (common frame : ℕ) (r : Requirement) → common % r.period ≡ 0 → frame % r.period ≡ 0 → common * demanded frame r ≡ frame * demanded common r
demanded_scaled common frame r whole even = scaled common (common / r.period) frame (frame / r.period) r.period r.duration (windows_of common r.period whole) (windows_of frame r.period even)
  where
    scaled : (a h b f t d : ℕ) → a ≡ h * t → b ≡ f * t → a * (f * d) ≡ b * (h * d)
    scaled a h b f t d first second = rw (first, second) (omega arith)

demand_scaled : (common frame : ℕ) (slots : List Slot) (rs : List Requirement) → Each (IsWhole common) rs → Each (IsMetIn slots frame) rs → common * demand frame rs ≡ frame * demand common rs
unfolding demand
demand_scaled common frame slots [] whole met = omega arith
demand_scaled common frame slots (r ∷ rest) whole met =
    let here : common * demanded frame r ≡ frame * demanded common r = demanded_scaled common frame r whole.0.whole met.0.whole in
    let later : common * sum_by (demanded frame) rest ≡ frame * sum_by (demanded common) rest = demand_scaled common frame slots rest whole.1 met.1 in
    rw (sum_by-cons (demanded frame) r rest, sum_by-cons (demanded common) r rest) (sums common frame (demanded frame r) (sum_by (demanded frame) rest) (demanded common r) (sum_by (demanded common) rest) here later)
  where
    sums : (c f a b d e : ℕ) → c * a ≡ f * d → c * b ≡ f * e → c * (a + b) ≡ f * (d + e)
    sums c f a b d e first second = omega arith

-- requirements that demand more than a common period are met by no plan
pub never_met : (low common frame : ℕ) (slots : List Slot) (rs : List Requirement) → ArePossible low rs → Each (IsWhole common) rs → common < demand common rs
    → 0 < frame → Laid 0 frame slots → Each (IsMetIn slots frame) rs → ⊥
never_met low common frame slots rs possible whole much some laid met =
    let less : demand frame rs ≤ time_of_all slots frame rs = demand_less slots frame rs met in
    let within : time_of_all slots frame rs ≤ frame = all_within low frame frame slots rs laid possible in
    let most : common * demand frame rs ≤ common * frame = mul-le-mul_left common (let e : demand frame rs ≤ frame = omega arith in e) in
    let scaled : common * demand frame rs ≡ frame * demand common rs = demand_scaled common frame slots rs whole met in
    let both : frame * demand common rs ≤ frame * common = omega (arith, most, scaled) in
    let enough : demand common rs ≤ common = le_of_mul-le-mul_left both some in
    omega arith
