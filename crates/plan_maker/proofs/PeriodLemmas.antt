-- The common period is whole windows of each requirement.
use Rattle.std.proofs.Common.{◌≡◌, ◌≢◌, ℕ, zero, suc, ◌+◌, ◌-◌, ◌*◌, ◌/◌, ◌%◌, ◌<◌, ◌≤◌, ◌==◌, Bool, true, false, cond, min, max, List, [], ◌∷◌, ◌++◌, length, drop, get_or, Option, Some, None, Result, Ok, Err, ap, sym, ◌∙◌, subst, refl, arith}
use Rattle.std.specs.Prelude.{IfSome, nat_lt}
use Rattle.std.specs.Int.{◌∣◌}
use Rattle.std.proofs.Math.Nat.{dvd-mul_left, dvd-mul_right, max-eq_left, max-eq_right, min-eq_left, min-eq_right, mul-le-mul_left, div-mul-le_self}
use Rattle.std.proofs.lemmas.Bool.Decides.{nat_tests}
use Rattle.std.proofs.lemmas.List.{at_drop_all, at_drop_more}
use Rattle.std.proofs.lemmas.Nat.Gcd.{dvd_of_mod-eq-zero, dvd_refl, dvd_trans, mod-eq-zero_of_dvd}
use Rattle.xm_conf.specs.Limits.{most_parts}
use Rattle.xm_conf.specs.Along.{each_from}
use Rattle.xm_conf.specs.Configuration.{Conf, Part}
use Rattle.xm_conf.specs.Description.{described}
use Rattle.xm_conf.specs.Fits.{Fits, IsNeed}
use Rattle.xm_conf.specs.declared.part.Need.{Need}
use Rattle.plan_maker.specs.lemmas.NeededTerms.{ArePossible, IsPossible}
use Rattle.plan_maker.specs.Needed.{common_from, demanded, first_divided, least_multiple, longest_common, required, required_by, requirements}
use Rattle.plan_maker.specs.declared.jobs.Requirement.{Requirement}
use Rattle.plan_maker.proofs.EachLemmas.{Each, each_from_all}
use Rattle.plan_maker.proofs.LoadLemmas.{IsWhole}

-- a number is a multiple of two others, and not 0
pub record IsMultiple (a b multiple : ℕ) : Type 0 where
  pub some : 0 < multiple
  pub first : a ∣ multiple
  pub second : b ∣ multiple

divided_by_both : (count before step divisor : ℕ) → 0 < before → 0 < step → before + count ≡ divisor → IsMultiple step divisor (first_divided count step divisor (before * step))
divided_by_both zero before step divisor some step_some ends =
    record { some = positive before step some step_some; first = dvd-mul_left step before; second = subst (λ (d : ℕ). d ∣ before * step) (let e : before ≡ divisor = omega arith in e) (dvd-mul_right before step) }
  where
    positive : (a b : ℕ) → 0 < a → 0 < b → 0 < a * b
    positive zero b p q = absurd (omega arith)
    positive (suc a) b p q = let e : suc a * b ≡ a * b + b = omega arith in omega (arith, e)
divided_by_both (suc count) before step divisor some step_some ends =
    at (before * step % divisor == 0) refl (divided_by_both count (before + 1) step divisor (omega arith) step_some (omega arith))
  where
    positive : (a b : ℕ) → 0 < a → 0 < b → 0 < a * b
    positive zero b p q = absurd (omega arith)
    positive (suc a) b p q = let e : suc a * b ≡ a * b + b = omega arith in omega (arith, e)

    at : (b : Bool) → (before * step % divisor == 0) ≡ b → IsMultiple step divisor (first_divided count step divisor ((before + 1) * step)) → IsMultiple step divisor (cond b (before * step) (first_divided count step divisor (before * step + step)))
    at true is later = record { some = positive before step some step_some; first = dvd-mul_left step before; second = dvd_of_mod-eq-zero divisor (let e : before * step % divisor ≡ 0 = grind (arith, nat_tests) in e) }
    at false is later = subst (λ (n : ℕ). IsMultiple step divisor (first_divided count step divisor n)) (let e : (before + 1) * step ≡ before * step + step = omega arith in e) later

-- the least common multiple is one
pub least_multiple_is : (a b : ℕ) → 0 < a → 0 < b → IsMultiple a b (least_multiple a b)
unfolding least_multiple
least_multiple_is a b some_a some_b = at (nat_lt a b) refl
  where
    both : (step divisor : ℕ) → 0 < step → 0 < divisor → IsMultiple step divisor (first_divided (divisor - 1) step divisor step)
    both step divisor some more = subst (λ (n : ℕ). IsMultiple step divisor (first_divided (divisor - 1) step divisor n)) (let e : 1 * step ≡ step = omega arith in e)
        (divided_by_both (divisor - 1) 1 step divisor (omega arith) some (omega arith))

    turned : (x y n : ℕ) → IsMultiple x y n → IsMultiple y x n
    turned x y n is = record { some = is.some; first = is.second; second = is.first }

    at : (less : Bool) → nat_lt a b ≡ less → IsMultiple a b (first_divided (min a b - 1) (max a b) (min a b) (max a b))
    at true is =
        let below : a ≤ b = grind (arith, nat_tests) in
        let low : min a b ≡ a = min-eq_left below in
        let high : max a b ≡ b = max-eq_right below in
        rw (low, high) (turned b a (first_divided (a - 1) b a b) (both b a some_b some_a))
    at false is =
        let above : b ≤ a = grind (arith, nat_tests) in
        let low : min a b ≡ b = min-eq_right above in
        let high : max a b ≡ a = max-eq_left above in
        rw (low, high) (both a b some_a some_b)

has_period : (r : Requirement) → IsPossible r → 0 < r.period
has_period r possible = let some : 0 < r.duration = possible.some in let inside : r.duration ≤ r.period = possible.inside in omega arith

-- a common period is whole windows of each requirement, and of the period that it was made from
pub record IsCommon (so_far : ℕ) (rs : List Requirement) (frame : ℕ) : Type 0 where
  pub some : 0 < frame
  pub made : so_far ∣ frame
  pub whole : Each (IsWhole frame) rs
  pub most : so_far ≤ longest_common → frame ≤ longest_common

pub common_is : (so_far low : ℕ) (rs : List Requirement) (frame : ℕ) → 0 < so_far → ArePossible low rs → common_from so_far rs ≡ Ok frame → IsCommon so_far rs frame
common_is so_far low [] frame some possible is =
    let same : so_far ≡ frame = cc in
    subst (λ (n : ℕ). IsCommon so_far [] n) same (record { some = some; made = dvd_refl so_far; whole = tt; most = λ most. most })
common_is so_far low (r ∷ rest) frame some possible is =
    let multiple = least_multiple_is so_far r.period some (has_period r possible.1) in
    at (nat_lt longest_common (least_multiple so_far r.period)) refl multiple
    (λ rest_is. common_is (least_multiple so_far r.period) (r.part + 1) rest frame multiple.some possible.2 rest_is) is
  where
    at : (b : Bool) → nat_lt longest_common (least_multiple so_far r.period) ≡ b → IsMultiple so_far r.period (least_multiple so_far r.period)
        → (common_from (least_multiple so_far r.period) rest ≡ Ok frame → IsCommon (least_multiple so_far r.period) rest frame)
        → cond b (Err r.part) (common_from (least_multiple so_far r.period) rest) ≡ Ok frame → IsCommon so_far (r ∷ rest) frame
    at true long multiple more is = absurd (let never : ⊥ = cc in never)
    at false short multiple more is =
        let later = more is in
        record {
          some = later.some;
          made = dvd_trans so_far multiple.first later.made;
          whole = (record { period = has_period r possible.1; whole = mod-eq-zero_of_dvd r.period (dvd_trans r.period multiple.second later.made) }, later.whole);
          most = λ below. later.most (let e : least_multiple so_far r.period ≤ longest_common = grind (arith, nat_tests) in e);
        }

-- a requirement demands at most the whole of a period
pub demanded_most : (period : ℕ) (r : Requirement) → IsPossible r → demanded period r ≤ period
demanded_most period r possible =
    let more : period / r.period * r.duration ≤ period / r.period * r.period = mul-le-mul_left (period / r.period) possible.inside in
    omega (arith, more, div-mul-le_self period r.period)

-- the requirements of a configuration that meets the rules are possible
required_possible : (n : ℕ) (need : Option Need) (rest : List Requirement) → IfSome need IsNeed → ArePossible (n + 1) rest → ArePossible n (required n need ++ rest)
required_possible n None rest is possible = lower (n + 1) n rest (omega arith) possible
  where
    lower : (high low : ℕ) (rs : List Requirement) → low ≤ high → ArePossible high rs → ArePossible low rs
    lower high low [] less possible = tt
    lower high low (r ∷ rest) less possible = (let above : high ≤ r.part = possible.0 in omega arith, possible.1, possible.2)
required_possible n (Some need) rest is possible =
    (omega arith, record { some = is.some; inside = is.inside; most = is.most }, possible)

pub requirements_possible : (n : ℕ) (parts : List Part) → Each (λ part. IfSome part.need IsNeed) parts → ArePossible n (each_from required_by n parts)
requirements_possible n [] needs = tt
requirements_possible n (part ∷ rest) needs =
    required_possible n part.need (each_from required_by (n + 1) rest) needs.0 (requirements_possible (n + 1) rest needs.1)

-- there are at most as many requirements as partitions
pub requirements_few : (n : ℕ) (parts : List Part) → length (each_from required_by n parts) ≤ length parts
requirements_few n [] = omega arith
requirements_few n (part ∷ rest) = let few : length (each_from required_by (n + 1) rest) ≤ length rest = requirements_few (n + 1) rest in at part.need few
  where
    at : (need : Option Need) → length (each_from required_by (n + 1) rest) ≤ length rest → length (required n need ++ each_from required_by (n + 1) rest) ≤ length (part ∷ rest)
    at None few = omega (arith, few)
    at (Some need) few = omega (arith, few)

-- the search goes on at a number that is not divided
pub divided_later : (more fewer step divisor at : ℕ) → more ≡ fewer + 1 → at % divisor ≢ 0 → first_divided more step divisor at ≡ first_divided fewer step divisor (at + step)
divided_later more fewer step divisor at one not =
    let failed : (at % divisor == 0) ≡ false = grind (arith, nat_tests) in
    ap (λ (n : ℕ). first_divided n step divisor at) (let e : more ≡ suc fewer = omega arith in e)
    ∙ ap (λ (b : Bool). cond b at (first_divided fewer step divisor (at + step))) failed

-- the same, where the search counts its steps
pub divided_next : (divisor counter step at : ℕ) → counter < divisor → at % divisor ≢ 0
    → first_divided (divisor - counter) step divisor at ≡ first_divided (divisor - (counter + 1)) step divisor (at + step)
divided_next divisor counter step at below not = divided_later (divisor - counter) (divisor - (counter + 1)) step divisor at (omega arith) not

-- it ends at a number that is divided
pub divided_here : (more step divisor at : ℕ) → at % divisor ≡ 0 → first_divided more step divisor at ≡ at
divided_here zero step divisor at is = refl
divided_here (suc more) step divisor at is =
    let found : (at % divisor == 0) ≡ true = grind (arith, nat_tests) in
    rw found refl

-- it never goes back
pub divided_least : (more step divisor at : ℕ) → at ≤ first_divided more step divisor at
divided_least zero step divisor at = omega arith
divided_least (suc more) step divisor at = one (at % divisor == 0) (divided_least more step divisor (at + step))
  where
    one : (b : Bool) → at + step ≤ first_divided more step divisor (at + step) → at ≤ cond b at (first_divided more step divisor (at + step))
    one true later = omega arith
    one false later = omega (arith, later)

-- a common period goes on with the next requirement
pub common_goes_on : (so_far next : ℕ) (rs : List Requirement) (i : ℕ) (d r : Requirement) (whole : Result ℕ ℕ) → i < length rs → r ≡ get_or rs i d
    → next ≡ least_multiple so_far r.period → next ≤ longest_common → common_from so_far (drop i rs) ≡ whole → common_from next (drop (i + 1) rs) ≡ whole
common_goes_on so_far next rs i d r whole below is value short sofar =
    let fits : nat_lt longest_common (least_multiple so_far r.period) ≡ false = grind (arith, nat_tests) in
    ap (λ (n : ℕ). common_from n (drop (i + 1) rs)) value
    ∙ ap (λ (b : Bool). cond b (Err r.part) (common_from (least_multiple so_far r.period) (drop (i + 1) rs))) (sym fits)
    ∙ ap (λ (first : Requirement). common_from so_far (first ∷ drop (i + 1) rs)) is
    ∙ sym (at_drop_more (λ (rest : List Requirement). common_from so_far rest) rs i d below)
    ∙ sofar

-- it stops where it grows too long
pub common_stops : (so_far : ℕ) (rs : List Requirement) (i : ℕ) (d r : Requirement) (whole : Result ℕ ℕ) → i < length rs → r ≡ get_or rs i d
    → longest_common < least_multiple so_far r.period → common_from so_far (drop i rs) ≡ whole → Err r.part ≡ whole
common_stops so_far rs i d r whole below is long sofar =
    let passes : nat_lt longest_common (least_multiple so_far r.period) ≡ true = grind (arith, nat_tests) in
    ap (λ (b : Bool). cond b (Err r.part) (common_from (least_multiple so_far r.period) (drop (i + 1) rs))) (sym passes)
    ∙ ap (λ (first : Requirement). common_from so_far (first ∷ drop (i + 1) rs)) is
    ∙ sym (at_drop_more (λ (rest : List Requirement). common_from so_far rest) rs i d below)
    ∙ sofar

-- after the last requirement it is whole
pub common_ends : (so_far : ℕ) (rs : List Requirement) (i : ℕ) (whole : Result ℕ ℕ) → length rs ≤ i → common_from so_far (drop i rs) ≡ whole → Ok so_far ≡ whole
common_ends so_far rs i whole past sofar = sym (at_drop_all (λ (rest : List Requirement). common_from so_far rest) rs i past) ∙ sofar

-- a configuration has at most this many partitions
pub parts_few : (conf : Conf) → Fits (described conf) → length conf.parts ≤ most_parts
unfolding described
parts_few conf fits = fits.counts.parts.few

-- its requirements are possible, and at most as many
pub conf_possible : (conf : Conf) → Fits (described conf) → ArePossible 0 (requirements conf)
unfolding described requirements
conf_possible conf fits = requirements_possible 0 conf.parts (each_from_all (λ part. IfSome part.need IsNeed) conf.parts fits.needs)

pub conf_few : (conf : Conf) → Fits (described conf) → length (requirements conf) ≤ most_parts
unfolding requirements
conf_few conf fits =
    let few : length (each_from required_by 0 conf.parts) ≤ length conf.parts = requirements_few 0 conf.parts in
    let parts : length conf.parts ≤ most_parts = parts_few conf fits in
    omega (arith, few, parts)
