-- For the proof: what each condition says of four flags.
use Rattle.std.proofs.Common.{◌≡◌, Bool, true, false, refl, ap, ◌∙◌}
use Rattle.std.specs.Prelude.{ℕ, not, ◌||◌, ◌==◌}
use Rattle.sparc_step.specs.Conditions.{codes_of_difference, codes_of_result, codes_of_sum, condition_codes, differ, holds, holds_below_eight}
use Rattle.sparc_step.specs.Words.{difference, difference_borrows, difference_overflows, sign, sum, sum_carries, sum_overflows}

-- the result was zero
zero_held : (n z v c : Bool) → holds 1 (condition_codes n z v c) ≡ (z)
unfolding holds holds_below_eight condition_codes
zero_held true true true true = refl
zero_held true true true false = refl
zero_held true true false true = refl
zero_held true true false false = refl
zero_held true false true true = refl
zero_held true false true false = refl
zero_held true false false true = refl
zero_held true false false false = refl
zero_held false true true true = refl
zero_held false true true false = refl
zero_held false true false true = refl
zero_held false true false false = refl
zero_held false false true true = refl
zero_held false false true false = refl
zero_held false false false true = refl
zero_held false false false false = refl

-- it was zero or less
not_more_held : (n z v c : Bool) → holds 2 (condition_codes n z v c) ≡ (z || differ n v)
unfolding holds holds_below_eight condition_codes
not_more_held true true true true = refl
not_more_held true true true false = refl
not_more_held true true false true = refl
not_more_held true true false false = refl
not_more_held true false true true = refl
not_more_held true false true false = refl
not_more_held true false false true = refl
not_more_held true false false false = refl
not_more_held false true true true = refl
not_more_held false true true false = refl
not_more_held false true false true = refl
not_more_held false true false false = refl
not_more_held false false true true = refl
not_more_held false false true false = refl
not_more_held false false false true = refl
not_more_held false false false false = refl

-- it was less
less_held : (n z v c : Bool) → holds 3 (condition_codes n z v c) ≡ (differ n v)
unfolding holds holds_below_eight condition_codes
less_held true true true true = refl
less_held true true true false = refl
less_held true true false true = refl
less_held true true false false = refl
less_held true false true true = refl
less_held true false true false = refl
less_held true false false true = refl
less_held true false false false = refl
less_held false true true true = refl
less_held false true true false = refl
less_held false true false true = refl
less_held false true false false = refl
less_held false false true true = refl
less_held false false true false = refl
less_held false false false true = refl
less_held false false false false = refl

-- a borrow, or zero
at_most_held : (n z v c : Bool) → holds 4 (condition_codes n z v c) ≡ (c || z)
unfolding holds holds_below_eight condition_codes
at_most_held true true true true = refl
at_most_held true true true false = refl
at_most_held true true false true = refl
at_most_held true true false false = refl
at_most_held true false true true = refl
at_most_held true false true false = refl
at_most_held true false false true = refl
at_most_held true false false false = refl
at_most_held false true true true = refl
at_most_held false true true false = refl
at_most_held false true false true = refl
at_most_held false true false false = refl
at_most_held false false true true = refl
at_most_held false false true false = refl
at_most_held false false false true = refl
at_most_held false false false false = refl

-- a borrow
below_held : (n z v c : Bool) → holds 5 (condition_codes n z v c) ≡ (c)
unfolding holds holds_below_eight condition_codes
below_held true true true true = refl
below_held true true true false = refl
below_held true true false true = refl
below_held true true false false = refl
below_held true false true true = refl
below_held true false true false = refl
below_held true false false true = refl
below_held true false false false = refl
below_held false true true true = refl
below_held false true true false = refl
below_held false true false true = refl
below_held false true false false = refl
below_held false false true true = refl
below_held false false true false = refl
below_held false false false true = refl
below_held false false false false = refl

-- the same of a comparison
pub equal_held : (a b : ℕ) → holds 1 (codes_of_difference a b false) ≡ (difference a b false == 0)
unfolding codes_of_difference
equal_held a b = zero_held _ _ _ _

pub compared_not_more : (a b : ℕ) → holds 2 (codes_of_difference a b false) ≡ ((difference a b false == 0) || differ (sign (difference a b false)) (difference_overflows a b false))
unfolding codes_of_difference
compared_not_more a b = not_more_held _ _ _ _

pub compared_less : (a b : ℕ) → holds 3 (codes_of_difference a b false) ≡ differ (sign (difference a b false)) (difference_overflows a b false)
unfolding codes_of_difference
compared_less a b = less_held _ _ _ _

pub compared_at_most : (a b : ℕ) → holds 4 (codes_of_difference a b false) ≡ (difference_borrows a b false || (difference a b false == 0))
unfolding codes_of_difference
compared_at_most a b = at_most_held _ _ _ _

pub compared_below : (a b : ℕ) → holds 5 (codes_of_difference a b false) ≡ difference_borrows a b false
unfolding codes_of_difference
compared_below a b = below_held _ _ _ _

-- a sum or a result of logic is zero
pub sum_zero : (a b : ℕ) → holds 1 (codes_of_sum a b false) ≡ (sum a b false == 0)
unfolding codes_of_sum
sum_zero a b = zero_held _ _ _ _

pub result_zero : (value : ℕ) → holds 1 (codes_of_result value false) ≡ (value == 0)
unfolding codes_of_result
result_zero value = zero_held _ _ _ _

-- a condition from 8 on is the negation of another
pub negated : (icc : ℕ) → (holds 9 icc ≡ not (holds 1 icc)) × (holds 10 icc ≡ not (holds 2 icc)) × (holds 11 icc ≡ not (holds 3 icc)) × (holds 12 icc ≡ not (holds 4 icc)) × (holds 13 icc ≡ not (holds 5 icc))
unfolding holds holds_below_eight
negated icc = (refl, refl, refl, refl, refl)
