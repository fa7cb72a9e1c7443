-- The integer condition codes and the conditions on them, as appendix B of the SPARC V8 manual has them.
use Rattle.std.specs.Prelude.{ℕ, ◌+◌, ◌-◌, ◌*◌, Bool, false, not, ◌||◌, nat_lt, ◌==◌, if◌then◌else◌}
use Rattle.sparc_code.specs.Fields.{field}
use Rattle.sparc_step.specs.Words.{bit, difference, difference_borrows, difference_overflows, sign, sum, sum_carries, sum_overflows}

-- the result was negative
abbrev pub negative : ℕ → Bool
negative icc = field 3 1 icc == 1

-- the result was zero
abbrev pub zero : ℕ → Bool
zero icc = field 2 1 icc == 1

-- the result did not fit
abbrev pub overflow : ℕ → Bool
overflow icc = field 1 1 icc == 1

-- a carry or a borrow left the word
abbrev pub carry : ℕ → Bool
carry icc = field 0 1 icc == 1

-- the condition codes of four flags
unfoldable pub condition_codes : Bool → Bool → Bool → Bool → ℕ
condition_codes n z v c = 8 * bit n + 4 * bit z + 2 * bit v + bit c

-- the condition codes of a result, with an overflow and without a carry
unfoldable pub codes_of_result : ℕ → Bool → ℕ
codes_of_result value v = condition_codes (sign value) (value == 0) v false

-- the condition codes of a sum
unfoldable pub codes_of_sum : ℕ → ℕ → Bool → ℕ
codes_of_sum a b c =
    condition_codes (sign (sum a b c)) (sum a b c == 0) (sum_overflows a b c) (sum_carries a b c)

-- the condition codes of a sum of which it is known whether a word bears a tag
unfoldable pub codes_of_tagged_sum : ℕ → ℕ → Bool → ℕ
codes_of_tagged_sum a b v = condition_codes (sign (sum a b false)) (sum a b false == 0) v (sum_carries a b false)

-- the condition codes of a difference
unfoldable pub codes_of_difference : ℕ → ℕ → Bool → ℕ
codes_of_difference a b c =
    condition_codes (sign (difference a b c)) (difference a b c == 0) (difference_overflows a b c)
    (difference_borrows a b c)

-- the condition codes of a difference of which it is known whether a word bears a tag
unfoldable pub codes_of_tagged_difference : ℕ → ℕ → Bool → ℕ
codes_of_tagged_difference a b v =
    condition_codes (sign (difference a b false)) (difference a b false == 0) v (difference_borrows a b false)

-- one of two flags is set, and not both
abbrev pub differ : Bool → Bool → Bool
differ one other = if one then not other else other

-- the conditions 0 to 7: n e le l leu cs neg vs
unfoldable pub holds_below_eight : ℕ → ℕ → Bool
holds_below_eight condition icc =
    if condition == 0 then false
    else if condition == 1 then zero icc
    else if condition == 2 then zero icc || differ (negative icc) (overflow icc)
    else if condition == 3 then differ (negative icc) (overflow icc)
    else if condition == 4 then carry icc || zero icc
    else if condition == 5 then carry icc
    else if condition == 6 then negative icc
    else overflow icc

-- a condition holds of the codes; 8 to 15, which are a ne g ge gu cc pos vc, are the negations of 0 to 7
unfoldable pub holds : ℕ → ℕ → Bool
holds condition icc =
    if nat_lt condition 8 then holds_below_eight condition icc else not (holds_below_eight (condition - 8) icc)
