-- Condition codes are four bits.
use Rattle.std.proofs.Common.{ℕ, ◌<◌, Bool, true, false, arith}
use Rattle.sparc_step.specs.Conditions.{condition_codes, codes_of_difference, codes_of_result, codes_of_sum}

codes_below : (n z v c : Bool) → condition_codes n z v c < 16
unfolding condition_codes
codes_below true true true true = omega arith
codes_below true true true false = omega arith
codes_below true true false true = omega arith
codes_below true true false false = omega arith
codes_below true false true true = omega arith
codes_below true false true false = omega arith
codes_below true false false true = omega arith
codes_below true false false false = omega arith
codes_below false true true true = omega arith
codes_below false true true false = omega arith
codes_below false true false true = omega arith
codes_below false true false false = omega arith
codes_below false false true true = omega arith
codes_below false false true false = omega arith
codes_below false false false true = omega arith
codes_below false false false false = omega arith

pub difference_below : (a b : ℕ) → codes_of_difference a b false < 16
unfolding codes_of_difference
difference_below a b = codes_below _ _ _ _

pub sum_below : (a b : ℕ) → codes_of_sum a b false < 16
unfolding codes_of_sum
sum_below a b = codes_below _ _ _ _

pub result_below : (a : ℕ) → codes_of_result a false < 16
unfolding codes_of_result
result_below a = codes_below _ _ _ _
