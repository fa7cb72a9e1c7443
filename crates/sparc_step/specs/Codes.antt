-- Condition codes by what set them.
use Rattle.std.specs.Prelude.{ℕ, false}
use Rattle.sparc_step.specs.Conditions.{codes_of_difference, codes_of_result, codes_of_sum}
use Rattle.sparc_step.specs.declared.codes.SetBy.{SetBy}
use Rattle.sparc_step.specs.declared.codes.SetBy.TheVariants.{Known, Difference, Sum, Result}

-- the codes that what set them left
unfoldable pub codes_by : SetBy → ℕ → ℕ → ℕ → ℕ
codes_by Known known left right = known
codes_by Difference known left right = codes_of_difference left right false
codes_by Sum known left right = codes_of_sum left right false
codes_by Result known left right = codes_of_result left false
