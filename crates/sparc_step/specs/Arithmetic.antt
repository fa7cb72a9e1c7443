-- Work on registers, by the rows of appendix B of the SPARC V8 manual.
use Rattle.std.specs.Prelude.{ℕ, ◌+◌, ◌*◌, ◌/◌, ◌%◌, ◌^◌, Bool, false, ◌||◌, ◌==◌, if◌then◌else◌, bit_and, bit_or, bit_xor}
use Rattle.std.specs.Int.{w32, bit_not}
use Rattle.sparc_code.specs.declared.instruction.Arith.{Arith}
use Rattle.sparc_code.specs.declared.instruction.Arith.TheVariants.{Add, And, Or, Xor, Sub, AndN, OrN, XNor, AddX, UMul, SMul, SubX, UDiv, SDiv, AddCc, AndCc, OrCc, XorCc, SubCc, AndNCc, OrNCc, XNorCc, AddXCc, UMulCc, SMulCc, SubXCc, UDivCc, SDivCc, TAddCc, TSubCc, TAddCcTv, TSubCcTv, MulSCc, Sll, Srl, Sra}
use Rattle.sparc_code.specs.declared.instruction.Src.{Src}
use Rattle.sparc_step.specs.Conditions.{carry, codes_of_difference, codes_of_result, codes_of_sum, codes_of_tagged_difference, codes_of_tagged_sum, differ, negative, overflow}
use Rattle.sparc_step.specs.Operands.{value_of}
use Rattle.sparc_step.specs.Outcome.{RegisterOutcome, trapped, went, with_result, with_result_and_codes}
use Rattle.sparc_step.specs.Registers.{Registers, register_at, with_y}
use Rattle.sparc_step.specs.Words.{bit, difference, difference_overflows, is_tagged, quotient, quotient_overflows, shifted_arithmetically, shifted_left, shifted_right, signed_product, signed_quotient, signed_quotient_overflows, sum, sum_overflows}

-- a result alone
abbrev pub result_alone : ℕ → ℕ → Registers → RegisterOutcome
result_alone rd value core = went (with_result rd value core)

-- a result with condition codes
abbrev pub coded : ℕ → ℕ → ℕ → Registers → RegisterOutcome
coded rd value icc core = went (with_result_and_codes rd value icc core)

-- a result of logic, which neither overflows nor carries
abbrev pub logical : ℕ → ℕ → Registers → RegisterOutcome
logical rd value core = coded rd value (codes_of_result value false) core

-- a double word: its low half is the result, its high half goes to Y
abbrev pub wide : ℕ → ℕ → Registers → RegisterOutcome
wide rd product core = result_alone rd (product % 2 ^ 32) (with_y core (product / 2 ^ 32))

-- the same with condition codes, of the low half
abbrev pub wide_coded : ℕ → ℕ → Registers → RegisterOutcome
wide_coded rd product core = logical rd (product % 2 ^ 32) (with_y core (product / 2 ^ 32))

-- the double word that is divided: Y, and the first operand after it
unfoldable pub dividend : Registers → ℕ → ℕ
dividend core a = core.y * 2 ^ 32 + a

-- a division by 0 traps
abbrev pub divided_by : ℕ → Registers → RegisterOutcome → RegisterOutcome
divided_by divisor core outcome = if divisor == 0 then trapped 0x2A core else outcome

-- tagged work traps where it would overflow
abbrev pub unless_overflow : Bool → Registers → RegisterOutcome → RegisterOutcome
unless_overflow overflows core outcome = if overflows then trapped 0x0A core else outcome

-- a sum overflows, as tagged work has it: also where a word bears a tag
unfoldable pub tagged_sum_overflows : ℕ → ℕ → Bool
tagged_sum_overflows a b = sum_overflows a b false || is_tagged a b

unfoldable pub tagged_difference_overflows : ℕ → ℕ → Bool
tagged_difference_overflows a b = difference_overflows a b false || is_tagged a b

-- the first operand of a step of a multiplication: one place to the right, after the true sign of the product so far
unfoldable pub stepped_operand : Registers → ℕ → ℕ
stepped_operand core a = a / 2 + 2 ^ 31 * bit (differ (negative core.icc) (overflow core.icc))

-- what the step adds to it: the second operand, where the lowest bit of Y is set
unfoldable pub step_addend : Registers → ℕ → ℕ
step_addend core b = if core.y % 2 == 1 then b else 0

-- Y one place to the right, after the lowest bit of the first operand
unfoldable pub stepped_y : Registers → ℕ → ℕ
stepped_y core a = core.y / 2 + 2 ^ 31 * (a % 2)

-- a step of a multiplication
unfoldable pub multiply_step : ℕ → ℕ → ℕ → Registers → Registers
multiply_step rd a b core =
    with_result_and_codes rd (sum (stepped_operand core a) (step_addend core b) false)
    (codes_of_sum (stepped_operand core a) (step_addend core b) false) (with_y core (stepped_y core a))

-- the work on the values of the two operands
abbrev pub arith_outcome : Arith → ℕ → ℕ → ℕ → Registers → RegisterOutcome
arith_outcome Add rd a b core = result_alone rd (sum a b false) core
arith_outcome And rd a b core = result_alone rd (bit_and a b) core
arith_outcome Or rd a b core = result_alone rd (bit_or a b) core
arith_outcome Xor rd a b core = result_alone rd (bit_xor a b) core
arith_outcome Sub rd a b core = result_alone rd (difference a b false) core
arith_outcome AndN rd a b core = result_alone rd (bit_and a (bit_not w32 b)) core
arith_outcome OrN rd a b core = result_alone rd (bit_or a (bit_not w32 b)) core
arith_outcome XNor rd a b core = result_alone rd (bit_not w32 (bit_xor a b)) core
arith_outcome AddX rd a b core = result_alone rd (sum a b (carry core.icc)) core
arith_outcome UMul rd a b core = wide rd (a * b) core
arith_outcome SMul rd a b core = wide rd (signed_product a b) core
arith_outcome SubX rd a b core = result_alone rd (difference a b (carry core.icc)) core
arith_outcome UDiv rd a b core = divided_by b core (result_alone rd (quotient (dividend core a) b) core)
arith_outcome SDiv rd a b core = divided_by b core (result_alone rd (signed_quotient (dividend core a) b) core)
arith_outcome AddCc rd a b core = coded rd (sum a b false) (codes_of_sum a b false) core
arith_outcome AndCc rd a b core = logical rd (bit_and a b) core
arith_outcome OrCc rd a b core = logical rd (bit_or a b) core
arith_outcome XorCc rd a b core = logical rd (bit_xor a b) core
arith_outcome SubCc rd a b core = coded rd (difference a b false) (codes_of_difference a b false) core
arith_outcome AndNCc rd a b core = logical rd (bit_and a (bit_not w32 b)) core
arith_outcome OrNCc rd a b core = logical rd (bit_or a (bit_not w32 b)) core
arith_outcome XNorCc rd a b core = logical rd (bit_not w32 (bit_xor a b)) core
arith_outcome AddXCc rd a b core = coded rd (sum a b (carry core.icc)) (codes_of_sum a b (carry core.icc)) core
arith_outcome UMulCc rd a b core = wide_coded rd (a * b) core
arith_outcome SMulCc rd a b core = wide_coded rd (signed_product a b) core
arith_outcome SubXCc rd a b core = coded rd (difference a b (carry core.icc)) (codes_of_difference a b (carry core.icc)) core
arith_outcome UDivCc rd a b core =
    divided_by b core (coded rd (quotient (dividend core a) b) (codes_of_result (quotient (dividend core a) b) (quotient_overflows (dividend core a) b)) core)
arith_outcome SDivCc rd a b core =
    divided_by b core (coded rd (signed_quotient (dividend core a) b) (codes_of_result (signed_quotient (dividend core a) b) (signed_quotient_overflows (dividend core a) b)) core)
arith_outcome TAddCc rd a b core = coded rd (sum a b false) (codes_of_tagged_sum a b (tagged_sum_overflows a b)) core
arith_outcome TSubCc rd a b core = coded rd (difference a b false) (codes_of_tagged_difference a b (tagged_difference_overflows a b)) core
arith_outcome TAddCcTv rd a b core =
    unless_overflow (tagged_sum_overflows a b) core (coded rd (sum a b false) (codes_of_tagged_sum a b false) core)
arith_outcome TSubCcTv rd a b core =
    unless_overflow (tagged_difference_overflows a b) core (coded rd (difference a b false) (codes_of_tagged_difference a b false) core)
arith_outcome MulSCc rd a b core = went (multiply_step rd a b core)
arith_outcome Sll rd a b core = result_alone rd (shifted_left a b) core
arith_outcome Srl rd a b core = result_alone rd (shifted_right a b) core
arith_outcome Sra rd a b core = result_alone rd (shifted_arithmetically a b) core

-- work on registers
abbrev pub arith_row : Arith → ℕ → ℕ → Src → Registers → RegisterOutcome
arith_row operation rd rs1 source core = arith_outcome operation rd (register_at core rs1) (value_of source core) core
