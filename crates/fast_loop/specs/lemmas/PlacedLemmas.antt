-- Registers at other program counters: work on registers is the same wherever it stands.
use Rattle.std.proofs.Common.{◌≡◌, ℕ, ◌+◌, ◌*◌, ◌/◌, ◌%◌, ◌^◌, ◌<◌, Bool, true, false, refl, ap, ◌∙◌, arith}
use Rattle.std.proofs.lemmas.Bool.Decides.{nat_tests}
use Rattle.std.specs.Prelude.{◌==◌, if◌then◌else◌, nat_lt, slice_set, bit_and, bit_or, bit_xor}
use Rattle.std.specs.Int.{w32, bit_not}
use Rattle.sparc_code.specs.declared.instruction.Arith.{Arith}
use Rattle.sparc_code.specs.declared.instruction.Arith.TheVariants as arith
use Rattle.sparc_code.specs.declared.instruction.Src.{Src}
use Rattle.sparc_code.specs.declared.instruction.Src.TheVariants.{Reg, Imm}
use Rattle.sparc_step.specs.Arithmetic.{dividend, arith_outcome}
use Rattle.sparc_step.specs.Conditions.{carry, codes_of_difference, codes_of_result, codes_of_sum}
use Rattle.sparc_step.specs.Operands.{sum_of, value_of}
use Rattle.sparc_step.specs.Outcome.{RegisterOutcome, went, with_result, with_result_and_codes}
use Rattle.sparc_step.specs.Registers.{Registers, advanced, place_in_windows, placed, register_at, with_icc, with_register, with_y}
use Rattle.sparc_step.specs.Words.{difference, quotient, shifted_arithmetically, shifted_left, shifted_right, signed_product, signed_quotient, sum}
use Rattle.fast_loop.specs.lemmas.Effects.{MayDivide, worked}

-- a register is the same
pub register_at-placed : (core : Registers) (pc npc r : ℕ) → register_at (placed pc npc core) r ≡ register_at core r
unfolding register_at placed
register_at-placed core pc npc r = refl

-- so is operand 2, and the sum of both
pub value_of-placed : (source : Src) (core : Registers) (pc npc : ℕ) → value_of source (placed pc npc core) ≡ value_of source core
value_of-placed (Reg register) core pc npc = register_at-placed core pc npc register
value_of-placed (Imm number) core pc npc = refl

pub sum_of-placed : (rs1 : ℕ) (source : Src) (core : Registers) (pc npc : ℕ) → sum_of rs1 source (placed pc npc core) ≡ sum_of rs1 source core
unfolding sum_of
sum_of-placed rs1 source core pc npc =
    ap (λ (a : ℕ). (a + value_of source (placed pc npc core)) % 2 ^ 32) (register_at-placed core pc npc rs1)
    ∙ ap (λ (b : ℕ). (register_at core rs1 + b) % 2 ^ 32) (value_of-placed source core pc npc)

-- one of two
chosen_placed : (b : Bool) (one two : Registers) (pc npc : ℕ) → (if b then placed pc npc one else placed pc npc two) ≡ placed pc npc (if b then one else two)
chosen_placed true one two pc npc = refl
chosen_placed false one two pc npc = refl

-- a register that is set
pub with_register-placed : (core : Registers) (pc npc r value : ℕ) → with_register (placed pc npc core) r value ≡ placed pc npc (with_register core r value)
unfolding with_register placed
with_register-placed core pc npc r value =
    ap (λ (later : Registers). if r == 0 then placed pc npc core else later)
    (chosen_placed (nat_lt r 8) (record core { globals = slice_set core.globals r value }) (record core { windows = slice_set core.windows (place_in_windows core.cwp r) value }) pc npc)
    ∙ chosen_placed (r == 0) core (if nat_lt r 8 then record core { globals = slice_set core.globals r value } else record core { windows = slice_set core.windows (place_in_windows core.cwp r) value }) pc npc

-- the next instruction
pub advanced-placed : (core : Registers) (pc npc : ℕ) → advanced (placed pc npc core) ≡ placed npc ((npc + 4) % 2 ^ 32) core
unfolding advanced placed
advanced-placed core pc npc = refl

-- a result
pub with_result-placed : (core : Registers) (pc npc rd value : ℕ) → with_result rd value (placed pc npc core) ≡ placed npc ((npc + 4) % 2 ^ 32) (with_register core rd value)
unfolding with_result
with_result-placed core pc npc rd value = ap advanced (with_register-placed core pc npc rd value) ∙ advanced-placed (with_register core rd value) pc npc

-- condition codes
with_icc-placed : (core : Registers) (pc npc icc : ℕ) → with_icc (placed pc npc core) icc ≡ placed pc npc (with_icc core icc)
unfolding with_icc placed
with_icc-placed core pc npc icc = refl

-- a result with condition codes
pub with_codes-placed : (core : Registers) (pc npc rd value icc : ℕ) → with_result_and_codes rd value icc (placed pc npc core) ≡ placed npc ((npc + 4) % 2 ^ 32) (with_icc (with_register core rd value) icc)
unfolding with_result_and_codes
with_codes-placed core pc npc rd value icc =
    ap (λ (r : Registers). advanced (with_icc r icc)) (with_register-placed core pc npc rd value)
    ∙ ap advanced (with_icc-placed (with_register core rd value) pc npc icc)
    ∙ advanced-placed (with_icc (with_register core rd value) icc) pc npc

-- Y
pub with_y-placed : (core : Registers) (pc npc y : ℕ) → with_y (placed pc npc core) y ≡ placed pc npc (with_y core y)
unfolding with_y placed
with_y-placed core pc npc y = refl

-- a double word as a result
wide-placed : (core : Registers) (pc npc rd low high : ℕ) → with_result rd low (with_y (placed pc npc core) high) ≡ placed npc ((npc + 4) % 2 ^ 32) (with_register (with_y core high) rd low)
wide-placed core pc npc rd low high =
    ap (with_result rd low) (with_y-placed core pc npc high) ∙ with_result-placed (with_y core high) pc npc rd low

-- what is divided
dividend-placed : (core : Registers) (pc npc a : ℕ) → dividend (placed pc npc core) a ≡ dividend core a
unfolding dividend placed
dividend-placed core pc npc a = refl

-- a quotient
divided : (b pc npc rd value : ℕ) (core : Registers) (refused : RegisterOutcome) → 0 < b → (if b == 0 then refused else went (with_result rd value (placed pc npc core))) ≡ went (placed npc ((npc + 4) % 2 ^ 32) (with_register core rd value))
divided b pc npc rd value core refused some =
    let test : (b == 0) ≡ false = grind (arith, nat_tests) in
    ap (λ (t : Bool). if t then refused else went (with_result rd value (placed pc npc core))) test ∙ ap went (with_result-placed core pc npc rd value)

-- condition codes are the same
icc-placed : (core : Registers) (pc npc : ℕ) → (placed pc npc core).icc ≡ core.icc
unfolding placed
icc-placed core pc npc = refl

-- a double word as a result, with condition codes
wide_coded-placed : (core : Registers) (pc npc rd low high icc : ℕ) → with_result_and_codes rd low icc (with_y (placed pc npc core) high) ≡ placed npc ((npc + 4) % 2 ^ 32) (with_icc (with_register (with_y core high) rd low) icc)
wide_coded-placed core pc npc rd low high icc =
    ap (with_result_and_codes rd low icc) (with_y-placed core pc npc high) ∙ with_codes-placed (with_y core high) pc npc rd low icc

-- what work on registers leaves
pub worked-placed : (operation : Arith) (rd a b pc npc : ℕ) (core : Registers) → MayDivide operation b
    → arith_outcome operation rd a b (placed pc npc core) ≡ went (placed npc ((npc + 4) % 2 ^ 32) (worked operation rd a b core))
worked-placed arith.Add rd a b pc npc core is = ap went (with_result-placed core pc npc rd (sum a b false))
worked-placed arith.And rd a b pc npc core is = ap went (with_result-placed core pc npc rd (bit_and a b))
worked-placed arith.Or rd a b pc npc core is = ap went (with_result-placed core pc npc rd (bit_or a b))
worked-placed arith.Xor rd a b pc npc core is = ap went (with_result-placed core pc npc rd (bit_xor a b))
worked-placed arith.Sub rd a b pc npc core is = ap went (with_result-placed core pc npc rd (difference a b false))
worked-placed arith.AndN rd a b pc npc core is = ap went (with_result-placed core pc npc rd (bit_and a (bit_not w32 b)))
worked-placed arith.OrN rd a b pc npc core is = ap went (with_result-placed core pc npc rd (bit_or a (bit_not w32 b)))
worked-placed arith.XNor rd a b pc npc core is = ap went (with_result-placed core pc npc rd (bit_not w32 (bit_xor a b)))
worked-placed arith.UMul rd a b pc npc core is = ap went (wide-placed core pc npc rd (a * b % 2 ^ 32) (a * b / 2 ^ 32))
worked-placed arith.SMul rd a b pc npc core is = ap went (wide-placed core pc npc rd (signed_product a b % 2 ^ 32) (signed_product a b / 2 ^ 32))
worked-placed arith.UDiv rd a b pc npc core is =
    divided b pc npc rd (quotient (dividend (placed pc npc core) a) b) core _ is
    ∙ ap (λ (n : ℕ). went (placed npc ((npc + 4) % 2 ^ 32) (with_register core rd (quotient n b)))) (dividend-placed core pc npc a)
worked-placed arith.SDiv rd a b pc npc core is =
    divided b pc npc rd (signed_quotient (dividend (placed pc npc core) a) b) core _ is
    ∙ ap (λ (n : ℕ). went (placed npc ((npc + 4) % 2 ^ 32) (with_register core rd (signed_quotient n b)))) (dividend-placed core pc npc a)
worked-placed arith.AddCc rd a b pc npc core is = ap went (with_codes-placed core pc npc rd (sum a b false) (codes_of_sum a b false))
worked-placed arith.AndCc rd a b pc npc core is = ap went (with_codes-placed core pc npc rd (bit_and a b) (codes_of_result (bit_and a b) false))
worked-placed arith.OrCc rd a b pc npc core is = ap went (with_codes-placed core pc npc rd (bit_or a b) (codes_of_result (bit_or a b) false))
worked-placed arith.SubCc rd a b pc npc core is = ap went (with_codes-placed core pc npc rd (difference a b false) (codes_of_difference a b false))
worked-placed arith.Sll rd a b pc npc core is = ap went (with_result-placed core pc npc rd (shifted_left a b))
worked-placed arith.Srl rd a b pc npc core is = ap went (with_result-placed core pc npc rd (shifted_right a b))
worked-placed arith.Sra rd a b pc npc core is = ap went (with_result-placed core pc npc rd (shifted_arithmetically a b))
worked-placed arith.AddX rd a b pc npc core is = ap (λ (i : ℕ). went (with_result rd (sum a b (carry i)) (placed pc npc core))) (icc-placed core pc npc) ∙ ap went (with_result-placed core pc npc rd (sum a b (carry core.icc)))
worked-placed arith.SubX rd a b pc npc core is = ap (λ (i : ℕ). went (with_result rd (difference a b (carry i)) (placed pc npc core))) (icc-placed core pc npc) ∙ ap went (with_result-placed core pc npc rd (difference a b (carry core.icc)))
worked-placed arith.XorCc rd a b pc npc core is = ap went (with_codes-placed core pc npc rd (bit_xor a b) (codes_of_result (bit_xor a b) false))
worked-placed arith.AndNCc rd a b pc npc core is = ap went (with_codes-placed core pc npc rd (bit_and a (bit_not w32 b)) (codes_of_result (bit_and a (bit_not w32 b)) false))
worked-placed arith.OrNCc rd a b pc npc core is = ap went (with_codes-placed core pc npc rd (bit_or a (bit_not w32 b)) (codes_of_result (bit_or a (bit_not w32 b)) false))
worked-placed arith.XNorCc rd a b pc npc core is = ap went (with_codes-placed core pc npc rd (bit_not w32 (bit_xor a b)) (codes_of_result (bit_not w32 (bit_xor a b)) false))
worked-placed arith.AddXCc rd a b pc npc core is = ap (λ (i : ℕ). went (with_result_and_codes rd (sum a b (carry i)) (codes_of_sum a b (carry i)) (placed pc npc core))) (icc-placed core pc npc) ∙ ap went (with_codes-placed core pc npc rd (sum a b (carry core.icc)) (codes_of_sum a b (carry core.icc)))
worked-placed arith.UMulCc rd a b pc npc core is = ap went (wide_coded-placed core pc npc rd (a * b % 2 ^ 32) (a * b / 2 ^ 32) (codes_of_result (a * b % 2 ^ 32) false))
worked-placed arith.SMulCc rd a b pc npc core is = ap went (wide_coded-placed core pc npc rd (signed_product a b % 2 ^ 32) (signed_product a b / 2 ^ 32) (codes_of_result (signed_product a b % 2 ^ 32) false))
worked-placed arith.SubXCc rd a b pc npc core is = ap (λ (i : ℕ). went (with_result_and_codes rd (difference a b (carry i)) (codes_of_difference a b (carry i)) (placed pc npc core))) (icc-placed core pc npc) ∙ ap went (with_codes-placed core pc npc rd (difference a b (carry core.icc)) (codes_of_difference a b (carry core.icc)))
worked-placed arith.UDivCc rd a b pc npc core is = absurd is
worked-placed arith.SDivCc rd a b pc npc core is = absurd is
worked-placed arith.TAddCc rd a b pc npc core is = absurd is
worked-placed arith.TSubCc rd a b pc npc core is = absurd is
worked-placed arith.TAddCcTv rd a b pc npc core is = absurd is
worked-placed arith.TSubCcTv rd a b pc npc core is = absurd is
worked-placed arith.MulSCc rd a b pc npc core is = absurd is
