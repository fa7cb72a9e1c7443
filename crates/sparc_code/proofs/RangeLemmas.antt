-- An instruction that a word spells has its fields in range.
use Rattle.std.proofs.Common.{◌≡◌, ℕ, ℤ, ◌<◌, ◌^◌, subst, arith}
use Rattle.std.proofs.lemmas.Int.{ints}
use Rattle.sparc_code.specs.Fields.{signed, rd, rs1, rs2, simm13, shcnt, imm7, disp30, disp22, imm22, cond}
use Rattle.sparc_code.specs.Opcodes.{immediate_of, IsPlaceOf}
use Rattle.sparc_code.specs.Ranges.{IsSigned, IsUnsigned, IsImmediate, IsOperand, InRange}
use Rattle.sparc_code.specs.Spells.{HasOperand, Spells}
use Rattle.sparc_code.specs.declared.instruction.Arith.{Arith}
use Rattle.sparc_code.specs.declared.instruction.Arith.TheVariants as arith
use Rattle.sparc_code.specs.declared.instruction.Src.{Src}
use Rattle.sparc_code.specs.declared.instruction.Src.TheVariants.{Reg, Imm}
use Rattle.sparc_code.specs.declared.instruction.Instr.{Instr}
use Rattle.sparc_code.specs.declared.instruction.Instr.TheVariants as instr

-- a signed field is a signed number of its width
signed13_fits : (word : ℕ) → IsSigned 13 (simm13 word)
unfolding simm13 signed
signed13_fits word = (grind (arith, ints), grind (arith, ints))

-- the same of 22 bits
signed22_fits : (word : ℕ) → IsSigned 22 (disp22 word)
unfolding disp22 signed
signed22_fits word = (grind (arith, ints), grind (arith, ints))

-- the same of 30 bits
signed30_fits : (word : ℕ) → IsSigned 30 (disp30 word)
unfolding disp30 signed
signed30_fits word = (grind (arith, ints), grind (arith, ints))

-- the number of a trap has seven bits
imm7_fits : (word : ℕ) → IsUnsigned 7 (imm7 word)
unfolding imm7
imm7_fits word = (omega (arith, ints), omega (arith, ints))

-- the number of places has five bits
shcnt_fits : (word : ℕ) → IsUnsigned 5 (shcnt word)
unfolding shcnt
shcnt_fits word = (omega (arith, ints), omega (arith, ints))

-- the number in a word of work is one that the work can have
immediate_fits : (operation : Arith) (word : ℕ) → IsImmediate operation (immediate_of operation word)
immediate_fits arith.Sll word = shcnt_fits word
immediate_fits arith.Srl word = shcnt_fits word
immediate_fits arith.Sra word = shcnt_fits word
immediate_fits operation word = signed13_fits word

-- rd has five bits
rd_below : (word : ℕ) → rd word < 32
unfolding rd
rd_below word = omega arith

-- rs1 has five bits
rs1_below : (word : ℕ) → rs1 word < 32
unfolding rs1
rs1_below word = omega arith

-- rs2 has five bits
rs2_below : (word : ℕ) → rs2 word < 32
unfolding rs2
rs2_below word = omega arith

-- cond has four bits
cond_below : (word : ℕ) → cond word < 16
unfolding cond
cond_below word = omega arith

-- imm22 has 22 bits
imm22_below : (word : ℕ) → imm22 word < 2 ^ 22
unfolding imm22
imm22_below word = omega arith

-- an operand that is spelled fits
operand_fits : (number : ℕ → ℤ) (Fits : ℤ → Type 0) (word : ℕ) (source : Src) → Fits (number word) → HasOperand number word source → IsOperand Fits source
operand_fits number Fits word (Reg register) fits spelled = rw (← spelled.1) (rs2_below word)
operand_fits number Fits word (Imm value) fits spelled = subst Fits spelled.1 fits

-- the register in rd is one
register_fits : (word target : ℕ) → rd word ≡ target → target < 32
register_fits word target is = rw (← is) (rd_below word)

-- the register in rs1 is one
first_fits : (word first : ℕ) → rs1 word ≡ first → first < 32
first_fits word first is = rw (← is) (rs1_below word)

-- an instruction that is spelled has its fields in range
pub in_range-spells : (word : ℕ) (instruction : Instr) → Spells word instruction → InRange instruction
in_range-spells word (instr.Call disp) spelled = subst (IsSigned 30) spelled.1 (signed30_fits word)
in_range-spells word (instr.Branch condition annulled disp) spelled = (rw (← spelled.1) (cond_below word), subst (IsSigned 22) spelled.3 (signed22_fits word))
in_range-spells word (instr.Sethi target imm) spelled = (register_fits word target spelled.1, rw (← spelled.2) (imm22_below word))
in_range-spells word (instr.Arith operation target first second) spelled = (register_fits word target spelled.1, first_fits word first spelled.2, operand_fits (immediate_of operation) (IsImmediate operation) word second (immediate_fits operation word) spelled.3)
in_range-spells word (instr.ReadY target) spelled = register_fits word target spelled.2
in_range-spells word instr.Barrier spelled = tt
in_range-spells word (instr.WriteY first second) spelled = (first_fits word first spelled.2, operand_fits simm13 (IsSigned 13) word second (signed13_fits word) spelled.3)
in_range-spells word (instr.Jump target first second) spelled = (register_fits word target spelled.1, first_fits word first spelled.2, operand_fits simm13 (IsSigned 13) word second (signed13_fits word) spelled.3)
in_range-spells word (instr.Trap condition first second) spelled = (rw (← spelled.1) (cond_below word), first_fits word first spelled.2, operand_fits imm7 (IsUnsigned 7) word second (imm7_fits word) spelled.3)
in_range-spells word instr.Flush spelled = tt
in_range-spells word (instr.Save target first second) spelled = (register_fits word target spelled.1, first_fits word first spelled.2, operand_fits simm13 (IsSigned 13) word second (signed13_fits word) spelled.3)
in_range-spells word (instr.Restore target first second) spelled = (register_fits word target spelled.1, first_fits word first spelled.2, operand_fits simm13 (IsSigned 13) word second (signed13_fits word) spelled.3)
in_range-spells word (instr.Mem operation target first second) spelled = (register_fits word target spelled.2, subst (IsPlaceOf operation) spelled.2 spelled.1, first_fits word first spelled.3, operand_fits simm13 (IsSigned 13) word second (signed13_fits word) spelled.4)
in_range-spells word instr.Privileged spelled = tt
in_range-spells word instr.Float spelled = tt
in_range-spells word instr.Coproc spelled = tt
in_range-spells word instr.Illegal spelled = tt
