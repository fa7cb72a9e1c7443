-- Operands that are in range.
use Rattle.std.specs.Prelude.{ℤ, ◌<◌, ⊤}
use Rattle.sparc_code.specs.Ranges.{IsOperand}
use Rattle.sparc_code.specs.declared.instruction.Src.{Src}
use Rattle.sparc_code.specs.declared.instruction.Src.TheVariants.{Reg, Imm}

-- operand 2 is a register, where it is one
abbrev pub IsRegisterIn : Src → Type 0
IsRegisterIn (Reg register) = register < 32
IsRegisterIn (Imm number) = ⊤

-- where it is in range
pub register_in : (Fits : ℤ → Type 0) (source : Src) → IsOperand Fits source → IsRegisterIn source
register_in Fits (Reg register) is = is
register_in Fits (Imm number) is = tt
