-- The instructions that a word can spell: each field is no wider than in the word.
use Rattle.std.specs.Prelude.{ℕ, ℤ, pos, negsuc, ⊤, ◌<◌, ◌^◌, ◌-◌, ◌≤ℤ◌, ◌<ℤ◌}
use Rattle.sparc_code.specs.Opcodes.{IsPlaceOf}
use Rattle.sparc_code.specs.declared.instruction.Arith.{Arith}
use Rattle.sparc_code.specs.declared.instruction.Arith.TheVariants as arith
use Rattle.sparc_code.specs.declared.instruction.Src.{Src}
use Rattle.sparc_code.specs.declared.instruction.Src.TheVariants.{Reg, Imm}
use Rattle.sparc_code.specs.declared.instruction.Instr.{Instr}
use Rattle.sparc_code.specs.declared.instruction.Instr.TheVariants as instr

-- a signed number of this many bits
abbrev pub IsSigned : ℕ → ℤ → Type 0
IsSigned width number = (negsuc (2 ^ (width - 1) - 1) ≤ℤ number) × (number <ℤ pos (2 ^ (width - 1)))

-- a number of this many bits
abbrev pub IsUnsigned : ℕ → ℤ → Type 0
IsUnsigned width number = (pos 0 ≤ℤ number) × (number <ℤ pos (2 ^ width))

-- the number is a register's
abbrev pub IsRegister : ℕ → Type 0
IsRegister number = number < 32

-- operand 2 is a register, or a number that fits
abbrev pub IsOperand : (ℤ → Type 0) → Src → Type 0
IsOperand Fits (Reg register) = IsRegister register
IsOperand Fits (Imm number) = Fits number

-- the numbers that operand 2 of the work can be
abbrev pub IsImmediate : Arith → ℤ → Type 0
IsImmediate arith.Sll = IsUnsigned 5
IsImmediate arith.Srl = IsUnsigned 5
IsImmediate arith.Sra = IsUnsigned 5
IsImmediate operation = IsSigned 13

-- the fields of the instruction are in range
abbrev pub InRange : Instr → Type 0
InRange (instr.Call disp) = IsSigned 30 disp
InRange (instr.Branch condition annulled disp) = (condition < 16) × IsSigned 22 disp
InRange (instr.Sethi target imm) = IsRegister target × (imm < 2 ^ 22)
InRange (instr.Arith operation target first second) = IsRegister target × IsRegister first × IsOperand (IsImmediate operation) second
InRange (instr.ReadY target) = IsRegister target
InRange instr.Barrier = ⊤
InRange (instr.WriteY first second) = IsRegister first × IsOperand (IsSigned 13) second
InRange (instr.Jump target first second) = IsRegister target × IsRegister first × IsOperand (IsSigned 13) second
InRange (instr.Trap condition first second) = (condition < 16) × IsRegister first × IsOperand (IsUnsigned 7) second
InRange instr.Flush = ⊤
InRange (instr.Save target first second) = IsRegister target × IsRegister first × IsOperand (IsSigned 13) second
InRange (instr.Restore target first second) = IsRegister target × IsRegister first × IsOperand (IsSigned 13) second
InRange (instr.Mem operation target first second) = IsRegister target × IsPlaceOf operation target × IsRegister first × IsOperand (IsSigned 13) second
InRange instr.Privileged = ⊤
InRange instr.Float = ⊤
InRange instr.Coproc = ⊤
InRange instr.Illegal = ⊤
