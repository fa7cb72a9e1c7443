-- The operands of an instruction.
use Rattle.std.specs.Prelude.{ℕ, ◌+◌, ◌%◌, ◌^◌}
use Rattle.sparc_code.specs.declared.instruction.Src.{Src}
use Rattle.sparc_code.specs.declared.instruction.Src.TheVariants.{Reg, Imm}
use Rattle.sparc_step.specs.Registers.{Registers, register_at}
use Rattle.sparc_step.specs.Words.{residue}

-- the value of operand 2, as a word
abbrev pub value_of : Src → Registers → ℕ
value_of (Reg n) core = register_at core n
value_of (Imm number) core = residue 32 number

-- the sum of the two operands: an address, a target, or the number of a trap
unfoldable pub sum_of : ℕ → Src → Registers → ℕ
sum_of rs1 source core = (register_at core rs1 + value_of source core) % 2 ^ 32
