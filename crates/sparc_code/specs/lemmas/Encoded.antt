-- The least word that spells an instruction: the bits that its format leaves unused are 0.
use Rattle.std.specs.Prelude.{ℕ, ℤ, pos, negsuc, suc, ◌+◌, ◌-◌, ◌*◌, ◌^◌, if◌then◌else◌}
use Rattle.sparc_code.specs.Opcodes.{opcode_of, memory_opcode_of}
use Rattle.sparc_code.specs.declared.instruction.Src.{Src}
use Rattle.sparc_code.specs.declared.instruction.Src.TheVariants.{Reg, Imm}
use Rattle.sparc_code.specs.declared.instruction.Instr.{Instr}
use Rattle.sparc_code.specs.declared.instruction.Instr.TheVariants as instr

-- a signed number as a field of this many bits
abbrev pub bits_of : ℕ → ℤ → ℕ
bits_of width (pos n) = n
bits_of width (negsuc n) = 2 ^ width - suc n

-- the bits of operand 2, from i downward
abbrev pub operand_bits : Src → ℕ
operand_bits (Reg register) = register
operand_bits (Imm number) = 2 ^ 13 + bits_of 13 number

-- a word of format 2
unfoldable pub format2_word : ℕ → ℕ → ℕ → ℕ
format2_word target selector low = target * 2 ^ 25 + selector * 2 ^ 22 + low

-- a word of format 3
unfoldable pub format3_word : ℕ → ℕ → ℕ → ℕ → ℕ → ℕ
format3_word format target selector first low = format * 2 ^ 30 + target * 2 ^ 25 + selector * 2 ^ 19 + first * 2 ^ 14 + low

-- the least word of an instruction
unfoldable pub encoded : Instr → ℕ
encoded (instr.Call disp) = 1 * 2 ^ 30 + bits_of 30 disp
encoded (instr.Branch condition annulled disp) = format2_word ((if annulled then 16 else 0) + condition) 2 (bits_of 22 disp)
encoded (instr.Sethi target imm) = format2_word target 4 imm
encoded (instr.Arith operation target first second) = format3_word 2 target (opcode_of operation) first (operand_bits second)
encoded (instr.ReadY target) = format3_word 2 target 0x28 0 0
encoded instr.Barrier = format3_word 2 0 0x28 15 0
encoded (instr.WriteY first second) = format3_word 2 0 0x30 first (operand_bits second)
encoded (instr.Jump target first second) = format3_word 2 target 0x38 first (operand_bits second)
encoded (instr.Trap condition first second) = format3_word 2 condition 0x3A first (operand_bits second)
encoded instr.Flush = format3_word 2 0 0x3B 0 0
encoded (instr.Save target first second) = format3_word 2 target 0x3C first (operand_bits second)
encoded (instr.Restore target first second) = format3_word 2 target 0x3D first (operand_bits second)
encoded (instr.Mem operation target first second) = format3_word 3 target (memory_opcode_of operation) first (operand_bits second)
encoded instr.Privileged = format3_word 2 0 0x29 0 0
encoded instr.Float = format2_word 0 6 0
encoded instr.Coproc = format2_word 0 7 0
encoded instr.Illegal = 0
