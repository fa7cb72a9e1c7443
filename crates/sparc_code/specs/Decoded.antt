-- The instruction that a word spells, read from the selectors.
use Rattle.std.specs.Prelude.{ℕ, ℤ, ◌%◌, ◌==◌, if◌then◌else◌}
use Rattle.sparc_code.specs.Fields.{op, op2, op3, rd, rs1, i, rs2, simm13, imm7, disp30, disp22, imm22, cond, annul}
use Rattle.sparc_code.specs.Opcodes.{immediate_of}
use Rattle.sparc_code.specs.declared.instruction.Arith.{Arith}
use Rattle.sparc_code.specs.declared.instruction.Arith.TheVariants as arith
use Rattle.sparc_code.specs.declared.instruction.MemOp.{MemOp}
use Rattle.sparc_code.specs.declared.instruction.MemOp.TheVariants as memory
use Rattle.sparc_code.specs.declared.instruction.Src.{Src}
use Rattle.sparc_code.specs.declared.instruction.Src.TheVariants.{Reg, Imm}
use Rattle.sparc_code.specs.declared.instruction.Instr.{Instr}
use Rattle.sparc_code.specs.declared.instruction.Instr.TheVariants as instr

-- operand 2 of the word
unfoldable pub operand : (ℕ → ℤ) → ℕ → Src
operand number word = if i word == 0 then Reg (rs2 word) else Imm (number word)

-- work on registers
abbrev pub work : Arith → ℕ → Instr
work operation word = instr.Arith operation (rd word) (rs1 word) (operand (immediate_of operation) word)

-- work on memory
abbrev pub memory_work : MemOp → ℕ → Instr
memory_work operation word = instr.Mem operation (rd word) (rs1 word) (operand simm13 word)

-- work on a double word, whose register is even
unfoldable pub double_work : MemOp → ℕ → Instr
double_work operation word = if rd word % 2 == 0 then memory_work operation word else instr.Illegal

-- RDY and STBAR
unfoldable pub read_state : ℕ → Instr
read_state word =
    if rs1 word == 0 then instr.ReadY (rd word)
    else if rs1 word == 15 then (if rd word == 0 then instr.Barrier else instr.Illegal)
    else instr.Illegal

-- WRY
unfoldable pub write_state : ℕ → Instr
write_state word = if rd word == 0 then instr.WriteY (rs1 word) (operand simm13 word) else instr.Illegal

-- a selector of format 2
unfoldable pub format2_row : ℕ → ℕ → Instr
format2_row selector word =
    if selector == 2 then instr.Branch (cond word) (annul word == 1) (disp22 word)
    else if selector == 4 then instr.Sethi (rd word) (imm22 word)
    else if selector == 6 then instr.Float
    else if selector == 7 then instr.Coproc
    else instr.Illegal

-- a selector of work on registers
unfoldable pub registers_row : ℕ → ℕ → Instr
registers_row selector word =
    if selector == 0x00 then work arith.Add word
    else if selector == 0x01 then work arith.And word
    else if selector == 0x02 then work arith.Or word
    else if selector == 0x03 then work arith.Xor word
    else if selector == 0x04 then work arith.Sub word
    else if selector == 0x05 then work arith.AndN word
    else if selector == 0x06 then work arith.OrN word
    else if selector == 0x07 then work arith.XNor word
    else if selector == 0x08 then work arith.AddX word
    else if selector == 0x0A then work arith.UMul word
    else if selector == 0x0B then work arith.SMul word
    else if selector == 0x0C then work arith.SubX word
    else if selector == 0x0E then work arith.UDiv word
    else if selector == 0x0F then work arith.SDiv word
    else if selector == 0x10 then work arith.AddCc word
    else if selector == 0x11 then work arith.AndCc word
    else if selector == 0x12 then work arith.OrCc word
    else if selector == 0x13 then work arith.XorCc word
    else if selector == 0x14 then work arith.SubCc word
    else if selector == 0x15 then work arith.AndNCc word
    else if selector == 0x16 then work arith.OrNCc word
    else if selector == 0x17 then work arith.XNorCc word
    else if selector == 0x18 then work arith.AddXCc word
    else if selector == 0x1A then work arith.UMulCc word
    else if selector == 0x1B then work arith.SMulCc word
    else if selector == 0x1C then work arith.SubXCc word
    else if selector == 0x1E then work arith.UDivCc word
    else if selector == 0x1F then work arith.SDivCc word
    else if selector == 0x20 then work arith.TAddCc word
    else if selector == 0x21 then work arith.TSubCc word
    else if selector == 0x22 then work arith.TAddCcTv word
    else if selector == 0x23 then work arith.TSubCcTv word
    else if selector == 0x24 then work arith.MulSCc word
    else if selector == 0x25 then work arith.Sll word
    else if selector == 0x26 then work arith.Srl word
    else if selector == 0x27 then work arith.Sra word
    else if selector == 0x28 then read_state word
    else if selector == 0x29 then instr.Privileged
    else if selector == 0x2A then instr.Privileged
    else if selector == 0x2B then instr.Privileged
    else if selector == 0x30 then write_state word
    else if selector == 0x31 then instr.Privileged
    else if selector == 0x32 then instr.Privileged
    else if selector == 0x33 then instr.Privileged
    else if selector == 0x34 then instr.Float
    else if selector == 0x35 then instr.Float
    else if selector == 0x36 then instr.Coproc
    else if selector == 0x37 then instr.Coproc
    else if selector == 0x38 then instr.Jump (rd word) (rs1 word) (operand simm13 word)
    else if selector == 0x39 then instr.Privileged
    else if selector == 0x3A then instr.Trap (cond word) (rs1 word) (operand imm7 word)
    else if selector == 0x3B then instr.Flush
    else if selector == 0x3C then instr.Save (rd word) (rs1 word) (operand simm13 word)
    else if selector == 0x3D then instr.Restore (rd word) (rs1 word) (operand simm13 word)
    else instr.Illegal

-- a selector of work on memory
unfoldable pub memory_row : ℕ → ℕ → Instr
memory_row selector word =
    if selector == 0x00 then memory_work memory.Ld word
    else if selector == 0x01 then memory_work memory.LdUb word
    else if selector == 0x02 then memory_work memory.LdUh word
    else if selector == 0x03 then double_work memory.LdD word
    else if selector == 0x04 then memory_work memory.St word
    else if selector == 0x05 then memory_work memory.StB word
    else if selector == 0x06 then memory_work memory.StH word
    else if selector == 0x07 then double_work memory.StD word
    else if selector == 0x09 then memory_work memory.LdSb word
    else if selector == 0x0A then memory_work memory.LdSh word
    else if selector == 0x0D then memory_work memory.LdStUb word
    else if selector == 0x0F then memory_work memory.Swap word
    else if selector == 0x10 then instr.Privileged
    else if selector == 0x11 then instr.Privileged
    else if selector == 0x12 then instr.Privileged
    else if selector == 0x13 then instr.Privileged
    else if selector == 0x14 then instr.Privileged
    else if selector == 0x15 then instr.Privileged
    else if selector == 0x16 then instr.Privileged
    else if selector == 0x17 then instr.Privileged
    else if selector == 0x19 then instr.Privileged
    else if selector == 0x1A then instr.Privileged
    else if selector == 0x1D then instr.Privileged
    else if selector == 0x1F then instr.Privileged
    else if selector == 0x20 then instr.Float
    else if selector == 0x21 then instr.Float
    else if selector == 0x23 then instr.Float
    else if selector == 0x24 then instr.Float
    else if selector == 0x25 then instr.Float
    else if selector == 0x26 then instr.Privileged
    else if selector == 0x27 then instr.Float
    else if selector == 0x30 then instr.Coproc
    else if selector == 0x31 then instr.Coproc
    else if selector == 0x33 then instr.Coproc
    else if selector == 0x34 then instr.Coproc
    else if selector == 0x35 then instr.Coproc
    else if selector == 0x36 then instr.Privileged
    else if selector == 0x37 then instr.Coproc
    else instr.Illegal

-- the instruction of the word
unfoldable pub decoded : ℕ → Instr
decoded word =
    if op word == 0 then format2_row (op2 word) word
    else if op word == 1 then instr.Call (disp30 word)
    else if op word == 2 then registers_row (op3 word) word
    else memory_row (op3 word) word
