-- Which words spell an instruction. A bit that no row names is free.
use Rattle.std.specs.Prelude.{ℕ, ℤ, Bool, true, false, List, [], ◌∷◌, ◌≡◌, ◌≢◌, ◌%◌, ◌⊎◌}
use Rattle.sparc_code.specs.Fields.{op, op2, op3, rd, rs1, i, rs2, simm13, imm7, disp30, disp22, imm22, cond, annul}
use Rattle.sparc_code.specs.Opcodes.{Selectors, opcode_of, immediate_of, memory_opcode_of, IsPlaceOf, privileged_selectors, float_selectors, coproc_selectors, unassigned_selectors, unassigned_of_format2}
use Rattle.sparc_code.specs.declared.instruction.MemOp.TheVariants.{LdD, StD}
use Rattle.sparc_code.specs.declared.instruction.Src.{Src}
use Rattle.sparc_code.specs.declared.instruction.Src.TheVariants.{Reg, Imm}
use Rattle.sparc_code.specs.declared.instruction.Instr.{Instr}
use Rattle.sparc_code.specs.declared.instruction.Instr.TheVariants as instr

-- the number is one of the list
abbrev pub IsOneOf : List ℕ → ℕ → Type 0
IsOneOf [] number = ⊥
IsOneOf (first ∷ rest) number = (number ≡ first) ⊎ IsOneOf rest number

-- the word is of format 2, with this selector
abbrev pub IsFormat2 : ℕ → ℕ → Type 0
IsFormat2 selector word = (op word ≡ 0) × (op2 word ≡ selector)

-- the word works on registers, with this selector
abbrev pub IsOnRegisters : ℕ → ℕ → Type 0
IsOnRegisters selector word = (op word ≡ 2) × (op3 word ≡ selector)

-- the word works on memory, with this selector
abbrev pub IsOnMemory : ℕ → ℕ → Type 0
IsOnMemory selector word = (op word ≡ 3) × (op3 word ≡ selector)

-- the selector of the word is one of these
abbrev pub IsOneOfBoth : Selectors → ℕ → Type 0
IsOneOfBoth selectors word = ((op word ≡ 2) × IsOneOf selectors.on_registers (op3 word)) ⊎ ((op word ≡ 3) × IsOneOf selectors.on_memory (op3 word))

-- operand 2 is the register rs2, or the number that stands in the word
abbrev pub HasOperand : (ℕ → ℤ) → ℕ → Src → Type 0
HasOperand number word (Reg register) = (i word ≡ 0) × (rs2 word ≡ register)
HasOperand number word (Imm value) = (i word ≡ 1) × (number word ≡ value)

-- the annul bit is set, or not
abbrev pub HasAnnul : ℕ → Bool → Type 0
HasAnnul word true = annul word ≡ 1
HasAnnul word false = annul word ≡ 0

-- why a word is no instruction
pub data IsUnassigned (word : ℕ) : Type 0 where
  selects_no_format2 : op word ≡ 0 → IsOneOf unassigned_of_format2 (op2 word) → IsUnassigned word
  selects_no_work : op word ≡ 2 → IsOneOf unassigned_selectors.on_registers (op3 word) → IsUnassigned word
  selects_no_memory_work : op word ≡ 3 → IsOneOf unassigned_selectors.on_memory (op3 word) → IsUnassigned word
  -- RDY and STBAR alone
  reads_other_state : IsOnRegisters 0x28 word → rs1 word ≢ 0 → (rs1 word ≢ 15) ⊎ (rd word ≢ 0) → IsUnassigned word
  -- WRY alone
  writes_other_state : IsOnRegisters 0x30 word → rd word ≢ 0 → IsUnassigned word
  -- LDD and STD
  doubles_odd_register : (op word ≡ 3) × IsOneOf (memory_opcode_of LdD ∷ memory_opcode_of StD ∷ []) (op3 word) → rd word % 2 ≡ 1 → IsUnassigned word

-- The formats, as section 5.1 of the SPARC V8 manual draws them, with the number of the first bit of a field; what has no name is not read.
--
--  31  29        24    21    18        1312              4       0
-- +---+-----------------------------------------------------------+
-- | op|                           disp30                          |  op 1: CALL
-- +---+---------+-----+-------------------------------------------+
-- | op|    rd   | op2 |                   imm22                   |  op 0, op2 4: SETHI
-- +---+-+-------+-----+-------------------------------------------+
-- | op|a|  cond | op2 |                   disp22                  |  op 0, op2 2: Bicc
-- +---+-+-------+-----+-----+---------+-+---------------+---------+
-- | op|    rd   |    op3    |   rs1   |0|               |   rs2   |  op 2, 3: operand 2 in a register
-- +---+---------+-----------+---------+-+---------------+---------+
-- | op|    rd   |    op3    |   rs1   |1|          simm13         |  op 2, 3: operand 2 in the word
-- +---+---------+-----------+---------+-+---------------+---------+
-- | op|    rd   |    op3    |   rs1   |1|               |  shcnt  |  op 2: a shift
-- +---+-+-------+-----------+---------+-+-----------+---+---------+
-- | op| |  cond |    op3    |   rs1   |1|           |     imm7    |  op 2, op3 3A: Ticc
-- +---+-+-------+-----------+---------+-+-----------+-------------+

-- the word spells the instruction
abbrev pub Spells : ℕ → Instr → Type 0
Spells word (instr.Call disp) = (op word ≡ 1) × (disp30 word ≡ disp)
Spells word (instr.Branch condition annulled disp) = IsFormat2 2 word × (cond word ≡ condition) × HasAnnul word annulled × (disp22 word ≡ disp)
Spells word (instr.Sethi target imm) = IsFormat2 4 word × (rd word ≡ target) × (imm22 word ≡ imm)
Spells word (instr.Arith operation target first second) = IsOnRegisters (opcode_of operation) word × (rd word ≡ target) × (rs1 word ≡ first) × HasOperand (immediate_of operation) word second
Spells word (instr.ReadY target) = IsOnRegisters 0x28 word × (rs1 word ≡ 0) × (rd word ≡ target)
Spells word instr.Barrier = IsOnRegisters 0x28 word × (rs1 word ≡ 15) × (rd word ≡ 0)
Spells word (instr.WriteY first second) = IsOnRegisters 0x30 word × (rd word ≡ 0) × (rs1 word ≡ first) × HasOperand simm13 word second
Spells word (instr.Jump target first second) = IsOnRegisters 0x38 word × (rd word ≡ target) × (rs1 word ≡ first) × HasOperand simm13 word second
Spells word (instr.Trap condition first second) = IsOnRegisters 0x3A word × (cond word ≡ condition) × (rs1 word ≡ first) × HasOperand imm7 word second
Spells word instr.Flush = IsOnRegisters 0x3B word
Spells word (instr.Save target first second) = IsOnRegisters 0x3C word × (rd word ≡ target) × (rs1 word ≡ first) × HasOperand simm13 word second
Spells word (instr.Restore target first second) = IsOnRegisters 0x3D word × (rd word ≡ target) × (rs1 word ≡ first) × HasOperand simm13 word second
Spells word (instr.Mem operation target first second) = IsOnMemory (memory_opcode_of operation) word × IsPlaceOf operation (rd word) × (rd word ≡ target) × (rs1 word ≡ first) × HasOperand simm13 word second
Spells word instr.Privileged = IsOneOfBoth privileged_selectors word
Spells word instr.Float = IsFormat2 6 word ⊎ IsOneOfBoth float_selectors word
Spells word instr.Coproc = IsFormat2 7 word ⊎ IsOneOfBoth coproc_selectors word
Spells word instr.Illegal = IsUnassigned word
