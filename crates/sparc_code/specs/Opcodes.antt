-- The selectors of SPARC V8, as the opcode tables of appendix F of the manual have them.
use Rattle.std.specs.Prelude.{ℕ, ℤ, List, [], ◌∷◌, ◌≡◌, ◌%◌, ⊤}
use Rattle.sparc_code.specs.Fields.{simm13, shcnt}
use Rattle.sparc_code.specs.declared.instruction.Arith.{Arith}
use Rattle.sparc_code.specs.declared.instruction.Arith.TheVariants.{Add, And, Or, Xor, Sub, AndN, OrN, XNor, AddX, UMul, SMul, SubX, UDiv, SDiv, AddCc, AndCc, OrCc, XorCc, SubCc, AndNCc, OrNCc, XNorCc, AddXCc, UMulCc, SMulCc, SubXCc, UDivCc, SDivCc, TAddCc, TSubCc, TAddCcTv, TSubCcTv, MulSCc, Sll, Srl, Sra}
use Rattle.sparc_code.specs.declared.instruction.MemOp.{MemOp}
use Rattle.sparc_code.specs.declared.instruction.MemOp.TheVariants.{Ld, LdUb, LdUh, LdD, St, StB, StH, StD, LdSb, LdSh, LdStUb, Swap}

-- the selector of work on registers (op 2)
abbrev pub opcode_of : Arith → ℕ
opcode_of Add = 0x00
opcode_of And = 0x01
opcode_of Or = 0x02
opcode_of Xor = 0x03
opcode_of Sub = 0x04
opcode_of AndN = 0x05
opcode_of OrN = 0x06
opcode_of XNor = 0x07
opcode_of AddX = 0x08
opcode_of UMul = 0x0A
opcode_of SMul = 0x0B
opcode_of SubX = 0x0C
opcode_of UDiv = 0x0E
opcode_of SDiv = 0x0F
opcode_of AddCc = 0x10
opcode_of AndCc = 0x11
opcode_of OrCc = 0x12
opcode_of XorCc = 0x13
opcode_of SubCc = 0x14
opcode_of AndNCc = 0x15
opcode_of OrNCc = 0x16
opcode_of XNorCc = 0x17
opcode_of AddXCc = 0x18
opcode_of UMulCc = 0x1A
opcode_of SMulCc = 0x1B
opcode_of SubXCc = 0x1C
opcode_of UDivCc = 0x1E
opcode_of SDivCc = 0x1F
opcode_of TAddCc = 0x20
opcode_of TSubCc = 0x21
opcode_of TAddCcTv = 0x22
opcode_of TSubCcTv = 0x23
opcode_of MulSCc = 0x24
opcode_of Sll = 0x25
opcode_of Srl = 0x26
opcode_of Sra = 0x27

-- the number that operand 2 is where it stands in the word
abbrev pub immediate_of : Arith → ℕ → ℤ
immediate_of Sll = shcnt
immediate_of Srl = shcnt
immediate_of Sra = shcnt
immediate_of operation = simm13

-- the selector of work on memory (op 3)
abbrev pub memory_opcode_of : MemOp → ℕ
memory_opcode_of Ld = 0x00
memory_opcode_of LdUb = 0x01
memory_opcode_of LdUh = 0x02
memory_opcode_of LdD = 0x03
memory_opcode_of St = 0x04
memory_opcode_of StB = 0x05
memory_opcode_of StH = 0x06
memory_opcode_of StD = 0x07
memory_opcode_of LdSb = 0x09
memory_opcode_of LdSh = 0x0A
memory_opcode_of LdStUb = 0x0D
memory_opcode_of Swap = 0x0F

-- a double word stands in an even register and the one after it
abbrev pub IsPlaceOf : MemOp → ℕ → Type 0
IsPlaceOf LdD register = register % 2 ≡ 0
IsPlaceOf StD register = register % 2 ≡ 0
IsPlaceOf operation register = ⊤

-- selectors of one kind: on registers (op 2) and on memory (op 3)
pub record Selectors : Type 0 where
  pub on_registers : List ℕ
  pub on_memory : List ℕ

-- those of the supervisor
abbrev pub privileged_selectors : Selectors
privileged_selectors = record {
  on_registers = 0x29 ∷ 0x2A ∷ 0x2B ∷ 0x31 ∷ 0x32 ∷ 0x33 ∷ 0x39 ∷ [];
  on_memory = 0x10 ∷ 0x11 ∷ 0x12 ∷ 0x13 ∷ 0x14 ∷ 0x15 ∷ 0x16 ∷ 0x17 ∷ 0x19 ∷ 0x1A ∷ 0x1D ∷ 0x1F ∷ 0x26 ∷ 0x36 ∷ [];
}

-- those of the floating-point unit
abbrev pub float_selectors : Selectors
float_selectors = record {
  on_registers = 0x34 ∷ 0x35 ∷ [];
  on_memory = 0x20 ∷ 0x21 ∷ 0x23 ∷ 0x24 ∷ 0x25 ∷ 0x27 ∷ [];
}

-- those of the coprocessor
abbrev pub coproc_selectors : Selectors
coproc_selectors = record {
  on_registers = 0x36 ∷ 0x37 ∷ [];
  on_memory = 0x30 ∷ 0x31 ∷ 0x33 ∷ 0x34 ∷ 0x35 ∷ 0x37 ∷ [];
}

-- those that have no instruction
abbrev pub unassigned_selectors : Selectors
unassigned_selectors = record {
  on_registers = 0x09 ∷ 0x0D ∷ 0x19 ∷ 0x1D ∷ 0x2C ∷ 0x2D ∷ 0x2E ∷ 0x2F ∷ 0x3E ∷ 0x3F ∷ [];
  on_memory = 0x08 ∷ 0x0B ∷ 0x0C ∷ 0x0E ∷ 0x18 ∷ 0x1B ∷ 0x1C ∷ 0x1E ∷ 0x22 ∷ 0x28 ∷ 0x29 ∷ 0x2A ∷ 0x2B ∷ 0x2C ∷ 0x2D ∷ 0x2E ∷ 0x2F ∷ 0x32 ∷ 0x38 ∷ 0x39 ∷ 0x3A ∷ 0x3B ∷ 0x3C ∷ 0x3D ∷ 0x3E ∷ 0x3F ∷ [];
}

-- the same of format 2: UNIMP and three that are not used
abbrev pub unassigned_of_format2 : List ℕ
unassigned_of_format2 = 0 ∷ 1 ∷ 3 ∷ 5 ∷ []
