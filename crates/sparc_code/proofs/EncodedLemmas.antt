-- The encoded word spells its instruction, and no lesser one does.
use Rattle.std.proofs.Common.{◌≡◌, ◌∙◌, ℕ, ℤ, pos, negsuc, Bool, true, false, inl, inr, ◌<◌, ◌≤◌, ◌+◌, ◌/◌, ◌%◌, ◌^◌, refl, sym, ap, subst, arith, rules}
use Rattle.std.proofs.lemmas.Int.{ints}
use Rattle.sparc_code.specs.Fields.{signed, op, op2, op3, rd, rs1, i, rs2, simm13, shcnt, imm7, disp30, disp22, imm22, cond, annul}
use Rattle.sparc_code.specs.Opcodes.{opcode_of, memory_opcode_of, immediate_of, IsPlaceOf, privileged_selectors}
use Rattle.sparc_code.specs.Ranges.{IsSigned, IsUnsigned, IsImmediate, IsOperand, InRange}
use Rattle.sparc_code.specs.Spells.{HasOperand, Spells, selects_no_format2}
use Rattle.sparc_code.specs.lemmas.DecodedLemmas.{one_of}
use Rattle.sparc_code.specs.lemmas.Encoded.{bits_of, operand_bits, format2_word, format3_word, encoded}
use Rattle.sparc_code.specs.declared.instruction.Arith.{Arith}
use Rattle.sparc_code.specs.declared.instruction.Arith.TheVariants as arith
use Rattle.sparc_code.specs.declared.instruction.MemOp.{MemOp}
use Rattle.sparc_code.specs.declared.instruction.MemOp.TheVariants as memory
use Rattle.sparc_code.specs.declared.instruction.Src.{Src}
use Rattle.sparc_code.specs.declared.instruction.Src.TheVariants.{Reg, Imm}
use Rattle.sparc_code.specs.declared.instruction.Instr.{Instr}
use Rattle.sparc_code.specs.declared.instruction.Instr.TheVariants as instr

-- the fields of a word of format 3
record HasFields (word format target selector first low : ℕ) : Type 0 where
  pub op_is : op word ≡ format
  pub rd_is : rd word ≡ target
  pub op3_is : op3 word ≡ selector
  pub rs1_is : rs1 word ≡ first
  pub low_is : word % 2 ^ 14 ≡ low

-- a word of format 3 has the fields that it was made of
format3_fields : (format target selector first low : ℕ) → format < 4 → target < 32 → selector < 64 → first < 32 → low < 2 ^ 14 → HasFields (format3_word format target selector first low) format target selector first low
unfolding format3_word op rd op3 rs1
format3_fields format target selector first low a b c d e = record { op_is = omega arith; rd_is = omega arith; op3_is = omega arith; rs1_is = omega arith; low_is = omega arith }

-- the condition stands in the lower bits of rd
cond_is : (word condition : ℕ) → rd word ≡ condition → condition < 16 → cond word ≡ condition
unfolding rd cond
cond_is word condition is small = omega arith

-- the fields of a word of format 2
record HasFields2 (word target selector low : ℕ) : Type 0 where
  pub op_is : op word ≡ 0
  pub rd_is : rd word ≡ target
  pub op2_is : op2 word ≡ selector
  pub low_is : word % 2 ^ 22 ≡ low

-- a word of format 2 has the fields that it was made of
format2_fields : (target selector low : ℕ) → target < 32 → selector < 8 → low < 2 ^ 22 → HasFields2 (format2_word target selector low) target selector low
unfolding format2_word op rd op2
format2_fields target selector low a b c = record { op_is = omega arith; rd_is = omega arith; op2_is = omega arith; low_is = omega arith }

-- a selector of work has six bits
opcode_below : (operation : Arith) → opcode_of operation < 64
opcode_below arith.Add = omega arith
opcode_below operation = omega arith

-- a selector of work on memory has six bits
memory_opcode_below : (operation : MemOp) → memory_opcode_of operation < 64
memory_opcode_below memory.Ld = omega arith
memory_opcode_below operation = omega arith

-- the signed number of the bits of a signed number is that number
signed13-bits_of : (z : ℤ) → IsSigned 13 z → signed 13 (bits_of 13 z) ≡ z
unfolding signed
signed13-bits_of (pos n) fits = grind (arith, ints)
signed13-bits_of (negsuc n) fits = grind (arith, ints)

-- the same of 22 bits
signed22-bits_of : (z : ℤ) → IsSigned 22 z → signed 22 (bits_of 22 z) ≡ z
unfolding signed
signed22-bits_of (pos n) fits = grind (arith, ints)
signed22-bits_of (negsuc n) fits = grind (arith, ints)

-- the same of 30 bits
signed30-bits_of : (z : ℤ) → IsSigned 30 z → signed 30 (bits_of 30 z) ≡ z
unfolding signed
signed30-bits_of (pos n) fits = grind (arith, ints)
signed30-bits_of (negsuc n) fits = grind (arith, ints)

-- the bits of a signed number of 13 bits are below 2 ^ 13
bits_of13_below : (z : ℤ) → IsSigned 13 z → bits_of 13 z < 2 ^ 13
bits_of13_below (pos n) fits = omega (arith, ints)
bits_of13_below (negsuc n) fits = omega (arith, ints)

-- the same of 22 bits
bits_of22_below : (z : ℤ) → IsSigned 22 z → bits_of 22 z < 2 ^ 22
bits_of22_below (pos n) fits = omega (arith, ints)
bits_of22_below (negsuc n) fits = omega (arith, ints)

-- the same of 30 bits
bits_of30_below : (z : ℤ) → IsSigned 30 z → bits_of 30 z < 2 ^ 30
bits_of30_below (pos n) fits = omega (arith, ints)
bits_of30_below (negsuc n) fits = omega (arith, ints)

-- the bits of the signed number of a field are the field
bits_of-is13 : (n : ℕ) (z : ℤ) → signed 13 n ≡ z → n < 2 ^ 13 → bits_of 13 z ≡ n
unfolding signed
bits_of-is13 n (pos m) is small = grind (arith, ints)
bits_of-is13 n (negsuc m) is small = grind (arith, ints)

-- the same of 22 bits
bits_of-is22 : (n : ℕ) (z : ℤ) → signed 22 n ≡ z → n < 2 ^ 22 → bits_of 22 z ≡ n
unfolding signed
bits_of-is22 n (pos m) is small = grind (arith, ints)
bits_of-is22 n (negsuc m) is small = grind (arith, ints)

-- the same of 30 bits
bits_of-is30 : (n : ℕ) (z : ℤ) → signed 30 n ≡ z → n < 2 ^ 30 → bits_of 30 z ≡ n
unfolding signed
bits_of-is30 n (pos m) is small = grind (arith, ints)
bits_of-is30 n (negsuc m) is small = grind (arith, ints)

-- operand 2 of a word whose lowest bits are its bits
signed_operand : (word : ℕ) (source : Src) → IsOperand (IsSigned 13) source → word % 2 ^ 14 ≡ operand_bits source → HasOperand simm13 word source
unfolding simm13 i rs2
signed_operand word (Reg register) fits low = (omega arith, omega arith)
signed_operand word (Imm z) fits low =
    let small : bits_of 13 z < 2 ^ 13 = bits_of13_below z fits in
    (omega arith, ap (signed 13) (omega arith) ∙ signed13-bits_of z fits)

-- the same of a shift
shift_operand : (word : ℕ) (source : Src) → IsOperand (IsUnsigned 5) source → word % 2 ^ 14 ≡ operand_bits source → HasOperand shcnt word source
unfolding shcnt i rs2
shift_operand word (Reg register) fits low = (omega arith, omega arith)
shift_operand word (Imm (pos n)) fits low = (omega (arith, ints), ap pos (omega (arith, ints)))
shift_operand word (Imm (negsuc n)) fits low = absurd (omega (arith, ints))

-- the same of a trap
trap_operand : (word : ℕ) (source : Src) → IsOperand (IsUnsigned 7) source → word % 2 ^ 14 ≡ operand_bits source → HasOperand imm7 word source
unfolding imm7 i rs2
trap_operand word (Reg register) fits low = (omega arith, omega arith)
trap_operand word (Imm (pos n)) fits low = (omega (arith, ints), ap pos (omega (arith, ints)))
trap_operand word (Imm (negsuc n)) fits low = absurd (omega (arith, ints))

-- the same of any work
work_operand : (operation : Arith) (word : ℕ) (source : Src) → IsOperand (IsImmediate operation) source → word % 2 ^ 14 ≡ operand_bits source → HasOperand (immediate_of operation) word source
work_operand arith.Sll word source fits low = shift_operand word source fits low
work_operand arith.Srl word source fits low = shift_operand word source fits low
work_operand arith.Sra word source fits low = shift_operand word source fits low
work_operand operation word source fits low = signed_operand word source fits low

-- the bits of operand 2 are few
signed_bits_below : (source : Src) → IsOperand (IsSigned 13) source → operand_bits source < 2 ^ 14
signed_bits_below (Reg register) fits = omega arith
signed_bits_below (Imm z) fits = omega (arith, bits_of13_below z fits)

-- the same of a shift
shift_bits_below : (source : Src) → IsOperand (IsUnsigned 5) source → operand_bits source < 2 ^ 14
shift_bits_below (Reg register) fits = omega arith
shift_bits_below (Imm (pos n)) fits = omega (arith, ints)
shift_bits_below (Imm (negsuc n)) fits = absurd (omega (arith, ints))

-- the same of a trap
trap_bits_below : (source : Src) → IsOperand (IsUnsigned 7) source → operand_bits source < 2 ^ 14
trap_bits_below (Reg register) fits = omega arith
trap_bits_below (Imm (pos n)) fits = omega (arith, ints)
trap_bits_below (Imm (negsuc n)) fits = absurd (omega (arith, ints))

-- the same of any work
work_bits_below : (operation : Arith) (source : Src) → IsOperand (IsImmediate operation) source → operand_bits source < 2 ^ 14
work_bits_below arith.Sll source fits = shift_bits_below source fits
work_bits_below arith.Srl source fits = shift_bits_below source fits
work_bits_below arith.Sra source fits = shift_bits_below source fits
work_bits_below operation source fits = signed_bits_below source fits

-- the bits of operand 2 are no more than the lowest bits of the word
signed_low : (word : ℕ) (source : Src) → HasOperand simm13 word source → operand_bits source ≤ word % 2 ^ 14
unfolding simm13 i rs2
signed_low word (Reg register) spelled = omega arith
signed_low word (Imm z) spelled = omega (arith, bits_of-is13 (word / 2 ^ 0 % 2 ^ 13) z spelled.1 (omega arith))

-- the same of a shift
shift_low : (word : ℕ) (source : Src) → HasOperand shcnt word source → operand_bits source ≤ word % 2 ^ 14
unfolding shcnt i rs2
shift_low word (Reg register) spelled = omega arith
shift_low word (Imm (pos n)) spelled = omega (arith, ints)
shift_low word (Imm (negsuc n)) spelled = absurd (omega (arith, ints))

-- the same of a trap
trap_low : (word : ℕ) (source : Src) → HasOperand imm7 word source → operand_bits source ≤ word % 2 ^ 14
unfolding imm7 i rs2
trap_low word (Reg register) spelled = omega arith
trap_low word (Imm (pos n)) spelled = omega (arith, ints)
trap_low word (Imm (negsuc n)) spelled = absurd (omega (arith, ints))

-- the same of any work
work_low : (operation : Arith) (word : ℕ) (source : Src) → HasOperand (immediate_of operation) word source → operand_bits source ≤ word % 2 ^ 14
work_low arith.Sll word source spelled = shift_low word source spelled
work_low arith.Srl word source spelled = shift_low word source spelled
work_low arith.Sra word source spelled = shift_low word source spelled
work_low operation word source spelled = signed_low word source spelled

-- a word of format 3 is at least the sum of its fields
format3_least : (word format target selector first low : ℕ) → op word ≡ format → target ≤ rd word → op3 word ≡ selector → first ≤ rs1 word → low ≤ word % 2 ^ 14 → format3_word format target selector first low ≤ word
unfolding format3_word op rd op3 rs1
format3_least word format target selector first low a b c d e = omega arith

-- the condition is no more than all of rd
cond_low : (word : ℕ) → cond word ≤ rd word
unfolding cond rd
cond_low word = omega arith

-- a format of two registers and a signed operand 2 has the fields of its word
record HasSigned (word format target selector first : ℕ) (second : Src) : Type 0 where
  pub format_is : (op word ≡ format) × (op3 word ≡ selector)
  pub rd_is : rd word ≡ target
  pub rs1_is : rs1 word ≡ first
  pub operand_is : HasOperand simm13 word second

-- a word made of two registers and a signed operand 2 has them
signed_fields : (format target selector first : ℕ) (second : Src) → format < 4 → target < 32 → selector < 64 → first < 32 → IsOperand (IsSigned 13) second → HasSigned (format3_word format target selector first (operand_bits second)) format target selector first second
signed_fields format target selector first second a b c d fits =
    let f = format3_fields format target selector first (operand_bits second) a b c d (signed_bits_below second fits) in
    record { format_is = (f.op_is, f.op3_is); rd_is = f.rd_is; rs1_is = f.rs1_is; operand_is = signed_operand (format3_word format target selector first (operand_bits second)) second fits f.low_is }

-- the word of a branch
branch_spells : (condition : ℕ) (annulled : Bool) (disp : ℤ) → condition < 16 → IsSigned 22 disp → Spells (encoded (instr.Branch condition annulled disp)) (instr.Branch condition annulled disp)
unfolding encoded cond annul rd disp22
branch_spells condition true disp small fits =
    let f = format2_fields (16 + condition) 2 (bits_of 22 disp) (omega arith) (omega arith) (bits_of22_below disp fits) in
    ((f.op_is, f.op2_is), omega (arith, f.rd_is), omega (arith, f.rd_is), ap (signed 22) (omega (arith, f.low_is)) ∙ signed22-bits_of disp fits)
branch_spells condition false disp small fits =
    let f = format2_fields (0 + condition) 2 (bits_of 22 disp) (omega arith) (omega arith) (bits_of22_below disp fits) in
    ((f.op_is, f.op2_is), omega (arith, f.rd_is), omega (arith, f.rd_is), ap (signed 22) (omega (arith, f.low_is)) ∙ signed22-bits_of disp fits)

-- the word of a call
call_spells : (disp : ℤ) → IsSigned 30 disp → Spells (encoded (instr.Call disp)) (instr.Call disp)
unfolding encoded op disp30
call_spells disp fits =
    let small : bits_of 30 disp < 2 ^ 30 = bits_of30_below disp fits in
    (omega arith, ap (signed 30) (omega arith) ∙ signed30-bits_of disp fits)

-- the word of SETHI
sethi_spells : (target imm : ℕ) → target < 32 → imm < 2 ^ 22 → Spells (encoded (instr.Sethi target imm)) (instr.Sethi target imm)
unfolding encoded imm22
sethi_spells target imm a b = let f = format2_fields target 4 imm a (omega arith) b in ((f.op_is, f.op2_is), f.rd_is, omega (arith, f.low_is))

-- the encoded word spells the instruction
pub spells-encoded : (instruction : Instr) → InRange instruction → Spells (encoded instruction) instruction
unfolding encoded op op2
spells-encoded (instr.Call disp) fits = call_spells disp fits
spells-encoded (instr.Branch condition annulled disp) fits = branch_spells condition annulled disp fits.0 fits.1
spells-encoded (instr.Sethi target imm) fits = sethi_spells target imm fits.0 fits.1
spells-encoded (instr.Arith operation target first second) fits =
    let f = format3_fields 2 target (opcode_of operation) first (operand_bits second) (omega arith) fits.0 (opcode_below operation) fits.1 (work_bits_below operation second fits.2) in
    ((f.op_is, f.op3_is), f.rd_is, f.rs1_is, work_operand operation (format3_word 2 target (opcode_of operation) first (operand_bits second)) second fits.2 f.low_is)
spells-encoded (instr.ReadY target) fits = let f = format3_fields 2 target 0x28 0 0 (omega arith) fits (omega arith) (omega arith) (omega arith) in ((f.op_is, f.op3_is), f.rs1_is, f.rd_is)
spells-encoded instr.Barrier fits = let f = format3_fields 2 0 0x28 15 0 (omega arith) (omega arith) (omega arith) (omega arith) (omega arith) in ((f.op_is, f.op3_is), f.rs1_is, f.rd_is)
spells-encoded (instr.WriteY first second) fits = let f = signed_fields 2 0 0x30 first second (omega arith) (omega arith) (omega arith) fits.0 fits.1 in (f.format_is, f.rd_is, f.rs1_is, f.operand_is)
spells-encoded (instr.Jump target first second) fits = let f = signed_fields 2 target 0x38 first second (omega arith) fits.0 (omega arith) fits.1 fits.2 in (f.format_is, f.rd_is, f.rs1_is, f.operand_is)
spells-encoded (instr.Trap condition first second) fits =
    let f = format3_fields 2 condition 0x3A first (operand_bits second) (omega arith) (omega (arith, fits.0)) (omega arith) fits.1 (trap_bits_below second fits.2) in
    ((f.op_is, f.op3_is), cond_is (format3_word 2 condition 0x3A first (operand_bits second)) condition f.rd_is fits.0, f.rs1_is, trap_operand (format3_word 2 condition 0x3A first (operand_bits second)) second fits.2 f.low_is)
spells-encoded instr.Flush fits = let f = format3_fields 2 0 0x3B 0 0 (omega arith) (omega arith) (omega arith) (omega arith) (omega arith) in (f.op_is, f.op3_is)
spells-encoded (instr.Save target first second) fits = let f = signed_fields 2 target 0x3C first second (omega arith) fits.0 (omega arith) fits.1 fits.2 in (f.format_is, f.rd_is, f.rs1_is, f.operand_is)
spells-encoded (instr.Restore target first second) fits = let f = signed_fields 2 target 0x3D first second (omega arith) fits.0 (omega arith) fits.1 fits.2 in (f.format_is, f.rd_is, f.rs1_is, f.operand_is)
spells-encoded (instr.Mem operation target first second) fits =
    let f = signed_fields 3 target (memory_opcode_of operation) first second (omega arith) fits.0 (memory_opcode_below operation) fits.2 fits.3 in
    (f.format_is, subst (IsPlaceOf operation) (sym f.rd_is) fits.1, f.rd_is, f.rs1_is, f.operand_is)
spells-encoded instr.Privileged fits = let f = format3_fields 2 0 0x29 0 0 (omega arith) (omega arith) (omega arith) (omega arith) (omega arith) in inl (f.op_is, inl f.op3_is)
spells-encoded instr.Float fits = let f = format2_fields 0 6 0 (omega arith) (omega arith) (omega arith) in inl (f.op_is, f.op2_is)
spells-encoded instr.Coproc fits = let f = format2_fields 0 7 0 (omega arith) (omega arith) (omega arith) in inl (f.op_is, f.op2_is)
spells-encoded instr.Illegal fits = selects_no_format2 refl (inl refl)

-- a word of a selector of the supervisor is at least the first of them
privileged_least : (word : ℕ) → Spells word instr.Privileged → format3_word 2 0 0x29 0 0 ≤ word
unfolding format3_word op op3
privileged_least word (inl (format, selected)) =
    let above : 0x29 ≤ op3 word = one_of (λ selector. 0x29 ≤ selector) privileged_selectors.on_registers (search rules) (op3 word) selected in
    omega arith
privileged_least word (inr (format, selected)) = omega arith

-- the word of a branch is the least
branch_least : (condition : ℕ) (annulled : Bool) (disp : ℤ) (word : ℕ) → Spells word (instr.Branch condition annulled disp) → encoded (instr.Branch condition annulled disp) ≤ word
unfolding encoded format2_word op op2 cond annul disp22
branch_least condition true disp word spelled = omega (arith, bits_of-is22 (word / 2 ^ 0 % 2 ^ 22) disp spelled.3 (omega arith))
branch_least condition false disp word spelled = omega (arith, bits_of-is22 (word / 2 ^ 0 % 2 ^ 22) disp spelled.3 (omega arith))

-- no word that spells the instruction is less than the encoded one
pub encoded-least : (instruction : Instr) (word : ℕ) → Spells word instruction → encoded instruction ≤ word
unfolding encoded format2_word op op2 rd disp30 disp22 imm22
encoded-least (instr.Call disp) word spelled = omega (arith, bits_of-is30 (word / 2 ^ 0 % 2 ^ 30) disp spelled.1 (omega arith))
encoded-least (instr.Branch condition annulled disp) word spelled = branch_least condition annulled disp word spelled
encoded-least (instr.Sethi target imm) word spelled = omega arith
encoded-least (instr.Arith operation target first second) word spelled = format3_least word 2 target (opcode_of operation) first (operand_bits second) spelled.0.0 (omega arith) spelled.0.1 (omega (arith, spelled.2)) (work_low operation word second spelled.3)
encoded-least (instr.ReadY target) word spelled = format3_least word 2 target 0x28 0 0 spelled.0.0 (omega arith) spelled.0.1 (omega arith) (omega arith)
encoded-least instr.Barrier word spelled = format3_least word 2 0 0x28 15 0 spelled.0.0 (omega arith) spelled.0.1 (omega arith) (omega arith)
encoded-least (instr.WriteY first second) word spelled = format3_least word 2 0 0x30 first (operand_bits second) spelled.0.0 (omega arith) spelled.0.1 (omega arith) (signed_low word second spelled.3)
encoded-least (instr.Jump target first second) word spelled = format3_least word 2 target 0x38 first (operand_bits second) spelled.0.0 (omega arith) spelled.0.1 (omega arith) (signed_low word second spelled.3)
encoded-least (instr.Trap condition first second) word spelled = format3_least word 2 condition 0x3A first (operand_bits second) spelled.0.0 (omega (arith, cond_low word)) spelled.0.1 (omega arith) (trap_low word second spelled.3)
encoded-least instr.Flush word spelled = format3_least word 2 0 0x3B 0 0 spelled.0 (omega arith) spelled.1 (omega arith) (omega arith)
encoded-least (instr.Save target first second) word spelled = format3_least word 2 target 0x3C first (operand_bits second) spelled.0.0 (omega arith) spelled.0.1 (omega arith) (signed_low word second spelled.3)
encoded-least (instr.Restore target first second) word spelled = format3_least word 2 target 0x3D first (operand_bits second) spelled.0.0 (omega arith) spelled.0.1 (omega arith) (signed_low word second spelled.3)
encoded-least (instr.Mem operation target first second) word spelled = format3_least word 3 target (memory_opcode_of operation) first (operand_bits second) spelled.0.0 (omega arith) spelled.0.1 (omega arith) (signed_low word second spelled.4)
encoded-least instr.Privileged word spelled = privileged_least word spelled
encoded-least instr.Float word (inl spelled) = omega arith
encoded-least instr.Float word (inr (inl spelled)) = omega arith
encoded-least instr.Float word (inr (inr spelled)) = omega arith
encoded-least instr.Coproc word (inl spelled) = omega arith
encoded-least instr.Coproc word (inr (inl spelled)) = omega arith
encoded-least instr.Coproc word (inr (inr spelled)) = omega arith
encoded-least instr.Illegal word spelled = omega arith
