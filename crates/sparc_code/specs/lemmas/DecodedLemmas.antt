-- Each word spells the instruction decoded from it, and no other.
use Rattle.std.proofs.Common.{◌≡◌, ◌≢◌, ◌⊎◌, ◌↔◌, ◌∙◌, ℕ, zero, suc, ℤ, Bool, true, false, List, [], ◌∷◌, ◌+◌, ◌<◌, ◌≤◌, ◌%◌, ◌==◌, if◌then◌else◌, refl, sym, subst, arith, rules, inl, inr, ⊎_elim}
use Rattle.std.proofs.lemmas.Grind.{common_steps}
use Rattle.std.proofs.lemmas.Bool.{cases_eq, cases_lt, eqb-true, eqb-false}
use Rattle.sparc_code.specs.Fields.{op, op2, op3, rd, rs1, i, simm13, imm7, disp30, annul}
use Rattle.sparc_code.specs.Opcodes.{Selectors, opcode_of, immediate_of, memory_opcode_of, IsPlaceOf, privileged_selectors, float_selectors, coproc_selectors, unassigned_selectors, unassigned_of_format2}
use Rattle.sparc_code.specs.Decoded.{operand, work, memory_work, double_work, read_state, write_state, format2_row, registers_row, memory_row, decoded}
use Rattle.sparc_code.specs.Spells.{IsOneOf, IsOneOfBoth, HasOperand, HasAnnul, IsUnassigned, Spells}
use Rattle.sparc_code.specs.Spells.{selects_no_format2, selects_no_work, selects_no_memory_work, reads_other_state, writes_other_state, doubles_odd_register}
use Rattle.sparc_code.specs.declared.instruction.Arith.{Arith}
use Rattle.sparc_code.specs.declared.instruction.Arith.TheVariants as arith
use Rattle.sparc_code.specs.declared.instruction.MemOp.{MemOp}
use Rattle.sparc_code.specs.declared.instruction.MemOp.TheVariants as memory
use Rattle.sparc_code.specs.declared.instruction.Src.{Src}
use Rattle.sparc_code.specs.declared.instruction.Src.TheVariants.{Reg, Imm}
use Rattle.sparc_code.specs.declared.instruction.Instr.{Instr}
use Rattle.sparc_code.specs.declared.instruction.Instr.TheVariants as instr

-- a fact of the eight numbers from a place upward
abbrev Eight : (ℕ → Type 0) → ℕ → Type 0
Eight P from = P from × P (from + 1) × P (from + 2) × P (from + 3) × P (from + 4) × P (from + 5) × P (from + 6) × P (from + 7)

-- a fact of each number below 64, in rows of eight
abbrev SixtyFour : (ℕ → Type 0) → Type 0
SixtyFour P = Eight P 0 × Eight P 8 × Eight P 16 × Eight P 24 × Eight P 32 × Eight P 40 × Eight P 48 × Eight P 56

-- a number is the one here, or another
here_or : (P : ℕ → Type 0) (n here : ℕ) → P here → (n ≢ here → P n) → P n
here_or P n here fact other = ⊎_elim (λ same. subst P (sym same) fact) other (cases_eq n here)

-- a number is below a bound, or not
below_or : (P : ℕ → Type 0) (n bound : ℕ) → (n < bound → P n) → (bound ≤ n → P n) → P n
below_or P n bound below from = ⊎_elim below from (cases_lt n bound)

-- what holds of eight numbers holds of one among them
one_of_eight : (P : ℕ → Type 0) (from n : ℕ) → Eight P from → from ≤ n → n < from + 8 → P n
one_of_eight P from n facts low high =
    here_or P n from facts.0 (λ a.
    here_or P n (from + 1) facts.1 (λ b.
    here_or P n (from + 2) facts.2 (λ c.
    here_or P n (from + 3) facts.3 (λ d.
    here_or P n (from + 4) facts.4 (λ e.
    here_or P n (from + 5) facts.5 (λ f.
    here_or P n (from + 6) facts.6 (λ g.
    here_or P n (from + 7) facts.7 (λ h. absurd (omega arith)))))))))

-- what holds of each number below 64 holds of one below it
one_of_sixty_four : (P : ℕ → Type 0) (n : ℕ) → SixtyFour P → n < 64 → P n
one_of_sixty_four P n facts high =
    below_or P n 8 (λ below. one_of_eight P 0 n facts.0 (omega arith) below) (λ a.
    below_or P n 16 (λ below. one_of_eight P 8 n facts.1 a below) (λ b.
    below_or P n 24 (λ below. one_of_eight P 16 n facts.2 b below) (λ c.
    below_or P n 32 (λ below. one_of_eight P 24 n facts.3 c below) (λ d.
    below_or P n 40 (λ below. one_of_eight P 32 n facts.4 d below) (λ e.
    below_or P n 48 (λ below. one_of_eight P 40 n facts.5 e below) (λ f.
    below_or P n 56 (λ below. one_of_eight P 48 n facts.6 f below) (λ g. one_of_eight P 56 n facts.7 g high)))))))

-- a fact of each number of a list
abbrev pub AllOf : (ℕ → Type 0) → List ℕ → Type 0
AllOf P [] = Unit {0}
AllOf P (first ∷ rest) = P first × AllOf P rest

-- what holds of each number of a list holds of one of them
pub one_of : (P : ℕ → Type 0) (numbers : List ℕ) → AllOf P numbers → (n : ℕ) → IsOneOf numbers n → P n
one_of P [] facts n found = absurd found
one_of P (first ∷ rest) facts n (inl same) = subst P (sym same) facts.0
one_of P (first ∷ rest) facts n (inr more) = one_of P rest facts.1 n more

-- op has two bits
op_below : (word : ℕ) → op word < 4
unfolding op
op_below word = omega arith

-- op2 has three
op2_below : (word : ℕ) → op2 word < 8
unfolding op2
op2_below word = omega arith

-- op3 has six
op3_below : (word : ℕ) → op3 word < 64
unfolding op3
op3_below word = omega arith

-- the word has the operand that is decoded from it
has_operand : (number : ℕ → ℤ) (word : ℕ) → HasOperand number word (operand number word)
unfolding operand i
has_operand number word = grind (arith, common_steps)

-- and no other
operand_is : (number : ℕ → ℤ) (word : ℕ) (source : Src) → HasOperand number word source → operand number word ≡ source
unfolding operand
operand_is number word (Reg register) spelled = rw (spelled.0, spelled.1)
operand_is number word (Imm value) spelled = rw (spelled.0, spelled.1)

-- the annul bit is set where it is 1
has_annul : (word : ℕ) → HasAnnul word (annul word == 1)
unfolding annul
has_annul word = grind (arith, common_steps)

-- and only there
annul_is : (word : ℕ) (annulled : Bool) → HasAnnul word annulled → (annul word == 1) ≡ annulled
annul_is word true set = rw set
annul_is word false clear = rw clear

-- the words of an operation on registers spell its work
abbrev SpellsWork : ℕ → Arith → Type 0
SpellsWork word operation = op word ≡ 2 → op3 word ≡ opcode_of operation → Spells word (work operation word)

-- the words of a selector on registers spell no instruction
abbrev SpellsNoWork : ℕ → ℕ → Type 0
SpellsNoWork word selector = op word ≡ 2 → op3 word ≡ selector → Spells word instr.Illegal

-- the word of work on registers
spells_work : (operation : Arith) (word : ℕ) → SpellsWork word operation
spells_work operation word format selected = ((format, selected), refl, refl, has_operand (immediate_of operation) word)

-- the word of work on memory
spells_memory_work : (operation : MemOp) (word : ℕ) → IsPlaceOf operation (rd word) → op word ≡ 3 → op3 word ≡ memory_opcode_of operation → Spells word (memory_work operation word)
spells_memory_work operation word place format selected = ((format, selected), place, refl, refl, has_operand simm13 word)

-- the word of work on a double word
spells_double_work : (operation : MemOp) (word : ℕ) → (rd word % 2 ≡ 0 → IsPlaceOf operation (rd word)) → IsOneOf (memory_opcode_of memory.LdD ∷ memory_opcode_of memory.StD ∷ []) (memory_opcode_of operation) → op word ≡ 3 → op3 word ≡ memory_opcode_of operation → Spells word (double_work operation word)
unfolding double_work
spells_double_work operation word place double format selected = at (rd word % 2 == 0) refl
  where
    at : (b : Bool) → (rd word % 2 == 0) ≡ b → Spells word (if b then memory_work operation word else instr.Illegal)
    at true even = spells_memory_work operation word (place (eqb-true _ _ even)) format selected
    at false odd = doubles_odd_register (format, rw selected double) (let apart : rd word % 2 ≢ 0 = eqb-false _ _ odd in omega arith)

-- the words of RDY and STBAR
spells_read_state : (word : ℕ) → op word ≡ 2 → op3 word ≡ 0x28 → Spells word (read_state word)
unfolding read_state
spells_read_state word format selected = grind (arith, common_steps, reads_other_state)

-- the word of WRY
spells_write_state : (word : ℕ) → op word ≡ 2 → op3 word ≡ 0x30 → Spells word (write_state word)
unfolding write_state
spells_write_state word format selected = grind (arith, common_steps, writes_other_state, has_operand)

-- the selectors of the supervisor
spells_privileged : (word selector : ℕ) → IsOneOf privileged_selectors.on_registers selector → op word ≡ 2 → op3 word ≡ selector → Spells word instr.Privileged
spells_privileged word selector listed format selected = inl (format, rw selected listed)

-- the same of work on memory
spells_privileged_memory : (word selector : ℕ) → IsOneOf privileged_selectors.on_memory selector → op word ≡ 3 → op3 word ≡ selector → Spells word instr.Privileged
spells_privileged_memory word selector listed format selected = inr (format, rw selected listed)

-- those of the floating-point unit on memory
spells_float_memory : (word selector : ℕ) → IsOneOf float_selectors.on_memory selector → op word ≡ 3 → op3 word ≡ selector → Spells word instr.Float
spells_float_memory word selector listed format selected = inr (inr (format, rw selected listed))

-- those of the coprocessor on memory
spells_coproc_memory : (word selector : ℕ) → IsOneOf coproc_selectors.on_memory selector → op word ≡ 3 → op3 word ≡ selector → Spells word instr.Coproc
spells_coproc_memory word selector listed format selected = inr (inr (format, rw selected listed))

-- those that have no instruction
spells_no_format2 : (word selector : ℕ) → IsOneOf unassigned_of_format2 selector → op word ≡ 0 → op2 word ≡ selector → Spells word instr.Illegal
spells_no_format2 word selector listed format selected = selects_no_format2 format (rw selected listed)

-- the same of work on registers
spells_no_work : (word selector : ℕ) → IsOneOf unassigned_selectors.on_registers selector → SpellsNoWork word selector
spells_no_work word selector listed format selected = selects_no_work format (rw selected listed)

-- the same of work on memory
spells_no_memory_work : (word selector : ℕ) → IsOneOf unassigned_selectors.on_memory selector → op word ≡ 3 → op3 word ≡ selector → Spells word instr.Illegal
spells_no_memory_work word selector listed format selected = selects_no_memory_work format (rw selected listed)

-- the words of eight operations
spells_eight : (word : ℕ) (a b c d e f g h : Arith) → SpellsWork word a × SpellsWork word b × SpellsWork word c × SpellsWork word d × SpellsWork word e × SpellsWork word f × SpellsWork word g × SpellsWork word h
spells_eight word a b c d e f g h = (spells_work a word, spells_work b word, spells_work c word, spells_work d word, spells_work e word, spells_work f word, spells_work g word, spells_work h word)

-- the words of six operations, with a selector that has no instruction after the first of them, and one after the fourth
spells_six : (word : ℕ) (a b c d e f : Arith) → IsOneOf unassigned_selectors.on_registers (opcode_of a + 1) → IsOneOf unassigned_selectors.on_registers (opcode_of d + 1) → SpellsWork word a × SpellsNoWork word (opcode_of a + 1) × SpellsWork word b × SpellsWork word c × SpellsWork word d × SpellsNoWork word (opcode_of d + 1) × SpellsWork word e × SpellsWork word f
spells_six word a b c d e f second sixth = (spells_work a word, spells_no_work word _ second, spells_work b word, spells_work c word, spells_work d word, spells_no_work word _ sixth, spells_work e word, spells_work f word)

-- the table of format 2
spells_format2 : (word : ℕ) → op word ≡ 0 → Eight (λ selector. op2 word ≡ selector → Spells word (format2_row selector word)) 0
unfolding format2_row
spells_format2 word format = (
  spells_no_format2 word 0 (search rules) format,
  spells_no_format2 word 1 (search rules) format,
  λ selected. ((format, selected), refl, has_annul word, refl),
  spells_no_format2 word 3 (search rules) format,
  λ selected. ((format, selected), refl, refl),
  spells_no_format2 word 5 (search rules) format,
  λ selected. inl (format, selected),
  λ selected. inl (format, selected),
)

-- the table of work on registers
spells_registers : (word : ℕ) → SixtyFour (λ selector. op word ≡ 2 → op3 word ≡ selector → Spells word (registers_row selector word))
unfolding registers_row
spells_registers word = (
  spells_eight word arith.Add arith.And arith.Or arith.Xor arith.Sub arith.AndN arith.OrN arith.XNor,
  spells_six word arith.AddX arith.UMul arith.SMul arith.SubX arith.UDiv arith.SDiv (search rules) (search rules),
  spells_eight word arith.AddCc arith.AndCc arith.OrCc arith.XorCc arith.SubCc arith.AndNCc arith.OrNCc arith.XNorCc,
  spells_six word arith.AddXCc arith.UMulCc arith.SMulCc arith.SubXCc arith.UDivCc arith.SDivCc (search rules) (search rules),
  spells_eight word arith.TAddCc arith.TSubCc arith.TAddCcTv arith.TSubCcTv arith.MulSCc arith.Sll arith.Srl arith.Sra,
  (
    spells_read_state word,
    spells_privileged word 0x29 (search rules),
    spells_privileged word 0x2A (search rules),
    spells_privileged word 0x2B (search rules),
    spells_no_work word 0x2C (search rules),
    spells_no_work word 0x2D (search rules),
    spells_no_work word 0x2E (search rules),
    spells_no_work word 0x2F (search rules),
  ),
  (
    spells_write_state word,
    spells_privileged word 0x31 (search rules),
    spells_privileged word 0x32 (search rules),
    spells_privileged word 0x33 (search rules),
    λ format selected. inr (inl (format, inl selected)),
    λ format selected. inr (inl (format, inr (inl selected))),
    λ format selected. inr (inl (format, inl selected)),
    λ format selected. inr (inl (format, inr (inl selected))),
  ),
  (
    λ format selected. ((format, selected), refl, refl, has_operand simm13 word),
    spells_privileged word 0x39 (search rules),
    λ format selected. ((format, selected), refl, refl, has_operand imm7 word),
    λ format selected. (format, selected),
    λ format selected. ((format, selected), refl, refl, has_operand simm13 word),
    λ format selected. ((format, selected), refl, refl, has_operand simm13 word),
    spells_no_work word 0x3E (search rules),
    spells_no_work word 0x3F (search rules),
  ),
)

-- the table of work on memory
spells_memory : (word : ℕ) → SixtyFour (λ selector. op word ≡ 3 → op3 word ≡ selector → Spells word (memory_row selector word))
unfolding memory_row
spells_memory word = (
  (
    spells_memory_work memory.Ld word tt,
    spells_memory_work memory.LdUb word tt,
    spells_memory_work memory.LdUh word tt,
    spells_double_work memory.LdD word (λ even. even) (search rules),
    spells_memory_work memory.St word tt,
    spells_memory_work memory.StB word tt,
    spells_memory_work memory.StH word tt,
    spells_double_work memory.StD word (λ even. even) (search rules),
  ),
  (
    spells_no_memory_work word 0x08 (search rules),
    spells_memory_work memory.LdSb word tt,
    spells_memory_work memory.LdSh word tt,
    spells_no_memory_work word 0x0B (search rules),
    spells_no_memory_work word 0x0C (search rules),
    spells_memory_work memory.LdStUb word tt,
    spells_no_memory_work word 0x0E (search rules),
    spells_memory_work memory.Swap word tt,
  ),
  (
    spells_privileged_memory word 0x10 (search rules),
    spells_privileged_memory word 0x11 (search rules),
    spells_privileged_memory word 0x12 (search rules),
    spells_privileged_memory word 0x13 (search rules),
    spells_privileged_memory word 0x14 (search rules),
    spells_privileged_memory word 0x15 (search rules),
    spells_privileged_memory word 0x16 (search rules),
    spells_privileged_memory word 0x17 (search rules),
  ),
  (
    spells_no_memory_work word 0x18 (search rules),
    spells_privileged_memory word 0x19 (search rules),
    spells_privileged_memory word 0x1A (search rules),
    spells_no_memory_work word 0x1B (search rules),
    spells_no_memory_work word 0x1C (search rules),
    spells_privileged_memory word 0x1D (search rules),
    spells_no_memory_work word 0x1E (search rules),
    spells_privileged_memory word 0x1F (search rules),
  ),
  (
    spells_float_memory word 0x20 (search rules),
    spells_float_memory word 0x21 (search rules),
    spells_no_memory_work word 0x22 (search rules),
    spells_float_memory word 0x23 (search rules),
    spells_float_memory word 0x24 (search rules),
    spells_float_memory word 0x25 (search rules),
    spells_privileged_memory word 0x26 (search rules),
    spells_float_memory word 0x27 (search rules),
  ),
  (
    spells_no_memory_work word 0x28 (search rules),
    spells_no_memory_work word 0x29 (search rules),
    spells_no_memory_work word 0x2A (search rules),
    spells_no_memory_work word 0x2B (search rules),
    spells_no_memory_work word 0x2C (search rules),
    spells_no_memory_work word 0x2D (search rules),
    spells_no_memory_work word 0x2E (search rules),
    spells_no_memory_work word 0x2F (search rules),
  ),
  (
    spells_coproc_memory word 0x30 (search rules),
    spells_coproc_memory word 0x31 (search rules),
    spells_no_memory_work word 0x32 (search rules),
    spells_coproc_memory word 0x33 (search rules),
    spells_coproc_memory word 0x34 (search rules),
    spells_coproc_memory word 0x35 (search rules),
    spells_privileged_memory word 0x36 (search rules),
    spells_coproc_memory word 0x37 (search rules),
  ),
  (
    spells_no_memory_work word 0x38 (search rules),
    spells_no_memory_work word 0x39 (search rules),
    spells_no_memory_work word 0x3A (search rules),
    spells_no_memory_work word 0x3B (search rules),
    spells_no_memory_work word 0x3C (search rules),
    spells_no_memory_work word 0x3D (search rules),
    spells_no_memory_work word 0x3E (search rules),
    spells_no_memory_work word 0x3F (search rules),
  ),
)

-- a word spells the instruction decoded from it
pub spells-decoded : (word : ℕ) → Spells word (decoded word)
unfolding decoded
spells-decoded word = at (op word) refl (op_below word)
  where
    at : (format : ℕ) → op word ≡ format → format < 4 → Spells word (if format == 0 then format2_row (op2 word) word else if format == 1 then instr.Call (disp30 word) else if format == 2 then registers_row (op3 word) word else memory_row (op3 word) word)
    at zero format below = one_of_eight (λ selector. op2 word ≡ selector → Spells word (format2_row selector word)) 0 (op2 word) (spells_format2 word format) (omega arith) (op2_below word) refl
    at (suc zero) format below = (format, refl)
    at (suc (suc zero)) format below = one_of_sixty_four (λ selector. op word ≡ 2 → op3 word ≡ selector → Spells word (registers_row selector word)) (op3 word) (spells_registers word) (op3_below word) format refl
    at (suc (suc (suc zero))) format below = one_of_sixty_four (λ selector. op word ≡ 3 → op3 word ≡ selector → Spells word (memory_row selector word)) (op3 word) (spells_memory word) (op3_below word) format refl
    at (suc (suc (suc (suc more)))) format below = absurd (omega arith)

-- a word of format 2 is decoded by its selector
decoded_format2 : (word selector : ℕ) → op word ≡ 0 → op2 word ≡ selector → decoded word ≡ format2_row selector word
unfolding decoded
decoded_format2 word selector format selected = rw (format, selected)

-- a word that works on registers is decoded by its selector
decoded_registers : (word selector : ℕ) → op word ≡ 2 → op3 word ≡ selector → decoded word ≡ registers_row selector word
unfolding decoded
decoded_registers word selector format selected = rw (format, selected)

-- a word that works on memory is decoded by its selector
decoded_memory : (word selector : ℕ) → op word ≡ 3 → op3 word ≡ selector → decoded word ≡ memory_row selector word
unfolding decoded
decoded_memory word selector format selected = rw (format, selected)

-- the row of an opcode is its work
work_row : (operation : Arith) (word : ℕ) → registers_row (opcode_of operation) word ≡ work operation word
unfolding registers_row
work_row arith.Add word = refl
work_row operation word = refl

-- the row of a memory opcode is its work
memory_work_row : (operation : MemOp) (word : ℕ) → IsPlaceOf operation (rd word) → memory_row (memory_opcode_of operation) word ≡ memory_work operation word
unfolding memory_row double_work
memory_work_row memory.LdD word even = rw even
memory_work_row memory.StD word even = rw even
memory_work_row operation word place = refl

-- a selector of one of the lists
decoded_list : (word : ℕ) (instruction : Instr) (selectors : Selectors) → AllOf (λ selector. registers_row selector word ≡ instruction) selectors.on_registers → AllOf (λ selector. memory_row selector word ≡ instruction) selectors.on_memory → IsOneOfBoth selectors word → decoded word ≡ instruction
decoded_list word instruction selectors of_registers of_memory (inl spelled) = decoded_registers word _ spelled.0 refl ∙ one_of (λ selector. registers_row selector word ≡ instruction) selectors.on_registers of_registers (op3 word) spelled.1
decoded_list word instruction selectors of_registers of_memory (inr spelled) = decoded_memory word _ spelled.0 refl ∙ one_of (λ selector. memory_row selector word ≡ instruction) selectors.on_memory of_memory (op3 word) spelled.1

-- a word of the supervisor is decoded so
decoded_privileged : (word : ℕ) → Spells word instr.Privileged → decoded word ≡ instr.Privileged
unfolding registers_row memory_row
decoded_privileged word spelled = decoded_list word instr.Privileged privileged_selectors (search rules) (search rules) spelled

-- a word of the floating-point unit is decoded so
decoded_float : (word : ℕ) → Spells word instr.Float → decoded word ≡ instr.Float
unfolding format2_row registers_row memory_row
decoded_float word (inl spelled) = decoded_format2 word 6 spelled.0 spelled.1
decoded_float word (inr spelled) = decoded_list word instr.Float float_selectors (search rules) (search rules) spelled

-- a word of the coprocessor is decoded so
decoded_coproc : (word : ℕ) → Spells word instr.Coproc → decoded word ≡ instr.Coproc
unfolding format2_row registers_row memory_row
decoded_coproc word (inl spelled) = decoded_format2 word 7 spelled.0 spelled.1
decoded_coproc word (inr spelled) = decoded_list word instr.Coproc coproc_selectors (search rules) (search rules) spelled

-- selector 28 with registers that neither RDY nor STBAR has
other_state : (word : ℕ) → rs1 word ≢ 0 → (rs1 word ≢ 15) ⊎ (rd word ≢ 0) → read_state word ≡ instr.Illegal
unfolding read_state
other_state word other more = grind (arith, common_steps)

-- a double word at an odd register
odd_double : (word : ℕ) (operation : MemOp) → rd word % 2 ≡ 1 → double_work operation word ≡ instr.Illegal
unfolding double_work
odd_double word operation odd = rw odd

-- selector 30 with another register than WRY has
other_write : (word : ℕ) → rd word ≢ 0 → write_state word ≡ instr.Illegal
unfolding write_state
other_write word other = grind (arith, common_steps)

-- a word that is no instruction is decoded so
decoded_illegal : (word : ℕ) → IsUnassigned word → decoded word ≡ instr.Illegal
unfolding format2_row registers_row memory_row
decoded_illegal word (selects_no_format2 format found) = decoded_format2 word _ format refl ∙ one_of (λ selector. format2_row selector word ≡ instr.Illegal) unassigned_of_format2 (search rules) (op2 word) found
decoded_illegal word (selects_no_work format found) = decoded_registers word _ format refl ∙ one_of (λ selector. registers_row selector word ≡ instr.Illegal) unassigned_selectors.on_registers (search rules) (op3 word) found
decoded_illegal word (selects_no_memory_work format found) = decoded_memory word _ format refl ∙ one_of (λ selector. memory_row selector word ≡ instr.Illegal) unassigned_selectors.on_memory (search rules) (op3 word) found
decoded_illegal word (reads_other_state spelled other more) = decoded_registers word 0x28 spelled.0 spelled.1 ∙ other_state word other more
decoded_illegal word (writes_other_state spelled other) = decoded_registers word 0x30 spelled.0 spelled.1 ∙ other_write word other
decoded_illegal word (doubles_odd_register spelled odd) = decoded_memory word _ spelled.0 refl ∙ one_of (λ selector. memory_row selector word ≡ instr.Illegal) (memory_opcode_of memory.LdD ∷ memory_opcode_of memory.StD ∷ []) (odd_double word memory.LdD odd, (odd_double word memory.StD odd, tt)) (op3 word) spelled.1

-- RDY is decoded so
decoded_read : (word : ℕ) (target : ℕ) → Spells word (instr.ReadY target) → decoded word ≡ instr.ReadY target
unfolding registers_row read_state
decoded_read word target spelled = decoded_registers word 0x28 spelled.0.0 spelled.0.1 ∙ rw (spelled.1, spelled.2)

-- STBAR is decoded so
decoded_barrier : (word : ℕ) → Spells word instr.Barrier → decoded word ≡ instr.Barrier
unfolding registers_row read_state
decoded_barrier word spelled = decoded_registers word 0x28 spelled.0.0 spelled.0.1 ∙ rw (spelled.1, spelled.2)

-- WRY is decoded so
decoded_write : (word first : ℕ) (second : Src) → Spells word (instr.WriteY first second) → decoded word ≡ instr.WriteY first second
unfolding registers_row write_state
decoded_write word first second spelled = decoded_registers word 0x30 spelled.0.0 spelled.0.1 ∙ rw (spelled.1, spelled.2, operand_is simm13 word second spelled.3)

-- the instruction that a word spells is the one decoded from it
pub decoded-spells : (word : ℕ) (instruction : Instr) → Spells word instruction → decoded word ≡ instruction
unfolding decoded format2_row registers_row
decoded-spells word (instr.Call disp) spelled = rw (spelled.0, spelled.1)
decoded-spells word (instr.Branch condition annulled disp) spelled = decoded_format2 word 2 spelled.0.0 spelled.0.1 ∙ rw (spelled.1, annul_is word annulled spelled.2, spelled.3)
decoded-spells word (instr.Sethi target imm) spelled = decoded_format2 word 4 spelled.0.0 spelled.0.1 ∙ rw (spelled.1, spelled.2)
decoded-spells word (instr.Arith operation target first second) spelled = decoded_registers word _ spelled.0.0 spelled.0.1 ∙ work_row operation word ∙ rw (spelled.1, spelled.2, operand_is (immediate_of operation) word second spelled.3)
decoded-spells word (instr.ReadY target) spelled = decoded_read word target spelled
decoded-spells word instr.Barrier spelled = decoded_barrier word spelled
decoded-spells word (instr.WriteY first second) spelled = decoded_write word first second spelled
decoded-spells word (instr.Jump target first second) spelled = decoded_registers word 0x38 spelled.0.0 spelled.0.1 ∙ rw (spelled.1, spelled.2, operand_is simm13 word second spelled.3)
decoded-spells word (instr.Trap condition first second) spelled = decoded_registers word 0x3A spelled.0.0 spelled.0.1 ∙ rw (spelled.1, spelled.2, operand_is imm7 word second spelled.3)
decoded-spells word instr.Flush spelled = decoded_registers word 0x3B spelled.0 spelled.1
decoded-spells word (instr.Save target first second) spelled = decoded_registers word 0x3C spelled.0.0 spelled.0.1 ∙ rw (spelled.1, spelled.2, operand_is simm13 word second spelled.3)
decoded-spells word (instr.Restore target first second) spelled = decoded_registers word 0x3D spelled.0.0 spelled.0.1 ∙ rw (spelled.1, spelled.2, operand_is simm13 word second spelled.3)
decoded-spells word (instr.Mem operation target first second) spelled = decoded_memory word _ spelled.0.0 spelled.0.1 ∙ memory_work_row operation word spelled.1 ∙ rw (spelled.2, spelled.3, operand_is simm13 word second spelled.4)
decoded-spells word instr.Privileged spelled = decoded_privileged word spelled
decoded-spells word instr.Float spelled = decoded_float word spelled
decoded-spells word instr.Coproc spelled = decoded_coproc word spelled
decoded-spells word instr.Illegal spelled = decoded_illegal word spelled

-- no word spells two instructions
pub spells-unique : (word : ℕ) (one other : Instr) → Spells word one → Spells word other → one ≡ other
spells-unique word one other spells_one spells_other = sym (decoded-spells word one spells_one) ∙ decoded-spells word other spells_other

-- an instruction that is spelled is Illegal where no other one is
illegal_unless : (word : ℕ) (instruction : Instr) → Spells word instruction → ((other : Instr) → other ≢ instr.Illegal → ¬ Spells word other) → Spells word instr.Illegal
illegal_unless word instr.Illegal spelled none = spelled
illegal_unless word instruction spelled none = absurd (none instruction (λ same. cc) spelled)

-- a word is illegal exactly where it spells no other instruction
pub illegal-spells : (word : ℕ) → Spells word instr.Illegal ↔ ((other : Instr) → other ≢ instr.Illegal → ¬ Spells word other)
illegal-spells word = (λ illegal other apart spelled. apart (spells-unique word other instr.Illegal spelled illegal), λ none. illegal_unless word (decoded word) (spells-decoded word) none)
