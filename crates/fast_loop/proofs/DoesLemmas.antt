-- What a row did is what its instruction does.
use Rattle.std.proofs.Common.{◌≡◌, ◌≢◌, ℕ, ◌+◌, ◌*◌, ◌%◌, ◌^◌, ◌<◌, ℤ, Bool, true, false, List, refl, sym, ap, ◌∙◌, subst, arith}
use Rattle.std.proofs.lemmas.Bool.Decides.{nat_tests}
use Rattle.std.specs.Prelude.{if◌then◌else◌, ◌==◌, bit_or}
use Rattle.std.specs.Int.Bits.{or_zero_l}
use Rattle.guest_bus.specs.Memory.{Area, Memory}
use Rattle.sparc_code.specs.declared.instruction.Arith.{Arith}
use Rattle.sparc_code.specs.declared.instruction.Arith.TheVariants as arith
use Rattle.sparc_code.specs.declared.instruction.Instr.{Instr}
use Rattle.sparc_code.specs.declared.instruction.Instr.TheVariants as instr
use Rattle.sparc_code.specs.declared.instruction.MemOp.{MemOp}
use Rattle.sparc_code.specs.declared.instruction.Src.{Src}
use Rattle.sparc_code.specs.declared.instruction.Src.TheVariants.{Imm, Reg}
use Rattle.sparc_step.specs.Arithmetic.{arith_outcome}
use Rattle.sparc_step.specs.Cached.{register_of}
use Rattle.sparc_step.specs.Conditions.{codes_of_difference, holds, holds_below_eight}
use Rattle.sparc_step.specs.Execution.{keeping_memory, done, executed}
use Rattle.sparc_step.specs.Flow.{branch_row, branch_target, moved, passed, sethi_row, taken, window_above, window_below, write_y_row}
use Rattle.sparc_step.specs.Operands.{sum_of, value_of}
use Rattle.sparc_step.specs.Outcome.{with_result}
use Rattle.sparc_step.specs.Registers.{Registers, advanced, in_window, placed, register_at, with_icc, with_register, with_y}
use Rattle.sparc_step.specs.Transfers.{transfer}
use Rattle.sparc_step.specs.Words.{difference}
use Rattle.predecode.specs.Kinds.{Does, Unmade, Leaves, Idles, Works, Compares, Sets, Moves, ReadsY, WritesY, Saves, Restores, Calls, Jumps, BranchesAlways, Branches, Annuls, AnnulsAlways, Traps, Form, Sum, Number, Register, goes_nowhere}
use Rattle.predecode.specs.Rows.{DoesSo, HasForm, HasSource, IsFormed, IsIdle, IsSet, IsSourced, IsTarget, is_plain, moved_register}
use Rattle.predecode.specs.declared.rows.Row.{Row}
use Rattle.fast_loop.specs.lemmas.Effects.{IsTransferred, MayDivide, address_so, first, operand, worked, y_of}
use Rattle.fast_loop.specs.lemmas.PlacedLemmas.{advanced-placed, register_at-placed, sum_of-placed, value_of-placed, with_result-placed, with_y-placed, worked-placed}
use Rattle.fast_loop.specs.lemmas.Steps.{Goes, HasDone}
use Rattle.fast_loop.proofs.WindowLemmas.{moved-placed, window_above-placed, window_below-placed}

-- operand 2 is the instruction's
pub operand_is : (form : Form) (source : Src) (row : Row) (core : Registers) → HasForm form row → HasSource source row → register_at core 0 ≡ 0 → operand form row core ≡ value_of source core
operand_is Sum (Reg register) row core form has zero = ap (λ (n : ℕ). register_at core n + row.number) has.0 ∙ ap (λ (n : ℕ). register_at core register + n) has.1 ∙ none (register_at core register)
  where
    none : (n : ℕ) → n + 0 ≡ n
    none n = omega arith
operand_is Sum (Imm number) row core form has zero = ap (λ (n : ℕ). register_at core n + row.number) has.0 ∙ ap (λ (n : ℕ). n + row.number) zero ∙ some row.number ∙ has.1
  where
    some : (n : ℕ) → 0 + n ≡ n
    some n = omega arith
operand_is Number (Reg register) row core form has zero = has.1 ∙ sym (ap (register_at core) (sym has.0 ∙ form) ∙ zero)
operand_is Number (Imm number) row core form has zero = has.1
operand_is Register (Reg register) row core form has zero = ap (register_at core) has.0
operand_is Register (Imm number) row core form has zero = ap (register_at core) has.0 ∙ zero ∙ sym form ∙ has.1

-- so is the sum
pub address_is : (form : Form) (source : Src) (row : Row) (core : Registers) → HasForm form row → HasSource source row → register_at core 0 ≡ 0 → address_so form row core ≡ sum_of row.rs1 source core
unfolding sum_of
address_is form source row core is has zero = ap (λ (b : ℕ). (register_at core row.rs1 + b) % 2 ^ 32) (operand_is form source row core is has zero)

-- an instruction by its operand 2
sourced_goes : (row : Row) (of : Src → Instr) (i : Instr) (areas : List Area) (old new : Registers) (memory after : Memory) → IsSourced row of i
    → ((source : Src) → HasSource source row → Goes (of source) areas old new memory after) → Goes i areas old new memory after
sourced_goes row of i areas old new memory after so goes = subst (λ (j : Instr). Goes j areas old new memory after) (sym so.is) (goes so.source so.second)

-- work on registers
arith_goes : (operation : Arith) (rd rs1 : ℕ) (source : Src) (areas : List Area) (old new : Registers) (memory after : Memory)
    → MayDivide operation (value_of source old) → new ≡ worked operation rd (register_at old rs1) (value_of source old) old → after ≡ memory
    → Goes (instr.Arith operation rd rs1 source) areas old new memory after
arith_goes operation rd rs1 source areas old new memory after may left same = λ pc npc.
    ap (λ (a : ℕ). keeping_memory memory (arith_outcome operation rd a (value_of source (placed pc npc old)) (placed pc npc old))) (register_at-placed old pc npc rs1)
    ∙ ap (λ (b : ℕ). keeping_memory memory (arith_outcome operation rd (register_at old rs1) b (placed pc npc old))) (value_of-placed source old pc npc)
    ∙ ap (keeping_memory memory) (worked-placed operation rd (register_at old rs1) (value_of source old) pc npc old may)
    ∙ ap (λ (core : Registers). done (placed npc ((npc + 4) % 2 ^ 32) core) memory) (sym left)
    ∙ ap (done (placed npc ((npc + 4) % 2 ^ 32) new)) (sym same)

works_goes : (operation : Arith) (form : Form) (row : Row) (i : Instr) (areas : List Area) (old new : Registers) (memory after : Memory)
    → IsSourced row (instr.Arith operation (register_of row.rd) row.rs1) i → HasForm form row → register_at old 0 ≡ 0
    → new ≡ worked operation (register_of row.rd) (first row old) (operand form row old) old → after ≡ memory → MayDivide operation (operand form row old)
    → Goes i areas old new memory after
works_goes operation form row i areas old new memory after so formed zero left same may = sourced_goes row (instr.Arith operation (register_of row.rd) row.rs1) i areas old new memory after so (λ source has.
    let is = operand_is form source row old formed has zero in
    arith_goes operation (register_of row.rd) row.rs1 source areas old new memory after (subst (MayDivide operation) is may)
    (left ∙ ap (λ (b : ℕ). worked operation (register_of row.rd) (register_at old row.rs1) b old) is) same)

-- a comparison
dropped : (core : Registers) (value : ℕ) → with_register core 0 value ≡ core
unfolding with_register
dropped core value = refl

compares_goes : (form : Form) (row : Row) (i : Instr) (areas : List Area) (old new : Registers) (memory after : Memory)
    → IsSourced row (instr.Arith arith.SubCc 0 row.rs1) i → HasForm form row → register_at old 0 ≡ 0
    → new ≡ with_icc old (codes_of_difference (first row old) (operand form row old) false) → after ≡ memory → Goes i areas old new memory after
compares_goes form row i areas old new memory after so formed zero left same = sourced_goes row (instr.Arith arith.SubCc 0 row.rs1) i areas old new memory after so (λ source has.
    let is = operand_is form source row old formed has zero in
    arith_goes arith.SubCc 0 row.rs1 source areas old new memory after tt
    (left ∙ ap (λ (b : ℕ). with_icc old (codes_of_difference (register_at old row.rs1) b false)) is
    ∙ ap (λ (core : Registers). with_icc core (codes_of_difference (register_at old row.rs1) (value_of source old) false)) (sym (dropped old (difference (register_at old row.rs1) (value_of source old) false)))) same)

-- loads and stores
moves_goes : (operation : MemOp) (form : Form) (row : Row) (i : Instr) (areas : List Area) (old new : Registers) (memory after : Memory)
    → IsSourced row (instr.Mem operation (moved_register operation row.rd) row.rs1) i → HasForm form row → register_at old 0 ≡ 0
    → IsTransferred operation (moved_register operation row.rd) (address_so form row old) areas old new memory after → Goes i areas old new memory after
moves_goes operation form row i areas old new memory after so formed zero moved = sourced_goes row (instr.Mem operation (moved_register operation row.rd) row.rs1) i areas old new memory after so (λ source has pc npc.
    ap (λ (a : ℕ). transfer operation (moved_register operation row.rd) a areas (placed pc npc old) memory) (sum_of-placed row.rs1 source old pc npc ∙ sym (address_is form source row old formed has zero))
    ∙ moved pc npc)

-- WRY
write_y_goes : (rs1 : ℕ) (source : Src) (areas : List Area) (old new : Registers) (memory after : Memory)
    → new ≡ with_y old (y_of (register_at old rs1) (value_of source old)) → after ≡ memory → Goes (instr.WriteY rs1 source) areas old new memory after
unfolding write_y_row y_of
write_y_goes rs1 source areas old new memory after is same = λ pc npc.
    ap (λ (a : ℕ). done (advanced (with_y (placed pc npc old) (y_of a (value_of source (placed pc npc old))))) memory) (register_at-placed old pc npc rs1)
    ∙ ap (λ (b : ℕ). done (advanced (with_y (placed pc npc old) (y_of (register_at old rs1) b))) memory) (value_of-placed source old pc npc)
    ∙ ap (λ (core : Registers). done (advanced core) memory) (with_y-placed old pc npc (y_of (register_at old rs1) (value_of source old)))
    ∙ ap (λ (core : Registers). done core memory) (advanced-placed (with_y old (y_of (register_at old rs1) (value_of source old))) pc npc)
    ∙ ap (λ (core : Registers). done (placed npc ((npc + 4) % 2 ^ 32) core) memory) (sym is)
    ∙ ap (done (placed npc ((npc + 4) % 2 ^ 32) new)) (sym same)

-- RDY
y-placed : (core : Registers) (pc npc : ℕ) → (placed pc npc core).y ≡ core.y
unfolding placed
y-placed core pc npc = refl

read_y_goes : (rd : ℕ) (areas : List Area) (old new : Registers) (memory after : Memory)
    → new ≡ with_register old rd old.y → after ≡ memory → Goes (instr.ReadY rd) areas old new memory after
read_y_goes rd areas old new memory after is same = λ pc npc.
    ap (λ (y : ℕ). done (with_result rd y (placed pc npc old)) memory) (y-placed old pc npc)
    ∙ ap (λ (core : Registers). done core memory) (with_result-placed old pc npc rd old.y)
    ∙ ap (λ (core : Registers). done (placed npc ((npc + 4) % 2 ^ 32) core) memory) (sym is)
    ∙ ap (done (placed npc ((npc + 4) % 2 ^ 32) new)) (sym same)

-- a window that is entered from the one beside it
window_goes : (i : Instr) (trap rd rs1 window : ℕ) (source : Src) (toward : Registers → ℕ) (areas : List Area) (old new : Registers) (memory after : Memory)
    → ((core : Registers) → executed i areas core memory ≡ keeping_memory memory (moved (toward core) trap rd (sum_of rs1 source core) core)) → ((pc npc : ℕ) → toward (placed pc npc old) ≡ window)
    → window ≢ old.inv → new ≡ with_register (in_window old window) rd (sum_of rs1 source old) → after ≡ memory → Goes i areas old new memory after
window_goes i trap rd rs1 window source toward areas old new memory after row beside valid is same = λ pc npc.
    row (placed pc npc old)
    ∙ ap (λ (w : ℕ). keeping_memory memory (moved w trap rd (sum_of rs1 source (placed pc npc old)) (placed pc npc old))) (beside pc npc)
    ∙ ap (λ (value : ℕ). keeping_memory memory (moved window trap rd value (placed pc npc old))) (sum_of-placed rs1 source old pc npc)
    ∙ ap (keeping_memory memory) (moved-placed old pc npc window trap rd (sum_of rs1 source old) valid)
    ∙ ap (λ (core : Registers). done (placed npc ((npc + 4) % 2 ^ 32) core) memory) (sym is)
    ∙ ap (done (placed npc ((npc + 4) % 2 ^ 32) new)) (sym same)

-- SAVE
save_goes : (rd rs1 window : ℕ) (source : Src) (areas : List Area) (old new : Registers) (memory after : Memory)
    → window ≡ (old.cwp + 7) % 8 → window ≢ old.inv → new ≡ with_register (in_window old window) rd (sum_of rs1 source old) → after ≡ memory
    → Goes (instr.Save rd rs1 source) areas old new memory after
unfolding window_below
save_goes rd rs1 window source areas old new memory after below valid is same =
    window_goes (instr.Save rd rs1 source) 0x05 rd rs1 window source window_below areas old new memory after (λ core. refl) (λ pc npc. window_below-placed old pc npc ∙ sym below) valid is same

-- RESTORE
restore_goes : (rd rs1 window : ℕ) (source : Src) (areas : List Area) (old new : Registers) (memory after : Memory)
    → window ≡ (old.cwp + 1) % 8 → window ≢ old.inv → new ≡ with_register (in_window old window) rd (sum_of rs1 source old) → after ≡ memory
    → Goes (instr.Restore rd rs1 source) areas old new memory after
unfolding window_above
restore_goes rd rs1 window source areas old new memory after above valid is same =
    window_goes (instr.Restore rd rs1 source) 0x06 rd rs1 window source window_above areas old new memory after (λ core. refl) (λ pc npc. window_above-placed old pc npc ∙ sym above) valid is same

-- a branch that is not taken and annuls nothing
branch_goes : (condition : ℕ) (disp : ℤ) (areas : List Area) (old new : Registers) (memory after : Memory)
    → holds condition old.icc ≡ false → new ≡ old → after ≡ memory → Goes (instr.Branch condition false disp) areas old new memory after
unfolding branch_row passed placed
branch_goes condition disp areas old new memory after holding left same = λ pc npc.
    ap (λ (t : Bool). done (if t then taken condition false (branch_target pc disp) (placed pc npc old) else passed false (placed pc npc old)) memory) holding
    ∙ ap (λ (core : Registers). done core memory) (advanced-placed old pc npc)
    ∙ ap (λ (core : Registers). done (placed npc ((npc + 4) % 2 ^ 32) core) memory) (sym left)
    ∙ ap (done (placed npc ((npc + 4) % 2 ^ 32) new)) (sym same)

-- SETHI
sethi_goes : (rd imm : ℕ) (areas : List Area) (old new : Registers) (memory after : Memory) → new ≡ with_register old rd (imm * 2 ^ 10) → after ≡ memory → Goes (instr.Sethi rd imm) areas old new memory after
unfolding sethi_row
sethi_goes rd imm areas old new memory after left same = λ pc npc.
    ap (λ (core : Registers). done core memory) (with_result-placed old pc npc rd (imm * 2 ^ 10))
    ∙ ap (λ (core : Registers). done (placed npc ((npc + 4) % 2 ^ 32) core) memory) (sym left)
    ∙ ap (done (placed npc ((npc + 4) % 2 ^ 32) new)) (sym same)

-- an instruction that only goes on to the next word
idle_work : (operation : Arith) (a b : ℕ) (core : Registers) → is_plain operation ≡ true → worked operation 0 a b core ≡ core
unfolding with_register
idle_work arith.Add a b core plain = refl
idle_work arith.And a b core plain = refl
idle_work arith.Or a b core plain = refl
idle_work arith.Xor a b core plain = refl
idle_work arith.Sub a b core plain = refl
idle_work arith.AndN a b core plain = refl
idle_work arith.OrN a b core plain = refl
idle_work arith.XNor a b core plain = refl
idle_work arith.AddX a b core plain = absurd cc
idle_work arith.UMul a b core plain = absurd cc
idle_work arith.SMul a b core plain = absurd cc
idle_work arith.SubX a b core plain = absurd cc
idle_work arith.UDiv a b core plain = absurd cc
idle_work arith.SDiv a b core plain = absurd cc
idle_work arith.AddCc a b core plain = absurd cc
idle_work arith.AndCc a b core plain = absurd cc
idle_work arith.OrCc a b core plain = absurd cc
idle_work arith.XorCc a b core plain = absurd cc
idle_work arith.SubCc a b core plain = absurd cc
idle_work arith.AndNCc a b core plain = absurd cc
idle_work arith.OrNCc a b core plain = absurd cc
idle_work arith.XNorCc a b core plain = absurd cc
idle_work arith.AddXCc a b core plain = absurd cc
idle_work arith.UMulCc a b core plain = absurd cc
idle_work arith.SMulCc a b core plain = absurd cc
idle_work arith.SubXCc a b core plain = absurd cc
idle_work arith.UDivCc a b core plain = absurd cc
idle_work arith.SDivCc a b core plain = absurd cc
idle_work arith.TAddCc a b core plain = absurd cc
idle_work arith.TSubCc a b core plain = absurd cc
idle_work arith.TAddCcTv a b core plain = absurd cc
idle_work arith.TSubCcTv a b core plain = absurd cc
idle_work arith.MulSCc a b core plain = absurd cc
idle_work arith.Sll a b core plain = refl
idle_work arith.Srl a b core plain = refl
idle_work arith.Sra a b core plain = refl

idle_may : (operation : Arith) (b : ℕ) → is_plain operation ≡ true → MayDivide operation b
idle_may arith.Add b plain = tt
idle_may arith.And b plain = tt
idle_may arith.Or b plain = tt
idle_may arith.Xor b plain = tt
idle_may arith.Sub b plain = tt
idle_may arith.AndN b plain = tt
idle_may arith.OrN b plain = tt
idle_may arith.XNor b plain = tt
idle_may arith.AddX b plain = absurd cc
idle_may arith.UMul b plain = absurd cc
idle_may arith.SMul b plain = absurd cc
idle_may arith.SubX b plain = absurd cc
idle_may arith.UDiv b plain = absurd cc
idle_may arith.SDiv b plain = absurd cc
idle_may arith.AddCc b plain = absurd cc
idle_may arith.AndCc b plain = absurd cc
idle_may arith.OrCc b plain = absurd cc
idle_may arith.XorCc b plain = absurd cc
idle_may arith.SubCc b plain = absurd cc
idle_may arith.AndNCc b plain = absurd cc
idle_may arith.OrNCc b plain = absurd cc
idle_may arith.XNorCc b plain = absurd cc
idle_may arith.AddXCc b plain = absurd cc
idle_may arith.UMulCc b plain = absurd cc
idle_may arith.SMulCc b plain = absurd cc
idle_may arith.SubXCc b plain = absurd cc
idle_may arith.UDivCc b plain = absurd cc
idle_may arith.SDivCc b plain = absurd cc
idle_may arith.TAddCc b plain = absurd cc
idle_may arith.TSubCc b plain = absurd cc
idle_may arith.TAddCcTv b plain = absurd cc
idle_may arith.TSubCcTv b plain = absurd cc
idle_may arith.MulSCc b plain = absurd cc
idle_may arith.Sll b plain = tt
idle_may arith.Srl b plain = tt
idle_may arith.Sra b plain = tt

never : (core : Registers) → holds 0 core.icc ≡ false
unfolding holds holds_below_eight
never core = refl

idle_goes : (i : Instr) (areas : List Area) (old new : Registers) (memory after : Memory) → IsIdle i → new ≡ old → after ≡ memory → Goes i areas old new memory after
idle_goes (instr.Branch condition annul disp) areas old new memory after (none, nothing) left same =
    subst (λ (c : ℕ). Goes (instr.Branch c annul disp) areas old new memory after) (sym none)
    (subst (λ (t : Bool). Goes (instr.Branch 0 t disp) areas old new memory after) (sym nothing) (branch_goes 0 disp areas old new memory after (never old) left same))
idle_goes (instr.Sethi rd imm) areas old new memory after none left same = subst (λ (r : ℕ). Goes (instr.Sethi r imm) areas old new memory after) (sym none)
    (sethi_goes 0 imm areas old new memory after (left ∙ sym (dropped old (imm * 2 ^ 10))) same)
idle_goes (instr.Arith operation rd rs1 source) areas old new memory after (none, plain) left same = subst (λ (r : ℕ). Goes (instr.Arith operation r rs1 source) areas old new memory after) (sym none)
    (arith_goes operation 0 rs1 source areas old new memory after (idle_may operation (value_of source old) plain) (left ∙ sym (idle_work operation (register_at old rs1) (value_of source old) old plain)) same)
idle_goes (instr.Call disp) areas old new memory after so left same = absurd so
idle_goes (instr.ReadY rd) areas old new memory after so left same = absurd so
idle_goes instr.Barrier areas old new memory after so left same = absurd so
idle_goes (instr.WriteY rs1 source) areas old new memory after so left same = absurd so
idle_goes (instr.Jump rd rs1 source) areas old new memory after so left same = absurd so
idle_goes (instr.Trap condition rs1 source) areas old new memory after so left same = absurd so
idle_goes instr.Flush areas old new memory after so left same = absurd so
idle_goes (instr.Save rd rs1 source) areas old new memory after so left same = absurd so
idle_goes (instr.Restore rd rs1 source) areas old new memory after so left same = absurd so
idle_goes (instr.Mem operation rd rs1 source) areas old new memory after so left same = absurd so
idle_goes instr.Privileged areas old new memory after so left same = absurd so
idle_goes instr.Float areas old new memory after so left same = absurd so
idle_goes instr.Coproc areas old new memory after so left same = absurd so
idle_goes instr.Illegal areas old new memory after so left same = absurd so

-- an instruction that sets a register to operand 2
or_nothing : (n : ℕ) → bit_or 0 n ≡ n
or_nothing n = or_zero_l n

held : (row : Row) → row.rd < 32 → register_of row.rd ≡ row.rd
unfolding register_of
held row small = at (row.rd == 32) refl
  where
    at : (b : Bool) → (row.rd == 32) ≡ b → (if b then 0 else row.rd) ≡ row.rd
    at true is = absurd (let last : row.rd ≡ 32 = grind (arith, nat_tests) in omega (arith, last, small))
    at false is = refl

sets_number : (form : Form) (row : Row) (core : Registers) → row.rs2 ≡ 0 → HasForm form row → register_at core 0 ≡ 0 → operand form row core ≡ row.number
sets_number Sum row core none is zero = ap (λ (n : ℕ). register_at core n + row.number) none ∙ ap (λ (n : ℕ). n + row.number) zero ∙ some row.number
  where
    some : (n : ℕ) → 0 + n ≡ n
    some n = omega arith
sets_number Number row core none is zero = refl
sets_number Register row core none is zero = ap (register_at core) none ∙ zero ∙ sym is

set_goes : (form : Form) (row : Row) (i : Instr) (areas : List Area) (old new : Registers) (memory after : Memory) → IsSet row i → HasForm form row → row.rd < 32 → register_at old 0 ≡ 0
    → new ≡ with_register old (register_of row.rd) (operand form row old) → after ≡ memory → Goes i areas old new memory after
set_goes form row (instr.Sethi rd imm) areas old new memory after (result, none, number) formed small zero left same =
    sethi_goes rd imm areas old new memory after
    (left ∙ ap (λ (r : ℕ). with_register old r (operand form row old)) (held row small ∙ result) ∙ ap (with_register old rd) (sets_number form row old none formed zero ∙ number)) same
set_goes form row (instr.Arith operation rd rs1 source) areas old new memory after (is_or, result, none, has) formed small zero left same =
    subst (λ (o : Arith). Goes (instr.Arith o rd rs1 source) areas old new memory after) (sym is_or)
    (arith_goes arith.Or rd rs1 source areas old new memory after tt
    (left ∙ ap (λ (r : ℕ). with_register old r (operand form row old)) (held row small ∙ result)
    ∙ ap (with_register old rd) (operand_is form source row old formed has zero ∙ sym (or_nothing (value_of source old)) ∙ ap (λ (a : ℕ). bit_or a (value_of source old)) (sym (ap (register_at old) none ∙ zero)))) same)
set_goes form row (instr.Branch condition annul disp) areas old new memory after so formed small zero left same = absurd so
set_goes form row (instr.Call disp) areas old new memory after so formed small zero left same = absurd so
set_goes form row (instr.ReadY rd) areas old new memory after so formed small zero left same = absurd so
set_goes form row instr.Barrier areas old new memory after so formed small zero left same = absurd so
set_goes form row (instr.WriteY rs1 source) areas old new memory after so formed small zero left same = absurd so
set_goes form row (instr.Jump rd rs1 source) areas old new memory after so formed small zero left same = absurd so
set_goes form row (instr.Trap condition rs1 source) areas old new memory after so formed small zero left same = absurd so
set_goes form row instr.Flush areas old new memory after so formed small zero left same = absurd so
set_goes form row (instr.Save rd rs1 source) areas old new memory after so formed small zero left same = absurd so
set_goes form row (instr.Restore rd rs1 source) areas old new memory after so formed small zero left same = absurd so
set_goes form row (instr.Mem operation rd rs1 source) areas old new memory after so formed small zero left same = absurd so
set_goes form row instr.Privileged areas old new memory after so formed small zero left same = absurd so
set_goes form row instr.Float areas old new memory after so formed small zero left same = absurd so
set_goes form row instr.Coproc areas old new memory after so formed small zero left same = absurd so
set_goes form row instr.Illegal areas old new memory after so formed small zero left same = absurd so

-- what a row did
pub goes_so : (d : Does) (row : Row) (i : Instr) (areas : List Area) (old new : Registers) (memory after : Memory) → DoesSo d row i → IsFormed d row → IsTarget d row.rd → register_at old 0 ≡ 0
    → HasDone d row areas old new memory after → Goes i areas old new memory after
goes_so Idles row i areas old new memory after so formed target zero is = idle_goes i areas old new memory after so is.0 is.1
goes_so (Works operation form) row i areas old new memory after so formed target zero (left, same, may) = works_goes operation form row i areas old new memory after so formed zero left same may
goes_so (Compares form) row i areas old new memory after so formed target zero is = compares_goes form row i areas old new memory after so formed zero is.0 is.1
goes_so (Sets form) row i areas old new memory after so formed target zero is = set_goes form row i areas old new memory after so formed target.1 zero is.0 is.1
goes_so (Moves operation form) row i areas old new memory after so formed target zero is = moves_goes operation form row i areas old new memory after so formed zero is
goes_so ReadsY row i areas old new memory after so formed target zero is = subst (λ (j : Instr). Goes j areas old new memory after) (sym so) (read_y_goes (register_of row.rd) areas old new memory after is.0 is.1)
goes_so WritesY row i areas old new memory after so formed target zero is = sourced_goes row (instr.WriteY row.rs1) i areas old new memory after so (λ source has.
    write_y_goes row.rs1 source areas old new memory after (is.0 ∙ ap (λ (b : ℕ). with_y old (y_of (register_at old row.rs1) b)) (operand_is Sum source row old formed has zero)) is.1)
goes_so Saves row i areas old new memory after so formed target zero is = sourced_goes row (instr.Save row.rd row.rs1) i areas old new memory after so (λ source has.
    save_goes row.rd row.rs1 ((old.cwp + 7) % 8) source areas old new memory after refl is.0.valid (is.0.entered ∙ ap (with_register (in_window old ((old.cwp + 7) % 8)) row.rd) (address_is Sum source row old formed has zero)) is.1)
goes_so Restores row i areas old new memory after so formed target zero is = sourced_goes row (instr.Restore row.rd row.rs1) i areas old new memory after so (λ source has.
    restore_goes row.rd row.rs1 ((old.cwp + 1) % 8) source areas old new memory after refl is.0.valid (is.0.entered ∙ ap (with_register (in_window old ((old.cwp + 1) % 8)) row.rd) (address_is Sum source row old formed has zero)) is.1)
goes_so Branches row i areas old new memory after so formed target zero (holding, left, same) = subst (λ (j : Instr). Goes j areas old new memory after) (sym so.is) (branch_goes row.rs1 so.displacement areas old new memory after holding left same)
goes_so Unmade row i areas old new memory after so formed target zero is = absurd is
goes_so Leaves row i areas old new memory after so formed target zero is = absurd is
goes_so Calls row i areas old new memory after so formed target zero is = absurd is
goes_so Jumps row i areas old new memory after so formed target zero is = absurd is
goes_so BranchesAlways row i areas old new memory after so formed target zero is = absurd is
goes_so Annuls row i areas old new memory after so formed target zero is = absurd is
goes_so AnnulsAlways row i areas old new memory after so formed target zero is = absurd is
goes_so Traps row i areas old new memory after so formed target zero is = absurd is

-- and goes on where its kind does
pub goes_on : (d : Does) (row : Row) (areas : List Area) (old new : Registers) (memory after : Memory) → HasDone d row areas old new memory after → goes_nowhere d ≡ false
goes_on Idles row areas old new memory after is = refl
goes_on (Works operation form) row areas old new memory after is = refl
goes_on (Compares form) row areas old new memory after is = refl
goes_on (Sets form) row areas old new memory after is = refl
goes_on (Moves operation form) row areas old new memory after is = refl
goes_on ReadsY row areas old new memory after is = refl
goes_on WritesY row areas old new memory after is = refl
goes_on Saves row areas old new memory after is = refl
goes_on Restores row areas old new memory after is = refl
goes_on Branches row areas old new memory after is = refl
goes_on Annuls row areas old new memory after is = refl
goes_on Unmade row areas old new memory after is = absurd is
goes_on Leaves row areas old new memory after is = absurd is
goes_on Calls row areas old new memory after is = absurd is
goes_on Jumps row areas old new memory after is = absurd is
goes_on BranchesAlways row areas old new memory after is = absurd is
goes_on AnnulsAlways row areas old new memory after is = absurd is
goes_on Traps row areas old new memory after is = absurd is
