-- Rows by their parts.
use Rattle.std.proofs.Common.{◌≡◌, ◌⊎◌, ℕ, ◌<◌, Bool, true, false, inl, inr, refl, sym, ap, ◌∙◌, subst, arith}
use Rattle.std.proofs.lemmas.Bool.Decides.{nat_tests}
use Rattle.std.specs.Prelude.{◌==◌, if◌then◌else◌, ⊤}
use Rattle.sparc_code.specs.declared.instruction.Arith.{Arith}
use Rattle.sparc_code.specs.declared.instruction.Arith.TheVariants as arith
use Rattle.sparc_code.specs.declared.instruction.Instr.{Instr}
use Rattle.sparc_code.specs.declared.instruction.Instr.TheVariants as instr
use Rattle.sparc_code.specs.declared.instruction.MemOp.{MemOp}
use Rattle.sparc_code.specs.declared.instruction.MemOp.TheVariants as memory
use Rattle.sparc_code.specs.declared.instruction.Src.{Src}
use Rattle.sparc_code.specs.declared.instruction.Src.TheVariants.{Reg, Imm}
use Rattle.sparc_step.specs.Cached.{register_of}
use Rattle.predecode.specs.Kinds.{Does, Leaves, Works, Compares, Sets, Moves, Form, Sum, Number, Register, does}
use Rattle.predecode.specs.Rows.{AreRegisterNumbers, DoesSo, HasForm, HasSource, IsCondition, IsFormed, IsMoved, IsResult, IsRowOf, IsSet, IsSourced, IsTarget, moved_register}
use Rattle.predecode.specs.declared.kinds.Kind.{Kind}
use Rattle.predecode.specs.declared.rows.Row.{Row}
use Rattle.predecode.specs.lemmas.RowTerms.{HasParts, IsMemoryRow, IsWorkRow, form_by, has_forms, is_left, is_number, moved_as, worked_as}

-- the form of operand 2
pub sum_form : (source : Src) (row : Row) → HasSource source row → HasForm Sum row
sum_form (Reg register) row has = inr has.1
sum_form (Imm number) row has = inl has.0

pub number_form : (source : Src) (row : Row) → is_number source ≡ true → HasSource source row → HasForm Number row
number_form (Reg register) row is has = let none : register ≡ 0 = grind (arith, nat_tests) in has.0 ∙ none
number_form (Imm number) row is has = has.0

pub register_form : (source : Src) (row : Row) → is_number source ≡ false → HasSource source row → HasForm Register row
register_form (Reg register) row is has = has.1
register_form (Imm number) row is has = absurd cc

chosen_form : (number : Bool) (source : Src) (row : Row) → number ≡ is_number source → HasSource source row → HasForm (form_by number) row
chosen_form true source row is has = number_form source row (sym is) has
chosen_form false source row is has = register_form source row (sym is) has

form_of : (forms number : Bool) (source : Src) (row : Row) → number ≡ is_number source → HasSource source row → HasForm (if forms then form_by number else Sum) row
form_of true number source row is has = chosen_form number source row is has
form_of false number source row is has = sum_form source row has

-- the instruction of these parts
sourced : {kind : Kind} {rd rs1 : ℕ} {source : Src} (row : Row) (of : ℕ → ℕ → Src → Instr) (r : ℕ) → HasParts row kind rd rs1 source → IsSourced row (of r row.rs1) (of r rs1 source)
sourced {kind} {rd} {rs1} {source} row of r has = record { source = source; is = ap (λ (n : ℕ). of r n source) (sym has.first); second = has.second }

-- a row of a kind is that of what rows of the kind do
pub row_by_kind : {kind : Kind} {rd rs1 : ℕ} {source : Src} (d : Does) (row : Row) (i : Instr) → HasParts row kind rd rs1 source → does kind ≡ d → DoesSo d row i → IsRowOf row i
row_by_kind {kind} d row i has is so = subst (λ (d : Does). DoesSo d row i) (sym (ap does has.work ∙ is)) so

-- its registers are registers
pub numbers_by_kind : {kind : Kind} {rd rs1 : ℕ} {source : Src} (d : Does) (row : Row) → HasParts row kind rd rs1 source → does kind ≡ d → IsTarget d rd → rs1 < 32 → row.rs2 < 32 → IsCondition d rs1 → IsFormed d row → AreRegisterNumbers row
numbers_by_kind {kind} {rd} {rs1} d row has is target first second condition form =
    let same : d ≡ does row.kind = sym (ap does has.work ∙ is) in
    record {
      rd = subst (λ (d : Does). IsTarget d row.rd) same (subst (IsTarget d) (sym has.result) target);
      rs1 = subst (λ (n : ℕ). n < 32) (sym has.first) first;
      rs2 = second;
      condition = subst (λ (d : Does). IsCondition d row.rs1) same (subst (IsCondition d) (sym has.first) condition);
      form = subst (λ (d : Does). IsFormed d row) same form;
    }

-- those of others with an operand 2
pub summed : {kind : Kind} {rd rs1 : ℕ} {source : Src} (row : Row) (of : ℕ → ℕ → Src → Instr) (r to : ℕ) → HasParts row kind rd rs1 source → r ≡ to → IsSourced row (of r row.rs1) (of to rs1 source)
summed {kind} {rd} {rs1} {source} row of r to has same = record { source = source; is = ap (λ (n : ℕ). of n rs1 source) (sym same) ∙ ap (λ (n : ℕ). of r n source) (sym has.first); second = has.second }

-- work on registers
left_or_done : {kind : Kind} {to rs1 : ℕ} {source : Src} (left number : Bool) (operation : Arith) (rd : ℕ) (row : Row) → HasParts row kind to rs1 source → register_of to ≡ rd
    → DoesSo (if left then Leaves else Works operation (if has_forms operation then form_by number else Sum)) row (instr.Arith operation rd rs1 source)
left_or_done true number operation rd row has register = tt
left_or_done {kind} {to} {rs1} {source} false number operation rd row has register =
    record { source = source; is = ap (λ (n : ℕ). instr.Arith operation n rs1 source) (sym register ∙ ap register_of (sym has.result)) ∙ ap (λ (n : ℕ). instr.Arith operation (register_of row.rd) n source) (sym has.first); second = has.second }

pub work_row : {kind : Kind} {to rs1 : ℕ} {source : Src} (number : Bool) (operation : Arith) (rd : ℕ) (row : Row) → HasParts row kind to rs1 source → does kind ≡ worked_as operation number → register_of to ≡ rd
    → IsWorkRow row operation rd rs1 source
work_row number operation rd row has kind register = row_by_kind (worked_as operation number) row _ has kind (left_or_done (is_left operation) number operation rd row has register)

target_of : (left : Bool) (operation : Arith) (form : Form) (to : ℕ) → IsResult to → IsTarget (if left then Leaves else Works operation form) to
target_of true operation form to is = tt
target_of false operation form to is = is

condition_of : (left : Bool) (operation : Arith) (form : Form) (rs1 : ℕ) → IsCondition (if left then Leaves else Works operation form) rs1
condition_of true operation form rs1 = tt
condition_of false operation form rs1 = tt

formed : (source : Src) (left number : Bool) (operation : Arith) (row : Row) → number ≡ is_number source → HasSource source row → IsFormed (if left then Leaves else Works operation (if has_forms operation then form_by number else Sum)) row
formed source true number operation row is has = tt
formed source false number operation row is has = form_of (has_forms operation) number source row is has

pub work_numbers : {kind : Kind} {to rs1 : ℕ} {source : Src} (number : Bool) (operation : Arith) (row : Row) → HasParts row kind to rs1 source → does kind ≡ worked_as operation number → number ≡ is_number source → IsResult to → rs1 < 32 → row.rs2 < 32 → AreRegisterNumbers row
work_numbers {kind} {to} {rs1} {source} number operation row has is numbered result first second =
    numbers_by_kind (worked_as operation number) row has is (target_of (is_left operation) operation _ to result) first second (condition_of (is_left operation) operation _ rs1)
    (formed source (is_left operation) number operation row numbered has.second)

-- an OR of register 0
pub set_number_row : {kind : Kind} {rd : ℕ} {source : Src} (row : Row) → HasParts row kind rd 0 source → does kind ≡ Sets Number → IsWorkRow row arith.Or rd 0 source
set_number_row {kind} {rd} {source} row has kind_is = row_by_kind (Sets Number) row _ has kind_is (refl, has.result, refl, has.second)

pub set_register_row : {kind : Kind} {rd : ℕ} {source : Src} (row : Row) → HasParts row kind rd 0 source → does kind ≡ Sets Register → IsWorkRow row arith.Or rd 0 source
set_register_row {kind} {rd} {source} row has kind_is = row_by_kind (Sets Register) row _ has kind_is (refl, has.result, refl, has.second)

-- a comparison
pub compared_number_row : {kind : Kind} {rd rs1 : ℕ} {source : Src} (row : Row) → HasParts row kind rd rs1 source → does kind ≡ Compares Number → IsWorkRow row arith.SubCc 0 rs1 source
compared_number_row {kind} {rd} {rs1} {source} row has kind_is = row_by_kind (Compares Number) row _ has kind_is (sourced row (instr.Arith arith.SubCc) 0 has)

pub compared_register_row : {kind : Kind} {rd rs1 : ℕ} {source : Src} (row : Row) → HasParts row kind rd rs1 source → does kind ≡ Compares Register → IsWorkRow row arith.SubCc 0 rs1 source
compared_register_row {kind} {rd} {rs1} {source} row has kind_is = row_by_kind (Compares Register) row _ has kind_is (sourced row (instr.Arith arith.SubCc) 0 has)

-- loads and stores
moved_so : {kind : Kind} {to rs1 : ℕ} {source : Src} (form : Form) (operation : MemOp) (rd : ℕ) (row : Row) → HasParts row kind to rs1 source → moved_register operation to ≡ rd
    → DoesSo (Moves operation form) row (instr.Mem operation rd rs1 source)
moved_so {kind} {to} {rs1} {source} form operation rd row has register =
    record { source = source; is = ap (λ (n : ℕ). instr.Mem operation n rs1 source) (sym register ∙ ap (moved_register operation) (sym has.result)) ∙ ap (λ (n : ℕ). instr.Mem operation (moved_register operation row.rd) n source) (sym has.first); second = has.second }

moved_does : {kind : Kind} {to rs1 : ℕ} {source : Src} (number : Bool) (operation : MemOp) (rd : ℕ) (row : Row) → HasParts row kind to rs1 source → moved_register operation to ≡ rd
    → DoesSo (moved_as operation number) row (instr.Mem operation rd rs1 source)
moved_does number memory.Ld rd row has register = moved_so (form_by number) memory.Ld rd row has register
moved_does number memory.LdUb rd row has register = moved_so (form_by number) memory.LdUb rd row has register
moved_does number memory.LdUh rd row has register = moved_so (Sum) memory.LdUh rd row has register
moved_does number memory.LdSb rd row has register = moved_so (Sum) memory.LdSb rd row has register
moved_does number memory.LdSh rd row has register = moved_so (Sum) memory.LdSh rd row has register
moved_does number memory.LdD rd row has register = moved_so (Sum) memory.LdD rd row has register
moved_does number memory.St rd row has register = moved_so (form_by number) memory.St rd row has register
moved_does number memory.StB rd row has register = moved_so (form_by number) memory.StB rd row has register
moved_does number memory.StH rd row has register = moved_so (Sum) memory.StH rd row has register
moved_does number memory.StD rd row has register = moved_so (Sum) memory.StD rd row has register
moved_does number memory.LdStUb rd row has register = tt
moved_does number memory.Swap rd row has register = tt

pub memory_row : {kind : Kind} {to rs1 : ℕ} {source : Src} (number : Bool) (operation : MemOp) (rd : ℕ) (row : Row) → HasParts row kind to rs1 source → does kind ≡ moved_as operation number → moved_register operation to ≡ rd
    → IsMemoryRow row operation rd rs1 source
memory_row number operation rd row has kind register = row_by_kind (moved_as operation number) row _ has kind (moved_does number operation rd row has register)

moved_formed : (source : Src) (number : Bool) (operation : MemOp) (row : Row) → number ≡ is_number source → HasSource source row → IsFormed (moved_as operation number) row
moved_formed source number memory.Ld row is has = chosen_form number source row is has
moved_formed source number memory.LdUb row is has = chosen_form number source row is has
moved_formed source number memory.LdUh row is has = sum_form source row has
moved_formed source number memory.LdSb row is has = sum_form source row has
moved_formed source number memory.LdSh row is has = sum_form source row has
moved_formed source number memory.LdD row is has = sum_form source row has
moved_formed source number memory.St row is has = chosen_form number source row is has
moved_formed source number memory.StB row is has = chosen_form number source row is has
moved_formed source number memory.StH row is has = sum_form source row has
moved_formed source number memory.StD row is has = sum_form source row has
moved_formed source number memory.LdStUb row is has = tt
moved_formed source number memory.Swap row is has = tt

moved_target : (number : Bool) (operation : MemOp) (to : ℕ) → IsMoved operation to → IsTarget (moved_as operation number) to
moved_target number memory.Ld to is = is
moved_target number memory.LdUb to is = is
moved_target number memory.LdUh to is = is
moved_target number memory.LdSb to is = is
moved_target number memory.LdSh to is = is
moved_target number memory.LdD to is = is
moved_target number memory.St to is = is
moved_target number memory.StB to is = is
moved_target number memory.StH to is = is
moved_target number memory.StD to is = is
moved_target number memory.LdStUb to is = tt
moved_target number memory.Swap to is = tt

moved_condition : (number : Bool) (operation : MemOp) (rs1 : ℕ) → IsCondition (moved_as operation number) rs1
moved_condition number memory.Ld rs1 = tt
moved_condition number memory.LdUb rs1 = tt
moved_condition number memory.LdUh rs1 = tt
moved_condition number memory.LdSb rs1 = tt
moved_condition number memory.LdSh rs1 = tt
moved_condition number memory.LdD rs1 = tt
moved_condition number memory.St rs1 = tt
moved_condition number memory.StB rs1 = tt
moved_condition number memory.StH rs1 = tt
moved_condition number memory.StD rs1 = tt
moved_condition number memory.LdStUb rs1 = tt
moved_condition number memory.Swap rs1 = tt

pub memory_numbers : {kind : Kind} {to rs1 : ℕ} {source : Src} (number : Bool) (operation : MemOp) (row : Row) → HasParts row kind to rs1 source → does kind ≡ moved_as operation number → number ≡ is_number source → IsMoved operation to → rs1 < 32 → row.rs2 < 32 → AreRegisterNumbers row
memory_numbers {kind} {to} {rs1} {source} number operation row has is numbered result first second =
    numbers_by_kind (moved_as operation number) row has is (moved_target number operation to result) first second (moved_condition number operation rs1)
    (moved_formed source number operation row numbered has.second)
