-- A row that becomes the first of a pair, and the branch after it.
use Rattle.std.proofs.Common.{◌≡◌, ◌≢◌, ◌⊎◌, ℕ, ◌+◌, ◌*◌, ◌<◌, true, false, List, length, length-set, set, get_or, Option, Some, None, Ok, inl, inr, ⊎_elim, sym, ap, ◌∙◌, subst, arith}
use Rattle.std.proofs.lemmas.Bool.{cases_eq}
use Rattle.std.proofs.lemmas.Option.{same_Some, slice_get-get_or}
use Rattle.std.specs.Prelude.{slice_get, slice_index}
use Rattle.guest_bus.specs.Access.{fetched}
use Rattle.guest_bus.specs.Memory.{Area, Memory}
use Rattle.sparc_code.specs.Decoded.{decoded}
use Rattle.sparc_code.specs.declared.instruction.Instr.{Instr}
use Rattle.sparc_code.specs.declared.instruction.Instr.TheVariants as instr
use Rattle.sparc_code.specs.declared.instruction.Src.{Src}
use Rattle.sparc_code.specs.declared.instruction.Src.TheVariants.{Reg, Imm}
use Rattle.predecode.specs.Kept.{IsBranchOn, IsKeptRow, IsRowFor, word_there}
use Rattle.predecode.specs.Kinds.{Does, Unmade, Leaves, Idles, Works, Compares, Sets, Moves, ReadsY, WritesY, Saves, Restores, Calls, Jumps, BranchesAlways, Branches, Annuls, AnnulsAlways, Traps, Form, Sum, Number, Register, does, follows, goes_nowhere, is_exit, is_none}
use Rattle.predecode.specs.lemmas.KeptLemmas.{made_kept}
use Rattle.predecode.specs.Rows.{AreRegisterNumbers, DoesSo, HasForm, HasSource, IsCondition, IsFormed, IsSet, IsSourced, IsTarget}
use Rattle.predecode.specs.declared.kinds.Kind.{Kind}
use Rattle.predecode.specs.declared.kinds.Kind.TheVariants.{Branch}
use Rattle.predecode.specs.declared.rows.Row.{Row}
use Rattle.fast_loop.specs.Keeping.{AreLengths, AreRowsOf, EndsWithin}
use Rattle.predecoded_memory.specs.lemmas.MakingTerms.{AreCleared, AreMade, branches, with_kind, with_kind_at}
use Rattle.predecoded_memory.specs.lemmas.SharesTerms.{row_of_zeros}
use Rattle.predecoded_memory.proofs.EmptiedLemmas.{get_set_other, get_set_same}
use Rattle.predecoded_memory.proofs.MakingLemmas.{alone_on, put_lengths, put_rows}

-- a row that is of another kind has the operands that it had
source_as : (kind : Kind) (row : Row) (source : Src) → HasSource source row → HasSource source (with_kind kind row)
source_as kind row (Reg register) has = has
source_as kind row (Imm number) has = has

form_as : (kind : Kind) (row : Row) (form : Form) → HasForm form row → HasForm form (with_kind kind row)
form_as kind row Sum has = has
form_as kind row Number has = has
form_as kind row Register has = has

sourced_as : (kind : Kind) (row : Row) (of : Src → Instr) (i : Instr) → IsSourced row of i → IsSourced (with_kind kind row) of i
sourced_as kind row of i is = record { source = is.source; is = is.is; second = source_as kind row is.source is.second }

set_as : (kind : Kind) (row : Row) (i : Instr) → IsSet row i → IsSet (with_kind kind row) i
set_as kind row (instr.Sethi rd imm) is = is
set_as kind row (instr.Arith operation rd rs1 source) is = (is.0, is.1, is.2, source_as kind row source is.3)
set_as kind row i is = is

-- it does the same
does_as : (kind : Kind) (row : Row) (i : Instr) (d : Does) → DoesSo d row i → DoesSo d (with_kind kind row) i
does_as kind row i Unmade is = is
does_as kind row i Leaves is = is
does_as kind row i Idles is = is
does_as kind row i (Works operation form) is = sourced_as kind row _ i is
does_as kind row i (Compares form) is = sourced_as kind row _ i is
does_as kind row i (Sets form) is = set_as kind row i is
does_as kind row i (Moves operation form) is = sourced_as kind row _ i is
does_as kind row i ReadsY is = is
does_as kind row i WritesY is = sourced_as kind row _ i is
does_as kind row i Saves is = sourced_as kind row _ i is
does_as kind row i Restores is = sourced_as kind row _ i is
does_as kind row i Calls is = record { displacement = is.displacement; is = is.is; number = is.number }
does_as kind row i Jumps is = sourced_as kind row _ i is
does_as kind row i BranchesAlways is = record { displacement = is.displacement; is = is.is; number = is.number }
does_as kind row i Branches is = record { displacement = is.displacement; is = is.is; number = is.number }
does_as kind row i Annuls is = (record { displacement = is.0.displacement; is = is.0.is; number = is.0.number }, is.1)
does_as kind row i AnnulsAlways is = record { displacement = is.displacement; is = is.is; number = is.number }
does_as kind row i Traps is = sourced_as kind row _ i is

-- its operand 2 has the form that it had
formed_as : (kind : Kind) (row : Row) (d : Does) → IsFormed d row → IsFormed d (with_kind kind row)
formed_as kind row Unmade is = is
formed_as kind row Leaves is = is
formed_as kind row Idles is = is
formed_as kind row (Works operation form) is = form_as kind row form is
formed_as kind row (Compares form) is = form_as kind row form is
formed_as kind row (Sets form) is = form_as kind row form is
formed_as kind row (Moves operation form) is = form_as kind row form is
formed_as kind row ReadsY is = is
formed_as kind row WritesY is = form_as kind row Sum is
formed_as kind row Saves is = form_as kind row Sum is
formed_as kind row Restores is = form_as kind row Sum is
formed_as kind row Calls is = is
formed_as kind row Jumps is = form_as kind row Sum is
formed_as kind row BranchesAlways is = is
formed_as kind row Branches is = is
formed_as kind row Annuls is = is
formed_as kind row AnnulsAlways is = is
formed_as kind row Traps is = form_as kind row Sum is

numbers_as : (kind : Kind) (row : Row) → does kind ≡ does row.kind → AreRegisterNumbers row → AreRegisterNumbers (with_kind kind row)
numbers_as kind row same are = record {
  rd = subst (λ (d : Does). IsTarget d row.rd) (sym same) are.rd;
  rs1 = are.rs1;
  rs2 = are.rs2;
  condition = subst (λ (d : Does). IsCondition d row.rs1) (sym same) are.condition;
  form = subst (λ (d : Does). IsFormed d (with_kind kind row)) (sym same) (formed_as kind row (does row.kind) are.form);
}

-- it is kept of its word
pub kind_kept : (kind : Kind) (row : Row) (areas : List Area) (memory : Memory) (address : ℕ) → does kind ≡ does row.kind → IsKeptRow row areas memory address → IsKeptRow (with_kind kind row) areas memory address
kind_kept kind row areas memory address same is = record {
  registers = numbers_as kind row same is.registers;
  free = λ some. is.free (sym (ap is_none same) ∙ some);
  spelled = λ some. subst (λ (d : Does). DoesSo d (with_kind kind row) (decoded (word_there memory address))) (sym same) (does_as kind row (decoded (word_there memory address)) (does row.kind) (is.spelled (sym (ap is_none same) ∙ some)));
}

-- blocks end where they did
pub kind_lengths : (rows : List Row) (lengths : List ℕ) (at : ℕ) (kind : Kind) (row : Row) → AreLengths lengths rows → slice_get rows at ≡ Some row → at < length rows → does kind ≡ does row.kind → AreLengths lengths (set rows at (with_kind kind row))
kind_lengths rows lengths at kind row are there below same = record {
  counted = are.counted ∙ sym (length-set rows at (with_kind kind row));
  each = λ k under small.
      let counted = length-set rows at (with_kind kind row) in
      ends k (k + slice_index lengths k + 1) (are.each k (omega (arith, under, counted)) small);
}
  where
    at_it : (k end : ℕ) (is : EndsWithin rows k end) → is.place ≡ at → EndsWithin (set rows at (with_kind kind row)) k end
    at_it k end is here =
        let found : is.row ≡ row = same_Some is.row row (sym is.there ∙ ap (slice_get rows) here ∙ there) in
        let counted = length-set rows at (with_kind kind row) in
        record {
          place = is.place;
          from = is.from;
          under = is.under;
          within = omega (arith, is.within, counted);
          row = with_kind kind row;
          there = ap (slice_get (set rows at (with_kind kind row))) here ∙ get_set_same rows at (with_kind kind row) below;
          exit = ap goes_nowhere same ∙ sym (ap (λ (r : Row). is_exit r.kind) found) ∙ is.exit;
        }

    elsewhere : (k end : ℕ) (is : EndsWithin rows k end) → is.place ≢ at → EndsWithin (set rows at (with_kind kind row)) k end
    elsewhere k end is apart =
        let counted = length-set rows at (with_kind kind row) in
        record {
          place = is.place;
          from = is.from;
          under = is.under;
          within = omega (arith, is.within, counted);
          row = is.row;
          there = get_set_other rows at is.place (with_kind kind row) apart ∙ is.there;
          exit = is.exit;
        }

    ends : (k end : ℕ) → EndsWithin rows k end → EndsWithin (set rows at (with_kind kind row)) k end
    ends k end is = ⊎_elim (at_it k end is) (elsewhere k end is) (cases_eq is.place at)

-- the row before it is the first of no pair
not_first : (found : Option ℕ) (kind : Kind) (row : Row) → branches (does row.kind) ≡ false → IsBranchOn found (Some row) → IsBranchOn found (Some (with_kind kind row))
not_first None kind row work on = tt
not_first (Some condition) kind row work on = let branch : branches (does row.kind) ≡ true = ap (λ (k : Kind). branches (does k)) on.0 in absurd cc

-- it says the condition of the branch after it, or is the first of none
says : (kind : Kind) (row branch : Row) (condition : ℕ) (next : Option Row) → follows row.kind ≡ None → next ≡ Some branch → branch.kind ≡ Branch → condition ≡ branch.rs1 → (kind ≡ row.kind) ⊎ (follows kind ≡ Some condition) → IsBranchOn (follows kind) next
says kind row branch condition next alone there is same (inl as_was) = alone_on (follows kind) next (ap follows as_was ∙ alone)
says kind row branch condition next alone there is same (inr found) =
    subst (λ (o : Option ℕ). IsBranchOn o next) (sym found) (subst (λ (o : Option Row). IsBranchOn (Some condition) o) (sym there) (is, sym same))

-- the rows are those of their words
kind_rows : (rows : List Row) (areas : List Area) (memory : Memory) (first at : ℕ) (kind : Kind) (row branch : Row) (condition : ℕ) → AreRowsOf rows areas memory first → at < length rows → slice_get rows at ≡ Some row → slice_get rows (at + 1) ≡ Some branch
    → branch.kind ≡ Branch → condition ≡ branch.rs1 → does kind ≡ does row.kind → follows row.kind ≡ None → branches (does row.kind) ≡ false → (kind ≡ row.kind) ⊎ (follows kind ≡ Some condition) → AreRowsOf (set rows at (with_kind kind row)) areas memory first
kind_rows rows areas memory first at kind row branch condition are below there next is same work alone no_first found =
    put_rows rows areas memory first at (with_kind kind row) are below (kind_kept kind row areas memory (first + 4 * at) work (are.each at row there))
    (says kind row branch condition (slice_get rows (at + 1)) alone next is same found)
    (λ k before here was. not_first (follows before.kind) kind row no_first (subst (λ (o : Option Row). IsBranchOn (follows before.kind) o) (ap (slice_get rows) here ∙ there) (are.pairs k before was)))

-- the branch's row is made, and then the pair
pub paired : (areas : List Area) (memory : Memory) (first at address word condition : ℕ) (rows mid after : List Row) (old new : List ℕ) (kind was : Kind) (branch : Row)
    → AreRowsOf rows areas memory first → AreLengths old rows → at + 1 < length rows → was ≡ (get_or rows at row_of_zeros).kind → follows was ≡ None → branches (does was) ≡ false
    → fetched areas memory address ≡ Ok word → address ≡ first + 4 * (at + 1) → IsRowFor word branch → branch.kind ≡ Branch
    → mid ≡ set rows (at + 1) branch → AreCleared (at + 1) old new → condition ≡ branch.rs1 → does kind ≡ does was → (kind ≡ was) ⊎ (follows kind ≡ Some condition) → after ≡ with_kind_at at kind mid
    → AreMade areas memory first at rows old after new
unfolding with_kind_at
paired areas memory first at address word condition rows mid after old new kind was branch are lengths below was_is alone no_first stands place made is mid_is clear same work found after_is =
    subst (λ (l : List Row). AreMade areas memory first at rows old l new) (sym whole) (record {
      rows = kind_rows two areas memory first at kind row branch condition two_are below_two there next is same (work ∙ ap does was_is) (sym (ap follows was_is) ∙ alone) (sym (ap (λ (k : Kind). branches (does k)) was_is) ∙ no_first) said;
      lengths = kind_lengths two new at kind row (put_lengths rows old new (at + 1) branch lengths clear) there below_two (work ∙ ap does was_is);
      counted = length-set two at (with_kind kind row) ∙ length-set rows (at + 1) branch;
      same = λ k outside. get_set_other two at k (with_kind kind row) (λ e. ⊎_elim (λ before. absurd (omega (arith, before, e))) (λ over. absurd (omega (arith, over, e))) outside)
          ∙ get_set_other rows (at + 1) k branch (λ e. ⊎_elim (λ before. absurd (omega (arith, before, e))) (λ over. absurd (omega (arith, over, e))) outside);
      known = λ k under small. (clear.each k (omega (arith, under, lengths.counted)) small).0;
    })
  where
    two : List Row
    two = set rows (at + 1) branch

    row : Row
    row = get_or rows at row_of_zeros

    apart : at ≢ at + 1
    apart = λ e. absurd (omega (arith, e))

    there : slice_get two at ≡ Some row
    there = get_set_other rows (at + 1) at branch apart ∙ slice_get-get_or rows at row_of_zeros (omega (arith, below))

    next : slice_get two (at + 1) ≡ Some branch
    next = get_set_same rows (at + 1) branch below

    below_two : at < length two
    below_two = let counted = length-set rows (at + 1) branch in omega (arith, below, counted)

    said : (kind ≡ row.kind) ⊎ (follows kind ≡ Some condition)
    said = ⊎_elim (λ e. inl (e ∙ was_is)) inr found

    first_alone : (k : ℕ) (before : Row) → k + 1 ≡ at + 1 → slice_get rows k ≡ Some before → IsBranchOn (follows before.kind) (Some branch)
    first_alone k before here stands_there =
        let k_is : k ≡ at = omega (arith, here) in
        let is_row : row ≡ before = same_Some row before (sym (slice_get-get_or rows at row_of_zeros (omega (arith, below))) ∙ sym (ap (slice_get rows) k_is) ∙ stands_there) in
        alone_on (follows before.kind) (Some branch) (sym (ap (λ (r : Row). follows r.kind) is_row) ∙ sym (ap follows was_is) ∙ alone)

    two_are : AreRowsOf two areas memory first
    two_are = put_rows rows areas memory first (at + 1) branch are below (subst (λ (n : ℕ). IsKeptRow branch areas memory n) place (made_kept branch areas memory address word stands made))
        (alone_on (follows branch.kind) (slice_get rows (at + 1 + 1)) (ap follows is)) first_alone

    read : get_or two at row_of_zeros ≡ row
    read = same_Some (get_or two at row_of_zeros) row (sym (slice_get-get_or two at row_of_zeros below_two) ∙ there)

    whole : after ≡ set two at (with_kind kind row)
    whole = after_is ∙ ap (λ (l : List Row). set l at (with_kind kind (get_or l at row_of_zeros))) mid_is ∙ ap (λ (r : Row). set two at (with_kind kind r)) read
