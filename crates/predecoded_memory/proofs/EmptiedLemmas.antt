-- Rows that are emptied, one after another.
use Rattle.std.proofs.Common.{◌≡◌, ◌≢◌, ◌⊎◌, ℕ, zero, suc, ◌+◌, ◌<◌, ◌≤◌, List, [], ◌∷◌, length, length-set, set, get_or, Option, Some, None, refl, sym, ap, ◌∙◌, inl, inr, ⊎_elim, subst, arith}
use Rattle.std.specs.Prelude.{slice_get}
use Rattle.std.proofs.lemmas.Bool.{cases_eq, cases_lt}
use Rattle.std.proofs.lemmas.Option.{same_Some, slice_get-get_or}
use Rattle.predecoded_memory.specs.lemmas.SharesTerms.{AreEmptied, AreGone, IsLone, WasEmptied, emptied, row_of_zeros, with_empty}
use Rattle.predecode.specs.Kept.{IsBranchOn}
use Rattle.predecode.specs.Kinds.{follows}
use Rattle.predecode.specs.declared.kinds.Kind.TheVariants.{Branch}
use Rattle.predecode.specs.declared.rows.Row.{Row}

-- what stands at a place that was set, and at another
pub get_set_same : {X : Type 0} (xs : List X) (i : ℕ) (x : X) → i < length xs → slice_get (set xs i x) i ≡ Some x
get_set_same [] i x below = absurd (omega (arith, below))
get_set_same (y ∷ xs) zero x below = refl
get_set_same (y ∷ xs) (suc i) x below = get_set_same xs i x (omega (arith, below))

pub get_set_other : {X : Type 0} (xs : List X) (i j : ℕ) (x : X) → j ≢ i → slice_get (set xs i x) j ≡ slice_get xs j
get_set_other [] i j x ne = refl
get_set_other (y ∷ xs) zero zero x ne = absurd (ne refl)
get_set_other (y ∷ xs) zero (suc j) x ne = refl
get_set_other (y ∷ xs) (suc i) zero x ne = refl
get_set_other (y ∷ xs) (suc i) (suc j) x ne = get_set_other xs i j x (λ e. ne (ap suc e))

-- none is
pub none_gone : (number : ℕ) (rows : List Row) → AreGone number number rows rows
none_gone number rows = record { counted = refl; each = λ n row there. inl (there, cases_lt n number); rest = λ n outside. refl }

pub none_emptied : (number : ℕ) (rows : List Row) → AreEmptied number number rows rows
none_emptied number rows = record { counted = refl; each = λ n row there. inl (there, cases_lt n number); pairs = λ n row condition there is branch. branch }

-- a row that is read after one is emptied is it, or an old one
at_number : (rows : List Row) (number n : ℕ) (row : Row) → number < length rows → slice_get (with_empty number rows) n ≡ Some row → ((slice_get rows n ≡ Some row) × (n ≢ number)) ⊎ (WasEmptied rows n row × (n ≡ number))
unfolding with_empty
at_number rows number n row below there = ⊎_elim same other (cases_eq n number)
  where
    same : n ≡ number → ((slice_get rows n ≡ Some row) × (n ≢ number)) ⊎ (WasEmptied rows n row × (n ≡ number))
    same is = inr (
      record {
        before = get_or rows number row_of_zeros;
        there = ap (slice_get rows) is ∙ slice_get-get_or rows number row_of_zeros below;
        is = sym (same_Some (emptied (get_or rows number row_of_zeros)) row
            (sym (get_set_same rows number (emptied (get_or rows number row_of_zeros)) below) ∙ ap (slice_get (set rows number (emptied (get_or rows number row_of_zeros)))) (sym is) ∙ there));
      },
      is,
    )

    other : n ≢ number → ((slice_get rows n ≡ Some row) × (n ≢ number)) ⊎ (WasEmptied rows n row × (n ≡ number))
    other ne = inl (sym (get_set_other rows number n (emptied (get_or rows number row_of_zeros)) ne) ∙ there, ne)

elsewhere : (rows : List Row) (number n : ℕ) → n ≢ number → slice_get (with_empty number rows) n ≡ slice_get rows n
unfolding with_empty
elsewhere rows number n ne = get_set_other rows number n (emptied (get_or rows number row_of_zeros)) ne

as_many : (rows : List Row) (number : ℕ) → length (with_empty number rows) ≡ length rows
unfolding with_empty
as_many rows number = length-set rows number (emptied (get_or rows number row_of_zeros))

-- one is
pub one_gone : (rows : List Row) (number end : ℕ) → number < length rows → end ≡ number + 1 → AreGone number end rows (with_empty number rows)
one_gone rows number end below next = record {
  counted = as_many rows number;
  each = λ n row there. ⊎_elim (λ was. inl (was.0, outside n was.1)) (λ was. inr was.0) (at_number rows number n row below there);
  rest = λ n out. elsewhere rows number n (λ is. ⊎_elim (λ under. omega (arith, under, is)) (λ over. omega (arith, over, is, next)) out);
}
  where
    outside : (n : ℕ) → n ≢ number → (n < number) ⊎ (end ≤ n)
    outside n ne = ⊎_elim inl (λ over. inr (omega (arith, over, ne, next))) (cases_lt n number)

-- so are those after
pub more_gone : (begin mid end : ℕ) (old between new : List Row) → begin ≤ mid → mid ≤ end → AreGone begin mid old between → AreGone mid end between new → AreGone begin end old new
more_gone begin mid end old between new from to first second = record {
  counted = second.counted ∙ first.counted;
  each = λ n row there. at n row (second.each n row there);
  rest = λ n out. ⊎_elim (λ under. second.rest n (inl (omega (arith, under, from))) ∙ first.rest n (inl under)) (λ over. second.rest n (inr over) ∙ first.rest n (inr (omega (arith, over, to)))) out;
}
  where
    left : (n : ℕ) (row : Row) → (n < mid) ⊎ (end ≤ n) → ((slice_get old n ≡ Some row) × ((n < begin) ⊎ (mid ≤ n))) ⊎ WasEmptied old n row
        → ((slice_get old n ≡ Some row) × ((n < begin) ⊎ (end ≤ n))) ⊎ WasEmptied old n row
    left n row (inl below) (inl was) = inl (was.0, ⊎_elim inl (λ over. absurd (omega (arith, over, below))) was.1)
    left n row (inr over) (inl was) = inl (was.0, inr over)
    left n row outside (inr was) = inr was

    again : (n : ℕ) (row before : Row) → row ≡ emptied before → ((slice_get old n ≡ Some before) × ((n < begin) ⊎ (mid ≤ n))) ⊎ WasEmptied old n before → WasEmptied old n row
    again n row before is (inl was) = record { before = before; there = was.0; is = is }
    again n row before is (inr was) = record { before = was.before; there = was.there; is = is ∙ ap (λ (r : Row). emptied r) was.is }

    at : (n : ℕ) (row : Row) → ((slice_get between n ≡ Some row) × ((n < mid) ⊎ (end ≤ n))) ⊎ WasEmptied between n row
        → ((slice_get old n ≡ Some row) × ((n < begin) ⊎ (end ≤ n))) ⊎ WasEmptied old n row
    at n row (inl was) = left n row was.1 (first.each n row was.0)
    at n row (inr was) = inr (again n row was.before was.is (first.each n was.before was.there))

-- no row that was emptied is of a pair
pub no_pair : (row before : Row) (condition : ℕ) → row ≡ emptied before → follows row.kind ≡ Some condition → ⊥
no_pair row before condition is pair = let none : None ≡ Some condition = ap (λ (r : Row). follows r.kind) (sym is) ∙ pair in cc

-- nor is a branch
no_branch : (row : Row) → row.kind ≡ Branch → follows row.kind ≡ None
no_branch row is = ap follows is

-- no row stands before the first
pub first_lone : (rows : List Row) (begin : ℕ) → begin ≡ 0 → IsLone begin rows rows
first_lone rows begin is = record {
  counted = refl;
  each = λ n row there. inl there;
  branch = λ n row there branch. there;
  before = λ n row next there. absurd (omega (arith, next, is));
}

-- a branch before is left
pub branch_lone : (rows : List Row) (begin number : ℕ) (row : Row) → begin ≡ number + 1 → slice_get rows number ≡ Some row → row.kind ≡ Branch → IsLone begin rows rows
branch_lone rows begin number row next here branch = record {
  counted = refl;
  each = λ n other there. inl there;
  branch = λ n other there is. there;
  before = λ n other after there. no_branch other (ap (λ (r : Row). r.kind) (same_Some other row (sym there ∙ ap (slice_get rows) (same n after) ∙ here)) ∙ branch);
}
  where
    same : (n : ℕ) → n + 1 ≡ begin → n ≡ number
    same n after = omega (arith, after, next)

-- another row before is emptied
pub other_lone : (rows : List Row) (begin number : ℕ) (row : Row) → begin ≡ number + 1 → number < length rows → slice_get rows number ≡ Some row → (row.kind ≡ Branch → ⊥) → IsLone begin rows (with_empty number rows)
other_lone rows begin number row next below here other = record {
  counted = as_many rows number;
  each = λ n now there. ⊎_elim (λ was. inl was.0) (λ was. inr was.0) (at_number rows number n now below there);
  branch = λ n now there branch. elsewhere rows number n (λ is. other (ap (λ (r : Row). r.kind) (same_Some row now (sym here ∙ ap (slice_get rows) (sym is) ∙ there)) ∙ branch)) ∙ there;
  before = λ n now after there. ⊎_elim (λ was. absurd (was.1 (omega (arith, after, next)))) (λ was. ap (λ (r : Row). follows r.kind) was.0.is) (at_number rows number n now below there);
}

-- a branch is a row
branch_row : (condition : ℕ) (found : Option Row) → IsBranchOn (Some condition) found → (row : Row) × ((found ≡ Some row) × (row.kind ≡ Branch))
branch_row condition None is = absurd is
branch_row condition (Some row) is = (row, (refl, is.0))

-- where the row before them is no row of a pair, no row of a pair is left before those that are emptied
pub then_emptied : (begin end : ℕ) (old between new : List Row) → IsLone begin old between → AreGone begin end between new → AreEmptied begin end old new
then_emptied begin end old between new lone gone = record {
  counted = gone.counted ∙ lone.counted;
  each = λ n row there. at n row (gone.each n row there);
  pairs = λ n row condition there pair branch. stands n row condition there pair branch (cases_lt (n + 1) begin) (cases_lt (n + 1) end);
}
  where
    again : (n : ℕ) (row before : Row) → row ≡ emptied before → (slice_get old n ≡ Some before) ⊎ WasEmptied old n before → WasEmptied old n row
    again n row before is (inl was) = record { before = before; there = was; is = is }
    again n row before is (inr was) = record { before = was.before; there = was.there; is = is ∙ ap (λ (r : Row). emptied r) was.is }

    at : (n : ℕ) (row : Row) → ((slice_get between n ≡ Some row) × ((n < begin) ⊎ (end ≤ n))) ⊎ WasEmptied between n row
        → ((slice_get old n ≡ Some row) × ((n < begin) ⊎ (end ≤ n))) ⊎ WasEmptied old n row
    at n row (inl was) = ⊎_elim (λ left. inl (left, was.1)) inr (lone.each n row was.0)
    at n row (inr was) = inr (again n row was.before was.is (lone.each n was.before was.there))

    same : (n condition : ℕ) → (n + 1 < begin) ⊎ (end ≤ n + 1) → IsBranchOn (Some condition) (slice_get old (n + 1)) → IsBranchOn (Some condition) (slice_get new (n + 1))
    same n condition outside branch =
        let found = branch_row condition (slice_get old (n + 1)) branch in
        subst (λ (o : Option Row). IsBranchOn (Some condition) o) (found.1.0 ∙ sym (gone.rest (n + 1) outside ∙ lone.branch (n + 1) found.0 found.1.0 found.1.1)) branch

    before : (n : ℕ) (row : Row) (condition : ℕ) → begin ≤ n + 1 → n + 1 < end → follows row.kind ≡ Some condition → ((slice_get between n ≡ Some row) × ((n < begin) ⊎ (end ≤ n))) ⊎ WasEmptied between n row → ⊥
    before n row condition from to pair (inl was) =
        let none = lone.before n row (⊎_elim (λ under. omega (arith, under, from)) (λ over. absurd (omega (arith, over, to))) was.1) was.0 in
        cc
    before n row condition from to pair (inr was) = no_pair row was.before condition was.is pair

    stands : (n : ℕ) (row : Row) (condition : ℕ) → slice_get new n ≡ Some row → follows row.kind ≡ Some condition → IsBranchOn (Some condition) (slice_get old (n + 1))
        → (n + 1 < begin) ⊎ (begin ≤ n + 1) → (n + 1 < end) ⊎ (end ≤ n + 1) → IsBranchOn (Some condition) (slice_get new (n + 1))
    stands n row condition there pair branch (inl under) right = same n condition (inl under) branch
    stands n row condition there pair branch (inr from) (inr over) = same n condition (inr over) branch
    stands n row condition there pair branch (inr from) (inl to) = absurd (before n row condition from to pair (gone.each n row there))
