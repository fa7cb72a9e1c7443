-- Rows that are made, and lengths of blocks that stay true.
use borrow.Rule.Slice.PartMut.{put_mid}
use Rattle.std.proofs.Common.{◌≡◌, ◌≢◌, ◌⊎◌, ℕ, zero, suc, ◌+◌, ◌-◌, ◌*◌, ◌<◌, ◌≤◌, true, false, List, [], ◌∷◌, ◌++◌, length, length-append, length-drop, length-take, length-set, min, set, take, drop, replicate, Option, Some, None, inl, inr, ⊎_elim, refl, sym, ap, ◌∙◌, subst, arith}
use Rattle.std.proofs.lemmas.Bool.{cases_eq, cases_lt}
use Rattle.std.proofs.lemmas.List.{get_or-replicate, length-replicate}
use Rattle.std.proofs.lemmas.Option.{same_Some, slice_get_past, unwrap_or-slice_get}
use Rattle.std.proofs.lemmas.Slice.{between-put_mid, drop-put_mid, take-put_mid_below}
use Rattle.std.specs.Option.{unwrap_or}
use Rattle.std.specs.Prelude.{slice_get, slice_index}
use Rattle.guest_bus.specs.Memory.{Area, Memory}
use Rattle.predecode.specs.Kept.{IsBranchOn, IsKeptRow}
use Rattle.predecode.specs.Kinds.{follows, is_unmade}
use Rattle.predecode.specs.declared.rows.Row.{Row}
use Rattle.fast_loop.specs.Keeping.{AreLengths, AreRowsOf}
use Rattle.predecoded_memory.proofs.EmptiedLemmas.{get_set_other, get_set_same}
use Rattle.predecoded_memory.specs.lemmas.MakingTerms.{AreCleared}

-- what stands in parts of a list
pub get_take : {X : Type 0} (n i : ℕ) (xs : List X) → i < n → slice_get (take n xs) i ≡ slice_get xs i
get_take zero i xs below = absurd (omega (arith, below))
get_take (suc n) i [] below = refl
get_take (suc n) zero (x ∷ xs) below = refl
get_take (suc n) (suc i) (x ∷ xs) below = get_take n i xs (omega (arith, below))

pub get_drop : {X : Type 0} (n i : ℕ) (xs : List X) → slice_get (drop n xs) i ≡ slice_get xs (n + i)
get_drop zero i xs = let same : 0 + i ≡ i = omega arith in ap (slice_get xs) (sym same)
get_drop (suc n) i [] = sym (slice_get_past [] (suc n + i) (omega arith))
get_drop (suc n) i (x ∷ xs) = let same : suc n + i ≡ suc (n + i) = omega arith in get_drop n i xs ∙ ap (slice_get (x ∷ xs)) (sym same)

-- a part of a list that is written
module _ {X : Type 0} (a k : ℕ) (xs ys : List X) (fits : a + k ≤ length xs) (counted : length ys ≡ k) where
  pub put_counted : length (put_mid a k xs ys) ≡ length xs
  put_counted = omega (arith, fits, counted, length-append (take a xs) (ys ++ drop k (drop a xs)), length-append ys (drop k (drop a xs)), length-take a xs, length-drop k (drop a xs), length-drop a xs)

  pub put_before : (j : ℕ) → j < a → slice_get (put_mid a k xs ys) j ≡ slice_get xs j
  put_before j below =
      sym (get_take a j (put_mid a k xs ys) below)
      ∙ ap (λ (l : List X). slice_get l j) (take-put_mid_below a k xs ys a (omega arith) (omega (arith, fits)))
      ∙ get_take a j xs below

  pub put_within : (j : ℕ) → j < k → slice_get (put_mid a k xs ys) (a + j) ≡ slice_get ys j
  put_within j below =
      sym (get_drop a j (put_mid a k xs ys))
      ∙ sym (get_take (a + k - a) j (drop a (put_mid a k xs ys)) (omega (arith, below)))
      ∙ ap (λ (l : List X). slice_get l j) (between-put_mid a k xs ys (a + k) (omega (arith, fits)) (omega (arith, counted)))

  pub put_beyond : (j : ℕ) → a + k ≤ j → slice_get (put_mid a k xs ys) j ≡ slice_get xs j
  put_beyond j above =
      let same : j ≡ a + k + (j - (a + k)) = omega (arith, above) in
      ap (slice_get (put_mid a k xs ys)) same
      ∙ sym (get_drop (a + k) (j - (a + k)) (put_mid a k xs ys))
      ∙ ap (λ (l : List X). slice_get l (j - (a + k))) (drop-put_mid a k xs ys (a + k) (omega arith) (omega (arith, fits)) counted)
      ∙ get_drop (a + k) (j - (a + k)) xs
      ∙ sym (ap (slice_get xs) same)

-- the same for numbers that are read
pub read_same : (xs ys : List ℕ) (i j : ℕ) → slice_get xs i ≡ slice_get ys j → slice_index xs i ≡ slice_index ys j
read_same xs ys i j same = sym (unwrap_or-slice_get xs i 0) ∙ ap (λ (o : Option ℕ). unwrap_or o 0) same ∙ unwrap_or-slice_get ys j 0

-- lengths of which those of this many places are not known
pub cleared : (at from : ℕ) (old part : List ℕ) → at < length old → from ≡ at - min at 128 → part ≡ replicate (at + 1 - from) 255 → AreCleared at old (put_mid from (at + 1 - from) old part)
cleared at from old part below begins is = record {
  counted = put_counted from (at + 1 - from) old part fits counted;
  each = λ k under small. ⊎_elim (before k small) (λ above. ⊎_elim (within k small above) (beyond k small) (cases_lt k (at + 1))) (cases_lt k from);
}
  where
    counted : length part ≡ at + 1 - from
    counted = ap length is ∙ length-replicate (at + 1 - from) 255

    fits : from + (at + 1 - from) ≤ length old
    fits = omega (arith, below, begins)

    before : (k : ℕ) → slice_index (put_mid from (at + 1 - from) old part) k < 128 → k < from → (slice_index (put_mid from (at + 1 - from) old part) k ≡ slice_index old k) × ((k + 128 < at) ⊎ (at < k))
    before k small under = (read_same (put_mid from (at + 1 - from) old part) old k k (put_before from (at + 1 - from) old part fits counted k under), inl (omega (arith, under, begins)))

    within : (k : ℕ) → slice_index (put_mid from (at + 1 - from) old part) k < 128 → from ≤ k → k < at + 1 → (slice_index (put_mid from (at + 1 - from) old part) k ≡ slice_index old k) × ((k + 128 < at) ⊎ (at < k))
    within k small above under =
        let there : slice_index (put_mid from (at + 1 - from) old part) (from + (k - from)) ≡ slice_index part (k - from) =
        read_same (put_mid from (at + 1 - from) old part) part (from + (k - from)) (k - from) (put_within from (at + 1 - from) old part fits counted (k - from) (omega (arith, above, under))) in
        let value : slice_index part (k - from) ≡ 255 = ap (λ (l : List ℕ). slice_index l (k - from)) is ∙ get_or-replicate (at + 1 - from) (k - from) 255 0 (omega (arith, above, under)) in
        let place : from + (k - from) ≡ k = omega (arith, above) in
        let whole : slice_index (put_mid from (at + 1 - from) old part) k ≡ 255 = sym (ap (slice_index (put_mid from (at + 1 - from) old part)) place) ∙ there ∙ value in
        absurd (omega (arith, small, whole))

    beyond : (k : ℕ) → slice_index (put_mid from (at + 1 - from) old part) k < 128 → at + 1 ≤ k → (slice_index (put_mid from (at + 1 - from) old part) k ≡ slice_index old k) × ((k + 128 < at) ⊎ (at < k))
    beyond k small above = (read_same (put_mid from (at + 1 - from) old part) old k k (put_beyond from (at + 1 - from) old part fits counted k (omega (arith, above, begins))), inr (omega (arith, above)))

-- rows of which one is another row are those of the words, too
pub put_rows : (rows : List Row) (areas : List Area) (memory : Memory) (first at : ℕ) (row : Row) → AreRowsOf rows areas memory first → at < length rows → IsKeptRow row areas memory (first + 4 * at)
    → IsBranchOn (follows row.kind) (slice_get rows (at + 1)) → ((k : ℕ) (before : Row) → k + 1 ≡ at → slice_get rows k ≡ Some before → IsBranchOn (follows before.kind) (Some row)) → AreRowsOf (set rows at row) areas memory first
put_rows rows areas memory first at row are below kept next previous = record {
  aligned = are.aligned;
  inside = let counted = length-set rows at row in omega (arith, are.inside, counted);
  each = λ k found there. ⊎_elim (each_here k found there) (each_other k found there) (cases_eq k at);
  pairs = λ k found there. ⊎_elim (pair_here k found there) (pair_other k found there) (cases_eq k at);
}
  where
    is_row : (k : ℕ) (found : Row) → slice_get (set rows at row) k ≡ Some found → k ≡ at → row ≡ found
    is_row k found there is = same_Some row found (sym (get_set_same rows at row below) ∙ ap (slice_get (set rows at row)) (sym is) ∙ there)

    was_there : (k : ℕ) (found : Row) → slice_get (set rows at row) k ≡ Some found → k ≢ at → slice_get rows k ≡ Some found
    was_there k found there ne = sym (get_set_other rows at k row ne) ∙ there

    each_here : (k : ℕ) (found : Row) → slice_get (set rows at row) k ≡ Some found → k ≡ at → IsKeptRow found areas memory (first + 4 * k)
    each_here k found there is = subst (λ (n : ℕ). IsKeptRow found areas memory (first + 4 * n)) (sym is) (subst (λ (r : Row). IsKeptRow r areas memory (first + 4 * at)) (is_row k found there is) kept)

    each_other : (k : ℕ) (found : Row) → slice_get (set rows at row) k ≡ Some found → k ≢ at → IsKeptRow found areas memory (first + 4 * k)
    each_other k found there ne = are.each k found (was_there k found there ne)

    after_it : at + 1 ≢ at
    after_it = λ e. absurd (omega (arith, e))

    pair_here : (k : ℕ) (found : Row) → slice_get (set rows at row) k ≡ Some found → k ≡ at → IsBranchOn (follows found.kind) (slice_get (set rows at row) (k + 1))
    pair_here k found there is =
        subst (λ (n : ℕ). IsBranchOn (follows found.kind) (slice_get (set rows at row) (n + 1))) (sym is)
        (subst (λ (r : Row). IsBranchOn (follows r.kind) (slice_get (set rows at row) (at + 1))) (is_row k found there is)
        (subst (λ (o : Option Row). IsBranchOn (follows row.kind) o) (sym (get_set_other rows at (at + 1) row after_it)) next))

    pair_before : (k : ℕ) (found : Row) → slice_get rows k ≡ Some found → k + 1 ≡ at → IsBranchOn (follows found.kind) (slice_get (set rows at row) (k + 1))
    pair_before k found there is = subst (λ (o : Option Row). IsBranchOn (follows found.kind) o) (sym (ap (slice_get (set rows at row)) is ∙ get_set_same rows at row below)) (previous k found is there)

    pair_other : (k : ℕ) (found : Row) → slice_get (set rows at row) k ≡ Some found → k ≢ at → IsBranchOn (follows found.kind) (slice_get (set rows at row) (k + 1))
    pair_other k found there ne =
        let was = was_there k found there ne in
        ⊎_elim (pair_before k found was)
        (λ other. subst (λ (o : Option Row). IsBranchOn (follows found.kind) o) (sym (get_set_other rows at (k + 1) row other)) (are.pairs k found was))
        (cases_eq (k + 1) at)

-- the row before an empty one is the first of no pair
pub no_branch : (found : Option ℕ) (before row : Row) → is_unmade before.kind ≡ true → IsBranchOn found (Some before) → IsBranchOn found (Some row)
no_branch None before row is on = tt
no_branch (Some condition) before row is on = let branch : is_unmade before.kind ≡ false = ap is_unmade on.0 in absurd cc

-- a row that is the first of none
pub alone_on : (found : Option ℕ) (next : Option Row) → found ≡ None → IsBranchOn found next
alone_on found next is = subst (λ (o : Option ℕ). IsBranchOn o next) (sym is) tt

-- blocks of known lengths end as before where a row more is made and those lengths are cleared that it may change
pub put_lengths : (rows : List Row) (old new : List ℕ) (at : ℕ) (row : Row) → AreLengths old rows → AreCleared at old new → AreLengths new (set rows at row)
put_lengths rows old new at row are clear = record {
  counted = clear.counted ∙ are.counted ∙ sym (length-set rows at row);
  each = λ k under small.
      let counted = length-set rows at row in
      let below : k < length old = omega (arith, under, counted, are.counted) in
      let was = clear.each k below small in
      let ends = are.each k (omega (arith, under, counted)) (omega (arith, small, was.0)) in
      let apart : ends.place ≢ at = λ e. ⊎_elim (λ before. absurd (omega (arith, before, e, ends.under, small, was.0))) (λ above. absurd (omega (arith, above, e, ends.from))) was.1 in
      record {
        place = ends.place;
        from = ends.from;
        under = omega (arith, ends.under, was.0);
        within = omega (arith, ends.within, was.0, counted);
        row = ends.row;
        there = get_set_other rows at ends.place row apart ∙ ends.there;
        exit = ends.exit;
      };
}
