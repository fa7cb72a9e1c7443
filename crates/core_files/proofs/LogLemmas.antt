-- The entries that a log keeps.
use Rattle.std.proofs.Common.{◌≡◌, ℕ, ◌+◌, ◌-◌, ◌*◌, ◌<◌, ◌≤◌, false, true, length, refl, sym, ap, subst, ◌∙◌, arith, add-mul, one-mul, suc-mul, mul-le-mul_right}
use Rattle.std.specs.Prelude.{nat_lt, slice_get}
use Rattle.std.proofs.lemmas.Bool.Decides.{nat_tests}
use Rattle.xm_traces.specs.Ring.{IsKept, Kept, entry_at, first_kept}

-- each of them is found by its number
pub entry_there : {T : Type 0} (kept : Kept T) (place : ℕ) → IsKept kept → place < length kept.entries → entry_at (first_kept kept + place) kept ≡ slice_get kept.entries place
unfolding entry_at
entry_there kept place is below =
    let many : length kept.entries ≤ kept.next = omega (arith, is.count) in
    let not_old : nat_lt (first_kept kept + place) (first_kept kept) ≡ false = grind (arith, nat_tests) in
    let not_new : nat_lt (first_kept kept + place) kept.next ≡ true = grind (arith, nat_tests, many, below) in
    let at : first_kept kept + place - first_kept kept ≡ place = omega arith in
    rw (not_old, not_new, at) refl

-- an entry more
pub entry_more : (place size : ℕ) → (place + 1) * size ≡ place * size + size
entry_more place size = add-mul place 1 size ∙ ap (λ (k : ℕ). place * size + k) (one-mul size)

-- an entry that is kept has its bytes among those of all
pub entry_within : (place n size : ℕ) → place < n → place * size + size ≤ n * size
entry_within place n size below = subst (λ (k : ℕ). k ≤ n * size) (suc-mul place size) (mul-le-mul_right size below)

-- the entries that are kept and those that are missing have the bytes of all
pub all_entries : (n size : ℕ) → n ≤ 64 → n * size + (64 - n) * size ≡ 64 * size
all_entries n size few = let all : n + (64 - n) ≡ 64 = omega (arith, few) in sym (add-mul n (64 - n) size) ∙ ap (λ (k : ℕ). k * size) all
