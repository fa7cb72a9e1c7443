-- The table of the conditions: it says of each condition and each of the codes whether it holds.
use Rattle.std.proofs.Common.{◌≡◌, refl, sym, ⊎_elim, arith}
use Rattle.std.proofs.lemmas.Bool.{and_parts, cases_eq}
use Rattle.std.specs.Prelude.{ℕ, zero, suc, ◌/◌, ◌^◌, ◌<◌, Bool, true, false, ◌&&◌, ◌==◌, slice_index, bit_and}
use Rattle.sparc_step.specs.Conditions.{holds, holds_below_eight}
use Rattle.sparc_step.specs.declared.conditions.TheConstants.{HELD}

-- two answers are the same
abbrev same : Bool → Bool → Bool
same true other = other
same false true = false
same false false = true

same_is : (one other : Bool) → same one other ≡ true → one ≡ other
same_is true other is = sym is
same_is false true is = is
same_is false false is = refl

-- each number below a bound passes
abbrev all_below : (ℕ → Bool) → ℕ → Bool
all_below passes zero = true
all_below passes (suc n) = passes n && all_below passes n

each_below : (passes : ℕ → Bool) (n k : ℕ) → all_below passes n ≡ true → k < n → passes k ≡ true
each_below passes zero k all below = absurd (omega arith)
each_below passes (suc n) k all below =
    let parts = and_parts (passes n) (all_below passes n) all in
    ⊎_elim (λ is. rw is parts.0) (λ ne. each_below passes n k parts.1 (omega arith)) (cases_eq k n)

-- what the table says of a condition
abbrev pub held : ℕ → ℕ → Bool
held condition icc = bit_and (slice_index HELD condition / 2 ^ icc) 1 == 1

-- it is right at each place
table_agrees : all_below (λ condition. all_below (λ icc. same (held condition icc) (holds condition icc)) 16) 16 ≡ true
unfolding holds holds_below_eight
table_agrees = refl

-- so it is right
pub held-holds : (condition icc : ℕ) → condition < 16 → icc < 16 → held condition icc ≡ holds condition icc
held-holds condition icc one four =
    same_is _ _ (each_below (λ i. same (held condition i) (holds condition i)) 16 icc
    (each_below (λ c. all_below (λ i. same (held c i) (holds c i)) 16) 16 condition table_agrees one) four)
