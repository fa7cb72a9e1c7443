-- Sets of partitions as the bits of a word.
use Rattle.std.proofs.Common.{◌≡◌, ℕ, ◌<◌, ◌≤◌, ◌*◌, ◌%◌, ◌/◌, ◌^◌, Bool, true, false, refl, sym, ap, ◌∙◌, arith, inl, inr}
use Rattle.std.specs.Prelude.{◌==◌, ◌≢◌, ◌⊎◌, bit_and}
use Rattle.std.specs.Int.{bit_at, w32}
use Rattle.std.proofs.lemmas.Bool.{eqb-true}
use Rattle.std.proofs.lemmas.Bool.Decides.{nat_tests}
use Rattle.std.proofs.lemmas.Nat.{le_or_l}
use Rattle.std.proofs.lemmas.Nat.Bits.{bit_at_above, bit_at_set_other, bit_at_set_same, bit_at-zero, shr_and_one}
use Rattle.xm_flows.specs.Masks.{members_of, with_member}

-- the test of a bit
pub bit_tested : (n i : ℕ) → bit_and (n / 2 ^ i) 1 ≡ bit_at n i
bit_tested n i = shr_and_one n i

pub bit_above : (n i : ℕ) → n < 2 ^ 32 → 32 ≤ i → bit_at n i ≡ 0
bit_above n i below above = bit_at_above n 32 i below above

-- the partition that was set is in the mask, and the others are as before
pub member_set : (mask p : ℕ) → p < 32 → members_of (with_member mask p) p ≡ true
unfolding members_of with_member
member_set mask p below = let set = bit_at_set_same w32 mask p below in ap (λ n. n == 1) set

pub member_other : (mask p q : ℕ) → p < 32 → q ≢ p → members_of (with_member mask p) q ≡ members_of mask q
unfolding members_of with_member
member_other mask p q below other = ap (λ n. n == 1) (bit_at_set_other w32 mask p below q other)

pub member_cases : (mask p q : ℕ) → p < 32 → members_of (with_member mask p) q ≡ true → (members_of mask q ≡ true) ⊎ (q ≡ p)
member_cases mask p q below is = by (q == p) refl
  where
    by : (b : Bool) → (q == p) ≡ b → (members_of mask q ≡ true) ⊎ (q ≡ p)
    by true same = inr (eqb-true q p same)
    by false other = inl (sym (member_other mask p q below (grind (arith, nat_tests))) ∙ is)

pub member_kept : (mask p q : ℕ) → p < 32 → members_of mask q ≡ true → members_of (with_member mask p) q ≡ true
member_kept mask p q below is = by (q == p) refl
  where
    by : (b : Bool) → (q == p) ≡ b → members_of (with_member mask p) q ≡ true
    by true same = ap (members_of (with_member mask p)) (eqb-true q p same) ∙ member_set mask p below
    by false other = member_other mask p q below (grind (arith, nat_tests)) ∙ is

pub mask_grows : (mask p : ℕ) → mask ≤ with_member mask p
unfolding with_member
mask_grows mask p = le_or_l mask (1 * 2 ^ p % 2 ^ 32)

-- nothing is in the empty mask
pub none_member : (q : ℕ) → members_of 0 q ≡ true → ⊥
unfolding members_of
none_member q is = let empty = bit_at-zero q in absurd (let fails : (0 == 1) ≡ true = ap (λ n. n == 1) (sym empty) ∙ is in cc)
