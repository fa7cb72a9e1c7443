-- The lowest interrupt that is due, as the lowest bit of those that are pending and not masked.
use Rattle.std.specs.Prelude.{◌≡◌, ℕ, zero, suc, ◌+◌, ◌-◌, ◌^◌, ◌<◌, ◌≤◌, min, Bool, true, false, ◌&&◌, ◌==◌, if◌then◌else◌, Some, None, bit_and}
use Rattle.std.specs.Int.{bit_at, bit_not, trailing_zeros, w32}
use Rattle.std.proofs.Common.{refl, sym, ◌∙◌, ap, arith, ⊎_elim}
use Rattle.std.proofs.lemmas.Bool.{cases_lt}
use Rattle.std.proofs.lemmas.Bool.Decides.{nat_tests}
use Rattle.std.proofs.lemmas.Nat.{and_le_l}
use Rattle.std.proofs.lemmas.Nat.Bits.{bit_at-lt, bit_at-trailing_zeros, bit_at-zero, bit_at_and, bit_at_not}
use Rattle.virt_traps.specs.Virtual.{IsLowestDue, NoneIsDue, VirtualTraps, due, first_due, is_interrupt_due}

-- where nothing is due from a number on
first_due-none : (v : VirtualTraps) (from count : ℕ) → ((n : ℕ) → from ≤ n → n < from + count → is_interrupt_due n v ≡ false) → first_due from count v ≡ None
first_due-none v from zero none = refl
first_due-none v from (suc count) none =
    rw (none from (omega arith) (omega arith)) (first_due-none v (suc from) count (λ n over under. none n (omega arith) (omega arith)))

-- where a number is the first that is due
first_due-some : (v : VirtualTraps) (from count n : ℕ) → from ≤ n → n < from + count → is_interrupt_due n v ≡ true → ((lower : ℕ) → lower < n → is_interrupt_due lower v ≡ false) → first_due from count v ≡ Some n
first_due-some v from zero n over under here before = absurd (omega arith)
first_due-some v from (suc count) n over under here before =
    at (is_interrupt_due from v) refl (λ beyond. first_due-some v (suc from) count n beyond (omega arith) here before)
  where
    at : (waits : Bool) → is_interrupt_due from v ≡ waits → (suc from ≤ n → first_due (suc from) count v ≡ Some n) → (if waits then Some from else first_due (suc from) count v) ≡ Some n
    at true is later = ⊎_elim (λ below. let no = before from below in cc) (λ above. let same : from ≡ n = omega arith in ap Some same) (cases_lt from n)
    at false is later = ⊎_elim (λ below. later (omega arith)) (λ above. let same : from ≡ n = omega arith in cc) (cases_lt from n)

pub due-none : (v : VirtualTraps) → NoneIsDue v → due v ≡ None
unfolding due
due-none v none = first_due-none v 0 32 (λ n over under. none n under)

pub due-lowest : (v : VirtualTraps) (n : ℕ) → IsLowestDue v n → due v ≡ Some n
unfolding due
due-lowest v n is = first_due-some v 0 32 n (omega arith) is.below is.waits is.lowest

-- a bit that is set and not set in another
one_only : (pending mask : ℕ) → pending < 2 → mask < 2 → ((pending == 1) && (mask == 0)) ≡ (min pending (1 - mask) == 1)
one_only pending mask below under = grind (arith, nat_tests)

module _ (v : VirtualTraps) (pending : v.pending < 2 ^ 32) (mask : v.mask < 2 ^ 32) where
  -- those that are pending and not masked
  abbrev waiting : ℕ
  waiting = bit_and v.pending (bit_not w32 v.mask)

  -- one that is due is one of them
  is_due-bit : (n : ℕ) → n < 32 → is_interrupt_due n v ≡ (bit_at waiting n == 1)
  is_due-bit n below =
      one_only (bit_at v.pending n) (bit_at v.mask n) (bit_at-lt v.pending n) (bit_at-lt v.mask n)
      ∙ ap (λ bit. bit == 1) (sym (bit_at_and v.pending (bit_not w32 v.mask) n ∙ ap (min (bit_at v.pending n)) (bit_at_not w32 v.mask n mask below)))

  pub none_waiting : waiting ≡ 0 → NoneIsDue v
  none_waiting none n below = is_due-bit n below ∙ ap (λ bits. bit_at bits n == 1) none ∙ ap (λ bit. bit == 1) (bit_at-zero n)

  pub lowest_waiting : 0 < waiting → IsLowestDue v (trailing_zeros w32 waiting)
  lowest_waiting some =
      let lowest = bit_at-trailing_zeros w32 waiting some (omega (arith, and_le_l v.pending (bit_not w32 v.mask))) in
      record {
        below = lowest.0;
        waits = is_due-bit _ lowest.0 ∙ ap (λ bit. bit == 1) lowest.1;
        lowest = λ lower under. is_due-bit lower (omega arith) ∙ ap (λ bit. bit == 1) (lowest.2 lower under);
      }

-- where one is the lowest that is due, one is due
pub some_due : (v : VirtualTraps) (n : ℕ) → IsLowestDue v n → NoneIsDue v → true ≡ false
some_due v n is none = sym is.waits ∙ none n is.below
