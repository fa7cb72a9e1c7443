-- The names of the partitions are names.
use Rattle.std.proofs.Common.{◌≡◌, ℕ, ◌+◌, ◌<◌, Bool, true, false, ◌++◌, refl, ap, ◌∙◌, get_or, arith}
use Rattle.std.specs.Prelude.{codes, decimal}
use Rattle.std.specs.Fmt.{digits}
use Rattle.std.specs.List.{list_all, range_with_len}
use Rattle.std.proofs.lemmas.List.Folds.{list_all_at}
use Rattle.std.proofs.lemmas.List.FromFn.{get_or-range_with_len, length-range_with_len}
use Rattle.xm_conf.specs.Name.{is_name}

-- a test that holds of all numbers below one holds of each
pub holds_below : (test : ℕ → Bool) (count p : ℕ) → list_all test (range_with_len 0 count) ≡ true → p < count → test p ≡ true
holds_below test count p all below = at (test p) refl
  where
    its : get_or (range_with_len 0 count) p 0 ≡ p
    its = let same : 0 + p ≡ p = omega arith in get_or-range_with_len 0 count p 0 below ∙ same

    at : (b : Bool) → test p ≡ b → test p ≡ true
    at true is = is
    at false is =
        let none : list_all test (range_with_len 0 count) ≡ false =
        list_all_at test (range_with_len 0 count) p 0 (omega (arith, below, length-range_with_len 0 count)) (ap test its ∙ is) in
        absurd cc

-- the name of a partition
pub is_named : (p : ℕ) → p < 16 → is_name (codes "G" ++ decimal p) ≡ true
unfolding digits
is_named p below = holds_below (λ i. is_name (codes "G" ++ decimal i)) 16 p refl below
