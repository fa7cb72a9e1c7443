-- Lemmas on the first place that passes a test.
use Rattle.std.proofs.Common.{◌≡◌, ℕ, suc, ◌+◌, Bool, true, false, cond, List, [], ◌∷◌, Option, Some, None, refl, ap, ◌∙◌, arith}
use Rattle.std.specs.Option.{option_map}
use Rattle.std.specs.List.{position, position_from}
use Rattle.std.proofs.lemmas.Iterator.Adapters.{position_from-zero}
use Rattle.xmcf_reader.specs.Bytes.{first_where}

-- a search that counts from a number finds the first place after it
pub position_from-first : {X : Type 0} (test : X → Bool) (from : ℕ) (xs : List X) → position_from test from xs ≡ option_map (λ k. from + k) (first_where test xs)
position_from-first test from [] = refl
position_from-first {X} test from (x ∷ xs) = at (test x) (position_from-first test (from + 1) xs)
  where
    shift : (o : Option ℕ) → option_map (λ k. from + 1 + k) o ≡ option_map (λ k. from + k) (option_map suc o)
    shift None = refl
    shift (Some k) = ap Some (omega arith)

    at : (b : Bool) → position_from test (from + 1) xs ≡ option_map (λ k. from + 1 + k) (first_where test xs)
        → cond b (Some from) (position_from test (from + 1) xs) ≡ option_map (λ k. from + k) (cond b (Some 0) (option_map suc (first_where test xs)))
    at true more = ap Some (omega arith)
    at false more = more ∙ shift (first_where test xs)

-- the first place is what a search by position gives
pub position_first : {X : Type 0} (test : X → Bool) (xs : List X) → position test xs ≡ first_where test xs
position_first test xs = position_from-zero test xs ∙ position_from-first test 0 xs ∙ same (first_where test xs)
  where
    same : (o : Option ℕ) → option_map (λ k. 0 + k) o ≡ o
    same None = refl
    same (Some k) = ap Some (omega arith)

-- what a search by position gives is the first place
pub found_first : {X : Type 0} (test : X → Bool) (xs : List X) (found : Option ℕ) → found ≡ position test xs → found ≡ first_where test xs
found_first test xs found is = is ∙ position_first test xs
