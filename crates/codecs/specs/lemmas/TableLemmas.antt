-- A table whose rows have their places as numbers: the row that a number has is the row of that number.
use Rattle.std.proofs.Common.{◌≡◌, ℕ, zero, suc, ◌+◌, List, [], ◌∷◌, Some, ap, arith}
use Rattle.std.specs.Prelude.{slice_get}

-- each row has its place as its number, the first this one
abbrev pub AreNumbered : {X : Type 0} → (X → ℕ) → ℕ → List X → Type 0
AreNumbered number from [] = Unit {0}
AreNumbered number from (x ∷ xs) = (number x ≡ from) × AreNumbered number (suc from) xs

-- the row at a place has its number
pub row_number : {X : Type 0} (number : X → ℕ) (from : ℕ) (xs : List X) → AreNumbered number from xs → (n : ℕ) (x : X) → slice_get xs n ≡ Some x → number x ≡ from + n
row_number number from [] are n x e = absurd cc
row_number {X} number from (y ∷ xs) are zero x e =
    let same : y ≡ x = cc in
    omega (arith, ap number same, are.0)
row_number number from (y ∷ xs) are (suc n) x e = omega (arith, row_number number (suc from) xs are.1 n x e)
