-- Lists of which one element is written, or all are changed.
use Rattle.std.proofs.Common.{◌≡◌, ◌≢◌, ℕ, zero, suc, ◌<◌, List, [], ◌∷◌, ◌++◌, length, set, get_or, refl, ap, arith}
use Rattle.std.specs.Prelude.{slice_get, slice_index_or, slice_set}
use Rattle.machine_model.specs.Lists.{all_of, each}

-- what the change of an element leaves of it
pub each_at : {X Y : Type 0} (part : X → Y) (f : ℕ → X → X) (xs : List X) (p : ℕ) (other : X) → ((x : X) → part (f p x) ≡ part x)
    → part (slice_index_or (each f xs) p other) ≡ part (slice_index_or xs p other)
each_at part f [] p other same = refl
each_at part f (x ∷ xs) zero other same = same x
each_at part f (x ∷ xs) (suc p) other same = each_at part (λ k. f (suc k)) xs p other same

-- an element that was set, and then changed with all others
pub at_each_set : {X : Type 0} (f : ℕ → X → X) (xs : List X) (p : ℕ) (x d : X) → p < length xs → get_or (each f (set xs p x)) p d ≡ f p x
at_each_set f [] p x d below = absurd (omega (arith, below))
at_each_set f (y ∷ ys) zero x d below = refl
at_each_set f (y ∷ ys) (suc p) x d below = at_each_set (λ k. f (suc k)) ys p x d (omega (arith, below))

-- one that is set after the change of all
pub set_each_set : {X : Type 0} (f : ℕ → X → X) (xs : List X) (p : ℕ) (x y : X) → set (each f (set xs p x)) p (f p y) ≡ each f (set xs p y)
set_each_set f [] p x y = refl
set_each_set f (z ∷ zs) zero x y = refl
set_each_set f (z ∷ zs) (suc p) x y = ap (λ more. f 0 z ∷ more) (set_each_set (λ k. f (suc k)) zs p x y)

-- another element than the one that is written
pub get_other : {X : Type 0} (xs : List X) (p q : ℕ) (new : X) → q ≢ p → slice_get (slice_set xs p new) q ≡ slice_get xs q
get_other [] p q new other = refl
get_other (x ∷ xs) zero zero new other = absurd (other refl)
get_other (x ∷ xs) zero (suc q) new other = refl
get_other (x ∷ xs) (suc p) zero new other = refl
get_other (x ∷ xs) (suc p) (suc q) new other = get_other xs p q new (λ e. other (ap suc e))

-- elements that add nothing
pub none_emitted : {X Y : Type 0} (xs : List X) → all_of {X = X} {Y = Y} (λ q x. []) xs ≡ []
none_emitted [] = refl
none_emitted {X} {Y} (x ∷ xs) = none_emitted {X = X} {Y = Y} xs

-- what numbers alone add stays where an element is written
pub same_set : {X Y : Type 0} (f : ℕ → List Y) (xs : List X) (p : ℕ) (new : X) → all_of (λ q x. f q) xs ≡ all_of (λ q x. f q) (slice_set xs p new)
same_set f [] p new = refl
same_set f (x ∷ xs) zero new = refl
same_set f (x ∷ xs) (suc p) new = ap (λ rest. f 0 ++ rest) (same_set (λ k. f (suc k)) xs p new)
