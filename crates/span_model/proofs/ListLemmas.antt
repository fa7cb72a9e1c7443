-- Passes over lists that leave all elements as they are, or add nothing.
use Rattle.std.proofs.Common.{◌≡◌, ℕ, suc, List, [], ◌∷◌, Some, refl}
use Rattle.std.specs.Prelude.{All, slice_get}
use Rattle.std.proofs.lemmas.Option.{get_or_from_slice_get, slice_get_within}
use Rattle.machine_model.specs.Lists.{all_of, each}

-- a fact on all elements holds of the one at a place
pub all_at : {X : Type 0} (P : X → Type 0) (xs : List X) (k : ℕ) (x : X) → All P xs → slice_get xs k ≡ Some x → P x
all_at P xs k x all there = rw (get_or_from_slice_get xs k x x there) at (all k x (slice_get_within xs k x there))

-- a pass that leaves each element that is there
pub each_same : {X : Type 0} (f : ℕ → X → X) (xs : List X) → ((k : ℕ) (x : X) → slice_get xs k ≡ Some x → f k x ≡ x) → each f xs ≡ xs
each_same f [] same = refl
each_same f (x ∷ xs) same = rw (same 0 x refl, each_same (λ k. f (suc k)) xs (λ k y there. same (suc k) y there)) refl

-- nothing is added by elements that each add nothing
pub none_of : {X Y : Type 0} (f : ℕ → X → List Y) (xs : List X) → ((k : ℕ) (x : X) → f k x ≡ []) → all_of f xs ≡ []
none_of f [] none = refl
none_of f (x ∷ xs) none = rw (none 0 x, none_of (λ k. f (suc k)) xs (λ k y. none (suc k) y)) refl
