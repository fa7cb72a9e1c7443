-- What a list has whose element of a number was changed.
use Rattle.std.proofs.Common.{◌≡◌, ◌≢◌, ℕ, zero, suc, List, [], ◌∷◌, length, refl, ap}
use Rattle.std.specs.Prelude.{slice_get, option_map}
use Rattle.xm_ports.specs.Channels.{changed}

-- the element of that number is changed
pub slice_get-changed_same : {X : Type 0} (f : X → X) (n : ℕ) (xs : List X) → slice_get (changed f n xs) n ≡ option_map f (slice_get xs n)
slice_get-changed_same f n [] = refl
slice_get-changed_same f zero (x ∷ xs) = refl
slice_get-changed_same f (suc n) (x ∷ xs) = slice_get-changed_same f n xs

-- each other element stays
pub slice_get-changed_other : {X : Type 0} (f : X → X) (n p : ℕ) (xs : List X) → p ≢ n → slice_get (changed f n xs) p ≡ slice_get xs p
slice_get-changed_other f n p [] differs = refl
slice_get-changed_other f zero zero (x ∷ xs) differs = absurd (differs refl)
slice_get-changed_other f zero (suc p) (x ∷ xs) differs = refl
slice_get-changed_other f (suc n) zero (x ∷ xs) differs = refl
slice_get-changed_other f (suc n) (suc p) (x ∷ xs) differs = slice_get-changed_other f n p xs (λ same. differs (ap suc same))

-- the list is as long as before
pub length-changed : {X : Type 0} (f : X → X) (n : ℕ) (xs : List X) → length (changed f n xs) ≡ length xs
length-changed f n [] = refl
length-changed f zero (x ∷ xs) = refl
length-changed f (suc n) (x ∷ xs) = ap suc (length-changed f n xs)
