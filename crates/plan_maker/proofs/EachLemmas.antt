-- A fact on each element of a list, by recursion.
use Rattle.std.proofs.Common.{◌≡◌, ℕ, zero, suc, ◌+◌, ◌<◌, List, [], ◌∷◌, ◌++◌, length, map, get_or, set, take, drop, refl, arith}
use Rattle.std.proofs.lemmas.List.Edits.{map_over_more}
use Rattle.std.specs.Prelude.{All}

-- each element has the property
abbrev pub Each : {X : Type 0} → (X → Type 0) → List X → Type 0
Each P [] = Unit {0}
Each P (x ∷ xs) = P x × Each P xs

-- what follows from two properties is one of each element that has both
pub each_both : {X : Type 0} (P Q R : X → Type 0) (xs : List X) → ((x : X) → P x → Q x → R x) → Each P xs → Each Q xs → Each R xs
each_both P Q R [] so p q = tt
each_both P Q R (x ∷ xs) so p q = (so x p.0 q.0, each_both P Q R xs so p.1 q.1)

-- what follows from a property is one of each element
pub each_then : {X : Type 0} (P R : X → Type 0) (xs : List X) → ((x : X) → P x → R x) → Each P xs → Each R xs
each_then P R [] so p = tt
each_then P R (x ∷ xs) so p = (so x p.0, each_then P R xs so p.1)

-- a property of each image
pub each_image : {X Y : Type 0} (P : Y → Type 0) (f : X → Y) (xs : List X) → Each (λ x. P (f x)) xs → Each P (map f xs)
each_image P f [] p = tt
each_image P f (x ∷ xs) p = (p.0, each_image P f xs p.1)

-- a property of each image is one of each element
pub each_source : {X Y : Type 0} (P : Y → Type 0) (f : X → Y) (xs : List X) → Each P (map f xs) → Each (λ x. P (f x)) xs
each_source P f [] p = tt
each_source P f (x ∷ xs) p = (p.0, each_source P f xs p.1)

-- the property at each place
pub all_from_each : {X : Type 0} (P : X → Type 0) (xs : List X) → Each P xs → All P xs
all_from_each P [] p = λ k d below. absurd (omega arith)
all_from_each P (x ∷ xs) p = at (all_from_each P xs p.1)
  where
    at : All P xs → All P (x ∷ xs)
    at rest zero d below = p.0
    at rest (suc k) d below = rest k d (omega arith)

-- the property of each element
pub each_from_all : {X : Type 0} (P : X → Type 0) (xs : List X) → All P xs → Each P xs
each_from_all P [] all = tt
each_from_all P (x ∷ xs) all = (all 0 x (omega arith), each_from_all P xs (λ k d below. all (suc k) d (omega arith)))

-- a property at each number is one of each element at each number
pub each_every : {X : Type 0} (P : ℕ → X → Type 0) (xs : List X) → ((n : ℕ) → Each (P n) xs) → Each (λ x. (n : ℕ) → P n x) xs
each_every P [] all = tt
each_every P (x ∷ xs) all = (λ n. (all n).0, each_every P xs (λ n. (all n).1))

-- what stands at a place, whatever stands past the end
get_or_default : {X : Type 0} (xs : List X) (i : ℕ) (d e : X) → i < length xs → get_or xs i d ≡ get_or xs i e
get_or_default [] i d e below = absurd (omega arith)
get_or_default (x ∷ xs) zero d e below = refl
get_or_default (x ∷ xs) (suc i) d e below = get_or_default xs i d e (omega arith)

-- one more element is changed
pub pass_more : {X : Type 0} (f : X → X) (xs ys : List X) (i : ℕ) (d : X) → i < length xs → i < length ys → ys ≡ map f (take i xs) ++ drop i xs
    → set ys i (f (get_or ys i d)) ≡ map f (take (i + 1) xs) ++ drop (i + 1) xs
pass_more f xs ys i d below within sofar = map_over_more f xs ys i (get_or ys i d) below sofar (get_or_default ys i d (get_or ys i d) within)
