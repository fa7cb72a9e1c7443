-- What lists add where other lists do.
use Rattle.std.proofs.Common.{◌≡◌, ℕ, ◌+◌, if◌then◌else◌, Bool, List, [], ◌∷◌, ◌++◌, map, sum_by, Option, Some, None, refl, sym, ap, ◌∙◌, arith}
use Rattle.std.specs.Prelude.{slice_get, option_map}
use Rattle.std.specs.List.{position_from}
use Rattle.std.proofs.lemmas.List.{length-map}
use Rattle.std.proofs.lemmas.List.Sums.{sum_by-cons}
use Rattle.std.proofs.lemmas.Option.{slice_get-map}
use Rattle.xm_base.specs.Options.{on}
use Rattle.xm_conf.specs.Along.{head_of, added_by_each, each_from, along, along_from}
use Rattle.xm_conf.specs.Rules.{repeated}
use Rattle.xm_conf.specs.declared.item.Item.{Item}

-- one list after another, of equal ones
pub both : {X : Type 0} {a b c d : List X} → a ≡ c → b ≡ d → a ++ b ≡ c ++ d
both {b = b} {c = c} front back = ap (λ more. more ++ b) front ∙ ap (λ more. c ++ more) back

-- two lists that are empty together
pub front_none : {X : Type 0} (a b : List X) → a ++ b ≡ [] → a ≡ []
front_none [] b none = refl
front_none (x ∷ a) b none = absurd (let no : ⊥ = cc in no)

-- two lists that are empty together
pub back_none : {X : Type 0} (a b : List X) → a ++ b ≡ [] → b ≡ []
back_none [] b none = none
back_none (x ∷ a) b none = absurd (let no : ⊥ = cc in no)

-- what the elements of a list add, made of those of another
pub each_from-map : {X Y Z : Type 0} (f : ℕ → Y → List Z) (g : X → Y) (n : ℕ) (xs : List X) → each_from f n (map g xs) ≡ each_from (λ k x. f k (g x)) n xs
each_from-map f g n [] = refl
each_from-map f g n (x ∷ xs) = ap (λ more. f n (g x) ++ more) (each_from-map f g (n + 1) xs)

-- elements that are made of others add what those do
pub each_from-made : {X Y Z : Type 0} (f : ℕ → Y → List Z) (h : ℕ → X → List Z) (g : X → Y) → ((n : ℕ) (x : X) → f n (g x) ≡ h n x)
    → (n : ℕ) (xs : List X) → each_from f n (map g xs) ≡ each_from h n xs
each_from-made f h g same n [] = refl
each_from-made f h g same n (x ∷ xs) = both (same n x) (each_from-made f h g same (n + 1) xs)

-- elements that are made of others add what those do
pub each-made : {X Y Z : Type 0} (f : ℕ → Y → List Z) (h : ℕ → X → List Z) (g : X → Y) → ((n : ℕ) (x : X) → f n (g x) ≡ h n x)
    → (xs : List X) → added_by_each f (map g xs) ≡ added_by_each h xs
each-made f h g same xs = each_from-made f h g same 0 xs

-- elements that add nothing are those that are made of them
pub made_kept : {X Y : Type 0} (f : ℕ → X → List Y) (g : X → X) → ((n : ℕ) (x : X) → f n x ≡ [] → g x ≡ x) → (n : ℕ) (xs : List X)
    → each_from f n xs ≡ [] → map g xs ≡ xs
made_kept f g keeps n [] none = refl
made_kept f g keeps n (x ∷ xs) none =
    ap (λ y. y ∷ map g xs) (keeps n x (front_none _ _ none)) ∙ ap (λ ys. x ∷ ys) (made_kept f g keeps (n + 1) xs (back_none _ _ none))

-- a list with one element more, made of another
pub map-push : {X Y : Type 0} (g : X → Y) (xs : List X) (x : X) → map g (xs ++ x ∷ []) ≡ map g xs ++ g x ∷ []
map-push g [] x = refl
map-push g (y ∷ xs) x = ap (λ more. g y ∷ more) (map-push g xs x)

-- elements that are made of others add beside those before them what the others do
pub along_from-made : {X Y Z : Type 0} (f : List Y → Y → List Z) (h : List X → X → List Z) (g : X → Y)
    → ((before : List X) (x : X) → f (map g before) (g x) ≡ h before x)
    → (before xs : List X) → along_from f (map g before) (map g xs) ≡ along_from h before xs
along_from-made f h g same before [] = refl
along_from-made f h g same before (x ∷ xs) =
    both (same before x)
    (ap (λ front. along_from f front (map g xs)) (sym (map-push g before x)) ∙ along_from-made f h g same (before ++ x ∷ []) xs)

-- elements that are made of others add beside those before them what the others do
pub along-made : {X Y Z : Type 0} (f : List Y → Y → List Z) (h : List X → X → List Z) (g : X → Y)
    → ((before : List X) (x : X) → f (map g before) (g x) ≡ h before x) → (xs : List X) → along f (map g xs) ≡ along h xs
along-made f h g same xs = along_from-made f h g same [] xs

-- the first of elements that are made of others
pub position_from-made : {X Y : Type 0} (p : Y → Bool) (q : X → Bool) (g : X → Y) → ((x : X) → p (g x) ≡ q x) → (n : ℕ) (xs : List X)
    → position_from p n (map g xs) ≡ position_from q n xs
position_from-made p q g same n [] = refl
position_from-made p q g same n (x ∷ xs) =
    ap (λ t. if t then Some n else position_from p (n + 1) (map g xs)) (same x)
    ∙ ap (λ rest. if q x then Some n else rest) (position_from-made p q g same (n + 1) xs)

-- an element that is made of another repeats what the other does
pub repeated-made : {X Y : Type 0} (rule : ℕ) (numbered : ℕ → Item) (p : Y → Y → Bool) (q : X → X → Bool) (g : X → Y)
    → ((a b : X) → p (g a) (g b) ≡ q a b) → (before : List X) (x : X) → repeated rule numbered p (map g before) (g x) ≡ repeated rule numbered q before x
repeated-made rule numbered p q g same before x =
    rw (length-map before g, position_from-made (λ a. p a (g x)) (λ a. q a x) g (λ a. same a x) 0 before) refl

-- what a function makes of an element that may be none
pub option_map-on : {X Y : Type 0} (g : X → Y) (found : Option X) → option_map g found ≡ on g found
option_map-on g None = refl
option_map-on g (Some x) = refl

-- an element of a list that is made of another
pub slice_get-on : {X Y : Type 0} (g : X → Y) (xs : List X) (n : ℕ) → slice_get (map g xs) n ≡ on g (slice_get xs n)
slice_get-on g xs n = slice_get-map g xs n ∙ option_map-on g (slice_get xs n)

-- the sum over a list that is made of another
pub sum_by-made : {X Y : Type 0} (f : Y → ℕ) (h : X → ℕ) (g : X → Y) → ((x : X) → f (g x) ≡ h x) → (xs : List X) → sum_by f (map g xs) ≡ sum_by h xs
sum_by-made f h g same [] = refl
sum_by-made f h g same (x ∷ xs) =
    omega (arith, same x, sum_by-made f h g same xs, sum_by-cons f (g x) (map g xs), sum_by-cons h x xs)

-- where the later of two lists matters only after an empty one
pub last_first : {X : Type 0} (a b c : List X) → (a ≡ [] → b ≡ c) → head_of (a ++ b) ≡ head_of (a ++ c)
last_first [] b c same = ap head_of (same refl)
last_first (x ∷ a) b c same = refl

-- lists with one prefix have one first, where the rests have one
pub back_first : {X : Type 0} (a b c : List X) → head_of b ≡ head_of c → head_of (a ++ b) ≡ head_of (a ++ c)
back_first [] b c same = same
back_first (x ∷ a) b c same = refl
