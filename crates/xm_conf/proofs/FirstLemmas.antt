-- What the items of a list add beside those before them, as what they add by their numbers.
use Rattle.std.proofs.Common.{◌≡◌, ℕ, ◌+◌, Bool, true, false, if◌then◌else◌, List, [], ◌∷◌, ◌++◌, length, take, Some, refl, sym, ap, ◌∙◌}
use Rattle.std.proofs.lemmas.List.{length_push}
use Rattle.std.specs.List.{position_from}
use Rattle.xm_conf.specs.Along.{head_of, along, along_from, added_by_each, each_from}

-- the first of two lists is that many of both
take_first : {X : Type 0} (a b : List X) → take (length a) (a ++ b) ≡ a
take_first [] b = refl
take_first (x ∷ a) b = ap (λ rest. x ∷ rest) (take_first a b)

-- an item stands at the end of what is before it, or at the start of what is after it
push_append : {X : Type 0} (a : List X) (x : X) (b : List X) → a ++ x ∷ b ≡ (a ++ x ∷ []) ++ b
push_append [] x b = refl
push_append (y ∷ a) x b = ap (λ rest. y ∷ rest) (push_append a x b)

-- so from any item on
along_each_from : {X Y : Type 0} (f : List X → X → List Y) (all before xs : List X) → all ≡ before ++ xs
    → along_from f before xs ≡ each_from (λ n x. f (take n all) x) (length before) xs
along_each_from f all before [] split = refl
along_each_from f all before (x ∷ rest) split =
    ap (λ front. f front x ++ along_from f (before ++ x ∷ []) rest) (sym (ap (take (length before)) split ∙ take_first before (x ∷ rest)))
    ∙ ap (λ more. f (take (length before) all) x ++ more)
    (along_each_from f all (before ++ x ∷ []) rest (split ∙ push_append before x rest) ∙ ap (λ n. each_from (λ m y. f (take m all) y) n rest) (length_push before x))

-- and of the whole list
pub along_each : {X Y : Type 0} (f : List X → X → List Y) (xs : List X) → along f xs ≡ added_by_each (λ n x. f (take n xs) x) xs
along_each f xs = along_each_from f xs [] xs refl

-- the number of the first item that passes a test is the first of what the items add that pass it
pub position_each : {X : Type 0} (test : X → Bool) (n : ℕ) (xs : List X) → position_from test n xs ≡ head_of (each_from (λ m x. if test x then m ∷ [] else []) n xs)
position_each test n [] = refl
position_each test n (x ∷ xs) = at (test x) (position_each test (n + 1) xs)
  where
    at : (b : Bool) → position_from test (n + 1) xs ≡ head_of (each_from (λ m y. if test y then m ∷ [] else []) (n + 1) xs)
        → (if b then Some n else position_from test (n + 1) xs) ≡ head_of ((if b then n ∷ [] else []) ++ each_from (λ m y. if test y then m ∷ [] else []) (n + 1) xs)
    at true later = refl
    at false later = later
