-- The first of what the elements of a list add, found by a loop over the list.
use Rattle.std.proofs.Common.{◌≡◌, ℕ, ◌+◌, ◌<◌, ◌≤◌, true, false, List, [], ◌∷◌, ◌++◌, length, get_or, take, drop, Option, None, is_some, refl, sym, ◌∙◌, ap}
use Rattle.std.proofs.lemmas.List.{at_drop_more, at_drop_all, take_more}
use Rattle.xm_conf.specs.Along.{head_of, each_from, along_from}

-- a list that adds nothing first lets the next one go first
pub first-append_none : {X : Type 0} (a b : List X) → is_some (head_of a) ≡ false → head_of (a ++ b) ≡ head_of b
first-append_none [] b none = refl
first-append_none (x ∷ a) b none = cc

-- a list that adds something goes first
pub first-append_some : {X : Type 0} (a b : List X) → is_some (head_of a) ≡ true → head_of (a ++ b) ≡ head_of a
first-append_some [] b some = cc
first-append_some (x ∷ a) b some = refl

-- an element that adds nothing: the rest determines the first
pub each_goes_on : {X Y : Type 0} (f : ℕ → X → List Y) (xs : List X) (n : ℕ) (d x : X) (found r : Option Y) → n < length xs → x ≡ get_or xs n d
    → found ≡ head_of (f n x) → is_some found ≡ false → head_of (each_from f n (drop n xs)) ≡ r → head_of (each_from f (n + 1) (drop (n + 1) xs)) ≡ r
each_goes_on f xs n d x found r below is value none sofar =
    sym (first-append_none (f n x) (each_from f (n + 1) (drop (n + 1) xs)) (ap is_some (sym value) ∙ none))
    ∙ ap (λ y. head_of (f n y ++ each_from f (n + 1) (drop (n + 1) xs))) is
    ∙ sym (at_drop_more (λ rest. head_of (each_from f n rest)) xs n d below)
    ∙ sofar

-- an element that adds something is the first
pub each_stops : {X Y : Type 0} (f : ℕ → X → List Y) (xs : List X) (n : ℕ) (d x : X) (found r : Option Y) → n < length xs → x ≡ get_or xs n d
    → found ≡ head_of (f n x) → is_some found ≡ true → head_of (each_from f n (drop n xs)) ≡ r → found ≡ r
each_stops f xs n d x found r below is value some sofar =
    value
    ∙ sym (first-append_some (f n x) (each_from f (n + 1) (drop (n + 1) xs)) (ap is_some (sym value) ∙ some))
    ∙ ap (λ y. head_of (f n y ++ each_from f (n + 1) (drop (n + 1) xs))) is
    ∙ sym (at_drop_more (λ rest. head_of (each_from f n rest)) xs n d below)
    ∙ sofar

-- after the last element nothing is found
pub each_ends : {X Y : Type 0} (f : ℕ → X → List Y) (xs : List X) (n : ℕ) (r : Option Y) → length xs ≤ n → head_of (each_from f n (drop n xs)) ≡ r → None ≡ r
each_ends f xs n r past sofar = sym (at_drop_all (λ rest. head_of (each_from f n rest)) xs n past) ∙ sofar

-- an element that adds nothing beside those before it: the rest determines the first
pub along_goes_on : {X Y : Type 0} (f : List X → X → List Y) (xs : List X) (n : ℕ) (d x : X) (found r : Option Y) → n < length xs → x ≡ get_or xs n d
    → found ≡ head_of (f (take n xs) x) → is_some found ≡ false → head_of (along_from f (take n xs) (drop n xs)) ≡ r
    → head_of (along_from f (take (n + 1) xs) (drop (n + 1) xs)) ≡ r
along_goes_on f xs n d x found r below is value none sofar =
    ap (λ front. head_of (along_from f front (drop (n + 1) xs))) (take_more xs n d below)
    ∙ ap (λ y. head_of (along_from f (take n xs ++ y ∷ []) (drop (n + 1) xs))) (sym is)
    ∙ sym (first-append_none (f (take n xs) x) (along_from f (take n xs ++ x ∷ []) (drop (n + 1) xs)) (ap is_some (sym value) ∙ none))
    ∙ ap (λ y. head_of (f (take n xs) y ++ along_from f (take n xs ++ y ∷ []) (drop (n + 1) xs))) is
    ∙ sym (at_drop_more (λ rest. head_of (along_from f (take n xs) rest)) xs n d below)
    ∙ sofar

-- an element that adds something beside those before it is the first
pub along_stops : {X Y : Type 0} (f : List X → X → List Y) (xs : List X) (n : ℕ) (d x : X) (found r : Option Y) → n < length xs → x ≡ get_or xs n d
    → found ≡ head_of (f (take n xs) x) → is_some found ≡ true → head_of (along_from f (take n xs) (drop n xs)) ≡ r → found ≡ r
along_stops f xs n d x found r below is value some sofar =
    value
    ∙ sym (first-append_some (f (take n xs) x) (along_from f (take n xs ++ x ∷ []) (drop (n + 1) xs)) (ap is_some (sym value) ∙ some))
    ∙ ap (λ y. head_of (f (take n xs) y ++ along_from f (take n xs ++ y ∷ []) (drop (n + 1) xs))) is
    ∙ sym (at_drop_more (λ rest. head_of (along_from f (take n xs) rest)) xs n d below)
    ∙ sofar

-- after the last element nothing is found
pub along_ends : {X Y : Type 0} (f : List X → X → List Y) (xs : List X) (n : ℕ) (r : Option Y) → length xs ≤ n → head_of (along_from f (take n xs) (drop n xs)) ≡ r → None ≡ r
along_ends f xs n r past sofar = sym (at_drop_all (λ rest. head_of (along_from f (take n xs) rest)) xs n past) ∙ sofar

-- the outcome of a loop over numbered elements
pub ruleset each_loop = (each_goes_on, each_stops, each_ends)

-- the outcome of a loop over elements beside those before them
pub ruleset along_loop = (along_goes_on, along_stops, along_ends)

-- one list after another: what the first adds goes first
pub turn_first : {X : Type 0} (a b : List X) (found : Option X) → found ≡ head_of a → is_some found ≡ true → found ≡ head_of (a ++ b)
turn_first a b found value some = value ∙ sym (first-append_some a b (ap is_some (sym value) ∙ some))

-- one list after another: where the first reports nothing, the second goes first
pub turn_second : {X : Type 0} (a b : List X) (found next : Option X) → found ≡ head_of a → is_some found ≡ false → next ≡ head_of b → next ≡ head_of (a ++ b)
turn_second a b found next value none then = then ∙ sym (first-append_none a b (ap is_some (sym value) ∙ none))

-- what lists add in turn
pub ruleset in_turn = (turn_first, turn_second)
