-- A list of what breaks a rule says a fact: it is empty exactly where the fact holds.
use Rattle.std.proofs.Common.{◌≡◌, ℕ, suc, zero, ◌+◌, ◌<◌, ◌≤◌, Bool, true, false, cond, not, List, [], ◌∷◌, ◌++◌, length, get_or, take, Option, Some, None, refl, sym, subst, arith, append_assoc}
use Rattle.std.specs.Prelude.{Decides, All, AllPairs}
use Rattle.std.specs.List.{position_from}
use Rattle.std.proofs.lemmas.List.{append-nil, get_or-take, get_or_default, length-take}
use Rattle.std.proofs.lemmas.List.Elements.{All-cons, All-head, All-tail}
use Rattle.xm_base.specs.Options.{on}
use Rattle.xm_conf.specs.Along.{head_of, added_by_each, each_from, along, along_from, unless}
use Rattle.xm_conf.specs.Rules.{repeated, meets, items_where, beside}
use Rattle.xm_conf.specs.declared.item.Item.{Item}

-- a list is empty exactly where the fact holds
pub record Says {Y : Type 0} (ys : List Y) (P : Type 0) : Type 0 where
  pub sound : ys ≡ [] → P
  pub complete : P → ys ≡ []

-- the same list says what follows from the fact and leads to it
pub says-like : {Y : Type 0} {P Q : Type 0} (ys : List Y) → (P → Q) → (Q → P) → Says ys P → Says ys Q
says-like ys to from s = record { sound = λ none. to (s.sound none); complete = λ q. s.complete (from q) }

-- a test says the fact that it decides
pub says-unless : {Y : Type 0} {P : Type 0} (t : Bool) (y : Y) → Decides t P → Says (unless t y) P
says-unless {Y} {P} t y d = at t d
  where
    at : (b : Bool) → Decides b P → Says (unless b y) P
    at true d = record { sound = λ none. d.0 refl; complete = λ p. refl }
    at false d = record { sound = λ none. absurd (let no : ⊥ = cc in no); complete = λ p. absurd (let e : false ≡ true = d.1 p in let no : ⊥ = cc in no) }

-- two lists say both facts
pub says-append : {Y : Type 0} {P Q : Type 0} (a b : List Y) → Says a P → Says b Q → Says (a ++ b) (P × Q)
says-append {Y} {P} {Q} [] b sa sb = record { sound = λ none. (sa.sound refl, sb.sound none); complete = λ both. sb.complete both.1 }
says-append {Y} {P} {Q} (y ∷ a) b sa sb =
    record {
      sound = λ none. absurd (let no : ⊥ = cc in no);
      complete = λ both. absurd (let some : y ∷ a ≡ [] = sa.complete both.0 in let no : ⊥ = cc in no);
    }

-- what numbered elements add says what each says
pub says-each_from : {X Y : Type 0} (f : ℕ → X → List Y) (P : ℕ → X → Type 0) → ((n : ℕ) (x : X) → Says (f n x) (P n x)) → (k : ℕ) (xs : List X)
    → Says (each_from f k xs) ((n : ℕ) (d : X) → n < length xs → P (k + n) (get_or xs n d))
says-each_from f P s k [] = record { sound = λ none n d below. absurd (omega arith); complete = λ all. refl }
says-each_from {X} {Y} f P s k (x ∷ xs) =
    says-like (f k x ++ each_from f (k + 1) xs) to from (says-append (f k x) (each_from f (k + 1) xs) (s k x) (says-each_from f P s (k + 1) xs))
  where
    to : P k x × ((n : ℕ) (d : X) → n < length xs → P (k + 1 + n) (get_or xs n d)) → (n : ℕ) (d : X) → n < suc (length xs) → P (k + n) (get_or (x ∷ xs) n d)
    to both zero d below = let e : k ≡ k + 0 = omega arith in subst (λ (m : ℕ). P m x) e both.0
    to both (suc n) d below = let e : k + 1 + n ≡ k + suc n = omega arith in subst (λ (m : ℕ). P m (get_or xs n d)) e (both.1 n d (omega arith))

    from : ((n : ℕ) (d : X) → n < suc (length xs) → P (k + n) (get_or (x ∷ xs) n d)) → P k x × ((n : ℕ) (d : X) → n < length xs → P (k + 1 + n) (get_or xs n d))
    from all =
        let e : k + 0 ≡ k = omega arith in (
          subst (λ (m : ℕ). P m x) e (all 0 x (omega arith)),
          λ n d below. let e : k + suc n ≡ k + 1 + n = omega arith in subst (λ (m : ℕ). P m (get_or xs n d)) e (all (suc n) d (omega arith)),
        )

-- what numbered elements add says what each says, from number 0
pub says-each : {X Y : Type 0} (f : ℕ → X → List Y) (P : ℕ → X → Type 0) → ((n : ℕ) (x : X) → Says (f n x) (P n x)) → (xs : List X)
    → Says (added_by_each f xs) ((n : ℕ) (d : X) → n < length xs → P n (get_or xs n d))
says-each {X} {Y} f P s xs =
    says-like (added_by_each f xs)
    (λ all n d below. let e : 0 + n ≡ n = omega arith in subst (λ (m : ℕ). P m (get_or xs n d)) e (all n d below))
    (λ all n d below. let e : n ≡ 0 + n = omega arith in subst (λ (m : ℕ). P m (get_or xs n d)) e (all n d below))
    (says-each_from f P s 0 xs)

-- where the number does not matter, all elements say it
pub says-all : {X Y : Type 0} (f : ℕ → X → List Y) (P : X → Type 0) → ((n : ℕ) (x : X) → Says (f n x) (P x)) → (xs : List X) → Says (added_by_each f xs) (All P xs)
says-all f P s xs = says-each f (λ n x. P x) s xs

-- what elements add beside those before them says what each says
pub says-along_from : {X Y : Type 0} (f : List X → X → List Y) (P : List X → X → Type 0) → ((before : List X) (x : X) → Says (f before x) (P before x)) → (before xs : List X)
    → Says (along_from f before xs) ((n : ℕ) (d : X) → n < length xs → P (before ++ take n xs) (get_or xs n d))
says-along_from f P s before [] = record { sound = λ none n d below. absurd (omega arith); complete = λ all. refl }
says-along_from {X} {Y} f P s before (x ∷ xs) =
    says-like (f before x ++ along_from f (before ++ x ∷ []) xs) to from
    (says-append (f before x) (along_from f (before ++ x ∷ []) xs) (s before x) (says-along_from f P s (before ++ x ∷ []) xs))
  where
    to : P before x × ((n : ℕ) (d : X) → n < length xs → P ((before ++ x ∷ []) ++ take n xs) (get_or xs n d))
        → (n : ℕ) (d : X) → n < suc (length xs) → P (before ++ take n (x ∷ xs)) (get_or (x ∷ xs) n d)
    to both zero d below = subst (λ (front : List X). P front x) (sym (append-nil before)) both.0
    to both (suc n) d below = subst (λ (front : List X). P front (get_or xs n d)) (append_assoc before (x ∷ []) (take n xs)) (both.1 n d (omega arith))

    from : ((n : ℕ) (d : X) → n < suc (length xs) → P (before ++ take n (x ∷ xs)) (get_or (x ∷ xs) n d))
        → P before x × ((n : ℕ) (d : X) → n < length xs → P ((before ++ x ∷ []) ++ take n xs) (get_or xs n d))
    from all = (
      subst (λ (front : List X). P front x) (append-nil before) (all 0 x (omega arith)),
      λ n d below. subst (λ (front : List X). P front (get_or xs n d)) (sym (append_assoc before (x ∷ []) (take n xs))) (all (suc n) d (omega arith)),
    )

-- what elements add beside those before them says what each says, from the first on
pub says-along : {X Y : Type 0} (f : List X → X → List Y) (P : List X → X → Type 0) → ((before : List X) (x : X) → Says (f before x) (P before x)) → (xs : List X)
    → Says (along f xs) ((n : ℕ) (d : X) → n < length xs → P (take n xs) (get_or xs n d))
says-along f P s xs = says-along_from f P s [] xs

-- no place passes a test exactly where every element fails it
pub position-none : {X : Type 0} {R : X → Type 0} (test : X → Bool) → ((x : X) → Decides (not (test x)) (R x)) → (k : ℕ) (xs : List X)
    → (position_from test k xs ≡ None → All R xs) × (All R xs → position_from test k xs ≡ None)
position-none test d k [] = (λ none n e below. absurd (omega arith), λ all. refl)
position-none {X} {R} test d k (x ∷ xs) = at (test x) (d x) (position-none test d (k + 1) xs)
  where
    at : (b : Bool) → Decides (not b) (R x) → (position_from test (k + 1) xs ≡ None → All R xs) × (All R xs → position_from test (k + 1) xs ≡ None)
        → (cond b (Some k) (position_from test (k + 1) xs) ≡ None → All R (x ∷ xs)) × (All R (x ∷ xs) → cond b (Some k) (position_from test (k + 1) xs) ≡ None)
    at true here more = (λ none. absurd (let no : ⊥ = cc in no), λ all. absurd (let e : false ≡ true = here.1 (All-head R x xs all) in let no : ⊥ = cc in no))
    at false here more = (λ none. All-cons R x xs (here.0 refl) (more.0 none), λ all. more.1 (All-tail R x xs all))

-- an element that clashes with none before it breaks nothing
pub says-repeated : {X : Type 0} {R : X → X → Type 0} (rule : ℕ) (numbered : ℕ → Item) (clash : X → X → Bool) → ((a b : X) → Decides (not (clash a b)) (R a b))
    → (before : List X) (x : X) → Says (repeated rule numbered clash before x) (All (λ earlier. R earlier x) before)
says-repeated {X} {R} rule numbered clash d before x = at (position_from (λ earlier. clash earlier x) 0 before) (position-none (λ earlier. clash earlier x) (λ earlier. d earlier x) 0 before)
  where
    at : (found : Option ℕ) → (found ≡ None → All (λ earlier. R earlier x) before) × (All (λ earlier. R earlier x) before → found ≡ None)
        → Says (beside rule (numbered (length before)) (on numbered found)) (All (λ earlier. R earlier x) before)
    at None s = record { sound = λ none. s.0 refl; complete = λ all. refl }
    at (Some n) s = record { sound = λ none. absurd (let no : ⊥ = cc in no); complete = λ all. absurd (let e : Some n ≡ None = s.1 all in let no : ⊥ = cc in no) }

-- no item passes a test exactly where every element fails it
pub items-none : {X : Type 0} {R : X → Type 0} (test : X → Bool) → ((x : X) → Decides (not (test x)) (R x)) → (xs : List (Item × X))
    → (head_of (items_where test xs) ≡ None → All (λ x. R x.1) xs) × (All (λ x. R x.1) xs → head_of (items_where test xs) ≡ None)
items-none test d [] = (λ none n e below. absurd (omega arith), λ all. refl)
items-none {X} {R} test d (x ∷ xs) = at (test x.1) (d x.1) (items-none test d xs)
  where
    at : (b : Bool) → Decides (not b) (R x.1) → (head_of (items_where test xs) ≡ None → All (λ y. R y.1) xs) × (All (λ y. R y.1) xs → head_of (items_where test xs) ≡ None)
        → (head_of (cond b (x.0 ∷ []) [] ++ items_where test xs) ≡ None → All (λ y. R y.1) (x ∷ xs)) × (All (λ y. R y.1) (x ∷ xs) → head_of (cond b (x.0 ∷ []) [] ++ items_where test xs) ≡ None)
    at true here more = (λ none. absurd (let no : ⊥ = cc in no), λ all. absurd (let e : false ≡ true = here.1 (All-head (λ y. R y.1) x xs all) in let no : ⊥ = cc in no))
    at false here more = (λ none. All-cons (λ y. R y.1) x xs (here.0 refl) (more.0 none), λ all. more.1 (All-tail (λ y. R y.1) x xs all))

-- an element with its item that clashes with none before it breaks nothing
pub says-meets : {X : Type 0} {R : X → X → Type 0} (rule : ℕ) (clash : X → X → Bool) → ((a b : X) → Decides (not (clash a b)) (R a b))
    → (before : List (Item × X)) (x : Item × X) → Says (meets rule clash before x) (All (λ earlier. R earlier.1 x.1) before)
says-meets {X} {R} rule clash d before x = at (head_of (items_where (λ earlier. clash earlier x.1) before)) (items-none (λ earlier. clash earlier x.1) (λ earlier. d earlier x.1) before)
  where
    at : (found : Option Item) → (found ≡ None → All (λ earlier. R earlier.1 x.1) before) × (All (λ earlier. R earlier.1 x.1) before → found ≡ None)
        → Says (beside rule x.0 found) (All (λ earlier. R earlier.1 x.1) before)
    at None s = record { sound = λ none. s.0 refl; complete = λ all. refl }
    at (Some n) s = record { sound = λ none. absurd (let no : ⊥ = cc in no); complete = λ all. absurd (let e : Some n ≡ None = s.1 all in let no : ⊥ = cc in no) }

-- each element stands in a relation to those before it exactly where all pairs do
pub pairs-from_each : {X : Type 0} (R : X → X → Type 0) (xs : List X) → ((n : ℕ) (d : X) → n < length xs → All (λ earlier. R earlier (get_or xs n d)) (take n xs)) → AllPairs R xs
pairs-from_each {X} R xs all i j d before below =
    let within : i < length (take j xs) = omega (arith, length-take j xs) in
    subst (λ (y : X). R y (get_or xs j d)) (get_or-take j xs i d before) (all j d below i d within)

-- where all pairs stand in a relation, so does each element to those before it
pub pairs-to_each : {X : Type 0} (R : X → X → Type 0) (xs : List X) → AllPairs R xs → (n : ℕ) (d : X) → n < length xs → All (λ earlier. R earlier (get_or xs n d)) (take n xs)
pairs-to_each {X} R xs pairs n d below k e within =
    let before : k < n = omega (arith, length-take n xs) in
    subst (λ (y : X). R y (get_or xs n d)) (sym (get_or-take n xs k e before))
    (subst (λ (y : X). R y (get_or xs n d)) (get_or_default xs k d e (omega arith)) (pairs k n d before below))

-- elements each of which stands in a relation to those before it say so of all pairs
pub says-pairs : {X Y : Type 0} (R : X → X → Type 0) (f : List X → X → List Y) → ((before : List X) (x : X) → Says (f before x) (All (λ earlier. R earlier x) before))
    → (xs : List X) → Says (along f xs) (AllPairs R xs)
says-pairs R f s xs = says-like (along f xs) (pairs-from_each R xs) (pairs-to_each R xs) (says-along f (λ before x. All (λ earlier. R earlier x) before) s xs)

-- the same, where each element says something of its own beside
pub says-pairs_and : {X Y : Type 0} (R : X → X → Type 0) (Q : X → Type 0) (f : List X → X → List Y)
    → ((before : List X) (x : X) → Says (f before x) (All (λ earlier. R earlier x) before × Q x)) → (xs : List X) → Says (along f xs) (AllPairs R xs × All Q xs)
says-pairs_and R Q f s xs =
    says-like (along f xs)
    (λ all. (pairs-from_each R xs (λ n d below. (all n d below).0), λ n d below. (all n d below).1))
    (λ both n d below. (pairs-to_each R xs both.0 n d below, both.1 n d below))
    (says-along f (λ before x. All (λ earlier. R earlier x) before × Q x) s xs)

-- all numbers of elements are below a limit exactly where the list is no longer
pub within-limit : {X : Type 0} (xs : List X) (limit : ℕ) → ((n : ℕ) (d : X) → n < length xs → n < limit) → length xs ≤ limit
within-limit [] limit all = omega arith
within-limit (x ∷ xs) limit all = let at_limit : limit < suc (length xs) → limit < limit = all limit x in grind arith
