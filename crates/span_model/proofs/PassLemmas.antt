-- Passes over lists, one after the other, and those that do the same to all elements, or to all but one.
use Rattle.std.proofs.Common.{◌≡◌, ◌≢◌, ◌⊎◌, ℕ, zero, suc, ◌<◌, inl, inr, Bool, List, [], ◌∷◌, ◌++◌, length, map, Some, refl, sym, ap, ◌∙◌, arith}
use Rattle.std.proofs.lemmas.Bool.{eq-eqb, ne_eqb}
use Rattle.std.proofs.lemmas.List.{append-nil}
use Rattle.std.proofs.lemmas.Option.{same_Some}
use Rattle.std.specs.Prelude.{◌==◌, if◌then◌else◌, slice_get, slice_index_or, slice_set}
use Rattle.xm_base.specs.Options.{on}
use Rattle.machine_model.specs.Lists.{all_of, each}
use Rattle.span_model.proofs.ListLemmas.{each_same, none_of}

-- a pass that does the same to each element
pub each_map : {X : Type 0} (f : ℕ → X → X) (r : X → X) (xs : List X) → ((k : ℕ) (x : X) → f k x ≡ r x) → each f xs ≡ map r xs
each_map f r [] same = refl
each_map f r (x ∷ xs) same = rw (same 0 x, each_map (λ k. f (suc k)) r xs (λ k y. same (suc k) y)) refl

-- a pass that does the same to each element but one
pub each_but : {X : Type 0} (f : ℕ → X → X) (r : X → X) (xs : List X) (p : ℕ) (new : X) → ((k : ℕ) (x : X) → k ≢ p → f k x ≡ r x) → ((x : X) → f p x ≡ new)
    → each f xs ≡ slice_set (map r xs) p new
each_but f r [] p new same one = refl
each_but f r (x ∷ xs) zero new same one =
    rw (one x, each_map (λ k. f (suc k)) r xs (λ k y. same (suc k) y (λ e. absurd (omega (arith, e))))) refl
each_but f r (x ∷ xs) (suc p) new same one =
    rw (same 0 x (λ e. absurd (omega (arith, e))), each_but (λ k. f (suc k)) r xs p new (λ k y other. same (suc k) y (λ e. other (omega (arith, e)))) one) refl

-- a pass that leaves each element that is there
pub map_same : {X : Type 0} (r : X → X) (xs : List X) → ((k : ℕ) (x : X) → slice_get xs k ≡ Some x → r x ≡ x) → map r xs ≡ xs
map_same r [] same = refl
map_same r (x ∷ xs) same = rw (same 0 x refl, map_same r xs (λ k y there. same (suc k) y there)) refl

-- two passes, where the second makes up for the first
pub map_twice : {X : Type 0} (r1 r2 : X → X) (xs : List X) → ((x : X) → r2 (r1 x) ≡ r2 x) → map r2 (map r1 xs) ≡ map r2 xs
map_twice r1 r2 [] again = refl
map_twice r1 r2 (x ∷ xs) again = rw (again x, map_twice r1 r2 xs again) refl

-- two such passes, each with a write at the same place
pub map_set_twice : {X : Type 0} (r1 r2 : X → X) (xs : List X) (p : ℕ) (a b : X) → ((x : X) → r2 (r1 x) ≡ r2 x)
    → slice_set (map r2 (slice_set (map r1 xs) p a)) p b ≡ slice_set (map r2 xs) p b
map_set_twice r1 r2 [] p a b again = refl
map_set_twice r1 r2 (x ∷ xs) zero a b again = ap (λ rest. b ∷ rest) (map_twice r1 r2 xs again)
map_set_twice r1 r2 (x ∷ xs) (suc p) a b again = rw (again x, map_set_twice r1 r2 xs p a b again) refl

-- an element after a pass
pub get_map : {X : Type 0} (r : X → X) (xs : List X) (p : ℕ) (x : X) → slice_get xs p ≡ Some x → slice_get (map r xs) p ≡ Some (r x)
get_map r [] p x there = absurd cc
get_map r (y ∷ ys) zero x there = ap (on r) there
get_map r (y ∷ ys) (suc p) x there = get_map r ys p x there

-- an element that is written after a pass
pub get_set_map : {X : Type 0} (r : X → X) (xs : List X) (p : ℕ) (x new : X) → slice_get xs p ≡ Some x → slice_get (slice_set (map r xs) p new) p ≡ Some new
get_set_map r [] p x new there = absurd cc
get_set_map r (y ∷ ys) zero x new there = refl
get_set_map r (y ∷ ys) (suc p) x new there = get_set_map r ys p x new there

-- an element after a pass, where there is one
pub get_on : {X : Type 0} (r : X → X) (xs : List X) (p : ℕ) → slice_get (map r xs) p ≡ on r (slice_get xs p)
get_on r [] p = refl
get_on r (x ∷ xs) zero = refl
get_on r (x ∷ xs) (suc p) = get_on r xs p

-- a pass after another one, and one pass that does the same
pub each_after_map : {X Y : Type 0} (f g : ℕ → X → Y) (r : X → X) (xs : List X) → ((k : ℕ) (x : X) → slice_get xs k ≡ Some x → f k (r x) ≡ g k x)
    → each f (map r xs) ≡ each g xs
each_after_map f g r [] same = refl
each_after_map f g r (x ∷ xs) same = rw (same 0 x refl, each_after_map (λ k. f (suc k)) (λ k. g (suc k)) r xs (λ k y there. same (suc k) y there)) refl

-- what elements add after a pass
pub all_after_map : {X Y : Type 0} (f g : ℕ → X → List Y) (r : X → X) (xs : List X) → ((k : ℕ) (x : X) → f k (r x) ≡ g k x) → all_of f (map r xs) ≡ all_of g xs
all_after_map f g r [] same = refl
all_after_map f g r (x ∷ xs) same = rw (same 0 x, all_after_map (λ k. f (suc k)) (λ k. g (suc k)) r xs (λ k y. same (suc k) y)) refl

-- a pass that was done before a write
pub map_set_again : {X : Type 0} (r : X → X) (xs : List X) (p : ℕ) (a : X) → ((x : X) → r (r x) ≡ r x) → map r (slice_set (map r xs) p a) ≡ map r (slice_set xs p a)
map_set_again r [] p a again = refl
map_set_again r (x ∷ xs) zero a again = ap (λ rest. r a ∷ rest) (map_twice r r xs again)
map_set_again r (x ∷ xs) (suc p) a again = rw (again x, map_set_again r xs p a again) refl

-- an element that is found after a pass is what the pass made of one
pub got_mapped : {X : Type 0} (r : X → X) (xs : List X) (q : ℕ) (y : X) → slice_get (map r xs) q ≡ Some y → (x : X) × (y ≡ r x)
got_mapped r [] q y there = absurd cc
got_mapped r (x ∷ xs) zero y there = (x, sym (same_Some (r x) y there))
got_mapped r (x ∷ xs) (suc q) y there = got_mapped r xs q y there

-- one that is found after a pass and a write is found without the pass, too, or is what the pass made of one
pub got_set : {X : Type 0} (r : X → X) (xs : List X) (p q : ℕ) (a y : X) → slice_get (slice_set (map r xs) p a) q ≡ Some y
    → (slice_get (slice_set xs p a) q ≡ Some y) ⊎ ((x : X) × (y ≡ r x))
got_set r [] p q a y there = absurd cc
got_set r (x ∷ xs) zero zero a y there = inl there
got_set r (x ∷ xs) zero (suc q) a y there = inr (got_mapped r xs q y there)
got_set r (x ∷ xs) (suc p) zero a y there = inr (x, sym (same_Some (r x) y there))
got_set r (x ∷ xs) (suc p) (suc q) a y there = got_set r xs p q a y there

-- passes that do the same to each element
pub each_alike : {X : Type 0} (f g : ℕ → X → X) (xs : List X) → ((k : ℕ) (x : X) → f k x ≡ g k x) → each f xs ≡ each g xs
each_alike f g [] same = refl
each_alike f g (x ∷ xs) same = rw (same 0 x, each_alike (λ k. f (suc k)) (λ k. g (suc k)) xs (λ k y. same (suc k) y)) refl

-- two passes are one
pub each_twice : {X : Type 0} (f g : ℕ → X → X) (xs : List X) → each f (each g xs) ≡ each (λ k x. f k (g k x)) xs
each_twice f g [] = refl
each_twice f g (x ∷ xs) = ap (λ rest. f 0 (g 0 x) ∷ rest) (each_twice (λ k. f (suc k)) (λ k. g (suc k)) xs)

-- five passes are one
pub each_five : {X : Type 0} (a b c d e : ℕ → X → X) (xs : List X) → each a (each b (each c (each d (each e xs)))) ≡ each (λ k x. a k (b k (c k (d k (e k x))))) xs
each_five a b c d e xs =
    ap (λ ys. each a (each b (each c ys))) (each_twice d e xs)
    ∙ ap (λ ys. each a (each b ys)) (each_twice c (λ k x. d k (e k x)) xs)
    ∙ ap (each a) (each_twice b (λ k x. c k (d k (e k x))) xs)
    ∙ each_twice a (λ k x. b k (c k (d k (e k x)))) xs

-- a pass after another one that does not see the places
pub map_each : {X : Type 0} (r : X → X) (f : ℕ → X → X) (xs : List X) → map r (each f xs) ≡ each (λ k x. r (f k x)) xs
map_each r f [] = refl
map_each r f (x ∷ xs) = ap (λ rest. r (f 0 x) ∷ rest) (map_each r (λ k. f (suc k)) xs)

-- a pass that changes one element is a write of what it makes of that one
pub each_one : {X : Type 0} (f : ℕ → X → X) (one : X → X) (other : X) (xs : List X) (p : ℕ) → ((k : ℕ) (x : X) → k ≢ p → f k x ≡ x) → ((x : X) → f p x ≡ one x)
    → each f xs ≡ slice_set xs p (one (slice_index_or xs p other))
each_one f one other [] p same changed = refl
each_one f one other (x ∷ xs) zero same changed =
    rw (changed x, each_same (λ k. f (suc k)) xs (λ k y there. same (suc k) y (λ e. absurd (omega (arith, e))))) refl
each_one f one other (x ∷ xs) (suc p) same changed =
    rw (same 0 x (λ e. absurd (omega (arith, e))), each_one (λ k. f (suc k)) one other xs p (λ k y apart. same (suc k) y (λ e. apart (omega (arith, e)))) changed) refl

-- a write is a pass that changes one element
pub each_set : {X : Type 0} (xs : List X) (p : ℕ) (new : X) → each (λ k (x : X). if p == k then new else x) xs ≡ slice_set xs p new
each_set xs p new =
    each_one (λ k x. if p == k then new else x) (λ x. new) new xs p
    (λ k x apart. ap (λ (b : Bool). if b then new else x) (ne_eqb p k (λ e. apart (sym e))))
    (λ x. ap (λ (b : Bool). if b then new else x) (eq-eqb p p refl))

-- a pass over all elements but one that is written
pub set_each_but : {X : Type 0} (r : X → X) (xs : List X) (p : ℕ) (new : X) → slice_set (map r xs) p new ≡ each (λ k (x : X). if p == k then x else r x) (slice_set xs p new)
set_each_but r xs p new =
    sym (each_but (λ k x. if p == k then (if p == k then new else x) else r (if p == k then new else x)) r xs p new
    (λ k x apart. ap (λ (b : Bool). if b then (if b then new else x) else r (if b then new else x)) (ne_eqb p k (λ e. apart (sym e))))
    (λ x. ap (λ (b : Bool). if b then (if b then new else x) else r (if b then new else x)) (eq-eqb p p refl)))
    ∙ sym (each_twice (λ k x. if p == k then x else r x) (λ k x. if p == k then new else x) xs)
    ∙ ap (each (λ k x. if p == k then x else r x)) (each_set xs p new)

-- what elements add after a pass
pub all_after_each : {X Y : Type 0} (f : ℕ → X → List Y) (g : ℕ → X → X) (xs : List X) → all_of f (each g xs) ≡ all_of (λ k x. f k (g k x)) xs
all_after_each f g [] = refl
all_after_each f g (x ∷ xs) = ap (λ rest. f 0 (g 0 x) ++ rest) (all_after_each (λ k. f (suc k)) (λ k. g (suc k)) xs)

-- what elements add that add the same
pub all_alike : {X Y : Type 0} (f g : ℕ → X → List Y) (xs : List X) → ((k : ℕ) (x : X) → f k x ≡ g k x) → all_of f xs ≡ all_of g xs
all_alike f g [] same = refl
all_alike f g (x ∷ xs) same = rw (same 0 x, all_alike (λ k. f (suc k)) (λ k. g (suc k)) xs (λ k y. same (suc k) y)) refl

-- what elements add of which only one adds something
pub all_one : {X Y : Type 0} (f : ℕ → X → List Y) (other : X) (xs : List X) (p : ℕ) → p < length xs → ((k : ℕ) (x : X) → k ≢ p → f k x ≡ [])
    → all_of f xs ≡ f p (slice_index_or xs p other)
all_one f other [] p below none = absurd (omega (arith, below))
all_one f other (x ∷ xs) zero below none =
    ap (λ rest. f 0 x ++ rest) (none_of (λ k. f (suc k)) xs (λ k y. none (suc k) y (λ e. absurd (omega (arith, e))))) ∙ append-nil (f 0 x)
all_one f other (x ∷ xs) (suc p) below none =
    ap (λ first. first ++ all_of (λ k. f (suc k)) xs) (none 0 x (λ e. absurd (omega (arith, e))))
    ∙ all_one (λ k. f (suc k)) other xs p (omega (arith, below)) (λ k y apart. none (suc k) y (λ e. apart (omega (arith, e))))
