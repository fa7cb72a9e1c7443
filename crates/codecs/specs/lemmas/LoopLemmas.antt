-- Reading items one after the other, as a loop does: once for all loops.
use Rattle.std.proofs.Common.{◌≡◌, ℕ, suc, ◌-◌, ◌+◌, ◌≤◌, ◌<◌, ◌⊎◌, inl, inr, false, List, [], ◌∷◌, ◌++◌, Result, Ok, Err, refl, sym, ap, ◌∙◌, append_assoc, arith}
use Rattle.std.proofs.lemmas.List.{append-nil}
use Rattle.xm_base.specs.Cursor.{Place}
use Rattle.codecs.specs.Codec.{Codec, items_read, value_as}

-- what was read before, and what is still read
abbrev pub with_front : {F X : Type 0} → List X → Result (List X × Place) F → Result (List X × Place) F
with_front front read = value_as (λ xs. front ++ xs) read

-- an item more is at the end of the items that were read
regroup : {F X : Type 0} (front : List X) (x : X) (read : Result (List X × Place) F) → with_front front (value_as (λ xs. x ∷ xs) read) ≡ with_front (front ++ x ∷ []) read
regroup front x (Ok xs) = ap (λ all. Ok (all, xs.1)) (sym (append_assoc front (x ∷ []) xs.0))
regroup front x (Err fault) = refl

-- no item yet
pub items_begin : {F S X : Type 0} (item : S → Codec F X) (next : S → X → S) (count : ℕ) (state : S) (place : Place) (front : List X) → front ≡ []
    → with_front front (items_read (λ s. false) item next (count - 0) state place) ≡ items_read (λ s. false) item next count state place
items_begin {F} {S} {X} item next count state place front none = rw (none, all) (at (items_read (λ s. false) item next count state place))
  where
    all : count - 0 ≡ count
    all = omega arith

    at : (read : Result (List X × Place) F) → with_front [] read ≡ read
    at (Ok xs) = refl
    at (Err fault) = refl

-- an item more
pub items_on : {F S X : Type 0} (item : S → Codec F X) (next : S → X → S) (front : List X) (count i : ℕ) (state : S) (place : Place) (x : X) (after : Place) (total : Result (List X × Place) F)
    → i < count → (item state).read place ≡ Ok (x, after) → with_front front (items_read (λ s. false) item next (count - i) state place) ≡ total
    → with_front (front ++ x ∷ []) (items_read (λ s. false) item next (count - (i + 1)) (next state x) after) ≡ total
unfolding items_read
items_on item next front count i state place x after total below read so_far =
    let more : count - i ≡ suc (count - (i + 1)) = omega arith in
    let one : with_front front (items_read (λ s. false) item next (count - i) state place) ≡ with_front (front ++ x ∷ []) (items_read (λ s. false) item next (count - (i + 1)) (next state x) after)
    = rw (more, read) (regroup front x (items_read (λ s. false) item next (count - (i + 1)) (next state x) after)) in
    sym one ∙ so_far

-- an item that fails
pub items_fail : {F S X : Type 0} (item : S → Codec F X) (next : S → X → S) (front : List X) (count i : ℕ) (state : S) (place : Place) (memory fault : F) (total : Result (List X × Place) F)
    → i < count → (fault ≡ memory) ⊎ ((item state).read place ≡ Err fault) → with_front front (items_read (λ s. false) item next (count - i) state place) ≡ total → (fault ≡ memory) ⊎ (total ≡ Err fault)
unfolding items_read
items_fail item next front count i state place memory fault total below (inl out) so_far = inl out
items_fail item next front count i state place memory fault total below (inr read) so_far =
    let more : count - i ≡ suc (count - (i + 1)) = omega arith in
    let one : with_front front (items_read (λ s. false) item next (count - i) state place) ≡ Err fault = rw (more, read) refl in
    inr (sym so_far ∙ one)

-- all items
pub items_done : {F S X : Type 0} (item : S → Codec F X) (next : S → X → S) (front : List X) (count i : ℕ) (state : S) (place : Place) (total : Result (List X × Place) F)
    → count ≤ i → with_front front (items_read (λ s. false) item next (count - i) state place) ≡ total → total ≡ Ok (front, place)
unfolding items_read
items_done item next front count i state place total all so_far =
    let none : count - i ≡ 0 = omega arith in
    let one : with_front front (items_read (λ s. false) item next (count - i) state place) ≡ Ok (front, place) = rw none (ap (λ xs. Ok (xs, place)) (append-nil front)) in
    sym so_far ∙ one
