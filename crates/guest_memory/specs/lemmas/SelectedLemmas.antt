-- What a processor leaves of all memories: it changes the bytes of the selected partition alone.
use Rattle.std.proofs.Common.{◌≡◌, ℕ, zero, suc, ◌<◌, List, [], ◌∷◌, length, set, get_or, refl, sym, ap, ◌∙◌, arith}
use Rattle.std.specs.Prelude.{remove}
use Rattle.std.specs.FinMap.{empty}
use Rattle.guest_bus.specs.Memory.{Others}
use Rattle.guest_memory.specs.Memories.{AreMemories, Memories, areas_at, map_at, others_of, with_map}

-- the rest of a list that is not empty
abbrev rest_of : {X : Type 0} → List X → List X
rest_of [] = []
rest_of (x ∷ xs) = xs

-- its first element
abbrev head_or : {X : Type 0} → X → List X → X
head_or other [] = other
head_or other (x ∷ xs) = x

-- a list that is another one without the element at a place, and has some element there, is the other one with that element
put_back : {X : Type 0} (new old : List X) (i : ℕ) (other : X) → i < length new → i < length old → remove new i ≡ remove old i → new ≡ set old i (get_or new i other)
put_back [] old i other within below same = absurd (omega (arith, within))
put_back (x ∷ new) [] i other within below same = absurd (omega (arith, below))
put_back {X} (x ∷ new) (y ∷ old) zero other within below same = ap (λ (rest : List X). x ∷ rest) same
put_back {X} (x ∷ new) (y ∷ old) (suc i) other within below same =
    let first : x ≡ y = ap (head_or x) same in
    ap (λ (z : X). z ∷ new) first
    ∙ ap (λ (rest : List X). y ∷ rest) (put_back new old i other (omega (arith, within)) (omega (arith, below)) (ap rest_of same))

-- an element that is put where it stands
put_same : {X : Type 0} (xs : List X) (i : ℕ) (x other : X) → x ≡ get_or xs i other → set xs i x ≡ xs
put_same [] i x other is = refl
put_same {X} (y ∷ xs) zero x other is = ap (λ (z : X). z ∷ xs) is
put_same {X} (y ∷ xs) (suc i) x other is = ap (λ (rest : List X). y ∷ rest) (put_same xs i x other is)

-- memories whose others are the same, and whose selected areas are, differ in the selected bytes alone
pub changed_selected : (old new : Memories) → AreMemories old → AreMemories new → others_of new ≡ others_of old → areas_at new.selected new ≡ areas_at old.selected old → new ≡ with_map old.selected (map_at new.selected new) old
changed_selected old new were are same areas_same =
    λ i. record { areas = areas i; maps = maps i; selected = number i }
  where
    number : new.selected ≡ old.selected
    number = ap (λ (o : Others). o.number) same

    within : old.selected < length new.areas
    within = omega (arith, are.selected, number)

    areas : new.areas ≡ old.areas
    areas =
        put_back new.areas old.areas old.selected [] within were.selected (sym (ap (remove new.areas) number) ∙ ap (λ (o : Others). o.areas) same)
        ∙ put_same old.areas old.selected (get_or new.areas old.selected []) [] (sym (ap (λ (k : ℕ). get_or new.areas k []) number) ∙ areas_same)

    maps : new.maps ≡ set old.maps old.selected (map_at new.selected new)
    maps =
        put_back new.maps old.maps old.selected empty (omega (arith, within, are.counted)) (omega (arith, were.selected, were.counted)) (sym (ap (remove new.maps) number) ∙ ap (λ (o : Others). o.memories) same)
        ∙ ap (λ (k : ℕ). set old.maps old.selected (get_or new.maps k empty)) (sym number)
