-- The areas of one partition: which of them has an address, and what they allow there.
use Rattle.std.proofs.Common.{◌≡◌, ℕ, zero, suc, ◌+◌, ◌-◌, ◌<◌, ◌≤◌, ◌⊎◌, Bool, true, false, ◌&&◌, ◌||◌, not, cond, List, [], ◌∷◌, length, get_or, Option, Some, None, refl, ap, ◌∙◌, inl, inr, ⊎_elim, subst, arith}
use Rattle.std.specs.Prelude.{All, AllPairs, IfSome, IsSomeAnd, slice_get}
use Rattle.std.specs.List.{position_from}
use Rattle.std.proofs.lemmas.Bool.{cases_lt}
use Rattle.std.proofs.lemmas.Bool.Decides.{nat_tests}
use Rattle.guest_bus.specs.Memory.{Area, holds_address, is_readable, is_writable}
use Rattle.guest_bus.specs.lemmas.MemoryLemmas.{covers-within}
use Rattle.guest_memory.specs.Flat.{area_in, listed}
use Rattle.guest_memory.specs.lemmas.FlatTerms.{entry_holds}
use Rattle.guest_memory.specs.Memories.{AreasApart, IsPlaced}
use Rattle.guest_memory.specs.declared.entry.Entry.{Entry}

-- an area that does not have the address begins above it, or ends at it or below
pub beside : (area : Area) (q : ℕ) → holds_address q area ≡ false → (q < area.start) ⊎ (area.start + area.size ≤ q)
beside area q not_held = ⊎_elim inl (λ from. ⊎_elim (λ under. absurd (inside from under)) inr (cases_lt q (area.start + area.size))) (cases_lt q area.start)
  where
    inside : area.start ≤ q → q < area.start + area.size → ⊥
    inside from under = let is : holds_address q area ≡ true = grind (arith, nat_tests) in cc

-- an area has an address among its own
pub covers_at : (area : Area) (q : ℕ) → area.start ≤ q → q < area.start + area.size → holds_address q area ≡ true
covers_at area q from under = grind (arith, nat_tests)

-- of two areas that are apart the one does not have an address of the other
pub not_both : (a b : Area) (q : ℕ) → AreasApart a b → holds_address q b ≡ true → (q < a.start) ⊎ (a.start + a.size ≤ q)
not_both a b q (inl before) holds = let is = covers-within b q holds in inr (omega (arith, is))
not_both a b q (inr following) holds = let is = covers-within b q holds in inl (omega (arith, is))

-- all but the first of areas that are apart are so
pub apart_tail : (a : Area) (areas : List Area) → AllPairs AreasApart (a ∷ areas) → AllPairs AreasApart areas
apart_tail a areas pairs = λ i j d before below. pairs (suc i) (suc j) d (omega arith) (omega (arith, below))

-- the first is apart from each later one
pub apart_first : (first : Area) (others : List Area) (k : ℕ) (found : Area) → AllPairs AreasApart (first ∷ others) → slice_get others k ≡ Some found → AreasApart first found
apart_first first others k found pairs is = at others k is (λ j below. pairs 0 (suc j) found (omega arith) (omega (arith, below)))
  where
    at : (xs : List Area) (j : ℕ) → slice_get xs j ≡ Some found → ((i : ℕ) → i < length xs → AreasApart first (get_or xs i found)) → AreasApart first found
    at [] j is each = absurd cc
    at (x ∷ xs) zero is each = let e : x ≡ found = cc in subst (λ (a : Area). AreasApart first a) e (each 0 (omega arith))
    at (x ∷ xs) (suc j) is each = at xs j is (λ i below. each (suc i) (omega (arith, below)))

-- where an area has the address, it may be read
pub readable_at : (areas : List Area) (k q : ℕ) (area : Area) → slice_get areas k ≡ Some area → holds_address q area ≡ true → is_readable areas q ≡ true
readable_at [] k q area is has = absurd cc
readable_at (x ∷ xs) zero q area is has = let e : x ≡ area = cc in let h : holds_address q x ≡ true = ap (holds_address q) e ∙ has in rw h
readable_at (x ∷ xs) (suc k) q area is has = let later = readable_at xs k q area is has in rw later (or_true (holds_address q x))
  where
    or_true : (b : Bool) → (b || true) ≡ true
    or_true true = refl
    or_true false = refl

-- where one area that is apart from all others has the address, none of the others lets it be written
none_writable : (areas : List Area) (q : ℕ) → ((k : ℕ) (d : Area) → k < length areas → holds_address q (get_or areas k d) ≡ false) → is_writable areas q ≡ false
none_writable [] q none = refl
none_writable (a ∷ areas) q none =
    let here : holds_address q a ≡ false = none 0 a (omega arith) in
    rw here (none_writable areas q (λ k d below. none (suc k) d (omega (arith, below))))

-- apart from the other side
apart_back : (a b : Area) → AreasApart a b → AreasApart b a
apart_back a b (inl before) = inr before
apart_back a b (inr following) = inl following

-- an address in one area is not in an area that is apart from it
covers_apart : (a b : Area) (q : ℕ) → AreasApart a b → holds_address q b ≡ true → holds_address q a ≡ false
covers_apart a b q apart has = ⊎_elim (λ below. grind (arith, nat_tests)) (λ above. grind (arith, nat_tests)) (not_both a b q apart has)

-- where the one area that has the address may only be read, it may not be written; else it may
pub writable_at : (areas : List Area) (k q : ℕ) (area : Area) → AllPairs AreasApart areas → slice_get areas k ≡ Some area → holds_address q area ≡ true → is_writable areas q ≡ not area.read_only
writable_at [] k q area apart is has = absurd cc
writable_at (x ∷ xs) zero q area apart is has =
    let e : x ≡ area = cc in
    let here : holds_address q x ≡ true = ap (holds_address q) e ∙ has in
    let later = none_writable xs q (λ i d below. covers_apart (get_or xs i d) x q (apart_back x (get_or xs i d) (apart 0 (suc i) d (omega arith) (omega (arith, below)))) here) in
    rw (here, later) (or_false (not x.read_only) ∙ ap (λ (y : Area). not y.read_only) e)
  where
    or_false : (b : Bool) → (b || false) ≡ b
    or_false true = refl
    or_false false = refl
writable_at (x ∷ xs) (suc k) q area apart is has =
    let out = covers_apart x area q (apart_first x xs k area apart is) has in
    rw out (writable_at xs k q area (apart_tail x xs apart) is has)

-- an area of the space is whole pages
pub placed_at : (areas : List Area) (k : ℕ) (area : Area) → All IsPlaced areas → slice_get areas k ≡ Some area → IsPlaced area
placed_at [] k area each is = absurd cc
placed_at (x ∷ xs) zero area each is = let e : x ≡ area = cc in subst (λ (a : Area). IsPlaced a) e (each 0 x (omega arith))
placed_at (x ∷ xs) (suc k) area each is = placed_at xs k area (λ i d below. each (suc i) d (omega (arith, below))) is

-- what may be written may be read
pub writable_readable : (areas : List Area) (q : ℕ) → is_readable areas q ≡ false → is_writable areas q ≡ false
writable_readable [] q none = refl
writable_readable (a ∷ areas) q none = at (holds_address q a) (writable_readable areas q) none
  where
    at : (b : Bool) → (is_readable areas q ≡ false → is_writable areas q ≡ false) → (b || is_readable areas q) ≡ false → ((b && not a.read_only) || is_writable areas q) ≡ false
    at true later e = absurd cc
    at false later e = later e

-- an area as a guest sees it
pub listed_at : (entries : List Entry) (k : ℕ) (entry : Entry) → slice_get entries k ≡ Some entry → slice_get (listed entries) k ≡ Some (area_in entry)
listed_at [] k entry is = absurd cc
listed_at (x ∷ xs) zero entry is = let e : x ≡ entry = cc in ap (λ (y : Entry). Some (area_in y)) e
listed_at (x ∷ xs) (suc k) entry is = listed_at xs k entry is

-- an area that was found has the address
pub found_at : (entries : List Entry) (q n : ℕ) → IfSome (position_from (entry_holds q) n entries) (λ k. (n ≤ k) × IsSomeAnd (slice_get entries (k - n)) (λ entry. entry_holds q entry ≡ true))
found_at [] q n = tt
found_at (x ∷ xs) q n = at (entry_holds q x) refl (position_from (entry_holds q) (n + 1) xs) (found_at xs q (n + 1))
  where
    at : (b : Bool) → entry_holds q x ≡ b → (found : Option ℕ) → IfSome found (λ k. (n + 1 ≤ k) × IsSomeAnd (slice_get xs (k - (n + 1))) (λ entry. entry_holds q entry ≡ true))
        → IfSome (cond b (Some n) found) (λ k. (n ≤ k) × IsSomeAnd (slice_get (x ∷ xs) (k - n)) (λ entry. entry_holds q entry ≡ true))
    at true has found later = let e : n - n ≡ 0 = omega arith in (omega arith, rw e has)
    at false has None later = tt
    at false has (Some k) later =
        let past : n + 1 ≤ k = later.0 in
        let e : k - n ≡ suc (k - (n + 1)) = omega arith in
        (omega arith, rw e later.1)

-- the area of the number that was found has the address
pub found_here : (entries : List Entry) (q k : ℕ) (entry : Entry) → Some k ≡ position_from (entry_holds q) 0 entries → slice_get entries k ≡ Some entry → entry_holds q entry ≡ true
found_here entries q k entry found is = at (position_from (entry_holds q) 0 entries) found (found_at entries q 0)
  where
    of : (o : Option Entry) → o ≡ Some entry → IsSomeAnd o (λ e. entry_holds q e ≡ true) → entry_holds q entry ≡ true
    of None e has = absurd cc
    of (Some x) e has = let same : entry ≡ x = cc in ap (entry_holds q) same ∙ has

    at : (o : Option ℕ) → Some k ≡ o → IfSome o (λ k. (0 ≤ k) × IsSomeAnd (slice_get entries (k - 0)) (λ e. entry_holds q e ≡ true)) → entry_holds q entry ≡ true
    at None e has = absurd cc
    at (Some j) e has = let same : j - 0 ≡ k = let i : k ≡ j = cc in omega arith in of (slice_get entries (j - 0)) (ap (slice_get entries) same ∙ is) has.1

-- where one was found the address may be read
pub readable_found : (entries : List Entry) (q k : ℕ) → Some k ≡ position_from (entry_holds q) 0 entries → is_readable (listed entries) q ≡ true
readable_found entries q k found = at (position_from (entry_holds q) 0 entries) found (found_at entries q 0)
  where
    of : (j : ℕ) (o : Option Entry) → slice_get entries j ≡ o → IsSomeAnd o (λ e. entry_holds q e ≡ true) → is_readable (listed entries) q ≡ true
    of j None is has = absurd has
    of j (Some entry) is has = readable_at (listed entries) j q (area_in entry) (listed_at entries j entry is) has

    at : (o : Option ℕ) → Some k ≡ o → IfSome o (λ k. (0 ≤ k) × IsSomeAnd (slice_get entries (k - 0)) (λ e. entry_holds q e ≡ true)) → is_readable (listed entries) q ≡ true
    at None e has = absurd cc
    at (Some j) e has = of (j - 0) (slice_get entries (j - 0)) refl has.1

-- where none was found the address may not be read
pub none_found : (entries : List Entry) (q n : ℕ) → position_from (entry_holds q) n entries ≡ None → is_readable (listed entries) q ≡ false
none_found [] q n none = refl
none_found (x ∷ xs) q n none = at (entry_holds q x) (position_from (entry_holds q) (n + 1) xs) (none_found xs q (n + 1)) none
  where
    at : (b : Bool) (found : Option ℕ) → (found ≡ None → is_readable (listed xs) q ≡ false) → cond b (Some n) found ≡ None → (b || is_readable (listed xs) q) ≡ false
    at true found later e = absurd cc
    at false found later e = later e
