-- The bytes of areas that lie one after the other, by their addresses.
use borrow.Rule.Slice.PartMut.{put_mid}
use Rattle.std.proofs.Common.{◌≡◌, ℕ, zero, suc, ◌+◌, ◌-◌, ◌<◌, ◌≤◌, ◌⊎◌, Bool, true, false, ◌||◌, List, [], ◌∷◌, ◌++◌, length, take, drop, get_or, replicate, Some, None, refl, sym, ap, ◌∙◌, inl, inr, ⊎_elim, subst, arith, length-append, length-take, length-drop}
use Rattle.std.specs.Prelude.{AllPairs, slice_get}
use Rattle.std.specs.FinMap.{get, get-empty}
use Rattle.std.specs.Ordering.{nat_cmp}
use Rattle.std.proofs.lemmas.Bool.{cases_lt}
use Rattle.std.proofs.lemmas.List.{drop-drop, drop-take, length-take-le}
use Rattle.std.proofs.lemmas.Option.{slice_get-get_or}
use Rattle.std.proofs.lemmas.Slice.{drop-put_mid, take-put_mid_below}
use Rattle.guest_bus.specs.Memory.{Area, Memory, holds_address, is_readable, bytes_at, with_bytes}
use Rattle.guest_bus.specs.lemmas.MemoryFacts.{memory_of_bytes}
use Rattle.guest_bus.specs.lemmas.MemoryLemmas.{bytes_at-memory_of, bytes_at-same, covers-within, get-memory_of, get-with_bytes_above, get-with_bytes_below, get-with_bytes_within, same_memory, with_bytes-put_mid}
use Rattle.guest_bus.specs.Whole.{HoldsByte, IsMemoryOf}
use Rattle.guest_bus.specs.lemmas.WholeLemmas.{no_memory}
use Rattle.guest_memory.specs.Flat.{AllBytes, memory_in}
use Rattle.guest_memory.specs.Memories.{AreasApart, areas_size}
use Rattle.guest_memory.proofs.AreaLemmas.{apart_first, apart_tail, beside, covers_at, not_both}

-- what stands in the prefix of a list
pub slice_get-take : (n i : ℕ) (xs : List ℕ) → i < n → slice_get (take n xs) i ≡ slice_get xs i
slice_get-take zero i xs below = absurd (omega arith)
slice_get-take (suc n) i [] below = refl
slice_get-take (suc n) zero (x ∷ xs) below = refl
slice_get-take (suc n) (suc i) (x ∷ xs) below = slice_get-take n i xs (omega arith)

-- what stands after it
pub slice_get-drop : (n i : ℕ) (xs : List ℕ) → slice_get (drop n xs) i ≡ slice_get xs (n + i)
slice_get-drop zero i xs = let e : i ≡ zero + i = omega arith in ap (slice_get xs) e
slice_get-drop (suc n) i [] = refl
slice_get-drop (suc n) i (x ∷ xs) = let e : suc (n + i) ≡ suc n + i = omega arith in slice_get-drop n i xs ∙ ap (slice_get (x ∷ xs)) e

-- a prefix that runs into a second list
take_past : (xs ys : List ℕ) (n r : ℕ) → length xs ≡ n → take (n + r) (xs ++ ys) ≡ xs ++ take r ys
take_past [] ys zero r counted = let e : zero + r ≡ r = omega arith in ap (λ (k : ℕ). take k ys) e
take_past [] ys (suc n) r counted = absurd (omega (arith, counted))
take_past (x ∷ xs) ys zero r counted = absurd (omega (arith, counted))
take_past (x ∷ xs) ys (suc n) r counted =
    let e : suc n + r ≡ suc (n + r) = omega arith in
    ap (λ (k : ℕ). take k ((x ∷ xs) ++ ys)) e ∙ ap (λ (rest : List ℕ). x ∷ rest) (take_past xs ys n r (omega (arith, counted)))

-- a write into the prefix of a list
pub take-put_in : (m i n : ℕ) (xs new : List ℕ) → length new ≡ n → i + n ≤ m → m ≤ length xs → take m (put_mid i n xs new) ≡ put_mid i n (take m xs) new
take-put_in m zero n xs new counted fits within =
    let e : m ≡ n + (m - n) = omega arith in
    ap (λ (k : ℕ). take k (new ++ drop n xs)) e ∙ take_past new (drop n xs) n (m - n) counted
    ∙ ap (λ (rest : List ℕ). new ++ rest) (sym (drop-take n (m - n) xs) ∙ ap (λ (k : ℕ). drop n (take k xs)) (sym e))
take-put_in m (suc i) n [] new counted fits within = absurd (omega (arith, within))
take-put_in zero (suc i) n (x ∷ xs) new counted fits within = absurd (omega arith)
take-put_in (suc m) (suc i) n (x ∷ xs) new counted fits within =
    ap (λ (rest : List ℕ). x ∷ rest) (take-put_in m i n xs new counted (omega arith) (omega (arith, within)))

-- a write after it
pub drop-put_after : (m i n : ℕ) (xs new : List ℕ) → m ≤ length xs → drop m (put_mid (m + i) n xs new) ≡ put_mid i n (drop m xs) new
drop-put_after zero i n xs new within = let e : zero + i ≡ i = omega arith in ap (λ (k : ℕ). put_mid k n xs new) e
drop-put_after (suc m) i n [] new within = absurd (omega (arith, within))
drop-put_after (suc m) i n (x ∷ xs) new within =
    let e : suc m + i ≡ suc (m + i) = omega arith in
    ap (λ (k : ℕ). drop (suc m) (put_mid k n (x ∷ xs) new)) e ∙ drop-put_after m i n xs new (omega (arith, within))

-- a write of a part leaves as many bytes
pub length-put_mid : (i n : ℕ) (old new : List ℕ) → length new ≡ n → i + n ≤ length old → length (put_mid i n old new) ≡ length old
length-put_mid i n old new counted fits =
    omega (arith, length-append (take i old) (new ++ drop n (drop i old)), length-append new (drop n (drop i old)), length-take i old, length-drop n (drop i old), length-drop i old)

-- the prefix of bytes is bytes
pub bytes-take : (n : ℕ) (bytes : List ℕ) → AllBytes bytes → (i : ℕ) → get_or (take n bytes) i 0 < 256
bytes-take zero bytes small i = omega arith
bytes-take (suc n) [] small i = omega arith
bytes-take (suc n) (x ∷ xs) small zero = small 0
bytes-take (suc n) (x ∷ xs) small (suc i) = bytes-take n xs (λ j. small (suc j)) i

-- so is what stands after it
pub bytes-drop : (n : ℕ) (bytes : List ℕ) → AllBytes bytes → (i : ℕ) → get_or (drop n bytes) i 0 < 256
bytes-drop zero bytes small i = small i
bytes-drop (suc n) [] small i = omega arith
bytes-drop (suc n) (x ∷ xs) small i = bytes-drop n xs (λ j. small (suc j)) i

-- bytes after bytes
bytes-append : (xs ys : List ℕ) → AllBytes xs → AllBytes ys → (i : ℕ) → get_or (xs ++ ys) i 0 < 256
bytes-append [] ys few small i = small i
bytes-append (x ∷ xs) ys few small zero = few 0
bytes-append (x ∷ xs) ys few small (suc i) = bytes-append xs ys (λ j. few (suc j)) small i

-- bytes in which bytes are written
pub bytes-put_mid : (i n : ℕ) (bytes new : List ℕ) → AllBytes bytes → AllBytes new → AllBytes (put_mid i n bytes new)
bytes-put_mid i n bytes new small few =
    bytes-append (take i bytes) (new ++ drop n (drop i bytes)) (bytes-take i bytes small) (bytes-append new (drop n (drop i bytes)) few (bytes-drop n (drop i bytes) (bytes-drop i bytes small)))

-- zeros are bytes
pub bytes-zeros : (n i : ℕ) → get_or (replicate n 0) i 0 < 256
bytes-zeros zero i = omega arith
bytes-zeros (suc n) zero = omega arith
bytes-zeros (suc n) (suc i) = bytes-zeros n i

-- an area ends within all bytes
pub ends_within : (areas : List Area) (k : ℕ) (area : Area) → slice_get areas k ≡ Some area → areas_size (take k areas) + area.size ≤ areas_size areas
ends_within [] k area is = absurd cc
ends_within (x ∷ xs) zero area is = let e : x ≡ area = cc in let same : x.size ≡ area.size = ap (λ (a : Area). a.size) e in omega arith
ends_within (x ∷ xs) (suc k) area is = let later = ends_within xs k area is in omega arith

-- bytes that lie beside an address change nothing there
get-beside : (m : Memory) (start n : ℕ) (bytes : List ℕ) (q : ℕ) → length bytes ≡ n → ((q < start) ⊎ (start + n ≤ q)) → get (with_bytes m start bytes) q ≡ get m q
get-beside m start n bytes q counted (inl below) = get-with_bytes_below m start bytes q below
get-beside m start n bytes q counted (inr above) = get-with_bytes_above m start bytes q (omega (arith, counted))

-- as many bytes as the first area has
front : (x : Area) (xs : List Area) (bytes : List ℕ) → length bytes ≡ x.size + areas_size xs → length (take x.size bytes) ≡ x.size
front x xs bytes sized = length-take-le x.size bytes (omega (arith, sized))

-- and as many as the others have
following : (x : Area) (xs : List Area) (bytes : List ℕ) → length bytes ≡ x.size + areas_size xs → length (drop x.size bytes) ≡ areas_size xs
following x xs bytes sized = omega (arith, length-drop x.size bytes, sized)

-- what stands at an address of an area
pub get-memory_in : (areas : List Area) (k q : ℕ) (area : Area) (bytes : List ℕ) → AllPairs AreasApart areas → slice_get areas k ≡ Some area → length bytes ≡ areas_size areas → area.start ≤ q → q < area.start + area.size
    → get (memory_in areas bytes) q ≡ slice_get bytes (areas_size (take k areas) + (q - area.start))
get-memory_in [] k q area bytes apart is sized from under = absurd cc
get-memory_in (x ∷ xs) zero q area bytes apart is sized from under =
    let e : x ≡ area = cc in
    subst (λ (a : Area). a.start ≤ q → q < a.start + a.size → get (memory_in (x ∷ xs) bytes) q ≡ slice_get bytes (0 + (q - a.start))) e first from under
  where
    first : x.start ≤ q → q < x.start + x.size → get (memory_in (x ∷ xs) bytes) q ≡ slice_get bytes (0 + (q - x.start))
    first over below =
        let same : q - x.start ≡ 0 + (q - x.start) = omega arith in
        get-with_bytes_within (memory_in xs (drop x.size bytes)) x.start (take x.size bytes) (q - x.start) q (omega arith) (omega (arith, front x xs bytes sized))
        ∙ slice_get-take x.size (q - x.start) bytes (omega arith) ∙ ap (slice_get bytes) same
get-memory_in (x ∷ xs) (suc k) q area bytes apart is sized from under =
    let same : x.size + (areas_size (take k xs) + (q - area.start)) ≡ x.size + areas_size (take k xs) + (q - area.start) = omega arith in
    get-beside (memory_in xs (drop x.size bytes)) x.start x.size (take x.size bytes) q (front x xs bytes sized) (not_both x area q (apart_first x xs k area apart is) (covers_at area q from under))
    ∙ get-memory_in xs k q area (drop x.size bytes) (apart_tail x xs apart) is (following x xs bytes sized) from under
    ∙ slice_get-drop x.size (areas_size (take k xs) + (q - area.start)) bytes ∙ ap (slice_get bytes) same

-- nothing stands where no area has the address
pub get-memory_in_none : (areas : List Area) (bytes : List ℕ) (q : ℕ) → length bytes ≡ areas_size areas → is_readable areas q ≡ false → get (memory_in areas bytes) q ≡ None
get-memory_in_none [] bytes q sized none = get-empty nat_cmp q
get-memory_in_none (x ∷ xs) bytes q sized none = at (holds_address q x) refl (get-memory_in_none xs (drop x.size bytes) q (following x xs bytes sized)) none
  where
    at : (b : Bool) → holds_address q x ≡ b → (is_readable xs q ≡ false → get (memory_in xs (drop x.size bytes)) q ≡ None) → (b || is_readable xs q) ≡ false → get (memory_in (x ∷ xs) bytes) q ≡ None
    at true has later e = absurd cc
    at false has later e = get-beside (memory_in xs (drop x.size bytes)) x.start x.size (take x.size bytes) q (front x xs bytes sized) (beside x q has) ∙ later e

-- this many bytes that stand in one area
pub bytes_at-memory_in : (areas : List Area) (k q n byte : ℕ) (area : Area) (bytes : List ℕ) → AllPairs AreasApart areas → slice_get areas k ≡ Some area → length bytes ≡ areas_size areas → area.start ≤ q → q + n ≤ area.start + area.size
    → byte + area.start ≡ areas_size (take k areas) + q → bytes_at (memory_in areas bytes) q n ≡ take n (drop byte bytes)
bytes_at-memory_in areas k q n byte area bytes apart is sized from fits lies =
    let ends = ends_within areas k area is in
    let place : areas_size (take k areas) + (q - area.start) ≡ byte = omega arith in
    bytes_at-same (memory_in areas bytes) (memory_of_bytes area.start (drop (areas_size (take k areas)) bytes)) q n (λ p over under.
    get-memory_in areas k p area bytes apart is sized (omega arith) (omega arith) ∙ sym (slice_get-drop (areas_size (take k areas)) (p - area.start) bytes)
    ∙ sym (get-memory_of area.start (drop (areas_size (take k areas)) bytes) (p - area.start) p (omega arith)))
    ∙ bytes_at-memory_of area.start (drop (areas_size (take k areas)) bytes) (q - area.start) q n (omega arith) (omega (arith, length-drop (areas_size (take k areas)) bytes, ends, sized))
    ∙ ap (take n) (drop-drop (q - area.start) (areas_size (take k areas)) bytes ∙ ap (λ (i : ℕ). drop i bytes) place)

-- the memory is that of the areas
pub whole_in : (areas : List Area) (bytes : List ℕ) → length bytes ≡ areas_size areas → AllBytes bytes → IsMemoryOf areas (memory_in areas bytes)
whole_in [] bytes sized small = no_memory
whole_in (x ∷ xs) bytes sized small = record {
  held = held (whole_in xs (drop x.size bytes) (following x xs bytes sized) (bytes-drop x.size bytes small));
  nothing = λ q. get-memory_in_none (x ∷ xs) bytes q sized;
}
  where
    here : (q : ℕ) → holds_address q x ≡ true → HoldsByte (memory_in (x ∷ xs) bytes) q
    here q has =
        let is = covers-within x q has in
        let found = get-with_bytes_within (memory_in xs (drop x.size bytes)) x.start (take x.size bytes) (q - x.start) q (omega (arith, is)) (omega (arith, is, front x xs bytes sized))
        ∙ slice_get-get_or (take x.size bytes) (q - x.start) 0 (omega (arith, is, front x xs bytes sized)) in
        rw found (bytes-take x.size bytes small (q - x.start))

    at : IsMemoryOf xs (memory_in xs (drop x.size bytes)) → (q : ℕ) (b : Bool) → holds_address q x ≡ b → (b || is_readable xs q) ≡ true → HoldsByte (memory_in (x ∷ xs) bytes) q
    at later q true has e = here q has
    at later q false has e = rw (get-beside (memory_in xs (drop x.size bytes)) x.start x.size (take x.size bytes) q (front x xs bytes sized) (beside x q has)) (later.held q e)

    held : IsMemoryOf xs (memory_in xs (drop x.size bytes)) → (q : ℕ) → is_readable (x ∷ xs) q ≡ true → HoldsByte (memory_in (x ∷ xs) bytes) q
    held later q readable = at later q (holds_address q x) refl readable

-- what stands at an address after a write depends on what stood there alone
with_bytes-agree : (m n : Memory) (a : ℕ) (bs : List ℕ) (q : ℕ) → get m q ≡ get n q → get (with_bytes m a bs) q ≡ get (with_bytes n a bs) q
with_bytes-agree m n a bs q same = ⊎_elim below (λ from. ⊎_elim (within from) above (cases_lt q (a + length bs))) (cases_lt q a)
  where
    below : q < a → get (with_bytes m a bs) q ≡ get (with_bytes n a bs) q
    below h = get-with_bytes_below m a bs q h ∙ same ∙ sym (get-with_bytes_below n a bs q h)

    above : a + length bs ≤ q → get (with_bytes m a bs) q ≡ get (with_bytes n a bs) q
    above h = get-with_bytes_above m a bs q h ∙ same ∙ sym (get-with_bytes_above n a bs q h)

    within : a ≤ q → q < a + length bs → get (with_bytes m a bs) q ≡ get (with_bytes n a bs) q
    within from h = get-with_bytes_within m a bs (q - a) q (omega arith) (omega arith) ∙ sym (get-with_bytes_within n a bs (q - a) q (omega arith) (omega arith))

-- a write into bytes that were written is a write of bytes that were changed
with_bytes-part : (m : Memory) (a : ℕ) (old new : List ℕ) (i q n : ℕ) → q ≡ a + i → length new ≡ n → i + n ≤ length old → with_bytes m a (put_mid i n old new) ≡ with_bytes (with_bytes m a old) q new
with_bytes-part m a old new i q n lies counted fits = same_memory _ _ (λ p. ⊎_elim (below p) (λ from. ⊎_elim (within p from) (above p) (cases_lt p (a + length old))) (cases_lt p a))
  where
    sized : length (put_mid i n old new) ≡ length old
    sized = length-put_mid i n old new counted fits

    below : (p : ℕ) → p < a → get (with_bytes m a (put_mid i n old new)) p ≡ get (with_bytes (with_bytes m a old) q new) p
    below p h = get-with_bytes_below m a (put_mid i n old new) p h ∙ sym (get-with_bytes_below (with_bytes m a old) q new p (omega arith) ∙ get-with_bytes_below m a old p h)

    above : (p : ℕ) → a + length old ≤ p → get (with_bytes m a (put_mid i n old new)) p ≡ get (with_bytes (with_bytes m a old) q new) p
    above p h = get-with_bytes_above m a (put_mid i n old new) p (omega (arith, sized)) ∙ sym (get-with_bytes_above (with_bytes m a old) q new p (omega arith) ∙ get-with_bytes_above m a old p h)

    within : (p : ℕ) → a ≤ p → p < a + length old → get (with_bytes m a (put_mid i n old new)) p ≡ get (with_bytes (with_bytes m a old) q new) p
    within p from h =
        get-with_bytes_within m a (put_mid i n old new) (p - a) p (omega arith) (omega (arith, sized))
        ∙ sym (get-memory_of a (put_mid i n old new) (p - a) p (omega arith))
        ∙ ap (λ (k : Memory). get k p) (sym (with_bytes-put_mid a new old i q n lies counted fits))
        ∙ with_bytes-agree (memory_of_bytes a old) (with_bytes m a old) q new p (get-memory_of a old (p - a) p (omega arith) ∙ sym (get-with_bytes_within m a old (p - a) p (omega arith) (omega arith)))

-- writes to ranges that are apart may come in either order
with_bytes-commute : (m : Memory) (a : ℕ) (xs : List ℕ) (b : ℕ) (ys : List ℕ) → ((a + length xs ≤ b) ⊎ (b + length ys ≤ a)) → with_bytes (with_bytes m a xs) b ys ≡ with_bytes (with_bytes m b ys) a xs
with_bytes-commute m a xs b ys apart = same_memory _ _ (λ p. ⊎_elim (below p) (λ from. ⊎_elim (within p from) (above p) (cases_lt p (b + length ys))) (cases_lt p b))
  where
    below : (p : ℕ) → p < b → get (with_bytes (with_bytes m a xs) b ys) p ≡ get (with_bytes (with_bytes m b ys) a xs) p
    below p h = get-with_bytes_below (with_bytes m a xs) b ys p h ∙ with_bytes-agree m (with_bytes m b ys) a xs p (sym (get-with_bytes_below m b ys p h))

    above : (p : ℕ) → b + length ys ≤ p → get (with_bytes (with_bytes m a xs) b ys) p ≡ get (with_bytes (with_bytes m b ys) a xs) p
    above p h = get-with_bytes_above (with_bytes m a xs) b ys p h ∙ with_bytes-agree m (with_bytes m b ys) a xs p (sym (get-with_bytes_above m b ys p h))

    beside_it : (p : ℕ) → b ≤ p → p < b + length ys → ((a + length xs ≤ b) ⊎ (b + length ys ≤ a)) → get (with_bytes (with_bytes m b ys) a xs) p ≡ get (with_bytes m b ys) p
    beside_it p from h (inl before) = get-with_bytes_above (with_bytes m b ys) a xs p (omega arith)
    beside_it p from h (inr after) = get-with_bytes_below (with_bytes m b ys) a xs p (omega arith)

    within : (p : ℕ) → b ≤ p → p < b + length ys → get (with_bytes (with_bytes m a xs) b ys) p ≡ get (with_bytes (with_bytes m b ys) a xs) p
    within p from h =
        get-with_bytes_within (with_bytes m a xs) b ys (p - b) p (omega arith) (omega arith)
        ∙ sym (get-with_bytes_within m b ys (p - b) p (omega arith) (omega arith))
        ∙ sym (beside_it p from h apart)

-- a write of bytes to a part of one area
pub memory_in-put : (areas : List Area) (k q n byte : ℕ) (area : Area) (bytes new : List ℕ) → AllPairs AreasApart areas → slice_get areas k ≡ Some area → length bytes ≡ areas_size areas → area.start ≤ q → q + n ≤ area.start + area.size
    → byte + area.start ≡ areas_size (take k areas) + q → length new ≡ n → memory_in areas (put_mid byte n bytes new) ≡ with_bytes (memory_in areas bytes) q new
memory_in-put [] k q n byte area bytes new apart is sized from fits lies counted = absurd cc
memory_in-put (x ∷ xs) zero q n byte area bytes new apart is sized from fits lies counted =
    let e : area ≡ x = cc in
    subst (λ (a : Area). a.start ≤ q → q + n ≤ a.start + a.size → byte + a.start ≡ 0 + q → memory_in (x ∷ xs) (put_mid byte n bytes new) ≡ with_bytes (memory_in (x ∷ xs) bytes) q new) (sym e) first from fits lies
  where
    first : x.start ≤ q → q + n ≤ x.start + x.size → byte + x.start ≡ 0 + q → memory_in (x ∷ xs) (put_mid byte n bytes new) ≡ with_bytes (memory_in (x ∷ xs) bytes) q new
    first over ends at =
        let long : length bytes ≡ x.size + areas_size xs = sized in
        let rest : drop x.size (put_mid byte n bytes new) ≡ drop x.size bytes = drop-put_mid byte n bytes new x.size (omega arith) (omega (arith, long)) counted in
        let part : take x.size (put_mid byte n bytes new) ≡ put_mid byte n (take x.size bytes) new = take-put_in x.size byte n bytes new counted (omega arith) (omega (arith, long)) in
        ap (λ (r : List ℕ). with_bytes (memory_in xs r) x.start (take x.size (put_mid byte n bytes new))) rest
        ∙ ap (with_bytes (memory_in xs (drop x.size bytes)) x.start) part
        ∙ with_bytes-part (memory_in xs (drop x.size bytes)) x.start (take x.size bytes) new byte q n (omega arith) counted (omega (arith, front x xs bytes sized))
memory_in-put (x ∷ xs) (suc k) q n byte area bytes new apart is sized from fits lies counted =
    let ends = ends_within xs k area is in
    let long : length bytes ≡ x.size + areas_size xs = sized in
    let at : byte + area.start ≡ x.size + areas_size (take k xs) + q = lies in
    let on : byte ≡ x.size + (byte - x.size) = omega (arith, at) in
    let rest : drop x.size (put_mid byte n bytes new) ≡ put_mid (byte - x.size) n (drop x.size bytes) new =
    ap (λ (i : ℕ). drop x.size (put_mid i n bytes new)) on ∙ drop-put_after x.size (byte - x.size) n bytes new (omega (arith, long)) in
    let part : take x.size (put_mid byte n bytes new) ≡ take x.size bytes = take-put_mid_below byte n bytes new x.size (omega (arith, at)) (omega (arith, at, long, ends)) in
    ap (λ (r : List ℕ). with_bytes (memory_in xs r) x.start (take x.size (put_mid byte n bytes new))) rest
    ∙ ap (with_bytes (memory_in xs (put_mid (byte - x.size) n (drop x.size bytes) new)) x.start) part
    ∙ ap (λ (m : Memory). with_bytes m x.start (take x.size bytes))
    (memory_in-put xs k q n (byte - x.size) area (drop x.size bytes) new (apart_tail x xs apart) is (following x xs bytes sized) from fits (omega (arith, at)) counted)
    ∙ with_bytes-commute (memory_in xs (drop x.size bytes)) q new x.start (take x.size bytes) (between (apart_first x xs k area apart is))
  where
    between : AreasApart x area → ((q + length new ≤ x.start) ⊎ (x.start + length (take x.size bytes) ≤ q))
    between (inl before) = inr (omega (arith, front x xs bytes sized))
    between (inr after) = inl (omega (arith, counted))
