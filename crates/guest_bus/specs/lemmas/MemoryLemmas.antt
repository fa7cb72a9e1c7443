-- Lemmas on a guest's memory: what stands at an address, ranges of bytes, and the areas.
use Rattle.std.specs.Prelude.{◌≡◌, ℕ, zero, suc, ◌+◌, ◌-◌, ◌<◌, ◌≤◌, ◌≢◌, ◌⊎◌, Bool, true, false, ◌&&◌, ◌||◌, nat_le, nat_lt, List, [], ◌∷◌, ◌++◌, length, take, drop, get_or, set, slice_get, Some, None, unwrap_or, if◌then◌else◌}
use Rattle.std.proofs.Common.{refl, sym, ◌∙◌, ap, inl, inr, ⊎_elim, arith, append_assoc, length-set}
use Rattle.std.proofs.lemmas.List.{drop_more, drop-drop}
use Rattle.std.proofs.lemmas.List.Edits.{sets, sets-eq}
use borrow.Rule.Slice.PartMut.{put_mid}
use Rattle.std.proofs.lemmas.Bool.{cases_lt, cases_eq, and_parts, leb-true, le-leb, ltb-true}
use Rattle.std.proofs.lemmas.Bool.Decides.{nat_tests, same_from_decides, Decides-and}
use Rattle.std.proofs.lemmas.Option.{slice_get-get_or, slice_get_past, unwrap_or-slice_get}
use Rattle.std.specs.Bool.{Decides}
use Rattle.std.specs.Cmp.{nat_cmp_total}
use Rattle.std.specs.FinMap.{get, insert, empty, get-insert, get-empty, same_map, nat_cmp-IsAntisymmetric}
use Rattle.std.specs.Ordering.{nat_cmp, eq_by_cmp}
use Rattle.guest_bus.specs.Memory.{Area, Memory, holds_address, is_readable, is_writable, all_from, byte_at, bytes_at, with_bytes}
use Rattle.guest_bus.specs.lemmas.MemoryFacts.{memory_of_bytes}

-- an address ties with itself
ties : (q k : ℕ) → q ≡ k → eq_by_cmp nat_cmp q k ≡ true
ties q k e = grind (arith, nat_tests)

-- other addresses do not tie
apart : (q k : ℕ) → q ≢ k → eq_by_cmp nat_cmp q k ≡ false
apart q k ne = grind (arith, nat_tests)

-- what stands at the address of a byte that was put in
pub get-insert_same : (m : Memory) (k b q : ℕ) → q ≡ k → get (insert m k b) q ≡ Some b
get-insert_same m k b q e = rw (get-insert nat_cmp_total m k b q, ties q k e)

-- what stands at another address
pub get-insert_other : (m : Memory) (k b q : ℕ) → q ≢ k → get (insert m k b) q ≡ get m q
get-insert_other m k b q ne = rw (get-insert nat_cmp_total m k b q, apart q k ne)

-- below the bytes that were put in nothing changes
pub get-with_bytes_below : (m : Memory) (a : ℕ) (bs : List ℕ) (q : ℕ) → q < a → get (with_bytes m a bs) q ≡ get m q
get-with_bytes_below m a [] q h = refl
get-with_bytes_below m a (b ∷ bs) q h = get-with_bytes_below (insert m a b) (suc a) bs q (omega arith) ∙ get-insert_other m a b q (omega arith)

-- nor above them
pub get-with_bytes_above : (m : Memory) (a : ℕ) (bs : List ℕ) (q : ℕ) → a + length bs ≤ q → get (with_bytes m a bs) q ≡ get m q
get-with_bytes_above m a [] q h = refl
get-with_bytes_above m a (b ∷ bs) q h = get-with_bytes_above (insert m a b) (suc a) bs q (omega arith) ∙ get-insert_other m a b q (omega arith)

-- among them stands the byte of their list
pub get-with_bytes_within : (m : Memory) (a : ℕ) (bs : List ℕ) (i q : ℕ) → q ≡ a + i → i < length bs → get (with_bytes m a bs) q ≡ slice_get bs i
get-with_bytes_within m a [] i q e h = absurd (omega arith)
get-with_bytes_within m a (b ∷ bs) zero q e h = get-with_bytes_below (insert m a b) (suc a) bs q (omega arith) ∙ get-insert_same m a b q (omega arith)
get-with_bytes_within m a (b ∷ bs) (suc i) q e h = get-with_bytes_within (insert m a b) (suc a) bs i q (omega arith) (omega arith)

-- what stands at any address after bytes were put in
pub get-with_bytes : (m : Memory) (a : ℕ) (bs : List ℕ) (q : ℕ) → get (with_bytes m a bs) q ≡ (if nat_le a q && nat_lt q (a + length bs) then Some (get_or bs (q - a) 0) else get m q)
get-with_bytes m a bs q = ⊎_elim below (λ from. ⊎_elim (within from) above (cases_lt q (a + length bs))) (cases_lt q a)
  where
    below : q < a → get (with_bytes m a bs) q ≡ (if nat_le a q && nat_lt q (a + length bs) then Some (get_or bs (q - a) 0) else get m q)
    below h = let e = get-with_bytes_below m a bs q h in grind (arith, nat_tests)

    above : a + length bs ≤ q → get (with_bytes m a bs) q ≡ (if nat_le a q && nat_lt q (a + length bs) then Some (get_or bs (q - a) 0) else get m q)
    above h = let e = get-with_bytes_above m a bs q h in grind (arith, nat_tests)

    within : a ≤ q → q < a + length bs → get (with_bytes m a bs) q ≡ (if nat_le a q && nat_lt q (a + length bs) then Some (get_or bs (q - a) 0) else get m q)
    within from h =
        let e = get-with_bytes_within m a bs (q - a) q (omega arith) (omega arith) in
        let g = slice_get-get_or bs (q - a) 0 (omega arith) in
        grind (arith, nat_tests)

-- two memories that hold the same at each address are one
pub same_memory : (m n : Memory) → ((q : ℕ) → get m q ≡ get n q) → m ≡ n
same_memory m n same = same_map nat_cmp_total nat_cmp-IsAntisymmetric m n same

-- what a memory of bytes holds from its start on
pub get-memory_of : (a : ℕ) (bs : List ℕ) (i q : ℕ) → q ≡ a + i → get (memory_of_bytes a bs) q ≡ slice_get bs i
unfolding memory_of_bytes
get-memory_of a bs i q e = ⊎_elim within above (cases_lt i (length bs))
  where
    within : i < length bs → get (with_bytes empty a bs) q ≡ slice_get bs i
    within h = get-with_bytes_within empty a bs i q e h

    above : length bs ≤ i → get (with_bytes empty a bs) q ≡ slice_get bs i
    above h = get-with_bytes_above empty a bs q (omega arith) ∙ get-empty nat_cmp q ∙ sym (slice_get_past bs i h)

-- it holds nothing below its start
pub get-memory_of_below : (a : ℕ) (bs : List ℕ) (q : ℕ) → q < a → get (memory_of_bytes a bs) q ≡ None
unfolding memory_of_bytes
get-memory_of_below a bs q h = get-with_bytes_below empty a bs q h ∙ get-empty nat_cmp q

-- the byte at an address of it
pub byte_at-memory_of : (a : ℕ) (bs : List ℕ) (i q : ℕ) → q ≡ a + i → byte_at (memory_of_bytes a bs) q ≡ get_or bs i 0
byte_at-memory_of a bs i q e = ap (λ found. unwrap_or found 0) (get-memory_of a bs i q e) ∙ unwrap_or-slice_get bs i 0

-- a range of it is a part of its list
pub bytes_at-memory_of : (a : ℕ) (bs : List ℕ) (i q n : ℕ) → q ≡ a + i → i + n ≤ length bs → bytes_at (memory_of_bytes a bs) q n ≡ take n (drop i bs)
bytes_at-memory_of a bs i q zero e h = refl
bytes_at-memory_of a bs i q (suc n) e h =
    let first = byte_at-memory_of a bs i q e in
    let others = bytes_at-memory_of a bs (i + 1) (suc q) n (omega arith) (omega arith) in
    rw (drop_more bs i 0 (omega arith), first, others)

-- what a list holds at another place than the one that was set
slice_get-set_other : (bs : List ℕ) (i j b : ℕ) → j ≢ i → slice_get (set bs i b) j ≡ slice_get bs j
slice_get-set_other [] i j b ne = refl
slice_get-set_other (x ∷ bs) zero zero b ne = absurd (ne refl)
slice_get-set_other (x ∷ bs) zero (suc j) b ne = refl
slice_get-set_other (x ∷ bs) (suc i) zero b ne = refl
slice_get-set_other (x ∷ bs) (suc i) (suc j) b ne = slice_get-set_other bs i j b (λ e. ne (ap suc e))

-- what it holds at that place
slice_get-set_same : (bs : List ℕ) (i b : ℕ) → i < length bs → slice_get (set bs i b) i ≡ Some b
slice_get-set_same [] i b h = absurd (omega arith)
slice_get-set_same (x ∷ bs) zero b h = refl
slice_get-set_same (x ∷ bs) (suc i) b h = slice_get-set_same bs i b (omega arith)

-- to put in one byte is to set it in the list
pub insert-memory_of : (a : ℕ) (bs : List ℕ) (i q b : ℕ) → q ≡ a + i → i < length bs → insert (memory_of_bytes a bs) q b ≡ memory_of_bytes a (set bs i b)
insert-memory_of a bs i q b e h = same_memory _ _ (λ p. ⊎_elim (below p) (from p) (cases_lt p a))
  where
    below : (p : ℕ) → p < a → get (insert (memory_of_bytes a bs) q b) p ≡ get (memory_of_bytes a (set bs i b)) p
    below p under = get-insert_other (memory_of_bytes a bs) q b p (omega arith) ∙ get-memory_of_below a bs p under ∙ sym (get-memory_of_below a (set bs i b) p under)

    other : (p : ℕ) → a ≤ p → p ≢ q → get (insert (memory_of_bytes a bs) q b) p ≡ get (memory_of_bytes a (set bs i b)) p
    other p over ne =
        let ne_i : p - a ≢ i = omega arith in
        get-insert_other (memory_of_bytes a bs) q b p ne
        ∙ get-memory_of a bs (p - a) p (omega arith)
        ∙ sym (slice_get-set_other bs i (p - a) b ne_i)
        ∙ sym (get-memory_of a (set bs i b) (p - a) p (omega arith))

    here : (p : ℕ) → p ≡ q → get (insert (memory_of_bytes a bs) q b) p ≡ get (memory_of_bytes a (set bs i b)) p
    here p is = get-insert_same (memory_of_bytes a bs) q b p is ∙ sym (slice_get-set_same bs i b h) ∙ sym (get-memory_of a (set bs i b) i p (omega arith))

    from : (p : ℕ) → a ≤ p → get (insert (memory_of_bytes a bs) q b) p ≡ get (memory_of_bytes a (set bs i b)) p
    from p over = ⊎_elim (here p) (other p over) (cases_eq p q)

-- to put in bytes is to set them in the list, one after another
pub with_bytes-sets : (a : ℕ) (new bs : List ℕ) (i q : ℕ) → q ≡ a + i → i + length new ≤ length bs → with_bytes (memory_of_bytes a bs) q new ≡ memory_of_bytes a (sets bs i new)
with_bytes-sets a [] bs i q e h = refl
with_bytes-sets a (b ∷ new) bs i q e h =
    let fits : suc i + length new ≤ length (set bs i b) = simp length-set (omega arith) in
    rw (insert-memory_of a bs i q b e (omega arith)) (with_bytes-sets a new (set bs i b) (suc i) (suc q) (omega arith) fits)

-- that is to put them instead of a part of the list
pub with_bytes-memory_of : (a : ℕ) (new bs : List ℕ) (i q : ℕ) → q ≡ a + i → i + length new ≤ length bs → with_bytes (memory_of_bytes a bs) q new ≡ memory_of_bytes a (take i bs ++ new ++ drop (i + length new) bs)
with_bytes-memory_of a new bs i q e h = with_bytes-sets a new bs i q e h ∙ ap (memory_of_bytes a) (sets-eq new bs i h)

-- the same as what a write to a part of a slice leaves
pub with_bytes-put_mid : (a : ℕ) (new bs : List ℕ) (i q n : ℕ) → q ≡ a + i → length new ≡ n → i + n ≤ length bs → with_bytes (memory_of_bytes a bs) q new ≡ memory_of_bytes a (put_mid i n bs new)
with_bytes-put_mid a new bs i q n e counted h =
    let fits : i + length new ≤ length bs = omega arith in
    let whole : (take i bs ++ new) ++ drop (i + length new) bs ≡ put_mid i n bs new = rw (counted, append_assoc, ← drop-drop n i bs) in
    with_bytes-memory_of a new bs i q e fits ∙ ap (memory_of_bytes a) whole

-- a range has as many bytes as were asked for
pub length-bytes_at : (m : Memory) (a n : ℕ) → length (bytes_at m a n) ≡ n
length-bytes_at m a zero = refl
length-bytes_at m a (suc n) = ap suc (length-bytes_at m (suc a) n)

-- two memories that hold the same in a range have one range there
pub bytes_at-same : (m n : Memory) (a count : ℕ) → ((q : ℕ) → a ≤ q → q < a + count → get m q ≡ get n q) → bytes_at m a count ≡ bytes_at n a count
bytes_at-same m n a zero same = refl
bytes_at-same m n a (suc count) same =
    let first : byte_at m a ≡ byte_at n a = ap (λ found. unwrap_or found 0) (same a (omega arith) (omega arith)) in
    rw (first, bytes_at-same m n (suc a) count (λ q over under. same q (omega arith) (omega arith)))

-- bytes that were put in elsewhere change no range
pub bytes_at-with_bytes_apart : (m : Memory) (a : ℕ) (bs : List ℕ) (q n : ℕ) → ((q + n ≤ a) ⊎ (a + length bs ≤ q)) → bytes_at (with_bytes m a bs) q n ≡ bytes_at m q n
bytes_at-with_bytes_apart m a bs q n (inl below) = bytes_at-same (with_bytes m a bs) m q n (λ p over under. get-with_bytes_below m a bs p (omega arith))
bytes_at-with_bytes_apart m a bs q n (inr above) = bytes_at-same (with_bytes m a bs) m q n (λ p over under. get-with_bytes_above m a bs p (omega arith))

-- bytes that were put in are there
pub bytes_at-with_bytes : (m : Memory) (a : ℕ) (bs : List ℕ) → bytes_at (with_bytes m a bs) a (length bs) ≡ bs
bytes_at-with_bytes m a [] = refl
bytes_at-with_bytes m a (b ∷ bs) =
    let found : get (with_bytes m a (b ∷ bs)) a ≡ Some b = get-with_bytes_within m a (b ∷ bs) 0 a (omega arith) (omega arith) in
    let first : byte_at (with_bytes m a (b ∷ bs)) a ≡ b = ap (λ found. unwrap_or found 0) found in
    rw (first, bytes_at-with_bytes (insert m a b) (suc a) bs)

-- a range passes where each of its addresses does
pub all_from-true : (allowed : ℕ → Bool) (address count : ℕ) → ((q : ℕ) → address ≤ q → q < address + count → allowed q ≡ true) → all_from allowed address count ≡ true
all_from-true allowed address zero each = refl
all_from-true allowed address (suc count) each =
    let first : allowed address ≡ true = each address (omega arith) (omega arith) in
    rw (first, all_from-true allowed (suc address) count (λ q over under. each q (omega arith) (omega arith)))

-- each address of a range that passes does
pub all_from-each : (allowed : ℕ → Bool) (address count q : ℕ) → all_from allowed address count ≡ true → address ≤ q → q < address + count → allowed q ≡ true
all_from-each allowed address zero q passes over under = absurd (omega arith)
all_from-each allowed address (suc count) q passes over under =
    let parts = and_parts (allowed address) (all_from allowed (suc address) count) passes in
    ⊎_elim (λ is. rw is parts.0) (λ ne. all_from-each allowed (suc address) count q parts.1 (omega arith) (omega arith)) (cases_eq q address)

-- two tests that answer alike pass the same ranges
pub all_from-same : (p r : ℕ → Bool) (address count : ℕ) → ((q : ℕ) → p q ≡ r q) → all_from p address count ≡ all_from r address count
all_from-same p r address zero same = refl
all_from-same p r address (suc count) same = rw (same address, all_from-same p r (suc address) count same)

-- the test of `≤`, as what it says
Decides-leb : (x y : ℕ) → Decides (nat_le x y) (x ≤ y)
Decides-leb x y = (leb-true x y, le-leb x y)

-- `or` with false, and `and` with true
or_false : (b : Bool) → (b || false) ≡ b
or_false true = refl
or_false false = refl

and_true : (b : Bool) → (b && true) ≡ b
and_true true = refl
and_true false = refl

-- of one area a byte may be read where the area holds its address
pub is_readable-one : (area : Area) (q : ℕ) → is_readable (area ∷ []) q ≡ holds_address q area
is_readable-one area q = or_false (holds_address q area)

-- it may be written where it may be read, unless the area may only be read
pub is_writable-one : (area : Area) (q : ℕ) → area.read_only ≡ false → is_writable (area ∷ []) q ≡ is_readable (area ∷ []) q
is_writable-one area q writable = let both = and_true (holds_address q area) in rw (writable, both)

-- the area holds the address
covers-true : (area : Area) (q : ℕ) → area.start ≤ q → q < area.start + area.size → holds_address q area ≡ true
covers-true area q over under = grind (arith, nat_tests)

-- what it says that it holds it
pub covers-within : (area : Area) (q : ℕ) → holds_address q area ≡ true → (area.start ≤ q) × (q < area.start + area.size)
covers-within area q holds =
    let parts = and_parts (nat_le area.start q) (nat_lt q (area.start + area.size)) holds in
    (leb-true _ _ parts.0, ltb-true _ _ parts.1)

-- a range in the one area may be read
pub all_readable : (area : Area) (address count : ℕ) → area.start ≤ address → address + count ≤ area.start + area.size → all_from (is_readable (area ∷ [])) address count ≡ true
all_readable area address count after before =
    all_from-true (is_readable (area ∷ [])) address count (λ q over under. is_readable-one area q ∙ covers-true area q (omega arith) (omega arith))

-- a range that may be read lies in it
pub readable_within : (area : Area) (address count : ℕ) → 0 < count → all_from (is_readable (area ∷ [])) address count ≡ true → (area.start ≤ address) × (address + count ≤ area.start + area.size)
readable_within area address count some allowed =
    let one : (q : ℕ) → address ≤ q → q < address + count → holds_address q area ≡ true = λ q over under. sym (is_readable-one area q) ∙ all_from-each (is_readable (area ∷ [])) address count q allowed over under in
    let first = covers-within area address (one address (omega arith) (omega arith)) in
    let last = covers-within area (address + (count - 1)) (one (address + (count - 1)) (omega arith) (omega arith)) in
    (first.0, omega arith)

-- what may be written of the one area may be read, unless the area may only be read
pub writable-readable : (area : Area) (address count : ℕ) → area.read_only ≡ false → all_from (is_writable (area ∷ [])) address count ≡ all_from (is_readable (area ∷ [])) address count
writable-readable area address count writable = all_from-same (is_writable (area ∷ [])) (is_readable (area ∷ [])) address count (λ q. is_writable-one area q writable)

-- a range may be read exactly where it lies in the one area
pub readable-one : (area : Area) (address count : ℕ) → 0 < count → all_from (is_readable (area ∷ [])) address count ≡ (nat_le area.start address && nat_le (address + count) (area.start + area.size))
readable-one area address count some =
    let inside : Decides (nat_le area.start address && nat_le (address + count) (area.start + area.size)) ((area.start ≤ address) × (address + count ≤ area.start + area.size)) = Decides-and _ _ (Decides-leb _ _) (Decides-leb _ _) in
    same_from_decides _ _ (readable_within area address count some, λ lies. all_readable area address count lies.0 lies.1) inside

-- and written exactly there, unless the area may only be read
pub writable-one : (area : Area) (address count : ℕ) → area.read_only ≡ false → 0 < count → all_from (is_writable (area ∷ [])) address count ≡ (nat_le area.start address && nat_le (address + count) (area.start + area.size))
writable-one area address count writable some = writable-readable area address count writable ∙ readable-one area address count some
