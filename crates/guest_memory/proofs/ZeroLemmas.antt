-- Areas of which all bytes are zero.
use Rattle.std.proofs.Common.{◌≡◌, ℕ, ◌+◌, ◌-◌, ◌<◌, ◌≤◌, ◌⊎◌, Bool, true, false, cond, List, [], ◌∷◌, length, map, take, drop, get_or, replicate, Option, Some, refl, sym, ap, ◌∙◌, inl, inr, ⊎_elim, subst, arith}
use Rattle.std.specs.FinMap.{get, empty}
use Rattle.std.specs.Ordering.{nat_cmp}
use Rattle.std.specs.Prelude.{All, ◌&&◌, ◌||◌, nat_le, nat_lt}
use Rattle.std.proofs.lemmas.Bool.{cases_lt}
use Rattle.std.proofs.lemmas.Bool.Decides.{nat_tests}
use Rattle.std.proofs.lemmas.List.{drop-replicate, get_or-replicate, length-replicate, take-replicate}
use Rattle.std.proofs.lemmas.Option.{slice_get-get_or}
use Rattle.xm_conf.specs.Limits.{most_parts}
use Rattle.guest_bus.specs.Memory.{Area, Memory, holds_address, is_readable, with_bytes}
use Rattle.guest_bus.specs.lemmas.MemoryLemmas.{get-with_bytes_above, get-with_bytes_below, get-with_bytes_within, same_memory}
use Rattle.guest_memory.specs.Flat.{AllBytes, AreFlat, AreTables, Table, areas_of_tables, maps_in, memories_in, memory_in}
use Rattle.guest_memory.specs.Loading.{with_zeros, zeros_in}
use Rattle.guest_memory.specs.Memories.{ArePlaced, areas_size, whole_size}
use Rattle.guest_memory.proofs.FlatLemmas.{bytes-zeros}
use Rattle.guest_memory.proofs.MemoriesLemmas.{memories_whole}

-- zeros at the addresses of an area
zeros_at : (m : Memory) (start n q : ℕ) (read_only : Bool) → get (with_bytes m start (replicate n 0)) q ≡ cond (holds_address q (record { start = start; size = n; read_only = read_only })) (Some 0) (get m q)
zeros_at m start n q read_only = at (cases_lt q start)
  where
    counted : length (replicate {A = ℕ} n 0) ≡ n
    counted = length-replicate {A = ℕ} n 0

    above : start ≤ q → start + n ≤ q → get (with_bytes m start (replicate n 0)) q ≡ cond (nat_le start q && nat_lt q (start + n)) (Some 0) (get m q)
    above from past = let e = get-with_bytes_above m start (replicate n 0) q (omega (arith, counted)) in let no : (nat_le start q && nat_lt q (start + n)) ≡ false = grind (arith, nat_tests) in rw no e

    within : start ≤ q → q < start + n → get (with_bytes m start (replicate n 0)) q ≡ cond (nat_le start q && nat_lt q (start + n)) (Some 0) (get m q)
    within from under =
        let e = get-with_bytes_within m start (replicate n 0) (q - start) q (omega arith) (omega (arith, counted)) ∙ slice_get-get_or (replicate n 0) (q - start) 0 (omega (arith, counted)) in
        let zero_there : get_or (replicate n 0) (q - start) 0 ≡ 0 = get_or-replicate n (q - start) 0 0 (omega arith) in
        let yes : (nat_le start q && nat_lt q (start + n)) ≡ true = grind (arith, nat_tests) in
        rw yes (e ∙ ap Some zero_there)

    at : ((q < start) ⊎ (start ≤ q)) → get (with_bytes m start (replicate n 0)) q ≡ cond (nat_le start q && nat_lt q (start + n)) (Some 0) (get m q)
    at (inl under) = let e = get-with_bytes_below m start (replicate n 0) q under in let no : (nat_le start q && nat_lt q (start + n)) ≡ false = grind (arith, nat_tests) in rw no e
    at (inr from) = ⊎_elim (within from) (above from) (cases_lt q (start + n))

-- two choices of one value are one
either : (a b : Bool) (x y : Option ℕ) → cond b x (cond a x y) ≡ cond (a || b) x y
either true true x y = refl
either true false x y = refl
either false true x y = refl
either false false x y = refl

-- what zeros in all areas leave at an address
with_zeros-at : (m : Memory) (areas : List Area) (q : ℕ) → get (with_zeros m areas) q ≡ cond (is_readable areas q) (Some 0) (get m q)
with_zeros-at m [] q = refl
with_zeros-at m (a ∷ areas) q =
    with_zeros-at (with_bytes m a.start (replicate a.size 0)) areas q
    ∙ ap (λ (found : Option ℕ). cond (is_readable areas q) (Some 0) found) (zeros_at m a.start a.size q a.read_only)
    ∙ either (holds_address q a) (is_readable areas q) (Some 0) (get m q)

-- two choices of one value, the other way round
first_of_two : (a b : Bool) (x y : Option ℕ) → cond a x (cond b x y) ≡ cond (a || b) x y
first_of_two true b x y = refl
first_of_two false b x y = refl

-- the prefix of zeros
front_zeros : (m n : ℕ) → take m (replicate (m + n) 0) ≡ replicate {A = ℕ} m 0
front_zeros m n = take-replicate m (m + n) 0 (omega arith)

-- the zeros after it
rest_zeros : (m n : ℕ) → drop m (replicate (m + n) 0) ≡ replicate {A = ℕ} n 0
rest_zeros m n = let e : m + n - m ≡ n = omega arith in drop-replicate m (m + n) 0 ∙ ap (λ (k : ℕ). replicate {A = ℕ} k 0) e

-- what stands in areas of zeros
zeroed-at : (areas : List Area) (q : ℕ) → get (memory_in areas (replicate (areas_size areas) 0)) q ≡ cond (is_readable areas q) (Some 0) (get {R = nat_cmp} empty q)
zeroed-at [] q = refl
zeroed-at (x ∷ xs) q =
    ap (λ (bytes : List ℕ). get (with_bytes (memory_in xs bytes) x.start (take x.size (replicate (x.size + areas_size xs) 0))) q) (rest_zeros x.size (areas_size xs))
    ∙ ap (λ (bytes : List ℕ). get (with_bytes (memory_in xs (replicate (areas_size xs) 0)) x.start bytes) q) (front_zeros x.size (areas_size xs))
    ∙ zeros_at (memory_in xs (replicate (areas_size xs) 0)) x.start x.size q x.read_only
    ∙ ap (λ (found : Option ℕ). cond (holds_address q x) (Some 0) found) (zeroed-at xs q)
    ∙ first_of_two (holds_address q x) (is_readable xs q) (Some 0) (get {R = nat_cmp} empty q)

-- areas of zeros are a memory of zeros
pub memory_in-zeros : (areas : List Area) → memory_in areas (replicate (areas_size areas) 0) ≡ zeros_in areas
memory_in-zeros areas = same_memory _ _ (λ q. zeroed-at areas q ∙ sym (with_zeros-at empty areas q))

-- so are those of all partitions
pub maps_in-zeros : (areas : List (List Area)) → maps_in areas (replicate (whole_size areas) 0) ≡ map zeros_in areas
maps_in-zeros [] = refl
maps_in-zeros (first ∷ others) =
    ap (λ (bytes : List ℕ). memory_in first bytes ∷ maps_in others (drop (areas_size first) (replicate (areas_size first + whole_size others) 0))) (front_zeros (areas_size first) (whole_size others))
    ∙ ap (λ (bytes : List ℕ). memory_in first (replicate (areas_size first) 0) ∷ maps_in others bytes) (rest_zeros (areas_size first) (whole_size others))
    ∙ ap (λ (m : Memory). m ∷ maps_in others (replicate (whole_size others) 0)) (memory_in-zeros first)
    ∙ ap (λ (maps : List Memory). zeros_in first ∷ maps) (maps_in-zeros others)

-- new memories of partitions, with the first selected
pub kept_new : (tables : List Table) (areas : List (List Area)) (n : ℕ) (bytes : List ℕ) → areas_of_tables tables ≡ areas → AreTables 0 tables → n ≡ whole_size areas → n < 4294967296 → bytes ≡ replicate n 0
    → 0 < length areas → length areas ≤ most_parts → All ArePlaced areas → AreFlat tables bytes 0
kept_new tables areas n bytes same rows sized few is some most placed = record {
  memories = memories_whole (areas_of_tables tables) bytes 0 (rw same some) (rw same most) (rw same placed) whole small;
  rows = rows;
  whole = whole;
  few = omega (arith, ap length is, length-replicate {A = ℕ} n 0);
  small = small;
}
  where
    whole : length bytes ≡ whole_size (areas_of_tables tables)
    whole = ap length is ∙ length-replicate {A = ℕ} n 0 ∙ sized ∙ ap whole_size (sym same)

    small : AllBytes bytes
    small = subst (λ (b : List ℕ). AllBytes b) (sym is) (bytes-zeros n)

-- as they are seen
pub seen_new : (tables : List Table) (areas : List (List Area)) (n : ℕ) (bytes : List ℕ) → areas_of_tables tables ≡ areas → n ≡ whole_size areas → bytes ≡ replicate n 0
    → memories_in tables bytes 0 ≡ record { areas = areas; maps = map zeros_in areas; selected = 0 }
seen_new tables areas n bytes same sized is = λ i. record { areas = same i; maps = maps i; selected = 0 }
  where
    maps : maps_in (areas_of_tables tables) bytes ≡ map zeros_in areas
    maps = ap (maps_in (areas_of_tables tables)) (is ∙ ap (λ (k : ℕ). replicate {A = ℕ} k 0) (sized ∙ ap whole_size (sym same))) ∙ maps_in-zeros (areas_of_tables tables) ∙ ap (map zeros_in) same
