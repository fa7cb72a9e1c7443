-- Lemmas on a memory whose map is what its areas say: what makes one, what keeps it so, and that to write what stands there changes nothing.
use Rattle.std.specs.Prelude.{◌≡◌, ℕ, zero, suc, ◌+◌, ◌-◌, ◌^◌, ◌<◌, ◌≤◌, ◌≢◌, ◌⊎◌, true, false, List, [], ◌∷◌, length, get_or, Option, Some, None, unwrap_or, IsSomeAnd}
use Rattle.std.proofs.Common.{refl, sym, ◌∙◌, ap, inl, inr, ⊎_elim, arith}
use Rattle.std.specs.FinMap.{get, insert, empty, get-empty}
use Rattle.std.proofs.lemmas.Bool.{cases_lt, cases_eq}
use Rattle.std.proofs.lemmas.Bool.Decides.{nat_tests}
use Rattle.std.proofs.lemmas.Option.{slice_get-get_or, slice_get_past}
use Rattle.std.specs.Ordering.{nat_cmp}
use Rattle.guest_bus.specs.Memory.{Area, Memory, holds_address, is_readable, all_from, byte_at, bytes_at, with_bytes}
use Rattle.guest_bus.specs.lemmas.MemoryFacts.{memory_of_bytes}
use Rattle.guest_bus.specs.lemmas.MemoryLemmas.{all_from-each, get-insert_other, get-insert_same, get-memory_of, get-memory_of_below, covers-within, get-with_bytes_above, get-with_bytes_below, get-with_bytes_within, is_readable-one, same_memory}
use Rattle.guest_bus.specs.Whole.{HoldsByte, IsMemoryOf}

-- the byte that stands there is the one that is read
held_is : (found : Option ℕ) → IsSomeAnd found (λ byte. byte < 2 ^ 8) → found ≡ Some (unwrap_or found 0)
held_is (Some byte) below = refl
held_is None below = absurd below

-- it is below 256, as is the 0 that is read where there is none
held_below : (found : Option ℕ) → IsSomeAnd found (λ byte. byte < 2 ^ 8) → unwrap_or found 0 < 2 ^ 8
held_below (Some byte) below = below
held_below None below = absurd below

-- to put in the byte that stands there changes nothing
insert-same : (memory : Memory) (address : ℕ) → HoldsByte memory address → insert memory address (byte_at memory address) ≡ memory
insert-same memory address holds = same_memory _ _ (λ q. ⊎_elim (here q) (other q) (cases_eq q address))
  where
    here : (q : ℕ) → q ≡ address → get (insert memory address (byte_at memory address)) q ≡ get memory q
    here q is = get-insert_same memory address (byte_at memory address) q is ∙ sym (held_is (get memory address) holds) ∙ ap (get memory) (sym is)

    other : (q : ℕ) → q ≢ address → get (insert memory address (byte_at memory address)) q ≡ get memory q
    other q ne = get-insert_other memory address (byte_at memory address) q ne

-- nor do the bytes of a range, written where they stand
pub with_bytes-same : (memory : Memory) (address count : ℕ) → ((q : ℕ) → address ≤ q → q < address + count → HoldsByte memory q) → with_bytes memory address (bytes_at memory address count) ≡ memory
with_bytes-same memory address zero holds = refl
with_bytes-same memory address (suc count) holds =
    let first : insert memory address (byte_at memory address) ≡ memory = insert-same memory address (holds address (omega arith) (omega arith)) in
    ap (λ (m : Memory). with_bytes m (suc address) (bytes_at memory (suc address) count)) first
    ∙ with_bytes-same memory (suc address) count (λ q over under. holds q (omega arith) (omega arith))

-- the bytes of a range are bytes
pub bytes_at-below : (memory : Memory) (address count : ℕ) → ((q : ℕ) → address ≤ q → q < address + count → HoldsByte memory q) → (i : ℕ) → get_or (bytes_at memory address count) i 0 < 256
bytes_at-below memory address zero holds i = omega arith
bytes_at-below memory address (suc count) holds zero = held_below (get memory address) (holds address (omega arith) (omega arith))
bytes_at-below memory address (suc count) holds (suc i) = bytes_at-below memory (suc address) count (λ q over under. holds q (omega arith) (omega arith)) i

-- an area that begins above the address, or ends at it or below, does not hold it
not_covered : (area : Area) (q : ℕ) → holds_address q area ≡ false → (q < area.start) ⊎ (area.start + area.size ≤ q)
not_covered area q not_held = ⊎_elim inl (λ from. ⊎_elim (λ under. absurd (inside from under)) inr (cases_lt q (area.start + area.size))) (cases_lt q area.start)
  where
    inside : area.start ≤ q → q < area.start + area.size → ⊥
    inside from under = let is : holds_address q area ≡ true = grind (arith, nat_tests) in cc

-- bytes in one area are its memory
pub memory_of-IsMemoryOf : (area : Area) (bytes : List ℕ) → length bytes ≡ area.size → ((i : ℕ) → get_or bytes i 0 < 256) → IsMemoryOf (area ∷ []) (memory_of_bytes area.start bytes)
memory_of-IsMemoryOf area bytes sized small = record { held = held; nothing = nothing }
  where
    held : (q : ℕ) → is_readable (area ∷ []) q ≡ true → HoldsByte (memory_of_bytes area.start bytes) q
    held q readable =
        let holds = covers-within area q (sym (is_readable-one area q) ∙ readable) in
        let found = get-memory_of area.start bytes (q - area.start) q (omega (arith, holds)) ∙ slice_get-get_or bytes (q - area.start) 0 (omega (arith, holds)) in
        rw found (small (q - area.start))

    nothing : (q : ℕ) → is_readable (area ∷ []) q ≡ false → get (memory_of_bytes area.start bytes) q ≡ None
    nothing q readable = ⊎_elim (get-memory_of_below area.start bytes q) above (not_covered area q (sym (is_readable-one area q) ∙ readable))
      where
        above : area.start + area.size ≤ q → get (memory_of_bytes area.start bytes) q ≡ None
        above past = get-memory_of area.start bytes (q - area.start) q (omega arith) ∙ slice_get_past bytes (q - area.start) (omega arith)

-- no areas have no memory
pub no_memory : IsMemoryOf [] empty
no_memory = record { held = λ address is. absurd (no_address address is); nothing = λ address is. get-empty nat_cmp address }
  where
    no_address : (address : ℕ) → is_readable [] address ≡ true → ⊥
    no_address address is = cc

-- bytes that are written where they may be read keep a memory what its areas say
pub with_bytes-IsMemoryOf : (areas : List Area) (memory : Memory) (address : ℕ) (bytes : List ℕ) → IsMemoryOf areas memory → all_from (is_readable areas) address (length bytes) ≡ true → ((i : ℕ) → get_or bytes i 0 < 256) → IsMemoryOf areas (with_bytes memory address bytes)
with_bytes-IsMemoryOf areas memory address bytes whole allowed small = record {
  held = λ q readable. ⊎_elim (below q readable) (λ from. ⊎_elim (within q from) (above q readable) (cases_lt q (address + length bytes))) (cases_lt q address);
  nothing = λ q readable. ⊎_elim (λ under. get-with_bytes_below memory address bytes q under ∙ whole.nothing q readable) (λ from. ⊎_elim (λ under. absurd (none q readable from under)) (λ over. get-with_bytes_above memory address bytes q over ∙ whole.nothing q readable) (cases_lt q (address + length bytes))) (cases_lt q address);
}
  where
    below : (q : ℕ) → is_readable areas q ≡ true → q < address → HoldsByte (with_bytes memory address bytes) q
    below q readable under = rw (get-with_bytes_below memory address bytes q under) (whole.held q readable)

    above : (q : ℕ) → is_readable areas q ≡ true → address + length bytes ≤ q → HoldsByte (with_bytes memory address bytes) q
    above q readable over = rw (get-with_bytes_above memory address bytes q over) (whole.held q readable)

    within : (q : ℕ) → address ≤ q → q < address + length bytes → HoldsByte (with_bytes memory address bytes) q
    within q from under =
        let found = get-with_bytes_within memory address bytes (q - address) q (omega arith) (omega arith) ∙ slice_get-get_or bytes (q - address) 0 (omega arith) in
        rw found (small (q - address))

    none : (q : ℕ) → is_readable areas q ≡ false → address ≤ q → q < address + length bytes → ⊥
    none q readable from under = let is = all_from-each (is_readable areas) address (length bytes) q allowed from under in cc
