-- Rows are still those of the words where other words are written.
use Rattle.std.proofs.Common.{◌≡◌, ◌≢◌, ◌⊎◌, ℕ, zero, suc, ap, ◌∙◌, drop, ◌+◌, ◌-◌, ◌*◌, ◌/◌, ◌%◌, ◌^◌, ◌<◌, ◌≤◌, Bool, true, false, List, [], ◌∷◌, length, Option, Some, None, inl, inr, ⊎_elim, refl, sym, subst, arith, eqb-true}
use Rattle.std.proofs.lemmas.Bool.{cases_lt}
use Rattle.std.specs.Bool.{OnTrue}
use Rattle.std.specs.Int.{byte_len, to_be_bytes}
use Rattle.std.specs.Prelude.{◌==◌, slice_get, slice_index_or}
use Rattle.guest_bus.specs.Access.{access_fault, after_store, memory_unless_refused, store_fault, width_of}
use Rattle.guest_bus.specs.lemmas.AccessLemmas.{length-bytes_high_first, length-bytes_of}
use Rattle.guest_bus.specs.Memory.{Area, Memory, is_writable, with_bytes}
use Rattle.guest_bus.specs.Words.{MayStand, bytes_of}
use Rattle.guest_bus.specs.declared.bus.BusFault.{BusFault}
use Rattle.guest_bus.specs.declared.bus.Size.{Size}
use Rattle.guest_bus.specs.declared.bus.Size.TheVariants.{One, Two, Four, Eight}
use Rattle.predecode.specs.Kept.{IsKeptRow}
use Rattle.predecode.specs.lemmas.KeptLemmas.{empty_kept, kept_apart}
use Rattle.predecode.specs.lemmas.Reached.{IsReached, reached_or_apart, word_after, words_fit, words_written}
use Rattle.predecode.specs.declared.rows.Row.{Row}
use Rattle.fast_loop.specs.Keeping.{AreRowsOf}
use Rattle.fast_loop.specs.lemmas.Moves.{HaveNoRows}

-- where the words that are written have none
written_rows : (rows : List Row) (areas : List Area) (memory : Memory) (origin address count : ℕ) (bytes : List ℕ) → HaveNoRows rows (word_after origin address) count
    → address < 2 ^ 32 → address % 4 + length bytes ≤ 4 * count → AreRowsOf rows areas memory origin → AreRowsOf rows areas (with_bytes memory address bytes) origin
written_rows rows areas memory origin address count bytes none small fits are = record {
  aligned = are.aligned;
  inside = are.inside;
  each = λ k row there. at k row there (reached_or_apart origin address count (length bytes) k are.aligned (omega (arith, are.inside)) small fits);
  pairs = are.pairs;
}
  where
    at : (k : ℕ) (row : Row) → slice_get rows k ≡ Some row → (origin + 4 * k + 4 ≤ address) ⊎ ((address + length bytes ≤ origin + 4 * k) ⊎ IsReached (word_after origin address) count k)
        → IsKeptRow row areas (with_bytes memory address bytes) (origin + 4 * k)
    at k row there (inl before) = kept_apart row areas memory (origin + 4 * k) address bytes (inl before) (are.each k row there)
    at k row there (inr (inl following)) = kept_apart row areas memory (origin + 4 * k) address bytes (inr following) (are.each k row there)
    at k row there (inr (inr reached)) = empty_kept row areas (with_bytes memory address bytes) (origin + 4 * k) (none k row reached there) (are.each k row there).registers

-- an access that nothing refuses is aligned
aligned_free : (allowed : ℕ → Bool) (address count : ℕ) → access_fault allowed address count ≡ None → address % count ≡ 0
aligned_free allowed address count free = at (address % count == 0) refl free
  where
    at : (aligned : Bool) → (address % count == 0) ≡ aligned → access_fault allowed address count ≡ None → address % count ≡ 0
    at true is none = eqb-true (address % count) 0 is
    at false is none = let refused = rw is at none in absurd cc

-- so they are where a store was done or refused
pub stored_rows : (rows : List Row) (areas : List Area) (memory after : Memory) (origin address : ℕ) (size : Size) (value : ℕ) → HaveNoRows rows (word_after origin address) (words_written size)
    → address < 2 ^ 32 → after ≡ after_store areas memory address size value → AreRowsOf rows areas memory origin → AreRowsOf rows areas after origin
unfolding after_store store_fault
stored_rows rows areas memory after origin address size value none small is are =
    subst (λ (m : Memory). AreRowsOf rows areas m origin) (sym is) (at (access_fault (is_writable areas) address (byte_len (width_of size))) refl)
  where
    at : (fault : Option BusFault) → access_fault (is_writable areas) address (byte_len (width_of size)) ≡ fault
        → AreRowsOf rows areas (memory_unless_refused fault memory (with_bytes memory address (to_be_bytes (width_of size) value))) origin
    at None free =
        let counted : length (to_be_bytes (width_of size) value) ≡ byte_len (width_of size) = length-bytes_high_first (byte_len (width_of size)) value in
        let fits = words_fit size address (aligned_free (is_writable areas) address (byte_len (width_of size)) free) in
        written_rows rows areas memory origin address (words_written size) (to_be_bytes (width_of size) value) none small (omega (arith, counted, fits)) are
    at (Some fault) refused = are

-- and where sixteen words were
pub sixteen_rows : (done : Bool) (rows : List Row) (areas : List Area) (memory other : Memory) (origin address : ℕ) (words : List ℕ) → HaveNoRows rows (word_after origin address) 16
    → OnTrue done (MayStand (is_writable areas) address) → OnTrue done (other ≡ with_bytes memory address (bytes_of words)) → (done ≡ false → other ≡ memory)
    → length words ≡ 16 → address < 2 ^ 32 → AreRowsOf rows areas memory origin → AreRowsOf rows areas other origin
sixteen_rows true rows areas memory other origin address words none stands written not_done counted small are =
    subst (λ (m : Memory). AreRowsOf rows areas m origin) (sym written)
    (written_rows rows areas memory origin address 16 (bytes_of words) none small (omega (arith, length-bytes_of words, counted, stands.aligned)) are)
sixteen_rows false rows areas memory other origin address words none stands written not_done counted small are =
    subst (λ (m : Memory). AreRowsOf rows areas m origin) (sym (not_done refl)) are

-- past the last row there is none
pub none_past : (rows : List Row) (k : ℕ) (row : Row) → length rows ≤ k → slice_get rows k ≡ Some row → ⊥
none_past [] k row past there = cc
none_past (first ∷ rows) zero row past there = absurd (omega (arith, past))
none_past (first ∷ rows) (suc k) row past there = none_past rows k row (omega (arith, past)) there

-- two words have none, where neither has
reached_two : (origin address k : ℕ) → k < 2 ^ 30 → origin < 2 ^ 32 → address < 2 ^ 32 → IsReached (word_after origin address) 2 k → IsReached (word_after origin address) 1 k ⊎ IsReached (word_after origin ((address + 4) % 2 ^ 32)) 1 k
unfolding word_after
reached_two origin address k under low small (inl here) = ⊎_elim (λ first. inl (inl (here.0, first))) (λ second. inr (inl (omega (arith, here.0, here.1, second, small, low, under), omega (arith, here.0, here.1, second, small, low, under)))) (cases_lt k ((address + (2 ^ 32 - origin)) % 2 ^ 32 / 4 + 1))
reached_two origin address k under low small (inr on) = inr (inl (omega (arith, on, small, low), omega (arith, on, small, low)))

pub two_unmade : (rows : List Row) (origin address : ℕ) → length rows ≤ 2 ^ 30 → origin < 2 ^ 32 → address < 2 ^ 32 → HaveNoRows rows (word_after origin address) 1 → HaveNoRows rows (word_after origin ((address + 4) % 2 ^ 32)) 1 → HaveNoRows rows (word_after origin address) 2
two_unmade rows origin address few low small one two k row reached there =
    ⊎_elim (λ under. ⊎_elim (λ first. one k row first there) (λ second. two k row second there) (reached_two origin address k under low small reached))
    (λ big. absurd (none_past rows k row (omega (arith, big, few)) there)) (cases_lt k (2 ^ 30))

-- a store of less than a double word writes one word
single_written : (size : Size) → size ≢ Eight → words_written size ≡ 1
single_written One single = refl
single_written Two single = refl
single_written Four single = refl
single_written Eight single = absurd (single refl)

pub single_rows : (rows : List Row) (areas : List Area) (memory after : Memory) (origin address : ℕ) (size : Size) (value : ℕ) → size ≢ Eight → HaveNoRows rows (word_after origin address) 1
    → address < 2 ^ 32 → after ≡ after_store areas memory address size value → AreRowsOf rows areas memory origin → AreRowsOf rows areas after origin
single_rows rows areas memory after origin address size value single none small is are =
    stored_rows rows areas memory after origin address size value (subst (HaveNoRows rows (word_after origin address)) (sym (single_written size single)) none) small is are

-- a row by its place, whatever stands where there is none
pub index_is : (rows : List Row) (at : ℕ) (other row : Row) → slice_get rows at ≡ Some row → slice_index_or rows at other ≡ row
index_is [] at other row there = absurd cc
index_is (first ∷ rows) zero other row there = cc
index_is (first ∷ rows) (suc at) other row there = index_is rows at other row there

-- the first of the rows from a place on
dropped_is : (rows : List Row) (at : ℕ) (other row : Row) → slice_get rows at ≡ Some row → slice_index_or (drop at rows) 0 other ≡ row
dropped_is [] at other row there = absurd cc
dropped_is (first ∷ rows) zero other row there = cc
dropped_is (first ∷ rows) (suc at) other row there = dropped_is rows at other row there

pub first_is : (rows rest : List Row) (at : ℕ) (other row : Row) → rest ≡ drop at rows → slice_get rows at ≡ Some row → slice_index_or rest 0 other ≡ row
first_is rows rest at other row from there = ap (λ (r : List Row). slice_index_or r 0 other) from ∙ dropped_is rows at other row there
