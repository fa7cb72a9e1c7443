-- The rows that there are at first.
use Rattle.std.proofs.Common.{◌≡◌, ◌⊎◌, ℕ, zero, suc, ◌+◌, ◌*◌, ◌<◌, List, [], ◌∷◌, ◌++◌, length, length-append, get_or, map, replicate, Some, refl, sym, ap, ◌∙◌, inl, inr, ⊎_elim, subst, arith}
use Rattle.std.specs.Prelude.{slice_get, slice_index}
use Rattle.std.proofs.lemmas.List.{get_or-map, get_or-replicate, length-replicate}
use Rattle.std.proofs.lemmas.Option.{same_Some, slice_get_within}
use Rattle.xm_conf.specs.Configuration.{Part}
use Rattle.guest_bus.specs.Memory.{Area}
use Rattle.guest_memory.specs.Loading.{memory_areas}
use Rattle.guest_memory.specs.Memories.{AreMemories, Memories, areas_at, map_at}
use Rattle.predecoded_memory.specs.lemmas.SharesTerms.{AreEmpty, empty_row}
use Rattle.predecoded_memory.specs.Shares.{AreKept, AreParts, ArePartRows, first_address, share_for, widest}
use Rattle.predecoded_memory.specs.declared.share.PartRows.{PartRows}
use Rattle.predecode.specs.Kinds.{is_unmade}
use Rattle.predecode.specs.lemmas.KeptLemmas.{empty_kept}
use Rattle.predecode.specs.Rows.{AreRegisterNumbers}
use Rattle.predecode.specs.declared.rows.Row.{Row}
use Rattle.predecoded_memory.proofs.ShareLemmas.{share_fits, shares_fit}

-- the rows of this many partitions, those of each after those of the ones before it
pub record AreFirstParts (share count : ℕ) (areas : List (List Area)) (parts : List PartRows) : Type 0 where
  pub counted : length parts ≡ count
  pub each : (p : ℕ) (part : PartRows) → slice_get parts p ≡ Some part → ArePartRows share (p * share) (get_or areas p []) part

-- what stands in a list with one more
last_or_before : {X : Type 0} (xs : List X) (x y : X) (i : ℕ) → slice_get (xs ++ x ∷ []) i ≡ Some y → (slice_get xs i ≡ Some y) ⊎ ((i ≡ length xs) × (x ≡ y))
last_or_before [] x y zero there = inr (refl, same_Some x y there)
last_or_before [] x y (suc i) there = absurd cc
last_or_before (z ∷ zs) x y zero there = inl there
last_or_before (z ∷ zs) x y (suc i) there = ⊎_elim inl (λ last. inr (ap suc last.0, last.1)) (last_or_before zs x y i there)

-- the areas of a partition
pub part_areas : (parts : List Part) (i : ℕ) (part : Part) → i < length parts → part ≡ get_or parts i part → get_or (map memory_areas parts) i [] ≡ memory_areas part
part_areas parts i part below here = get_or-map memory_areas parts i part [] below ∙ ap memory_areas (sym here)

-- those of one partition more
pub parts_push : (share count : ℕ) (areas : List (List Area)) (parts : List PartRows) (part : PartRows) → AreFirstParts share count areas parts → ArePartRows share (count * share) (get_or areas count []) part → AreFirstParts share (count + 1) areas (parts ++ part ∷ [])
parts_push share count areas parts part are is = record {
  counted = omega (arith, length-append parts (part ∷ []), are.counted);
  each = λ p other there. ⊎_elim (are.each p other) (last p other) (last_or_before parts part other p there);
}
  where
    last : (p : ℕ) (other : PartRows) → (p ≡ length parts) × (part ≡ other) → ArePartRows share (p * share) (get_or areas p []) other
    last p other same =
        subst (λ (n : ℕ). ArePartRows share (n * share) (get_or areas n []) other) (sym (same.0 ∙ are.counted))
        (subst (λ (q : PartRows). ArePartRows share (count * share) (get_or areas count []) q) same.1 is)

-- the registers of an empty row
empty_numbers : AreRegisterNumbers empty_row
empty_numbers = record {
  rd = tt;
  rs1 = omega arith;
  rs2 = omega arith;
  condition = tt;
  form = tt;
}

-- no length of many unknown ones is that of a block
none_known : (lengths : List ℕ) (count i : ℕ) → lengths ≡ replicate count 255 → i < count → slice_index lengths i < 128 → ⊥
none_known lengths count i unknown below short =
    let long : get_or lengths i 0 ≡ 255 = ap (λ (l : List ℕ). get_or l i 0) unknown ∙ get_or-replicate count i 255 0 below in
    omega (arith, short, long)

-- empty rows are kept of all words
pub first_kept : (m : Memories) (rows : List Row) (lengths : List ℕ) (parts : List PartRows) (share : ℕ) (own : PartRows) → AreMemories m → m.selected ≡ 0 → AreEmpty rows → length rows ≡ length m.areas * share → lengths ≡ replicate (length rows) 255
    → share ≡ share_for (length m.areas) (widest 0 m.areas) → AreParts share m.areas parts → slice_get parts 0 ≡ Some own → AreKept m rows lengths parts share 0 own
first_kept m rows lengths parts share own are selected empty whole unknown shared known first = record {
  are = are;
  shared = shared;
  whole = whole;
  few = let fits = shares_fit (length m.areas) (widest 0 m.areas) in omega (arith, whole, ap (λ (n : ℕ). length m.areas * n) shared, fits);
  measured = ap length unknown ∙ length-replicate (length rows) 255;
  known = known;
  current = subst (λ (n : ℕ). ArePartRows share (n * share) (areas_at n m) own) (sym selected) (known.each 0 own first);
  listed = subst (λ (n : ℕ). slice_get parts n ≡ Some own) (sym selected) first;
  each = λ p below k row few there.
      let is = empty (p * share + k) row there in
      empty_kept row (areas_at p m) (map_at p m) (first_address (areas_at p m) + 4 * k) (ap (λ (r : Row). is_unmade r.kind) is) (subst (λ (r : Row). AreRegisterNumbers r) (sym is) empty_numbers);
  pairs = λ p below k row condition under. absurd (omega (arith, under));
  ends = λ p part there k few short. absurd (none_known lengths (length rows) (p * share + k) unknown (within p part there k few) short);
  high = omega arith;
  free = λ p below k row from few there. ap (λ (r : Row). is_unmade r.kind) (empty (p * share + k) row there);
  past = λ p part here k row from few there. ap (λ (r : Row). is_unmade r.kind) (empty (p * share + k) row there);
}
  where
    within : (p : ℕ) (part : PartRows) → slice_get parts p ≡ Some part → (k : ℕ) → k < share → p * share + k < length rows
    within p part there k few =
        let fits = share_fits p share (length m.areas) (omega (arith, slice_get_within parts p part there, known.counted)) in
        omega (arith, whole, fits, few)
