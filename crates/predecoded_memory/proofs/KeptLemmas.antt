-- Rows that are kept stay so where words are written and their rows emptied.
use Rattle.std.proofs.Common.{◌≡◌, ◌≢◌, ◌⊎◌, ℕ, suc, ◌+◌, ◌*◌, ◌/◌, ◌%◌, ◌^◌, ◌<◌, ◌≤◌, Bool, true, false, ◌==◌, List, [], ◌∷◌, length, get_or, Option, Some, None, Result, Ok, Err, refl, sym, ap, ◌∙◌, inl, inr, ⊎_elim, subst, arith, eqb-true}
use Rattle.std.specs.Bool.{OnTrue}
use Rattle.std.specs.FinMap.{empty}
use Rattle.std.specs.Int.{byte_len, to_be_bytes}
use Rattle.std.specs.Prelude.{◌-◌, All, OnErr, OnOk, bit_xor, min, slice_get, slice_index}
use Rattle.std.proofs.lemmas.Bool.{cases_eq, cases_lt}
use Rattle.std.proofs.lemmas.List.{get_or-set_other, get_or-set_same}
use Rattle.std.proofs.lemmas.Option.{same_Some, slice_get-get_or, slice_get_read, slice_get_within}
use Rattle.guest_bus.specs.Access.{access_fault, after_store, memory_unless_refused, store_fault, width_of}
use Rattle.guest_bus.specs.lemmas.AccessLemmas.{length-bytes_high_first, length-bytes_of}
use Rattle.guest_bus.specs.Memory.{Area, Memory, byte_at, is_writable, with_bytes}
use Rattle.guest_bus.specs.Words.{MayStand, bytes_of}
use Rattle.guest_bus.specs.declared.bus.BusFault.{BusFault}
use Rattle.guest_bus.specs.declared.bus.Size.{Size}
use Rattle.guest_memory.specs.Flips.{with_flipped}
use Rattle.guest_memory.specs.Memories.{AreMemories, ArePlaced, IsPlaced, Memories, areas_at, map_at, with_map, with_selected}
use Rattle.predecode.specs.lemmas.Reached.{IsReached, reached_or_apart, word_after, words_fit, words_written}
use Rattle.predecoded_memory.specs.lemmas.SharesTerms.{AreEmptied, AreReached, WasEmptied, emptied}
use Rattle.predecoded_memory.specs.Shares.{AreKept, AreLengths, ArePairs, ArePartRows, AreUnmade, EndsIn, first_address, lowest, made_of}
use Rattle.predecode.specs.Kept.{AreKeptRows, IsBranchOn, IsKeptRow}
use Rattle.predecode.specs.Kinds.{is_exit, is_unmade}
use Rattle.predecode.specs.lemmas.KeptLemmas.{empty_kept, kept_apart}
use Rattle.predecode.specs.Rows.{AreRegisterNumbers}
use Rattle.predecode.specs.declared.rows.Row.{Row}
use Rattle.predecoded_memory.specs.declared.share.PartRows.{PartRows}
use Rattle.predecoded_memory.proofs.EmptiedLemmas.{no_pair}

-- the registers of a row that is emptied
emptied_numbers : (row : Row) → AreRegisterNumbers row → AreRegisterNumbers (emptied row)
emptied_numbers row numbers = record {
  rd = tt;
  rs1 = numbers.rs1;
  rs2 = numbers.rs2;
  condition = tt;
  form = tt;
}

-- an emptied row is kept of any word
emptied_kept : (row before : Row) (areas : List Area) (memory : Memory) (address : ℕ) → row ≡ emptied before → AreRegisterNumbers before → IsKeptRow row areas memory address
emptied_kept row before areas memory address is numbers =
    empty_kept row areas memory address (ap (λ (r : Row). is_unmade r.kind) is) (subst (λ (r : Row). AreRegisterNumbers r) (sym is) (emptied_numbers before numbers))

-- rows of which some are emptied are kept where they were
pub still_kept : (begin end : ℕ) (rows new : List Row) (base share : ℕ) (areas : List Area) (memory : Memory) (first : ℕ) → AreEmptied begin end rows new → AreKeptRows rows base share areas memory first → AreKeptRows new base share areas memory first
still_kept begin end rows new base share areas memory first are kept k row below there = at (are.each (base + k) row there)
  where
    at : ((slice_get rows (base + k) ≡ Some row) × ((base + k < begin) ⊎ (end ≤ base + k))) ⊎ WasEmptied rows (base + k) row → IsKeptRow row areas memory (first + 4 * k)
    at (inl was) = kept k row below was.0
    at (inr was) = emptied_kept row was.before areas memory (first + 4 * k) was.is (kept k was.before below was.there).registers

-- those that are empty are so still
pub still_unmade : (begin end : ℕ) (rows new : List Row) (base top share : ℕ) → AreEmptied begin end rows new → AreUnmade rows base top share → AreUnmade new base top share
still_unmade begin end rows new base top share are free k row from below there = at (are.each (base + k) row there)
  where
    at : ((slice_get rows (base + k) ≡ Some row) × ((base + k < begin) ⊎ (end ≤ base + k))) ⊎ WasEmptied rows (base + k) row → is_unmade row.kind ≡ true
    at (inl was) = free k row from below was.0
    at (inr was) = ap (λ (r : Row). is_unmade r.kind) was.is

-- each row of a pair that is left stands before its branch
pub still_pairs : (begin end : ℕ) (rows new : List Row) (base top : ℕ) → AreEmptied begin end rows new → ArePairs rows base top → ArePairs new base top
still_pairs begin end rows new base top are pairs k row condition below there pair = at (are.each (base + k) row there)
  where
    at : ((slice_get rows (base + k) ≡ Some row) × ((base + k < begin) ⊎ (end ≤ base + k))) ⊎ WasEmptied rows (base + k) row → (k + 1 < top) × IsBranchOn (Some condition) (slice_get new (base + k + 1))
    at (inl was) = let old = pairs k row condition below was.0 pair in (old.0, are.pairs (base + k) row condition there pair old.1)
    at (inr was) = absurd (no_pair row was.before condition was.is pair)

-- an exit that is emptied is an exit
still_ends : (begin end : ℕ) (rows new : List Row) (base count from to : ℕ) → AreEmptied begin end rows new → EndsIn rows base count from to → EndsIn new base count from to
still_ends begin end rows new base count from to are ends = record {
  place = ends.place;
  from = ends.from;
  under = ends.under;
  within = ends.within;
  row = get_or new (base + ends.place) ends.row;
  there = there;
  exit = at (are.each (base + ends.place) (get_or new (base + ends.place) ends.row) there);
}
  where
    there : slice_get new (base + ends.place) ≡ Some (get_or new (base + ends.place) ends.row)
    there = slice_get-get_or new (base + ends.place) ends.row (omega (arith, slice_get_within rows (base + ends.place) ends.row ends.there, are.counted))

    at : ((slice_get rows (base + ends.place) ≡ Some (get_or new (base + ends.place) ends.row)) × ((base + ends.place < begin) ⊎ (end ≤ base + ends.place))) ⊎ WasEmptied rows (base + ends.place) (get_or new (base + ends.place) ends.row)
        → is_exit (get_or new (base + ends.place) ends.row).kind ≡ true
    at (inl was) = ap (λ (r : Row). is_exit r.kind) (same_Some (get_or new (base + ends.place) ends.row) ends.row (sym was.0 ∙ ends.there)) ∙ ends.exit
    at (inr was) = ap (λ (r : Row). is_exit r.kind) was.is

-- so lengths are still those of blocks
pub still_lengths : (begin end : ℕ) (rows new : List Row) (lengths : List ℕ) (base share count : ℕ) → AreEmptied begin end rows new → AreLengths lengths rows base share count → AreLengths lengths new base share count
still_lengths begin end rows new lengths base share count are known k below short =
    still_ends begin end rows new base count k (k + slice_index lengths (base + k) + 1) are (known k below short)

-- rows of a share are kept of the memory with other bytes, where those of the words with these bytes are emptied or were empty
pub written_kept : (rows new : List Row) (base share top place count : ℕ) (areas : List Area) (memory : Memory) (first start : ℕ) (bytes : List ℕ) → AreReached base top place count rows new → AreUnmade rows base top share
    → ((k : ℕ) → (first + 4 * k + 4 ≤ start) ⊎ ((start + length bytes ≤ first + 4 * k) ⊎ IsReached place count k))
    → AreKeptRows rows base share areas memory first → AreKeptRows new base share areas (with_bytes memory start bytes) first
written_kept rows new base share top place count areas memory first start bytes reached free apart kept k row below there = at (reached.done.each (base + k) row there)
  where
    hit : slice_get rows (base + k) ≡ Some row → (base + k < base + reached.begin) ⊎ (base + reached.end ≤ base + k) → IsReached place count k → (k < top) ⊎ (top ≤ k) → IsKeptRow row areas (with_bytes memory start bytes) (first + 4 * k)
    hit was outside reach (inl under_top) =
        let inside = reached.each k under_top reach in
        absurd (⊎_elim (λ under. omega (arith, under, inside.0)) (λ over. omega (arith, over, inside.1)) outside)
    hit was outside reach (inr from_top) =
        empty_kept row areas (with_bytes memory start bytes) (first + 4 * k) (free k row from_top below was) (kept k row below was).registers

    old : slice_get rows (base + k) ≡ Some row → (base + k < base + reached.begin) ⊎ (base + reached.end ≤ base + k)
        → (first + 4 * k + 4 ≤ start) ⊎ ((start + length bytes ≤ first + 4 * k) ⊎ IsReached place count k) → IsKeptRow row areas (with_bytes memory start bytes) (first + 4 * k)
    old was outside (inl before) = kept_apart row areas memory (first + 4 * k) start bytes (inl before) (kept k row below was)
    old was outside (inr (inl following)) = kept_apart row areas memory (first + 4 * k) start bytes (inr following) (kept k row below was)
    old was outside (inr (inr reach)) = hit was outside reach (cases_lt k top)

    at : ((slice_get rows (base + k) ≡ Some row) × ((base + k < base + reached.begin) ⊎ (base + reached.end ≤ base + k))) ⊎ WasEmptied rows (base + k) row → IsKeptRow row areas (with_bytes memory start bytes) (first + 4 * k)
    at (inl was) = old was.0 was.1 (apart k)
    at (inr was) = emptied_kept row was.before areas (with_bytes memory start bytes) (first + 4 * k) was.is (kept k was.before below was.there).registers

-- rows of a share that are all emptied or were empty are kept of any memory
pub all_kept : (rows new : List Row) (base share top : ℕ) (areas : List Area) (memory other : Memory) (first : ℕ) → AreReached base top 0 top rows new → AreUnmade rows base top share → AreKeptRows rows base share areas memory first → AreKeptRows new base share areas other first
all_kept rows new base share top areas memory other first reached free kept k row below there = at (reached.done.each (base + k) row there)
  where
    left : slice_get rows (base + k) ≡ Some row → (base + k < base + reached.begin) ⊎ (base + reached.end ≤ base + k) → (k < top) ⊎ (top ≤ k) → IsKeptRow row areas other (first + 4 * k)
    left was outside (inl under_top) =
        let inside = reached.each k under_top (inl (omega arith, omega (arith, under_top))) in
        absurd (⊎_elim (λ under. omega (arith, under, inside.0)) (λ over. omega (arith, over, inside.1)) outside)
    left was outside (inr from_top) = empty_kept row areas other (first + 4 * k) (free k row from_top below was) (kept k row below was).registers

    at : ((slice_get rows (base + k) ≡ Some row) × ((base + k < base + reached.begin) ⊎ (base + reached.end ≤ base + k))) ⊎ WasEmptied rows (base + k) row → IsKeptRow row areas other (first + 4 * k)
    at (inl was) = left was.0 was.1 (cases_lt k top)
    at (inr was) = emptied_kept row was.before areas other (first + 4 * k) was.is (kept k was.before below was.there).registers

-- an access that nothing refuses is aligned
aligned_free : (allowed : ℕ → Bool) (address count : ℕ) → access_fault allowed address count ≡ None → address % count ≡ 0
aligned_free allowed address count free = at (address % count == 0) refl free
  where
    at : (aligned : Bool) → (address % count == 0) ≡ aligned → access_fault allowed address count ≡ None → address % count ≡ 0
    at true is none = eqb-true (address % count) 0 is
    at false is none = let refused = rw is at none in absurd cc

-- so they are where a store was done or refused
pub stored_kept : (rows new : List Row) (base share top : ℕ) (areas : List Area) (memory : Memory) (first address : ℕ) (size : Size) (value : ℕ) → AreReached base top (word_after first address) (words_written size) rows new → AreUnmade rows base top share
    → first % 4 ≡ 0 → first ≤ 2 ^ 32 → address < 2 ^ 32 → AreKeptRows rows base share areas memory first → AreKeptRows new base share areas (after_store areas memory address size value) first
unfolding after_store store_fault
stored_kept rows new base share top areas memory first address size value reached free whole below small kept = at (access_fault (is_writable areas) address (byte_len (width_of size))) refl
  where
    at : (fault : Option BusFault) → access_fault (is_writable areas) address (byte_len (width_of size)) ≡ fault
        → AreKeptRows new base share areas (memory_unless_refused fault memory (with_bytes memory address (to_be_bytes (width_of size) value))) first
    at None none =
        let counted : length (to_be_bytes (width_of size) value) ≡ byte_len (width_of size) = length-bytes_high_first (byte_len (width_of size)) value in
        let fits = words_fit size address (aligned_free (is_writable areas) address (byte_len (width_of size)) none) in
        written_kept rows new base share top (word_after first address) (words_written size) areas memory first address (to_be_bytes (width_of size) value) reached free
        (λ k. reached_or_apart first address (words_written size) (length (to_be_bytes (width_of size) value)) k whole below small (omega (arith, counted, fits))) kept
    at (Some fault) refused = still_kept (base + reached.begin) (base + reached.end) rows new base share areas memory first reached.done kept

-- and where sixteen words were
pub sixteen_kept : (done : Bool) (rows new : List Row) (base share top : ℕ) (areas : List Area) (memory other : Memory) (first address : ℕ) (words : List ℕ) → AreReached base top (word_after first address) 16 rows new → AreUnmade rows base top share
    → OnTrue done (MayStand (is_writable areas) address) → OnTrue done (other ≡ with_bytes memory address (bytes_of words)) → (done ≡ false → other ≡ memory)
    → length words ≡ 16 → first % 4 ≡ 0 → first ≤ 2 ^ 32 → address < 2 ^ 32 → AreKeptRows rows base share areas memory first → AreKeptRows new base share areas other first
sixteen_kept true rows new base share top areas memory other first address words reached free stands written not_done counted whole below small kept =
    subst (λ (m : Memory). AreKeptRows new base share areas m first) (sym written)
    (written_kept rows new base share top (word_after first address) 16 areas memory first address (bytes_of words) reached free
    (λ k. reached_or_apart first address 16 (length (bytes_of words)) k whole below small (omega (arith, length-bytes_of words, counted, stands.aligned))) kept)
sixteen_kept false rows new base share top areas memory other first address words reached free stands written not_done counted whole below small kept =
    subst (λ (m : Memory). AreKeptRows new base share areas m first) (sym (not_done refl))
    (still_kept (base + reached.begin) (base + reached.end) rows new base share areas memory first reached.done kept)

-- numbers and places of what is emptied, by others
pub reached_moved : (base there top place address count : ℕ) (rows old new : List Row) → base ≡ there → place ≡ address → rows ≡ old → AreReached base top place count rows new → AreReached there top address count old new
reached_moved base there top place address count rows old new moved placed same reached =
    subst (λ (b : ℕ). AreReached b top address count old new) moved
    (subst (λ (k : ℕ). AreReached base top k count old new) placed
    (subst (λ (r : List Row). AreReached base top place count r new) same reached))

-- the lowest address of areas is that of a word
lowest_whole : (least : ℕ) (areas : List Area) → least % 4 ≡ 0 → All IsPlaced areas → lowest least areas % 4 ≡ 0
lowest_whole least [] whole all = whole
lowest_whole least (area ∷ areas) whole all =
    lowest_whole (min least area.start) areas (omega (arith, whole, (all 0 area (omega arith)).start)) (λ i d below. all (suc i) d (omega (arith, below)))

lowest_low : (least : ℕ) (areas : List Area) → least ≤ 2 ^ 32 → lowest least areas ≤ 2 ^ 32
lowest_low least [] low = low
lowest_low least (area ∷ areas) low = lowest_low (min least area.start) areas (omega (arith, low))

pub first_whole : (areas : List Area) → ArePlaced areas → first_address areas % 4 ≡ 0
first_whole [] placed = refl
first_whole (area ∷ areas) placed = lowest_whole area.start areas (omega (arith, (placed.each 0 area (omega arith)).start)) (λ i d below. placed.each (suc i) d (omega (arith, below)))

pub first_low : (areas : List Area) → ArePlaced areas → first_address areas ≤ 2 ^ 32
first_low [] placed = omega arith
first_low (area ∷ areas) placed = lowest_low area.start areas (omega (arith, (placed.each 0 area (omega arith)).ends))

-- where the rows of a partition are
pub listed_at : (m : Memories) (rows : List Row) (lengths : List ℕ) (parts : List PartRows) (share top : ℕ) (own : PartRows) (p : ℕ) (part : PartRows) → AreKept m rows lengths parts share top own → p < length m.areas → part ≡ get_or parts p part → slice_get parts p ≡ Some part
listed_at m rows lengths parts share top own p part is below here = slice_get_read parts (length parts) p part refl (omega (arith, below, is.known.counted)) here

pub part_at : (m : Memories) (rows : List Row) (lengths : List ℕ) (parts : List PartRows) (share top : ℕ) (own : PartRows) (p : ℕ) (part : PartRows) → AreKept m rows lengths parts share top own → p < length m.areas → part ≡ get_or parts p part → ArePartRows share (p * share) (areas_at p m) part
part_at m rows lengths parts share top own p part is below here = is.known.each p part (listed_at m rows lengths parts share top own p part is below here)

-- all rows are kept where one memory is another
pub mapped_kept : (old : Memories) (map : Memory) (rows new : List Row) (lengths : List ℕ) (parts : List PartRows) (share top : ℕ) (own : PartRows) (p begin end : ℕ) → AreKept old rows lengths parts share top own → AreMemories (with_map p map old) → AreEmptied begin end rows new
    → p < length old.areas → AreKeptRows new (p * share) share (areas_at p old) map (first_address (areas_at p old)) → AreKept (with_map p map old) new lengths parts share top own
mapped_kept old map rows new lengths parts share top own p begin end is are emptied below mine = record {
  are = are;
  shared = is.shared;
  whole = emptied.counted ∙ is.whole;
  few = omega (arith, emptied.counted, is.few);
  measured = is.measured ∙ sym emptied.counted;
  known = is.known;
  current = is.current;
  listed = is.listed;
  each = λ q within. ⊎_elim (same q) (other q within) (cases_eq q p);
  pairs = λ q within. still_pairs begin end rows new (q * share) top emptied (is.pairs q within);
  ends = λ q part there. still_lengths begin end rows new lengths (q * share) share (made_of top part) emptied (is.ends q part there);
  high = is.high;
  free = λ q within. still_unmade begin end rows new (q * share) top share emptied (is.free q within);
  past = λ q part there. still_unmade begin end rows new (q * share) (part.words.end - part.words.begin) share emptied (is.past q part there);
}
  where
    here : map_at p (with_map p map old) ≡ map
    here = get_or-set_same old.maps p map empty (omega (arith, below, is.are.counted))

    same : (q : ℕ) → q ≡ p → AreKeptRows new (q * share) share (areas_at q old) (map_at q (with_map p map old)) (first_address (areas_at q old))
    same q is_p =
        subst (λ (n : ℕ). AreKeptRows new (n * share) share (areas_at n old) (map_at n (with_map p map old)) (first_address (areas_at n old))) (sym is_p)
        (subst (λ (m : Memory). AreKeptRows new (p * share) share (areas_at p old) m (first_address (areas_at p old))) (sym here) mine)

    other : (q : ℕ) → q < length old.areas → q ≢ p → AreKeptRows new (q * share) share (areas_at q old) (map_at q (with_map p map old)) (first_address (areas_at q old))
    other q within ne =
        subst (λ (m : Memory). AreKeptRows new (q * share) share (areas_at q old) m (first_address (areas_at q old))) (sym (get_or-set_other old.maps p q map empty ne))
        (still_kept begin end rows new (q * share) share (areas_at q old) (map_at q old) (first_address (areas_at q old)) emptied (is.each q within))

-- where another partition is selected
pub selected_kept : (old : Memories) (rows : List Row) (lengths : List ℕ) (parts : List PartRows) (share top : ℕ) (own : PartRows) (p : ℕ) (part : PartRows) → AreKept old rows lengths parts share top own → AreMemories (with_selected p old) → ArePartRows share (p * share) (areas_at p old) part → slice_get parts p ≡ Some part → AreKept (with_selected p old) rows lengths parts share top part
selected_kept old rows lengths parts share top own p part is are part_is there = record {
  are = are;
  shared = is.shared;
  whole = is.whole;
  few = is.few;
  measured = is.measured;
  known = is.known;
  current = part_is;
  listed = there;
  each = is.each;
  pairs = is.pairs;
  ends = is.ends;
  high = is.high;
  free = is.free;
  past = is.past;
}

-- and where some are emptied
pub some_kept : (old : Memories) (rows new : List Row) (lengths : List ℕ) (parts : List PartRows) (share top : ℕ) (own : PartRows) (begin end : ℕ) → AreKept old rows lengths parts share top own → AreEmptied begin end rows new → AreKept old new lengths parts share top own
some_kept old rows new lengths parts share top own begin end is emptied = record {
  are = is.are;
  shared = is.shared;
  whole = emptied.counted ∙ is.whole;
  few = omega (arith, emptied.counted, is.few);
  measured = is.measured ∙ sym emptied.counted;
  known = is.known;
  current = is.current;
  listed = is.listed;
  each = λ q within. still_kept begin end rows new (q * share) share (areas_at q old) (map_at q old) (first_address (areas_at q old)) emptied (is.each q within);
  pairs = λ q within. still_pairs begin end rows new (q * share) top emptied (is.pairs q within);
  ends = λ q part there. still_lengths begin end rows new lengths (q * share) share (made_of top part) emptied (is.ends q part there);
  high = is.high;
  free = λ q within. still_unmade begin end rows new (q * share) top share emptied (is.free q within);
  past = λ q part there. still_unmade begin end rows new (q * share) (part.words.end - part.words.begin) share emptied (is.past q part there);
}

-- what a copy leaves
pub copied_kept : {E : Type 0} (result : Result (Unit {0}) E) (old other : Memories) (rows new : List Row) (lengths : List ℕ) (parts : List PartRows) (share top : ℕ) (own : PartRows) (p address : ℕ) (bytes : List ℕ)
    → AreKept old rows lengths parts share top own → p < length old.areas → address < 2 ^ 32 → AreReached (p * share) top (word_after (first_address (areas_at p old)) address) (length bytes / 4 + 2) rows new
    → OnOk result (other ≡ with_map p (with_bytes (map_at p old) address bytes) old) → OnErr result (other ≡ old) → AreMemories other → AreKept other new lengths parts share top own
copied_kept (Ok done) old other rows new lengths parts share top own p address bytes is below small reached written unchanged are =
    let placed = is.are.placed p [] below in
    let counted : address % 4 + length bytes ≤ 4 * (length bytes / 4 + 2) = omega arith in
    subst (λ (m : Memories). AreKept m new lengths parts share top own) (sym written)
    (mapped_kept old (with_bytes (map_at p old) address bytes) rows new lengths parts share top own p (p * share + reached.begin) (p * share + reached.end) is (subst (λ (m : Memories). AreMemories m) written are) reached.done below
    (written_kept rows new (p * share) share top (word_after (first_address (areas_at p old)) address) (length bytes / 4 + 2) (areas_at p old) (map_at p old) (first_address (areas_at p old)) address bytes reached (is.free p below)
    (λ k. reached_or_apart (first_address (areas_at p old)) address (length bytes / 4 + 2) (length bytes) k (first_whole (areas_at p old) placed) (first_low (areas_at p old) placed) small counted) (is.each p below)))
copied_kept (Err fault) old other rows new lengths parts share top own p address bytes is below small reached written unchanged are =
    subst (λ (m : Memories). AreKept m new lengths parts share top own) (sym unchanged)
    (some_kept old rows new lengths parts share top own (p * share + reached.begin) (p * share + reached.end) is reached.done)

-- what the flip of a bit leaves
pub flipped_kept : (old other : Memories) (rows new : List Row) (lengths : List ℕ) (parts : List PartRows) (share top : ℕ) (own : PartRows) (p address bit : ℕ) → AreKept old rows lengths parts share top own → p < length old.areas → address < 2 ^ 32
    → AreReached (p * share) top (word_after (first_address (areas_at p old)) address) 1 rows new → other ≡ with_map p (with_flipped address bit (map_at p old)) old → AreMemories other → AreKept other new lengths parts share top own
flipped_kept old other rows new lengths parts share top own p address bit is below small reached flipped are =
    let placed = is.are.placed p [] below in
    let counted : address % 4 + 1 ≤ 4 * 1 = omega arith in
    subst (λ (m : Memories). AreKept m new lengths parts share top own) (sym flipped)
    (mapped_kept old (with_flipped address bit (map_at p old)) rows new lengths parts share top own p (p * share + reached.begin) (p * share + reached.end) is (subst (λ (m : Memories). AreMemories m) flipped are) reached.done below
    (written_kept rows new (p * share) share top (word_after (first_address (areas_at p old)) address) 1 (areas_at p old) (map_at p old) (first_address (areas_at p old)) address (bit_xor (byte_at (map_at p old) address) (2 ^ bit) ∷ []) reached (is.free p below)
    (λ k. reached_or_apart (first_address (areas_at p old)) address 1 1 k (first_whole (areas_at p old) placed) (first_low (areas_at p old) placed) small counted) (is.each p below)))

-- what a reload leaves
pub reloaded_kept : (old other : Memories) (map : Memory) (rows new : List Row) (lengths : List ℕ) (parts : List PartRows) (share top : ℕ) (own : PartRows) (p : ℕ) → AreKept old rows lengths parts share top own → p < length old.areas → AreReached (p * share) top 0 top rows new
    → other ≡ with_map p map old → AreMemories other → AreKept other new lengths parts share top own
reloaded_kept old other map rows new lengths parts share top own p is below reached written are =
    subst (λ (m : Memories). AreKept m new lengths parts share top own) (sym written)
    (mapped_kept old map rows new lengths parts share top own p (p * share + reached.begin) (p * share + reached.end) is (subst (λ (m : Memories). AreMemories m) written are) reached.done below
    (all_kept rows new (p * share) share top (areas_at p old) (map_at p old) map (first_address (areas_at p old)) reached (is.free p below) (is.each p below)))
