-- Rows of the selected partition that were made: all is kept.
use borrow.Rule.Slice.PartMut.{put_mid}
use Rattle.std.proofs.Common.{◌≡◌, ◌≢◌, ◌⊎◌, ℕ, ◌+◌, ◌-◌, ◌*◌, ◌<◌, ◌≤◌, List, length, max, take, drop, Option, Some, inl, inr, ⊎_elim, sym, ap, ◌∙◌, subst, arith}
use Rattle.std.proofs.lemmas.Bool.{cases_eq, cases_lt}
use Rattle.std.proofs.lemmas.Option.{same_Some, slice_get_within}
use Rattle.std.specs.Prelude.{slice_get, slice_index}
use Rattle.guest_memory.specs.Memories.{Memories, areas_at, map_at}
use Rattle.predecode.specs.Kept.{AreKeptRows, IsBranchOn, IsKeptRow}
use Rattle.predecode.specs.Kinds.{follows}
use Rattle.predecode.specs.declared.rows.Row.{Row}
use Rattle.fast_loop.specs.Keeping.{EndsWithin}
use Rattle.predecoded_memory.specs.Shares.{AreKept, ArePairs, AreUnmade, EndsIn, first_address, made_of}
use Rattle.predecoded_memory.specs.Shares as share
use Rattle.predecoded_memory.specs.lemmas.MakingTerms.{AreGrown}
use Rattle.predecoded_memory.specs.declared.share.PartRows.{PartRows}
use Rattle.predecoded_memory.proofs.GoingLemmas.{branch_made, get_part, own_fits, own_under, part_counted, unmade_alone}
use Rattle.predecoded_memory.proofs.MakingLemmas.{put_before, put_beyond, put_counted, put_within, read_same}
use Rattle.predecoded_memory.proofs.ShareLemmas.{share_fits}

module _ (m : Memories) (rows : List Row) (lengths : List ℕ) (parts : List PartRows) (size top : ℕ) (own : PartRows) (is : AreKept m rows lengths parts size top own)
    (count made : ℕ) (new : List Row) (are : List ℕ) (counted : count ≡ own.words.end - own.words.begin) (within : made ≤ count)
    (grown : AreGrown (areas_at m.selected m) (map_at m.selected m) own.first made (take count (drop own.words.begin rows)) (take count (drop own.words.begin lengths)) new are) where
  -- the part that was written
  count_under : count ≤ size
  count_under = let under = own_under m rows lengths parts size top own is in omega (arith, counted, under)

  rows_fit : own.words.begin + count ≤ length rows
  rows_fit = let fits = own_fits m rows lengths parts size top own is in omega (arith, counted, fits)

  lengths_fit : own.words.begin + count ≤ length lengths
  lengths_fit = omega (arith, rows_fit, is.measured)

  rows_counted : length new ≡ count
  rows_counted = grown.counted ∙ part_counted count own.words.begin rows rows_fit

  lengths_counted : length are ≡ count
  lengths_counted = grown.lengths.counted ∙ rows_counted

  -- a place of a share is one of the part, or outside it
  outside : (p k : ℕ) → k < size → ((p ≡ m.selected) × (k < count)) ⊎ ((p * size + k < own.words.begin) ⊎ (own.words.begin + count ≤ p * size + k))
  outside p k below = ⊎_elim same other (cases_eq p m.selected)
    where
      same : p ≡ m.selected → ((p ≡ m.selected) × (k < count)) ⊎ ((p * size + k < own.words.begin) ⊎ (own.words.begin + count ≤ p * size + k))
      same e =
          let base : p * size ≡ own.words.begin = ap (λ (n : ℕ). n * size) e ∙ sym is.current.begin in
          ⊎_elim (λ under. inl (e, under)) (λ over. inr (inr (omega (arith, base, over)))) (cases_lt k count)

      other : p ≢ m.selected → ((p ≡ m.selected) × (k < count)) ⊎ ((p * size + k < own.words.begin) ⊎ (own.words.begin + count ≤ p * size + k))
      other ne = ⊎_elim
          (λ before. let fits = share_fits p size m.selected before in inr (inl (omega (arith, fits, below, is.current.begin))))
          (λ after. let fits = share_fits m.selected size p (omega (arith, after, ne)) in inr (inr (omega (arith, fits, is.current.begin, count_under))))
          (cases_lt p m.selected)

  -- what stands outside it is what stood there
  row_outside : (i : ℕ) → (i < own.words.begin) ⊎ (own.words.begin + count ≤ i) → slice_get (put_mid own.words.begin count rows new) i ≡ slice_get rows i
  row_outside i (inl before) = put_before own.words.begin count rows new rows_fit rows_counted i before
  row_outside i (inr beyond) = put_beyond own.words.begin count rows new rows_fit rows_counted i beyond

  length_outside : (i : ℕ) → (i < own.words.begin) ⊎ (own.words.begin + count ≤ i) → slice_index (put_mid own.words.begin count lengths are) i ≡ slice_index lengths i
  length_outside i (inl before) = read_same (put_mid own.words.begin count lengths are) lengths i i (put_before own.words.begin count lengths are lengths_fit lengths_counted i before)
  length_outside i (inr beyond) = read_same (put_mid own.words.begin count lengths are) lengths i i (put_beyond own.words.begin count lengths are lengths_fit lengths_counted i beyond)

  -- and in it what was made
  place_is : (p k : ℕ) → p ≡ m.selected → p * size + k ≡ own.words.begin + k
  place_is p k e = let base : p * size ≡ own.words.begin = ap (λ (n : ℕ). n * size) e ∙ sym is.current.begin in omega (arith, base)

  row_inside : (p k : ℕ) → p ≡ m.selected → k < count → slice_get (put_mid own.words.begin count rows new) (p * size + k) ≡ slice_get new k
  row_inside p k e below = ap (slice_get (put_mid own.words.begin count rows new)) (place_is p k e) ∙ put_within own.words.begin count rows new rows_fit rows_counted k below

  length_inside : (p k : ℕ) → p ≡ m.selected → k < count → slice_index (put_mid own.words.begin count lengths are) (p * size + k) ≡ slice_index are k
  length_inside p k e below =
      read_same (put_mid own.words.begin count lengths are) are (p * size + k) k
      (ap (slice_get (put_mid own.words.begin count lengths are)) (place_is p k e) ∙ put_within own.words.begin count lengths are lengths_fit lengths_counted k below)

  -- each row is kept of its word
  kept_each : (p : ℕ) → p < length m.areas → AreKeptRows (put_mid own.words.begin count rows new) (p * size) size (areas_at p m) (map_at p m) (first_address (areas_at p m))
  kept_each p under k row below there = ⊎_elim (λ at. mine at.0 at.1) (λ apart. is.each p under k row below (sym (row_outside (p * size + k) apart) ∙ there)) (outside p k below)
    where
      mine : p ≡ m.selected → k < count → IsKeptRow row (areas_at p m) (map_at p m) (first_address (areas_at p m) + 4 * k)
      mine e inside =
          subst (λ (n : ℕ). IsKeptRow row (areas_at n m) (map_at n m) (first_address (areas_at n m) + 4 * k)) (sym e)
          (subst (λ (f : ℕ). IsKeptRow row (areas_at m.selected m) (map_at m.selected m) (f + 4 * k)) is.current.first (grown.rows.each k row (sym (row_inside p k e inside) ∙ there)))

  -- a row that was not made is the one that there was
  not_made : (p k : ℕ) (row : Row) → p ≡ m.selected → k < count → made ≤ k → slice_get (put_mid own.words.begin count rows new) (p * size + k) ≡ Some row → slice_get rows (p * size + k) ≡ Some row
  not_made p k row e inside over there =
      ap (slice_get rows) (place_is p k e) ∙ sym (get_part count own.words.begin k rows inside) ∙ sym (grown.same k over) ∙ sym (row_inside p k e inside) ∙ there

  -- rows from the top on are empty
  kept_free : (p : ℕ) → p < length m.areas → AreUnmade (put_mid own.words.begin count rows new) (p * size) (max top made) size
  kept_free p under k row over below there = ⊎_elim
      (λ at. is.free p under k row (omega (arith, over)) below (not_made p k row at.0 at.1 (omega (arith, over)) there))
      (λ apart. is.free p under k row (omega (arith, over)) below (sym (row_outside (p * size + k) apart) ∙ there))
      (outside p k below)

  -- so are those past the words
  own_is : (p : ℕ) (part : PartRows) → slice_get parts p ≡ Some part → p ≡ m.selected → own ≡ part
  own_is p part there e = same_Some own part (sym is.listed ∙ ap (slice_get parts) (sym e) ∙ there)

  kept_past : (p : ℕ) (part : PartRows) → slice_get parts p ≡ Some part → AreUnmade (put_mid own.words.begin count rows new) (p * size) (part.words.end - part.words.begin) size
  kept_past p part listed k row over below there = ⊎_elim
      (λ at. let same = ap (λ (r : PartRows). r.words.end - r.words.begin) (own_is p part listed at.0) in absurd (omega (arith, at.1, counted, same, over)))
      (λ apart. is.past p part listed k row over below (sym (row_outside (p * size + k) apart) ∙ there))
      (outside p k below)

  -- each of a pair stands before its branch
  pair_inside : (p k : ℕ) (row : Row) (condition : ℕ) → p < length m.areas → p ≡ m.selected → k < count → slice_get (put_mid own.words.begin count rows new) (p * size + k) ≡ Some row → follows row.kind ≡ Some condition
      → (k + 1 < max top made) × IsBranchOn (Some condition) (slice_get (put_mid own.words.begin count rows new) (p * size + k + 1))
  pair_inside p k row condition under e inside there says =
      let stands = sym (row_inside p k e inside) ∙ there in
      let on = subst (λ (o : Option ℕ). IsBranchOn o (slice_get new (k + 1))) says (grown.rows.pairs k row stands) in
      branch_made condition (slice_get new (k + 1)) on (λ branch next some.
      let below : k + 1 < count = omega (arith, slice_get_within new (k + 1) branch next, rows_counted) in
      let place : p * size + (k + 1) ≡ p * size + k + 1 = omega arith in
      let whole = row_inside p (k + 1) e below in (
        ⊎_elim (λ before. before) (λ over. let none = kept_free p under (k + 1) branch over (omega (arith, below, count_under)) (whole ∙ next) in absurd cc) (cases_lt (k + 1) (max top made)),
        subst (λ (o : Option Row). IsBranchOn (Some condition) o) (sym whole ∙ ap (slice_get (put_mid own.words.begin count rows new)) place) on,
      ))

  pair_outside : (p k : ℕ) (row : Row) (condition : ℕ) → p < length m.areas → k < size → (p * size + k < own.words.begin) ⊎ (own.words.begin + count ≤ p * size + k) → slice_get (put_mid own.words.begin count rows new) (p * size + k) ≡ Some row → follows row.kind ≡ Some condition
      → (k + 1 < max top made) × IsBranchOn (Some condition) (slice_get (put_mid own.words.begin count rows new) (p * size + k + 1))
  pair_outside p k row condition under below apart there says = ⊎_elim before over (cases_lt k top)
    where
      stood : slice_get rows (p * size + k) ≡ Some row
      stood = sym (row_outside (p * size + k) apart) ∙ there

      over : top ≤ k → (k + 1 < max top made) × IsBranchOn (Some condition) (slice_get (put_mid own.words.begin count rows new) (p * size + k + 1))
      over from = let none = unmade_alone row.kind (is.free p under k row from below stood) in absurd cc

      next_apart : k + 1 < size → (p * size + k + 1 < own.words.begin) ⊎ (own.words.begin + count ≤ p * size + k + 1)
      next_apart next = ⊎_elim
          (λ at. ⊎_elim (λ low. absurd (omega (arith, low, place_is p k at.0))) (λ high. absurd (omega (arith, high, place_is p k at.0, at.1))) apart)
          (λ far. ⊎_elim (λ low. inl (omega (arith, low))) (λ high. inr (omega (arith, high))) far)
          (outside p (k + 1) next)

      before : k < top → (k + 1 < max top made) × IsBranchOn (Some condition) (slice_get (put_mid own.words.begin count rows new) (p * size + k + 1))
      before low =
          let pair = is.pairs p under k row condition low stood says in
          (omega (arith, pair.0), subst (λ (o : Option Row). IsBranchOn (Some condition) o) (sym (row_outside (p * size + k + 1) (next_apart (omega (arith, pair.0, is.high))))) pair.1)

  top_under : max top made ≤ size
  top_under = omega (arith, is.high, within, count_under)

  kept_pairs : (p : ℕ) → p < length m.areas → ArePairs (put_mid own.words.begin count rows new) (p * size) (max top made)
  kept_pairs p under k row condition low there says = ⊎_elim
      (λ at. pair_inside p k row condition under at.0 at.1 there says)
      (λ apart. pair_outside p k row condition under (omega (arith, low, top_under)) apart there says)
      (outside p k (omega (arith, low, top_under)))

  -- lengths are those of blocks
  ends_inside : (p k end : ℕ) → p ≡ m.selected → end ≤ max top made → EndsWithin new k end → EndsIn (put_mid own.words.begin count rows new) (p * size) (made_of (max top made) own) k end
  ends_inside p k end e low ends = record {
    place = ends.place;
    from = ends.from;
    under = ends.under;
    within = omega (arith, low, ends.within, rows_counted, counted);
    row = ends.row;
    there = row_inside p ends.place e (omega (arith, ends.under, ends.within, rows_counted)) ∙ ends.there;
    exit = ends.exit;
  }

  -- one that was known before ended below the top
  known_before : (k : ℕ) → k < count → slice_index are k < 128 → slice_index are k ≡ slice_index (take count (drop own.words.begin lengths)) k → k + slice_index are k + 1 ≤ max top made
  known_before k inside small same =
      let read : slice_index (take count (drop own.words.begin lengths)) k ≡ slice_index lengths (m.selected * size + k) =
      read_same (take count (drop own.words.begin lengths)) lengths k (m.selected * size + k) (get_part count own.words.begin k lengths inside ∙ ap (λ (b : ℕ). slice_get lengths (b + k)) is.current.begin) in
      let ends = is.ends m.selected own is.listed k (omega (arith, inside, count_under)) (omega (arith, small, same, read)) in
      omega (arith, ends.within, same, read)

  kept_ends : (p : ℕ) (part : PartRows) → slice_get parts p ≡ Some part → share.AreLengths (put_mid own.words.begin count lengths are) (put_mid own.words.begin count rows new) (p * size) size (made_of (max top made) part)
  kept_ends p part listed k below small = ⊎_elim (λ at. mine at.0 at.1) other (outside p k below)
    where
      mine : p ≡ m.selected → k < count → EndsIn (put_mid own.words.begin count rows new) (p * size) (made_of (max top made) part) k (k + slice_index (put_mid own.words.begin count lengths are) (p * size + k) + 1)
      mine e inside =
          let read = length_inside p k e inside in
          let known : slice_index are k < 128 = omega (arith, small, read) in
          let low : k + slice_index are k + 1 ≤ max top made =
          ⊎_elim (known_before k inside known) (λ ends. omega (arith, ends)) (grown.known k (omega (arith, inside, part_counted count own.words.begin rows rows_fit)) known) in
          subst (λ (l : ℕ). EndsIn (put_mid own.words.begin count rows new) (p * size) (made_of (max top made) part) k (k + l + 1)) (sym read)
          (subst (λ (r : PartRows). EndsIn (put_mid own.words.begin count rows new) (p * size) (made_of (max top made) r) k (k + slice_index are k + 1)) (own_is p part listed e)
          (ends_inside p k (k + slice_index are k + 1) e low (grown.lengths.each k (omega (arith, inside, rows_counted)) known)))

      far : (place : ℕ) → k ≤ place → place < size → (p * size + k < own.words.begin) ⊎ (own.words.begin + count ≤ p * size + k) → (p * size + place < own.words.begin) ⊎ (own.words.begin + count ≤ p * size + place)
      far place from under apart = ⊎_elim
          (λ at. ⊎_elim (λ low. absurd (omega (arith, low, place_is p k at.0))) (λ high. absurd (omega (arith, high, place_is p k at.0, at.1, from))) apart)
          (λ there. there)
          (outside p place under)

      other : (p * size + k < own.words.begin) ⊎ (own.words.begin + count ≤ p * size + k) → EndsIn (put_mid own.words.begin count rows new) (p * size) (made_of (max top made) part) k (k + slice_index (put_mid own.words.begin count lengths are) (p * size + k) + 1)
      other apart =
          let read = length_outside (p * size + k) apart in
          let ends = is.ends p part listed k below (omega (arith, small, read)) in
          subst (λ (l : ℕ). EndsIn (put_mid own.words.begin count rows new) (p * size) (made_of (max top made) part) k (k + l + 1)) (sym read) (record {
            place = ends.place;
            from = ends.from;
            under = ends.under;
            within = omega (arith, ends.within);
            row = ends.row;
            there = row_outside (p * size + ends.place) (far ends.place ends.from (omega (arith, ends.under, ends.within, is.high)) apart) ∙ ends.there;
            exit = ends.exit;
          })

  -- all is kept
  pub prepared_kept : AreKept m (put_mid own.words.begin count rows new) (put_mid own.words.begin count lengths are) parts size (max top made) own
  prepared_kept = record {
    are = is.are;
    shared = is.shared;
    whole = put_counted own.words.begin count rows new rows_fit rows_counted ∙ is.whole;
    few = let same = put_counted own.words.begin count rows new rows_fit rows_counted in omega (arith, same, is.few);
    measured = put_counted own.words.begin count lengths are lengths_fit lengths_counted ∙ is.measured ∙ sym (put_counted own.words.begin count rows new rows_fit rows_counted);
    known = is.known;
    current = is.current;
    listed = is.listed;
    each = kept_each;
    pairs = kept_pairs;
    ends = kept_ends;
    high = top_under;
    free = kept_free;
    past = kept_past;
  }
