-- The rows and the lengths of the selected partition, by which its instructions run.
use Rattle.std.proofs.Common.{◌≡◌, ◌⊎◌, ℕ, ◌+◌, ◌-◌, ◌*◌, ◌%◌, ◌^◌, ◌<◌, ◌≤◌, true, false, List, [], length, length-drop, length-take, take, drop, Option, Some, None, ⊎_elim, refl, sym, ap, ◌∙◌, subst, arith}
use Rattle.std.proofs.lemmas.Bool.{cases_lt}
use Rattle.std.proofs.lemmas.Option.{slice_get_within}
use Rattle.std.specs.Prelude.{slice_get, slice_index}
use Rattle.guest_bus.specs.Memory.{Area}
use Rattle.guest_bus.specs.Words.{word_address}
use Rattle.guest_memory.specs.Memories.{AreMemories, Memories, areas_at, map_at, others_of}
use Rattle.guest_memory.specs.lemmas.SelectedLemmas.{changed_selected}
use Rattle.predecode.specs.Kept.{AreKeptRows, IsBranchOn, IsKeptRow}
use Rattle.predecode.specs.Kinds.{follows, is_unmade}
use Rattle.predecode.specs.lemmas.KeptLemmas.{empty_kept}
use Rattle.predecode.specs.declared.kinds.Kind.{Kind}
use Rattle.predecode.specs.declared.kinds.Kind.TheVariants.{Empty}
use Rattle.predecode.specs.declared.rows.Row.{Row}
use Rattle.fast_loop.specs.Keeping.{AreRowsOf, EndsWithin}
use Rattle.fast_loop.specs.Keeping as loop
use Rattle.predecoded_memory.specs.Shares.{AreKept, EndsIn, first_address, made_of}
use Rattle.predecoded_memory.specs.declared.share.PartRows.{PartRows}
use Rattle.predecoded_memory.proofs.EmptiedLemmas.{none_emptied}
use Rattle.predecoded_memory.proofs.KeptLemmas.{first_low, first_whole, mapped_kept}
use Rattle.predecoded_memory.proofs.MakingLemmas.{get_drop, get_take, read_same}
use Rattle.predecoded_memory.proofs.SelectedLemmas.{selected_fits}

-- an empty row is that of no pair
pub unmade_alone : (kind : Kind) → is_unmade kind ≡ true → follows kind ≡ None
unmade_alone Empty is = refl
unmade_alone kind is = absurd cc

-- a branch is made
pub branch_made : (condition : ℕ) (next : Option Row) {P : Type 0} → IsBranchOn (Some condition) next → ((row : Row) → next ≡ Some row → is_unmade row.kind ≡ false → P) → P
branch_made condition None on found = absurd on
branch_made condition (Some row) on found = found row refl (ap is_unmade on.0)

-- a part of a list: what stands there
pub get_part : {X : Type 0} (n base k : ℕ) (xs : List X) → k < n → slice_get (take n (drop base xs)) k ≡ slice_get xs (base + k)
get_part n base k xs below = get_take n k (drop base xs) below ∙ get_drop base k xs

pub part_within : {X : Type 0} (n base k : ℕ) (xs : List X) (x : X) → slice_get (take n (drop base xs)) k ≡ Some x → k < n
part_within n base k xs x there =
    let within = slice_get_within (take n (drop base xs)) k x there in
    let counted = length-take n (drop base xs) in
    omega (arith, within, counted)

pub part_counted : {X : Type 0} (n base : ℕ) (xs : List X) → base + n ≤ length xs → length (take n (drop base xs)) ≡ n
part_counted n base xs fits = omega (arith, fits, length-take n (drop base xs), length-drop base xs)

-- words with rows end before the last address
words_end : (first n origin begin end : ℕ) → first % 4 ≡ 0 → first ≤ 2 ^ 32 → n ≤ end - begin → ((number : ℕ) → begin ≤ number → number < end → word_address origin number ≡ first + 4 * (number - begin)) → first + 4 * n ≤ 2 ^ 32
unfolding word_address
words_end first n origin begin end whole low fits address = ⊎_elim (λ none. omega (arith, none, low)) (λ some. last some) (cases_lt n 1)
  where
    last : 1 ≤ n → first + 4 * n ≤ 2 ^ 32
    last some = let there = address (begin + (n - 1)) (omega arith) (omega (arith, fits, some)) in omega (arith, there, whole, some)

module _ (m : Memories) (rows : List Row) (lengths : List ℕ) (parts : List PartRows) (share top : ℕ) (own : PartRows) (is : AreKept m rows lengths parts share top own) where
  -- the place of the selected share, and its words
  pub own_under : own.words.end - own.words.begin ≤ share
  own_under = omega (arith, is.current.under)

  pub own_fits : own.words.begin + (own.words.end - own.words.begin) ≤ length rows
  own_fits = let fits = selected_fits m rows lengths parts share top own is in omega (arith, fits, own_under)

  -- a row of the selected partition is kept of its word
  pub own_each : (k : ℕ) (row : Row) → k < share → slice_get rows (own.words.begin + k) ≡ Some row → IsKeptRow row (areas_at m.selected m) (map_at m.selected m) (own.first + 4 * k)
  own_each k row below there =
      subst (λ (f : ℕ). IsKeptRow row (areas_at m.selected m) (map_at m.selected m) (f + 4 * k)) (sym is.current.first)
      (is.each m.selected is.are.selected k row below (ap (λ (b : ℕ). slice_get rows (b + k)) (sym is.current.begin) ∙ there))

  -- rows that may not have been made are empty
  pub own_unmade : (k : ℕ) (row : Row) → made_of top own ≤ k → k < share → slice_get rows (own.words.begin + k) ≡ Some row → is_unmade row.kind ≡ true
  own_unmade k row from below there =
      let at = ap (λ (b : ℕ). slice_get rows (b + k)) (sym is.current.begin) ∙ there in
      ⊎_elim (λ under. is.past m.selected own is.listed k row (omega (arith, from, under)) below at) (λ over. is.free m.selected is.are.selected k row over below at) (cases_lt k top)

  -- the first words of the selected share, among them all that may have rows
  module _ (n : ℕ) (made : made_of top own ≤ n) (fits : n ≤ own.words.end - own.words.begin) where
    part_fits : own.words.begin + n ≤ length rows
    part_fits = omega (arith, own_fits, fits)

    pair_at : (k : ℕ) (row : Row) (found : Option ℕ) → slice_get (take n (drop own.words.begin rows)) k ≡ Some row → follows row.kind ≡ found → IsBranchOn found (slice_get (take n (drop own.words.begin rows)) (k + 1))
    pair_at k row None there says = tt
    pair_at k row (Some condition) there says = ⊎_elim under over (cases_lt k top)
      where
        below : k < n
        below = part_within n own.words.begin k rows row there

        whole : slice_get rows (own.words.begin + k) ≡ Some row
        whole = sym (get_part n own.words.begin k rows below) ∙ there

        over : top ≤ k → IsBranchOn (Some condition) (slice_get (take n (drop own.words.begin rows)) (k + 1))
        over from = let none = unmade_alone row.kind (own_unmade k row (omega (arith, from)) (omega (arith, below, fits, own_under)) whole) in absurd cc

        under : k < top → IsBranchOn (Some condition) (slice_get (take n (drop own.words.begin rows)) (k + 1))
        under before =
            let pair = is.pairs m.selected is.are.selected k row condition before (ap (λ (b : ℕ). slice_get rows (b + k)) (sym is.current.begin) ∙ whole) says in
            let place : m.selected * share + k + 1 ≡ own.words.begin + (k + 1) = omega (arith, is.current.begin) in
            let on = subst (λ (i : ℕ). IsBranchOn (Some condition) (slice_get rows i)) place pair.1 in
            branch_made condition (slice_get rows (own.words.begin + (k + 1))) on (λ branch stands some.
            ⊎_elim
            (λ within. subst (λ (o : Option Row). IsBranchOn (Some condition) o) (sym (get_part n own.words.begin (k + 1) rows within)) on)
            (λ past. let none = own_unmade (k + 1) branch (omega (arith, past, made)) (omega (arith, pair.0, is.high)) stands in absurd cc)
            (cases_lt (k + 1) n))

    pub share_rows : AreRowsOf (take n (drop own.words.begin rows)) (areas_at m.selected m) (map_at m.selected m) own.first
    share_rows = record {
      aligned = whole;
      inside = let counted = part_counted n own.words.begin rows part_fits in
          let ends = words_end own.first n own.words.origin own.words.begin own.words.end whole low fits is.current.address in
          omega (arith, counted, ends);
      each = λ k row there.
          let below = part_within n own.words.begin k rows row there in
          own_each k row (omega (arith, below, fits, own_under)) (sym (get_part n own.words.begin k rows below) ∙ there);
      pairs = λ k row there. pair_at k row (follows row.kind) there refl;
    }
      where
        whole : own.first % 4 ≡ 0
        whole = ap (λ (f : ℕ). f % 4) is.current.first ∙ first_whole (areas_at m.selected m) (is.are.placed m.selected [] is.are.selected)

        low : own.first ≤ 2 ^ 32
        low = subst (λ (f : ℕ). f ≤ 2 ^ 32) (sym is.current.first) (first_low (areas_at m.selected m) (is.are.placed m.selected [] is.are.selected))

    ends_in : (k end : ℕ) → EndsIn rows (m.selected * share) (made_of top own) k end → EndsWithin (take n (drop own.words.begin rows)) k end
    ends_in k end ends =
        let counted = part_counted n own.words.begin rows part_fits in
        record {
          place = ends.place;
          from = ends.from;
          under = ends.under;
          within = omega (arith, ends.within, made, counted);
          row = ends.row;
          there = get_part n own.words.begin ends.place rows (omega (arith, ends.under, ends.within, made)) ∙ ap (λ (b : ℕ). slice_get rows (b + ends.place)) is.current.begin ∙ ends.there;
          exit = ends.exit;
        }

    pub share_lengths : loop.AreLengths (take n (drop own.words.begin lengths)) (take n (drop own.words.begin rows))
    share_lengths = record {
      counted = part_counted n own.words.begin lengths (omega (arith, part_fits, is.measured)) ∙ sym (part_counted n own.words.begin rows part_fits);
      each = λ k under small.
          let below : k < n = omega (arith, under, part_counted n own.words.begin rows part_fits) in
          let read : slice_index (take n (drop own.words.begin lengths)) k ≡ slice_index lengths (m.selected * share + k) =
          read_same (take n (drop own.words.begin lengths)) lengths k (m.selected * share + k) (get_part n own.words.begin k lengths below ∙ ap (λ (b : ℕ). slice_get lengths (b + k)) is.current.begin) in
          subst (λ (l : ℕ). EndsWithin (take n (drop own.words.begin rows)) k (k + l + 1)) (sym read)
          (ends_in k (k + slice_index lengths (m.selected * share + k) + 1) (is.ends m.selected own is.listed k (omega (arith, below, fits, own_under)) (omega (arith, small, read))));
    }

    -- where the rows of these words are those of another memory, all is kept
    pub ran_kept : (new : Memories) → AreMemories new → others_of new ≡ others_of m → areas_at new.selected new ≡ areas_at m.selected m
        → AreRowsOf (take n (drop own.words.begin rows)) (areas_at new.selected new) (map_at new.selected new) own.first → AreKept new rows lengths parts share top own
    ran_kept new are others areas still =
        let changed = changed_selected m new is.are are others areas in
        subst (λ (o : Memories). AreKept o rows lengths parts share top own) (sym changed)
        (mapped_kept m (map_at new.selected new) rows rows lengths parts share top own m.selected 0 0 is (subst (λ (o : Memories). AreMemories o) changed are) (none_emptied 0 rows) is.are.selected each)
      where
        at : (k : ℕ) (row : Row) → k < share → slice_get rows (own.words.begin + k) ≡ Some row → IsKeptRow row (areas_at m.selected m) (map_at new.selected new) (own.first + 4 * k)
        at k row below there = ⊎_elim
            (λ within. subst (λ (a : List Area). IsKeptRow row a (map_at new.selected new) (own.first + 4 * k)) areas (still.each k row (get_part n own.words.begin k rows within ∙ there)))
            (λ past. empty_kept row (areas_at m.selected m) (map_at new.selected new) (own.first + 4 * k) (own_unmade k row (omega (arith, past, made)) below there) (own_each k row below there).registers)
            (cases_lt k n)

        each : AreKeptRows rows (m.selected * share) share (areas_at m.selected m) (map_at new.selected new) (first_address (areas_at m.selected m))
        each k row below there =
            subst (λ (f : ℕ). IsKeptRow row (areas_at m.selected m) (map_at new.selected new) (f + 4 * k)) is.current.first
            (at k row below (ap (λ (b : ℕ). slice_get rows (b + k)) is.current.begin ∙ there))
