-- The window below or above taken to hand, of which eight words are in hand already.
use borrow.Rule.Slice.PartMut.{put_mid}
use Rattle.std.proofs.Common.{◌≡◌, ◌≢◌, ◌⊎◌, inl, inr, ⊎_elim, ◌∙◌, sym, ap, refl, arith}
use Rattle.std.proofs.lemmas.Bool.{cases_lt}
use Rattle.std.proofs.lemmas.List.{places, same_lists}
use Rattle.std.proofs.lemmas.Slice.{take-put_mid_below}
use Rattle.std.specs.List.{CopiedTo, SameBelow, SameFrom}
use Rattle.std.specs.Prelude.{get_or, ℕ, ◌+◌, ◌-◌, ◌*◌, ◌%◌, ◌<◌, ◌≤◌, List, ◌++◌, length, take, drop, slice_index}
use Rattle.sparc_step.specs.Cached.{listed_below, own_place, windows_with, word_at}
use Rattle.sparc_step.specs.lemmas.CachedLemmas.{get_or-part, get_or-put_mid, get_or-put_mid_other, get_or-rest, get_or-table, length-part, length-put_mid, length-rest, length-table, lies_or, table-of, table-same, word_at-ins, word_at-other, word_at-own}
use Rattle.sparc_step.specs.Registers.{ins_place, locals_and_ins, locals_place, with_locals_and_ins}

-- a place of one block of sixteen is none of another
other_block : (a b k : ℕ) → a ≢ b → 16 * a ≤ k → k < 16 * a + 16 → (k < 16 * b) ⊎ (16 * b + 16 ≤ k)
other_block a b k differ low high = ⊎_elim (λ below. inl below) (λ from. inr (omega arith)) (cases_lt k (16 * b))

-- what lies apart from a block lies apart from a part of it
apart_of : (from to start count k : ℕ) → from ≤ start → start + count ≤ to → (k < from) ⊎ (to ≤ k) → (k < start) ⊎ (start + count ≤ k)
apart_of from to start count k low high (inl below) = inl (omega arith)
apart_of from to start count k low high (inr above) = inr (omega arith)

-- two windows with the same words at each place
same_windows : (a b : ℕ) (cached windows words places : List ℕ)
    → ((k : ℕ) → own_place a ≤ k → k < own_place a + 16 → slice_index cached (k - own_place a + 8) ≡ word_at b words places k)
    → ((k : ℕ) → (k < own_place a) ⊎ (own_place a + 16 ≤ k) → ins_place a ≤ k → k < ins_place a + 8 → slice_index cached (k - ins_place a + 24) ≡ word_at b words places k)
    → ((k : ℕ) → (k < own_place a) ⊎ (own_place a + 16 ≤ k) → (k < ins_place a) ⊎ (ins_place a + 8 ≤ k) → slice_index windows k ≡ word_at b words places k)
    → windows_with a cached windows ≡ windows_with b words places
unfolding windows_with
same_windows a b cached windows words places own ins rest = table-same (word_at a cached windows) (word_at b words places) 128 each
  where
    each : (k : ℕ) → k < 128 → word_at a cached windows k ≡ word_at b words places k
    each k small = lies_or (own_place a) 16 k
        (λ low high. word_at-own a cached windows k low high ∙ own k low high)
        (λ apart. lies_or (ins_place a) 8 k
        (λ low high. word_at-ins a cached windows k apart low high ∙ ins k apart low high)
        (λ other. word_at-other a cached windows k apart other ∙ rest k apart other))

-- the window below: the locals and ins are put back, the outs become its ins
module _ (window below : ℕ) (cached windows once twice moved taken : List ℕ)
    (small : window < 8) (below_is : below ≡ (window + 7) % 8) (counted : length cached ≡ 33) (whole : length windows ≡ 128)
    (once_is : once ≡ put_mid (locals_place window) 8 windows (take 8 (drop 16 cached)))
    (twice_is : twice ≡ put_mid (ins_place window) 8 once (take 8 (drop 24 cached)))
    (moved_is : moved ≡ put_mid 24 8 cached (take 8 (drop 8 cached)))
    (taken_is : taken ≡ put_mid 8 16 moved (take 16 (drop (own_place below) twice))) where
  eight_at : (from : ℕ) → from + 8 ≤ 32 → length (take 8 (drop from cached)) ≡ 8
  eight_at from fits = length-part cached from 8 (omega (arith, counted))

  once_whole : length once ≡ 128
  once_whole = ap length once_is ∙ length-put_mid windows (take 8 (drop 16 cached)) (locals_place window) 8 (eight_at 16 (omega arith)) (omega (arith, whole)) ∙ whole

  twice_whole : length twice ≡ 128
  twice_whole = ap length twice_is ∙ length-put_mid once (take 8 (drop 24 cached)) (ins_place window) 8 (eight_at 24 (omega arith)) (omega (arith, once_whole)) ∙ once_whole

  moved_counted : length moved ≡ 33
  moved_counted = ap length moved_is ∙ length-put_mid cached (take 8 (drop 8 cached)) 24 8 (eight_at 8 (omega arith)) (omega (arith, counted)) ∙ counted

  sixteen : length (take 16 (drop (own_place below) twice)) ≡ 16
  sixteen = length-part twice (own_place below) 16 (omega (arith, twice_whole))

  -- the windows as they are put back
  put_apart : (k : ℕ) → (k < locals_place window) ⊎ (locals_place window + 8 ≤ k) → (k < ins_place window) ⊎ (ins_place window + 8 ≤ k) → slice_index twice k ≡ slice_index windows k
  put_apart k apart_locals apart_ins =
      ap (λ (xs : List ℕ). slice_index xs k) twice_is
      ∙ get_or-put_mid_other once (take 8 (drop 24 cached)) (ins_place window) 8 k (eight_at 24 (omega arith)) (omega (arith, once_whole)) apart_ins
      ∙ ap (λ (xs : List ℕ). slice_index xs k) once_is
      ∙ get_or-put_mid_other windows (take 8 (drop 16 cached)) (locals_place window) 8 k (eight_at 16 (omega arith)) (omega (arith, whole)) apart_locals

  put_locals : (k : ℕ) → locals_place window ≤ k → k < locals_place window + 8 → (k < ins_place window) ⊎ (ins_place window + 8 ≤ k) → slice_index twice k ≡ slice_index cached (k - own_place window + 8)
  put_locals k low high apart_ins =
      ap (λ (xs : List ℕ). slice_index xs k) twice_is
      ∙ get_or-put_mid_other once (take 8 (drop 24 cached)) (ins_place window) 8 k (eight_at 24 (omega arith)) (omega (arith, once_whole)) apart_ins
      ∙ ap (λ (xs : List ℕ). slice_index xs k) once_is
      ∙ get_or-put_mid windows (take 8 (drop 16 cached)) (locals_place window) 8 k (eight_at 16 (omega arith)) (omega (arith, whole)) low high
      ∙ get_or-part cached 16 8 (k - locals_place window) (k - own_place window + 8) (omega arith) (omega arith)

  put_ins : (k : ℕ) → ins_place window ≤ k → k < ins_place window + 8 → slice_index twice k ≡ slice_index cached (k - ins_place window + 24)
  put_ins k low high =
      ap (λ (xs : List ℕ). slice_index xs k) twice_is
      ∙ get_or-put_mid once (take 8 (drop 24 cached)) (ins_place window) 8 k (eight_at 24 (omega arith)) (omega (arith, once_whole)) low high
      ∙ get_or-part cached 24 8 (k - ins_place window) (k - ins_place window + 24) (omega arith) (omega arith)

  own_below : (k : ℕ) → own_place below ≤ k → k < own_place below + 16 → slice_index taken (k - own_place below + 8) ≡ word_at window cached windows k
  own_below k low high =
      let apart : (k < own_place window) ⊎ (own_place window + 16 ≤ k) = other_block below window k (omega arith) low high in
      let apart_above : (k < ins_place window) ⊎ (ins_place window + 16 ≤ k) = other_block below ((window + 1) % 8) k (omega arith) low high in
      let apart_ins : (k < ins_place window) ⊎ (ins_place window + 8 ≤ k) = apart_of (ins_place window) (ins_place window + 16) (ins_place window) 8 k (omega arith) (omega arith) apart_above in
      ap (λ (xs : List ℕ). slice_index xs (k - own_place below + 8)) taken_is
      ∙ get_or-put_mid moved (take 16 (drop (own_place below) twice)) 8 16 (k - own_place below + 8) sixteen (omega (arith, moved_counted)) (omega arith) (omega arith)
      ∙ get_or-part twice (own_place below) 16 (k - own_place below + 8 - 8) k (omega arith) (omega arith)
      ∙ put_apart k (apart_of (own_place window) (own_place window + 16) (locals_place window) 8 k (omega arith) (omega arith) apart) apart_ins
      ∙ sym (word_at-other window cached windows k apart apart_ins)

  ins_below : (k : ℕ) → (k < own_place below) ⊎ (own_place below + 16 ≤ k) → ins_place below ≤ k → k < ins_place below + 8 → slice_index taken (k - ins_place below + 24) ≡ word_at window cached windows k
  ins_below k other low high =
      let same : ins_place below ≡ own_place window = omega arith in
      ap (λ (xs : List ℕ). slice_index xs (k - ins_place below + 24)) taken_is
      ∙ get_or-put_mid_other moved (take 16 (drop (own_place below) twice)) 8 16 (k - ins_place below + 24) sixteen (omega (arith, moved_counted)) (inr (omega arith))
      ∙ ap (λ (xs : List ℕ). slice_index xs (k - ins_place below + 24)) moved_is
      ∙ get_or-put_mid cached (take 8 (drop 8 cached)) 24 8 (k - ins_place below + 24) (eight_at 8 (omega arith)) (omega (arith, counted)) (omega arith) (omega arith)
      ∙ get_or-part cached 8 8 (k - ins_place below + 24 - 24) (k - own_place window + 8) (omega arith) (omega (arith, same))
      ∙ sym (word_at-own window cached windows k (omega (arith, same)) (omega (arith, same)))

  rest_below : (k : ℕ) → (k < own_place below) ⊎ (own_place below + 16 ≤ k) → (k < ins_place below) ⊎ (ins_place below + 8 ≤ k) → slice_index twice k ≡ word_at window cached windows k
  rest_below k apart_own apart_ins =
      lies_or (own_place window) 16 k
      (λ low high. put_locals k (from_locals apart_ins low) (omega arith) (apart_of (ins_place window) (ins_place window + 16) (ins_place window) 8 k (omega arith) (omega arith) (other_block window ((window + 1) % 8) k (omega arith) low high))
      ∙ sym (word_at-own window cached windows k low high))
      (λ other. lies_or (ins_place window) 8 k
      (λ low high. put_ins k low high ∙ sym (word_at-ins window cached windows k other low high))
      (λ neither. put_apart k (apart_of (own_place window) (own_place window + 16) (locals_place window) 8 k (omega arith) (omega arith) other) neither
      ∙ sym (word_at-other window cached windows k other neither)))
    where
      from_locals : (k < ins_place below) ⊎ (ins_place below + 8 ≤ k) → own_place window ≤ k → locals_place window ≤ k
      from_locals (inl before) low = absurd (omega arith)
      from_locals (inr after) low = omega arith

  pub gone_below : windows_with below taken twice ≡ windows_with window cached windows
  gone_below = same_windows below window taken twice cached windows own_below ins_below rest_below

  pub gone_below_globals : take 8 taken ≡ take 8 cached
  gone_below_globals =
      ap (take 8) taken_is ∙ take-put_mid_below 8 16 moved (take 16 (drop (own_place below) twice)) 8 (omega arith) (omega (arith, moved_counted))
      ∙ ap (take 8) moved_is ∙ take-put_mid_below 24 8 cached (take 8 (drop 8 cached)) 8 (omega arith) (omega (arith, counted))

-- the outs and locals of a window put back
module _ (window above : ℕ) (cached windows put : List ℕ)
    (small : window < 8) (above_is : above ≡ (window + 1) % 8) (counted : length cached ≡ 33) (whole : length windows ≡ 128)
    (put_is : put ≡ put_mid (own_place window) 16 windows (take 16 (drop 8 cached))) where
  outs_and_locals : length (take 16 (drop 8 cached)) ≡ 16
  outs_and_locals = length-part cached 8 16 (omega (arith, counted))

  put_whole : length put ≡ 128
  put_whole = ap length put_is ∙ length-put_mid windows (take 16 (drop 8 cached)) (own_place window) 16 outs_and_locals (omega (arith, whole)) ∙ whole

  kept : (k : ℕ) → (k < own_place window) ⊎ (own_place window + 16 ≤ k) → slice_index put k ≡ slice_index windows k
  kept k apart =
      ap (λ (xs : List ℕ). slice_index xs k) put_is
      ∙ get_or-put_mid_other windows (take 16 (drop 8 cached)) (own_place window) 16 k outs_and_locals (omega (arith, whole)) apart

  rest_above : (k : ℕ) → (k < own_place above) ⊎ (own_place above + 16 ≤ k) → (k < ins_place above) ⊎ (ins_place above + 8 ≤ k) → slice_index put k ≡ word_at window cached windows k
  rest_above k apart_own apart_ins =
      let same : ins_place window ≡ own_place above = omega arith in
      lies_or (own_place window) 16 k
      (λ low high. ap (λ (xs : List ℕ). slice_index xs k) put_is
      ∙ get_or-put_mid windows (take 16 (drop 8 cached)) (own_place window) 16 k outs_and_locals (omega (arith, whole)) low high
      ∙ get_or-part cached 8 16 (k - own_place window) (k - own_place window + 8) (omega arith) (omega arith)
      ∙ sym (word_at-own window cached windows k low high))
      (λ other. kept k other
      ∙ sym (word_at-other window cached windows k other (apart_of (own_place above) (own_place above + 16) (ins_place window) 8 k (omega (arith, same)) (omega (arith, same)) apart_own)))

  -- the ins, cached as the outs of the window above
  module _ (moved : List ℕ) (moved_is : moved ≡ put_mid 8 8 cached (take 8 (drop 24 cached))) where
    ins_counted : length (take 8 (drop 24 cached)) ≡ 8
    ins_counted = length-part cached 24 8 (omega (arith, counted))

    moved_whole : length moved ≡ 33
    moved_whole = ap length moved_is ∙ length-put_mid cached (take 8 (drop 24 cached)) 8 8 ins_counted (omega (arith, counted)) ∙ counted

    moved_outs : (k : ℕ) → own_place above ≤ k → k < locals_place above → slice_index moved (k - own_place above + 8) ≡ word_at window cached windows k
    moved_outs k low high =
        let same : ins_place window ≡ own_place above = omega arith in
        let apart : (k < own_place window) ⊎ (own_place window + 16 ≤ k) = other_block above window k (omega arith) low (omega arith) in
        ap (λ (xs : List ℕ). slice_index xs (k - own_place above + 8)) moved_is
        ∙ get_or-put_mid cached (take 8 (drop 24 cached)) 8 8 (k - own_place above + 8) ins_counted (omega (arith, counted)) (omega arith) (omega arith)
        ∙ get_or-part cached 24 8 (k - own_place above + 8 - 8) (k - ins_place window + 24) (omega arith) (omega (arith, same))
        ∙ sym (word_at-ins window cached windows k apart (omega (arith, same)) (omega (arith, same)))

    moved_globals : take 8 moved ≡ take 8 cached
    moved_globals = ap (take 8) moved_is ∙ take-put_mid_below 8 8 cached (take 8 (drop 24 cached)) 8 (omega arith) (omega (arith, counted))

    -- its locals and ins are sixteen words
    module _ (words filled : List ℕ) (sixteen : length words ≡ 16) (filled_is : filled ≡ put_mid 16 16 moved (take 16 (drop 0 words))) where
      abbrev all : List ℕ
      all = listed_below (word_at window cached windows) 128

      abbrev with_locals : List ℕ
      with_locals = put_mid (locals_place above) 8 all (take 8 words)

      all_whole : length all ≡ 128
      all_whole = length-table (word_at window cached windows) 128

      front : length (take 8 words) ≡ 8
      front = length-part words 0 8 (omega (arith, sixteen))

      back : length (drop 8 words) ≡ 8
      back = length-rest words 8 8 (omega (arith, sixteen))

      locals_whole : length with_locals ≡ 128
      locals_whole = length-put_mid all (take 8 words) (locals_place above) 8 front (omega (arith, all_whole)) ∙ all_whole

      counted_words : length (take 16 (drop 0 words)) ≡ 16
      counted_words = length-part words 0 16 (omega (arith, sixteen))

      -- a word that neither was put
      stays : (k : ℕ) → k < 128 → (k < locals_place above) ⊎ (locals_place above + 8 ≤ k) → (k < ins_place above) ⊎ (ins_place above + 8 ≤ k)
          → slice_index (put_mid (ins_place above) 8 with_locals (drop 8 words)) k ≡ word_at window cached windows k
      stays k inside apart_locals apart_ins =
          get_or-put_mid_other with_locals (drop 8 words) (ins_place above) 8 k back (omega (arith, locals_whole)) apart_ins
          ∙ get_or-put_mid_other all (take 8 words) (locals_place above) 8 k front (omega (arith, all_whole)) apart_locals
          ∙ get_or-table (word_at window cached windows) 128 k 0 inside

      own_filled : (k : ℕ) → k < 128 → own_place above ≤ k → k < own_place above + 16 → slice_index filled (k - own_place above + 8) ≡ slice_index (put_mid (ins_place above) 8 with_locals (drop 8 words)) k
      own_filled k inside low high =
          let apart : (k < ins_place above) ⊎ (ins_place above + 8 ≤ k) = apart_of (ins_place above) (ins_place above + 16) (ins_place above) 8 k (omega arith) (omega arith) (other_block above ((above + 1) % 8) k (omega arith) low high) in
          ⊎_elim
          (λ outs. ap (λ (xs : List ℕ). slice_index xs (k - own_place above + 8)) filled_is
          ∙ get_or-put_mid_other moved (take 16 (drop 0 words)) 16 16 (k - own_place above + 8) counted_words (omega (arith, moved_whole)) (inl (omega arith))
          ∙ moved_outs k low outs
          ∙ sym (stays k inside (inl outs) apart))
          (λ locals. ap (λ (xs : List ℕ). slice_index xs (k - own_place above + 8)) filled_is
          ∙ get_or-put_mid moved (take 16 (drop 0 words)) 16 16 (k - own_place above + 8) counted_words (omega (arith, moved_whole)) (omega arith) (omega arith)
          ∙ get_or-part words 0 16 (k - own_place above + 8 - 16) (k - locals_place above) (omega arith) (omega arith)
          ∙ sym (get_or-put_mid_other with_locals (drop 8 words) (ins_place above) 8 k back (omega (arith, locals_whole)) apart
          ∙ get_or-put_mid all (take 8 words) (locals_place above) 8 k front (omega (arith, all_whole)) locals (omega arith)
          ∙ get_or-part words 0 8 (k - locals_place above) (k - locals_place above) (omega arith) (omega arith)))
          (cases_lt k (locals_place above))

      ins_filled : (k : ℕ) → ins_place above ≤ k → k < ins_place above + 8 → slice_index filled (k - ins_place above + 24) ≡ slice_index (put_mid (ins_place above) 8 with_locals (drop 8 words)) k
      ins_filled k low high =
          ap (λ (xs : List ℕ). slice_index xs (k - ins_place above + 24)) filled_is
          ∙ get_or-put_mid moved (take 16 (drop 0 words)) 16 16 (k - ins_place above + 24) counted_words (omega (arith, moved_whole)) (omega arith) (omega arith)
          ∙ get_or-part words 0 16 (k - ins_place above + 24 - 16) (k - ins_place above + 8) (omega arith) (omega arith)
          ∙ sym (get_or-put_mid with_locals (drop 8 words) (ins_place above) 8 k back (omega (arith, locals_whole)) low high
          ∙ get_or-rest words 8 (k - ins_place above) (k - ins_place above + 8) (omega arith))

      pub gone_filled : windows_with above filled put ≡ with_locals_and_ins (windows_with window cached windows) above words
      unfolding windows_with with_locals_and_ins
      gone_filled = table-of (word_at above filled put) _ 128 (length-put_mid with_locals (drop 8 words) (ins_place above) 8 back (omega (arith, locals_whole)) ∙ locals_whole) each
        where
          each : (k : ℕ) → k < 128 → word_at above filled put k ≡ slice_index (put_mid (ins_place above) 8 with_locals (drop 8 words)) k
          each k inside = lies_or (own_place above) 16 k
              (λ low high. word_at-own above filled put k low high ∙ own_filled k inside low high)
              (λ apart. lies_or (ins_place above) 8 k
              (λ low high. word_at-ins above filled put k apart low high ∙ ins_filled k low high)
              (λ other. word_at-other above filled put k apart other ∙ rest_above k apart other
              ∙ sym (stays k inside (apart_of (own_place above) (own_place above + 16) (locals_place above) 8 k (omega arith) (omega arith) apart) other)))

      pub gone_filled_globals : take 8 filled ≡ take 8 cached
      gone_filled_globals =
          ap (take 8) filled_is ∙ take-put_mid_below 16 16 moved (take 16 (drop 0 words)) 8 (omega arith) (omega (arith, moved_whole))
          ∙ moved_globals

-- eight words that are copied to another place of the same list are put there
pub moved_eight : (old new : List ℕ) (from to : ℕ) → from + 8 ≤ length old → to + 8 ≤ length old → length new ≡ length old
    → CopiedTo old new from to (from + 8 - from) → SameBelow old new to → SameFrom old new (to + (from + 8 - from)) → new ≡ put_mid to 8 old (take 8 (drop from old))
moved_eight old new from to source target counted copied below above = same_lists new put (counted ∙ sym whole) each
  where
    eight : length (take 8 (drop from old)) ≡ 8
    eight = length-part old from 8 source

    put : List ℕ
    put = put_mid to 8 old (take 8 (drop from old))

    whole : length put ≡ length old
    whole = length-put_mid old (take 8 (drop from old)) to 8 eight target

    apart : (k : ℕ) → (k < to) ⊎ (to + 8 ≤ k) → slice_index new k ≡ slice_index put k
    apart k (inl low) = below k 0 low ∙ sym (get_or-put_mid_other old (take 8 (drop from old)) to 8 k eight target (inl low))
    apart k (inr high) = above k 0 (omega arith) ∙ sym (get_or-put_mid_other old (take 8 (drop from old)) to 8 k eight target (inr high))

    inside : (k : ℕ) → to ≤ k → k < to + 8 → slice_index new k ≡ slice_index put k
    inside k low high =
        copied k 0 low (omega arith)
        ∙ sym (get_or-put_mid old (take 8 (drop from old)) to 8 k eight target low high ∙ get_or-part old from 8 (k - to) (from + (k - to)) (omega arith) refl)

    default : (xs : List ℕ) (k d : ℕ) → k < length xs → get_or xs k d ≡ get_or xs k 0
    default xs k d small = grind (arith, places)

    each : (k d : ℕ) → k < length new → get_or new k d ≡ get_or put k d
    each k d small =
        default new k d small
        ∙ lies_or to 8 k (inside k) (apart k)
        ∙ sym (default put k d (omega (arith, whole, counted)))

-- a part of a list that is put where it was
same_part : (xs : List ℕ) (from count : ℕ) → from + count ≤ length xs → put_mid from count xs (take count (drop from xs)) ≡ xs
same_part xs from count fits = same_lists _ _ (grind (arith, places)) (λ k d h. grind (arith, places))

front_part : (count : ℕ) (xs ys : List ℕ) → length xs ≡ count → take count (xs ++ ys) ≡ xs
front_part count xs ys counted = same_lists _ _ (grind (arith, places)) (λ k d h. grind (arith, places))

back_part : (count : ℕ) (xs ys : List ℕ) → length xs ≡ count → drop count (xs ++ ys) ≡ ys
back_part count xs ys counted = same_lists _ _ (grind (arith, places)) (λ k d h. grind (arith, places))

-- the locals and ins of a window, put where they were
pub put_back : (windows : List ℕ) (window : ℕ) → length windows ≡ 128 → window < 8 → with_locals_and_ins windows window (locals_and_ins windows window) ≡ windows
unfolding with_locals_and_ins locals_and_ins
put_back windows window whole small =
    ap (put_mid (ins_place window) 8 (put_mid (locals_place window) 8 windows (take 8 (locals ++ ins)))) (back_part 8 locals ins eight)
    ∙ ap (λ (xs : List ℕ). put_mid (ins_place window) 8 (put_mid (locals_place window) 8 windows xs) ins) (front_part 8 locals ins eight)
    ∙ ap (λ (xs : List ℕ). put_mid (ins_place window) 8 xs ins) (same_part windows (locals_place window) 8 (omega (arith, whole, small)))
    ∙ same_part windows (ins_place window) 8 (omega (arith, whole, small))
  where
    locals : List ℕ
    locals = take 8 (drop (locals_place window) windows)

    ins : List ℕ
    ins = take 8 (drop (ins_place window) windows)

    eight : length locals ≡ 8
    eight = length-part windows (locals_place window) 8 (omega (arith, whole, small))

-- the windows with what is cached are eight
pub all_windows : (window : ℕ) (cached windows : List ℕ) → length (windows_with window cached windows) ≡ 128
unfolding windows_with
all_windows window cached windows = length-table (word_at window cached windows) 128
