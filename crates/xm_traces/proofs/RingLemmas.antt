-- A ring that takes entry after entry keeps the last of them, and finds each by its number.
use Rattle.std.proofs.Common.{◌≡◌, ◌∙◌, refl, sym, ap, arith, ℕ, zero, suc, ◌+◌, ◌-◌, ◌≤◌, Bool, true, false, List, [], ◌∷◌, ◌++◌, length, drop, None, append_assoc, append-nil, length-append, length-drop, drop-drop}
use Rattle.std.specs.Prelude.{nat_lt, slice_get, if◌then◌else◌}
use Rattle.std.proofs.lemmas.Bool.Decides.{nat_tests}
use Rattle.std.proofs.lemmas.List.{drop-append-le}
use Rattle.std.proofs.lemmas.Option.{slice_get_past}
use Rattle.circular_buffer.specs.Buffer.{keep_last}
use Rattle.xm_traces.specs.Ring.{KeepsLast, FindsByNumber, RING_ENTRIES, all_noted, entry_at, kept_of, noted, nothing_kept}

module _ {T : Type 0} where
  -- what goes first may go before the others come
  keep_last-again : (most : ℕ) (xs ys : List T) → keep_last most (keep_last most xs ++ ys) ≡ keep_last most (xs ++ ys)
  keep_last-again most xs ys =
      let gone = length xs - most in
      let joined : keep_last most xs ++ ys ≡ drop gone (xs ++ ys) = sym (drop-append-le gone xs ys (omega arith)) in
      let long = length-append xs ys in
      let left = length-drop gone (xs ++ ys) in
      let whole : gone + (length (drop gone (xs ++ ys)) - most) ≡ length (xs ++ ys) - most = omega (arith, long, left) in
      ap (keep_last most) joined ∙ drop-drop (length (drop gone (xs ++ ys)) - most) gone (xs ++ ys) ∙ ap (λ k. drop k (xs ++ ys)) whole

  -- a ring that keeps the last of some entries keeps the last of them and one more
  noted_more : (prior : List T) (entry : T)
      → noted entry (kept_of (length prior) (keep_last RING_ENTRIES prior)) ≡ kept_of (length (prior ++ entry ∷ [])) (keep_last RING_ENTRIES (prior ++ entry ∷ []))
  unfolding noted
  noted_more prior entry = λ i. kept_of (sym (length-append prior (entry ∷ [])) i) (keep_last-again RING_ENTRIES prior (entry ∷ []) i)

  -- the same of any number of entries more
  noted_on : (prior entries : List T)
      → all_noted entries (kept_of (length prior) (keep_last RING_ENTRIES prior)) ≡ kept_of (length (prior ++ entries)) (keep_last RING_ENTRIES (prior ++ entries))
  noted_on prior [] = ap (λ all. kept_of (length all) (keep_last RING_ENTRIES all)) (sym (append-nil prior))
  noted_on prior (entry ∷ rest) =
      ap (all_noted rest) (noted_more prior entry) ∙ noted_on (prior ++ entry ∷ []) rest
      ∙ ap (λ all. kept_of (length all) (keep_last RING_ENTRIES all)) (append_assoc prior (entry ∷ []) rest)

  -- the entry at a place after those that are gone
  got_after : (gone n : ℕ) (xs : List T) → slice_get (drop gone xs) n ≡ slice_get xs (gone + n)
  got_after zero n xs = let e : 0 + n ≡ n = omega arith in rw e refl
  got_after (suc gone) n [] = refl
  got_after (suc gone) n (x ∷ xs) = let e : suc gone + n ≡ suc (gone + n) = omega arith in rw e (got_after gone n xs)

  -- of a ring that keeps the last of some entries
  found_of : (most n : ℕ) (entries : List T) → entry_at n (kept_of (length entries) (keep_last most entries)) ≡ (if nat_lt n (length entries - most) then None else slice_get entries n)
  unfolding entry_at
  found_of most n entries = rw first (at (nat_lt n gone) refl (nat_lt n (length entries)) refl)
    where
      gone : ℕ
      gone = length entries - most

      first : length entries - length (keep_last most entries) ≡ gone
      first = omega (arith, length-drop (length entries - most) entries)

      following : gone ≤ n → slice_get (drop gone entries) (n - gone) ≡ slice_get entries n
      following le = let e : gone + (n - gone) ≡ n = omega (arith, le) in got_after gone (n - gone) entries ∙ ap (slice_get entries) e

      at : (old : Bool) → nat_lt n gone ≡ old → (within : Bool) → nat_lt n (length entries) ≡ within
          → (if nat_lt n gone then None else if nat_lt n (length entries) then slice_get (keep_last most entries) (n - gone) else None) ≡ (if nat_lt n gone then None else slice_get entries n)
      at true is w iw = rw is refl
      at false is true iw = rw (is, iw) (following (grind (arith, nat_tests, is)))
      at false is false iw = rw (is, iw) (sym (slice_get_past entries n (grind (arith, nat_tests, iw))))

-- a ring keeps the last of what was noted
pub keeps_last : (T : Type 0) → KeepsLast T
unfolding nothing_kept
keeps_last T entries = noted_on [] entries

-- a ring finds each entry by its number
pub finds_by_number : (T : Type 0) → FindsByNumber T
finds_by_number T entries n = ap (entry_at n) (keeps_last T entries) ∙ found_of RING_ENTRIES n entries
