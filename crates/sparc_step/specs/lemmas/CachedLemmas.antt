-- What holds of registers of which the current window is kept apart.
use borrow.Rule.Slice.PartMut.{put_mid}
use Rattle.std.proofs.Common.{◌≡◌, ◌≢◌, ◌⊎◌, inl, inr, ⊎_elim, ◌∙◌, sym, ap, refl, arith}
use Rattle.std.proofs.lemmas.Bool.{cases_eq, cases_lt}
use Rattle.std.proofs.lemmas.Bool.Decides.{nat_tests}
use Rattle.std.proofs.lemmas.Slice.{take-put_mid_below}
use Rattle.std.proofs.lemmas.List.{length-drop, take_all, same_lists, places, get_or-set_same, get_or-set_other, get_or-take, get_or-drop, length-set}
use Rattle.std.specs.Prelude.{ℕ, zero, suc, ◌+◌, ◌-◌, ◌*◌, ◌%◌, ◌<◌, ◌≤◌, Bool, true, false, nat_lt, ◌==◌, if◌then◌else◌, List, [], ◌∷◌, ◌++◌, length, take, drop, slice_index, slice_set, get_or}
use Rattle.sparc_step.specs.Cached.{IsCached, gathered, lies_in, own_place, listed_below, register_of, windows_with, word_at}
use Rattle.sparc_step.specs.lemmas.CachedTerms.{with_first}
use Rattle.sparc_step.specs.Registers.{AreRegisters, Registers, ins_place, locals_and_ins, locals_place, place_in_windows, register_at, window_filled, with_inv, with_locals_and_ins, with_register, with_saved}

-- a table has as many numbers as were asked for
pub length-table : (f : ℕ → ℕ) (n : ℕ) → length (listed_below f n) ≡ n
length-table f zero = refl
length-table f (suc n) = ap suc (length-table (λ k. f (suc k)) n)

-- each is that of its place
pub get_or-table : (f : ℕ → ℕ) (n k d : ℕ) → k < n → get_or (listed_below f n) k d ≡ f k
get_or-table f zero k d h = absurd (omega arith)
get_or-table f (suc n) zero d h = refl
get_or-table f (suc n) (suc k) d h = get_or-table (λ k. f (suc k)) n k d (omega arith)

-- tables of functions that agree are one
pub table-same : (f g : ℕ → ℕ) (n : ℕ) → ((k : ℕ) → k < n → f k ≡ g k) → listed_below f n ≡ listed_below g n
table-same f g zero same = refl
table-same f g (suc n) same = rw (same 0 (omega arith), table-same (λ k. f (suc k)) (λ k. g (suc k)) n (λ k h. same (suc k) (omega arith))) refl

-- a list is the table of its numbers
pub table-of : (f : ℕ → ℕ) (xs : List ℕ) (n : ℕ) → length xs ≡ n → ((k : ℕ) → k < n → f k ≡ slice_index xs k) → listed_below f n ≡ xs
table-of f xs n counted same = same_lists _ _ (length-table f n ∙ sym counted) (λ k d h. inside k d (omega (arith, length-table f n)))
  where
    inside : (k d : ℕ) → k < n → get_or (listed_below f n) k d ≡ get_or xs k d
    inside k d h = get_or-table f n k d h ∙ same k h ∙ default k d (omega arith)
      where
        default : (k d : ℕ) → k < length xs → get_or xs k 0 ≡ get_or xs k d
        default k d h = grind (arith, places)

-- a number set in a table
pub set-table : (f g : ℕ → ℕ) (n i v : ℕ) → i < n → g i ≡ v → ((k : ℕ) → k ≢ i → f k ≡ g k) → slice_set (listed_below f n) i v ≡ listed_below g n
set-table f g zero i v h here other = absurd (omega arith)
set-table f g (suc n) zero v h here other = rw (here, table-same (λ k. f (suc k)) (λ k. g (suc k)) n (λ k h. other (suc k) (omega arith))) refl
set-table f g (suc n) (suc i) v h here other =
    rw (other 0 (omega arith), set-table (λ k. f (suc k)) (λ k. g (suc k)) n i v (omega arith) here (λ k ne. other (suc k) (omega arith))) refl

-- where a place lies, a test says
lies : (from count k : ℕ) → from ≤ k → k < from + count → lies_in from count k ≡ true
lies from count k low high = grind (arith, nat_tests)

lies_below : (from count k : ℕ) → k < from → lies_in from count k ≡ false
lies_below from count k low = grind (arith, nat_tests)

lies_above : (from count k : ℕ) → from + count ≤ k → lies_in from count k ≡ false
lies_above from count k high = grind (arith, nat_tests)

-- a place lies there, or it does not
pub lies_or : {P : Type 0} (from count k : ℕ) → (from ≤ k → k < from + count → P) → ((k < from) ⊎ (from + count ≤ k) → P) → P
lies_or from count k inside outside =
    ⊎_elim (λ low. outside (inl low)) (λ low. ⊎_elim (λ high. inside low high) (λ high. outside (inr high)) (cases_lt k (from + count))) (cases_lt k from)

lies_not : (from count k : ℕ) → (k < from) ⊎ (from + count ≤ k) → lies_in from count k ≡ false
lies_not from count k (inl low) = lies_below from count k low
lies_not from count k (inr high) = lies_above from count k high

-- the word at a place of the current window's outs and locals, of its ins, and elsewhere
module _ (cwp : ℕ) (cached windows : List ℕ) (k : ℕ) where
  pub word_at-own : own_place cwp ≤ k → k < own_place cwp + 16 → word_at cwp cached windows k ≡ slice_index cached (k - own_place cwp + 8)
  word_at-own low high = rw (lies (own_place cwp) 16 k low high) refl

  pub word_at-ins : (k < own_place cwp) ⊎ (own_place cwp + 16 ≤ k) → ins_place cwp ≤ k → k < ins_place cwp + 8 → word_at cwp cached windows k ≡ slice_index cached (k - ins_place cwp + 24)
  word_at-ins apart low high = rw (lies_not (own_place cwp) 16 k apart, lies (ins_place cwp) 8 k low high) refl

  pub word_at-other : (k < own_place cwp) ⊎ (own_place cwp + 16 ≤ k) → (k < ins_place cwp) ⊎ (ins_place cwp + 8 ≤ k) → word_at cwp cached windows k ≡ slice_index windows k
  word_at-other apart_own apart_ins = rw (lies_not (own_place cwp) 16 k apart_own, lies_not (ins_place cwp) 8 k apart_ins) refl

-- the ins of a window do not stand among its outs and locals
ins_apart : (cwp k : ℕ) → cwp < 8 → ins_place cwp ≤ k → k < ins_place cwp + 8 → (k < own_place cwp) ⊎ (own_place cwp + 16 ≤ k)
ins_apart cwp k window low high = ⊎_elim (λ here. inl here) (λ from. inr (omega arith)) (cases_lt k (own_place cwp))

-- the value of a register is the one cached
pub register_at_gathered : (pc npc y icc cwp inv : ℕ) (cached windows : List ℕ) (r : ℕ) → cwp < 8 → r < 32 → register_at (gathered pc npc y icc cwp inv cached windows) r ≡ slice_index cached r
unfolding register_at gathered windows_with
register_at_gathered pc npc y icc cwp inv cached windows r window small = at (nat_lt r 8) refl
  where
    at_place : (place : ℕ) → place < 128 → word_at cwp cached windows place ≡ slice_index cached r → slice_index (listed_below (word_at cwp cached windows) 128) place ≡ slice_index cached r
    at_place place inside is = get_or-table (word_at cwp cached windows) 128 place 0 inside ∙ is

    local : 8 ≤ r → r < 24 → (place : ℕ) → place ≡ 16 * cwp + r - 8 → slice_index (listed_below (word_at cwp cached windows) 128) place ≡ slice_index cached r
    local low high place is =
        let number : place - own_place cwp + 8 ≡ r = omega arith in
        at_place place (omega arith) (word_at-own cwp cached windows place (omega arith) (omega arith) ∙ ap (slice_index cached) number)

    incoming : 24 ≤ r → (place : ℕ) → place ≡ 16 * ((cwp + 1) % 8) + r - 24 → slice_index (listed_below (word_at cwp cached windows) 128) place ≡ slice_index cached r
    incoming low place is =
        let number : place - ins_place cwp + 24 ≡ r = omega arith in
        let above : ins_place cwp ≤ place = omega arith in
        let below : place < ins_place cwp + 8 = omega arith in
        at_place place (omega arith) (word_at-ins cwp cached windows place (ins_apart cwp place window above below) above below ∙ ap (slice_index cached) number)

    windowed : 8 ≤ r → (b : Bool) → nat_lt r 24 ≡ b → slice_index (listed_below (word_at cwp cached windows) 128) (if b then 16 * cwp + r - 8 else 16 * ((cwp + 1) % 8) + r - 24) ≡ slice_index cached r
    windowed low true is = let high : r < 24 = grind (arith, nat_tests) in local low high (16 * cwp + r - 8) refl
    windowed low false is = let high : 24 ≤ r = grind (arith, nat_tests) in incoming high (16 * ((cwp + 1) % 8) + r - 24) refl

    at : (b : Bool) → nat_lt r 8 ≡ b → (if b then slice_index (take 8 cached) r else slice_index (listed_below (word_at cwp cached windows) 128) (place_in_windows cwp r)) ≡ slice_index cached r
    at true is = let low : r < 8 = grind (arith, nat_tests) in get_or-take 8 cached r 0 low
    at false is = let low : 8 ≤ r = grind (arith, nat_tests) in windowed low (nat_lt r 24) refl

-- a register set in the cache, register 0 staying zero
abbrev pub put_at : List ℕ → ℕ → ℕ → List ℕ
put_at cached r value = slice_set (slice_set cached r value) 0 0

-- what is cached then
put_at-same : (cached : List ℕ) (r value : ℕ) → 0 < r → r < length cached → slice_index (put_at cached r value) r ≡ value
put_at-same cached r value some small = get_or-set_other (slice_set cached r value) 0 r 0 0 (omega arith) ∙ get_or-set_same cached r value 0 small

put_at-other : (cached : List ℕ) (r value j : ℕ) → slice_index cached 0 ≡ 0 → r < length cached → j ≢ r → slice_index (put_at cached r value) j ≡ slice_index cached j
put_at-other cached r value j zero_first small ne = ⊎_elim first later (cases_eq j 0)
  where
    first : j ≡ 0 → slice_index (put_at cached r value) j ≡ slice_index cached j
    first is = ap (slice_index (put_at cached r value)) is ∙ get_or-set_same (slice_set cached r value) 0 0 0 (omega (arith, length-set cached r value)) ∙ sym zero_first ∙ ap (slice_index cached) (sym is)

    later : j ≢ 0 → slice_index (put_at cached r value) j ≡ slice_index cached j
    later not_first = get_or-set_other (slice_set cached r value) 0 j 0 0 not_first ∙ get_or-set_other cached r j value 0 ne

put_at-zero : (cached : List ℕ) (value : ℕ) → slice_index cached 0 ≡ 0 → 0 < length cached → put_at cached 0 value ≡ cached
put_at-zero cached value zero_first some = same_lists _ _ (length-set (slice_set cached 0 value) 0 0 ∙ length-set cached 0 value) each
  where
    each : (k d : ℕ) → k < length (put_at cached 0 value) → get_or (put_at cached 0 value) k d ≡ get_or cached k d
    each k d h = ⊎_elim first later (cases_eq k 0)
      where
        first : k ≡ 0 → get_or (put_at cached 0 value) k d ≡ get_or cached k d
        first is = let default : get_or cached 0 d ≡ get_or cached 0 0 = grind (arith, places) in
            ap (λ j. get_or (put_at cached 0 value) j d) is ∙ get_or-set_same (slice_set cached 0 value) 0 0 d (omega (arith, length-set cached 0 value)) ∙ sym zero_first ∙ sym default ∙ ap (λ j. get_or cached j d) (sym is)

        later : k ≢ 0 → get_or (put_at cached 0 value) k d ≡ get_or cached k d
        later not_first = get_or-set_other (slice_set cached 0 value) 0 k 0 d not_first ∙ get_or-set_other cached 0 k value d not_first

-- where register 0 is zero, another one is set alone
pub put_at_held : (cached : List ℕ) (r value : ℕ) → slice_index cached 0 ≡ 0 → 0 < r → slice_set cached r value ≡ put_at cached r value
put_at_held [] r value zero_first some = refl
put_at_held (x ∷ xs) zero value zero_first some = absurd (omega (arith, some))
put_at_held (x ∷ xs) (suc r) value zero_first some = ap (λ (first : ℕ). first ∷ slice_set xs r value) zero_first

-- the globals with a register set
globals-put_at : (cached : List ℕ) (r value : ℕ) → slice_index cached 0 ≡ 0 → 0 < r → r < 8 → 8 ≤ length cached → slice_set (take 8 cached) r value ≡ take 8 (put_at cached r value)
globals-put_at cached r value zero_first some small long = same_lists _ _ (grind (arith, places)) each
  where
    each : (k d : ℕ) → k < length (slice_set (take 8 cached) r value) → get_or (slice_set (take 8 cached) r value) k d ≡ get_or (take 8 (put_at cached r value)) k d
    each k d h = ⊎_elim here other (cases_eq k r)
      where
        here : k ≡ r → get_or (slice_set (take 8 cached) r value) k d ≡ get_or (take 8 (put_at cached r value)) k d
        here is = grind (arith, places)

        other : k ≢ r → get_or (slice_set (take 8 cached) r value) k d ≡ get_or (take 8 (put_at cached r value)) k d
        other ne = let first : get_or cached 0 d ≡ 0 = grind (arith, places) in grind (arith, places)

-- the globals where another register is set
globals-put_at_other : (cached : List ℕ) (r value : ℕ) → slice_index cached 0 ≡ 0 → 8 ≤ r → r < length cached → take 8 cached ≡ take 8 (put_at cached r value)
globals-put_at_other cached r value zero_first large small = same_lists _ _ (grind (arith, places)) each
  where
    each : (k d : ℕ) → k < length (take 8 cached) → get_or (take 8 cached) k d ≡ get_or (take 8 (put_at cached r value)) k d
    each k d h = let first : get_or cached 0 d ≡ 0 = grind (arith, places) in grind (arith, places)

-- a word of the windows where a register is set that is none of its
word_at-put_at : (cwp : ℕ) (cached windows : List ℕ) (r value k : ℕ) → slice_index cached 0 ≡ 0 → r < length cached → (own_place cwp ≤ k → k < own_place cwp + 16 → k - own_place cwp + 8 ≢ r) → (ins_place cwp ≤ k → k < ins_place cwp + 8 → k - ins_place cwp + 24 ≢ r) → word_at cwp cached windows k ≡ word_at cwp (put_at cached r value) windows k
word_at-put_at cwp cached windows r value k zero_first small own ins = lies_or (own_place cwp) 16 k
    (λ low high. word_at-own cwp cached windows k low high ∙ sym (put_at-other cached r value _ zero_first small (own low high)) ∙ sym (word_at-own cwp (put_at cached r value) windows k low high))
    (λ apart. lies_or (ins_place cwp) 8 k
    (λ low high. word_at-ins cwp cached windows k apart low high ∙ sym (put_at-other cached r value _ zero_first small (ins low high)) ∙ sym (word_at-ins cwp (put_at cached r value) windows k apart low high))
    (λ apart_ins. word_at-other cwp cached windows k apart apart_ins ∙ sym (word_at-other cwp (put_at cached r value) windows k apart apart_ins)))

-- registers with the same parts are the same
gathered-same : (pc npc y icc cwp inv : ℕ) (cached windows globals words : List ℕ) → globals ≡ take 8 cached → words ≡ windows_with cwp cached windows → record { pc = pc; npc = npc; y = y; icc = icc; cwp = cwp; inv = inv; globals = globals; windows = words } ≡ gathered pc npc y icc cwp inv cached windows
unfolding gathered
gathered-same pc npc y icc cwp inv cached windows globals words globals_are words_are = rw (globals_are, words_are) refl

-- to set a register cached is to set it
pub with_register_gathered : (pc npc y icc cwp inv : ℕ) (cached windows : List ℕ) (r value : ℕ) → cwp < 8 → r < 32 → length cached ≡ 33 → slice_index cached 0 ≡ 0 → with_register (gathered pc npc y icc cwp inv cached windows) r value ≡ gathered pc npc y icc cwp inv (put_at cached r value) windows
unfolding with_register gathered windows_with
with_register_gathered pc npc y icc cwp inv cached windows r value window small counted zero_first = at (r == 0) (nat_lt r 8) refl refl
  where
    same_words : 0 < r → r < 8 → listed_below (word_at cwp cached windows) 128 ≡ listed_below (word_at cwp (put_at cached r value) windows) 128
    same_words some low = table-same _ _ 128 (λ k h. word_at-put_at cwp cached windows r value k zero_first (omega arith) (λ from under. omega arith) (λ from under. omega arith))

    set_word : (place : ℕ) → place < 128 → word_at cwp (put_at cached r value) windows place ≡ value → ((k : ℕ) → k ≢ place → word_at cwp cached windows k ≡ word_at cwp (put_at cached r value) windows k) → slice_set (listed_below (word_at cwp cached windows) 128) place value ≡ listed_below (word_at cwp (put_at cached r value) windows) 128
    set_word place inside here other = set-table _ _ 128 place value inside here other

    local : 8 ≤ r → r < 24 → (place : ℕ) → place ≡ 16 * cwp + r - 8 → slice_set (listed_below (word_at cwp cached windows) 128) place value ≡ listed_below (word_at cwp (put_at cached r value) windows) 128
    local low high place is =
        let number : place - own_place cwp + 8 ≡ r = omega arith in
        set_word place (omega arith)
        (word_at-own cwp (put_at cached r value) windows place (omega arith) (omega arith) ∙ ap (slice_index (put_at cached r value)) number ∙ put_at-same cached r value (omega arith) (omega arith))
        (λ k ne. word_at-put_at cwp cached windows r value k zero_first (omega arith) (λ from under. omega arith) (λ from under. omega arith))

    incoming : 24 ≤ r → (place : ℕ) → place ≡ 16 * ((cwp + 1) % 8) + r - 24 → slice_set (listed_below (word_at cwp cached windows) 128) place value ≡ listed_below (word_at cwp (put_at cached r value) windows) 128
    incoming low place is =
        let number : place - ins_place cwp + 24 ≡ r = omega arith in
        let above : ins_place cwp ≤ place = omega arith in
        let below : place < ins_place cwp + 8 = omega arith in
        set_word place (omega arith)
        (word_at-ins cwp (put_at cached r value) windows place (ins_apart cwp place window above below) above below ∙ ap (slice_index (put_at cached r value)) number ∙ put_at-same cached r value (omega arith) (omega arith))
        (λ k ne. word_at-put_at cwp cached windows r value k zero_first (omega arith) (λ from under. omega arith) (λ from under. omega arith))

    windowed : 8 ≤ r → (b : Bool) → nat_lt r 24 ≡ b → slice_set (listed_below (word_at cwp cached windows) 128) (if b then 16 * cwp + r - 8 else 16 * ((cwp + 1) % 8) + r - 24) value ≡ listed_below (word_at cwp (put_at cached r value) windows) 128
    windowed low true is = let high : r < 24 = grind (arith, nat_tests) in local low high (16 * cwp + r - 8) refl
    windowed low false is = let high : 24 ≤ r = grind (arith, nat_tests) in incoming high (16 * ((cwp + 1) % 8) + r - 24) refl

    at : (none low : Bool) → (r == 0) ≡ none → nat_lt r 8 ≡ low → (if none then gathered pc npc y icc cwp inv cached windows else if low then record (gathered pc npc y icc cwp inv cached windows) { globals = slice_set (take 8 cached) r value } else record (gathered pc npc y icc cwp inv cached windows) { windows = slice_set (listed_below (word_at cwp cached windows) 128) (place_in_windows cwp r) value }) ≡ gathered pc npc y icc cwp inv (put_at cached r value) windows
    at true low is low_is =
        let nothing : r ≡ 0 = grind (arith, nat_tests) in
        sym (ap (λ (words : List ℕ). gathered pc npc y icc cwp inv words windows) (ap (λ j. put_at cached j value) nothing ∙ put_at-zero cached value zero_first (omega arith)))
    at false true is low_is =
        let some : 0 < r = grind (arith, nat_tests) in
        let low : r < 8 = grind (arith, nat_tests) in
        gathered-same pc npc y icc cwp inv (put_at cached r value) windows _ _ (globals-put_at cached r value zero_first some low (omega arith)) (same_words some low)
    at false false is low_is =
        let low : 8 ≤ r = grind (arith, nat_tests) in
        gathered-same pc npc y icc cwp inv (put_at cached r value) windows _ _ (globals-put_at_other cached r value zero_first low (omega arith)) (windowed low (nat_lt r 24) refl)

-- the word after those of the registers is none of them
pub gathered-sink : (pc npc y icc cwp inv : ℕ) (cached windows : List ℕ) (value : ℕ) → length cached ≡ 33 → gathered pc npc y icc cwp inv (slice_set cached 32 value) windows ≡ gathered pc npc y icc cwp inv cached windows
unfolding windows_with gathered
gathered-sink pc npc y icc cwp inv cached windows value counted =
    sym (gathered-same pc npc y icc cwp inv (slice_set cached 32 value) windows (take 8 cached) (windows_with cwp cached windows) globals words)
  where
    other : (k : ℕ) → k < 32 → slice_index cached k ≡ slice_index (slice_set cached 32 value) k
    other k small = sym (get_or-set_other cached 32 k value 0 (omega arith))

    globals : take 8 cached ≡ take 8 (slice_set cached 32 value)
    globals = same_lists _ _ (grind (arith, places)) (λ k d h. grind (arith, places))

    words : windows_with cwp cached windows ≡ windows_with cwp (slice_set cached 32 value) windows
    words = table-same (word_at cwp cached windows) (word_at cwp (slice_set cached 32 value) windows) 128 (λ k h. lies_or (own_place cwp) 16 k
        (λ low high. word_at-own cwp cached windows k low high ∙ other (k - own_place cwp + 8) (omega arith) ∙ sym (word_at-own cwp (slice_set cached 32 value) windows k low high))
        (λ apart. lies_or (ins_place cwp) 8 k
        (λ low high. word_at-ins cwp cached windows k apart low high ∙ other (k - ins_place cwp + 24) (omega arith) ∙ sym (word_at-ins cwp (slice_set cached 32 value) windows k apart low high))
        (λ apart_ins. word_at-other cwp cached windows k apart apart_ins ∙ sym (word_at-other cwp (slice_set cached 32 value) windows k apart apart_ins))))

-- register 0 drops what it is set to
with_no_register : (core : Registers) (value : ℕ) → with_register core 0 value ≡ core
unfolding with_register
with_no_register core value = refl

-- a register that is not register 0 is set, or, by the number 32, none
pub put_gathered : (pc npc y icc cwp inv : ℕ) (cached windows : List ℕ) (r value : ℕ) → cwp < 8 → r < 33 → 0 < r → length cached ≡ 33 → slice_index cached 0 ≡ 0 → with_register (gathered pc npc y icc cwp inv cached windows) (register_of r) value ≡ gathered pc npc y icc cwp inv (slice_set cached r value) windows
unfolding register_of
put_gathered pc npc y icc cwp inv cached windows r value window small some counted zero_first = at (r == 32) refl
  where
    at : (b : Bool) → (r == 32) ≡ b → with_register (gathered pc npc y icc cwp inv cached windows) (if b then 0 else r) value ≡ gathered pc npc y icc cwp inv (slice_set cached r value) windows
    at true is =
        let last : r ≡ 32 = grind (arith, nat_tests) in
        with_no_register (gathered pc npc y icc cwp inv cached windows) value
        ∙ sym (ap (λ n. gathered pc npc y icc cwp inv (slice_set cached n value) windows) last ∙ gathered-sink pc npc y icc cwp inv cached windows value counted)
    at false is =
        let register : r < 32 = grind (arith, nat_tests) in
        with_register_gathered pc npc y icc cwp inv cached windows r value window register counted zero_first
        ∙ ap (λ (xs : List ℕ). gathered pc npc y icc cwp inv xs windows) (sym (put_at_held cached r value zero_first some))

-- a part of a list that was written, and the rest of it
pub get_or-put_mid : (xs ys : List ℕ) (from count k : ℕ) → length ys ≡ count → from + count ≤ length xs → from ≤ k → k < from + count → slice_index (put_mid from count xs ys) k ≡ slice_index ys (k - from)
get_or-put_mid xs ys from count k counted fits low high = grind (arith, places)

pub get_or-put_mid_other : (xs ys : List ℕ) (from count k : ℕ) → length ys ≡ count → from + count ≤ length xs → (k < from) ⊎ (from + count ≤ k) → slice_index (put_mid from count xs ys) k ≡ slice_index xs k
get_or-put_mid_other xs ys from count k counted fits (inl low) = grind (arith, places)
get_or-put_mid_other xs ys from count k counted fits (inr high) = grind (arith, places)

pub length-put_mid : (xs ys : List ℕ) (from count : ℕ) → length ys ≡ count → from + count ≤ length xs → length (put_mid from count xs ys) ≡ length xs
length-put_mid xs ys from count counted fits = grind (arith, places)

-- a part of a list, and its length
pub get_or-part : (xs : List ℕ) (from count j k : ℕ) → j < count → from + j ≡ k → slice_index (take count (drop from xs)) j ≡ slice_index xs k
get_or-part xs from count j k small is = get_or-take count (drop from xs) j 0 small ∙ get_or-drop from xs j 0 ∙ ap (slice_index xs) is

pub get_or-rest : (xs : List ℕ) (from j k : ℕ) → from + j ≡ k → slice_index (drop from xs) j ≡ slice_index xs k
get_or-rest xs from j k is = get_or-drop from xs j 0 ∙ ap (slice_index xs) is

pub length-part : (xs : List ℕ) (from count : ℕ) → from + count ≤ length xs → length (take count (drop from xs)) ≡ count
length-part xs from count fits = grind (arith, places)

pub length-rest : (xs : List ℕ) (from count : ℕ) → from + count ≡ length xs → length (drop from xs) ≡ count
length-rest xs from count fits = grind (arith, places)

-- the windows with what is cached, written back: first the outs and locals, then the ins
pub written_back : (cwp : ℕ) (cached windows own ins : List ℕ) → cwp < 8 → length cached ≡ 33 → length windows ≡ 128 → own ≡ take 16 (drop 8 cached) → ins ≡ take 8 (drop 24 cached) → put_mid (ins_place cwp) 8 (put_mid (own_place cwp) 16 windows own) ins ≡ windows_with cwp cached windows
unfolding windows_with
written_back cwp cached windows own ins window counted whole own_is ins_is = sym (table-of (word_at cwp cached windows) _ 128 (length-put_mid once ins (ins_place cwp) 8 eight (omega (arith, counted_once)) ∙ counted_once) each)
  where
    sixteen : length own ≡ 16
    sixteen = ap length own_is ∙ length-part cached 8 16 (omega arith)

    eight : length ins ≡ 8
    eight = ap length ins_is ∙ length-part cached 24 8 (omega arith)

    once : List ℕ
    once = put_mid (own_place cwp) 16 windows own

    counted_once : length once ≡ 128
    counted_once = length-put_mid windows own (own_place cwp) 16 sixteen (omega arith) ∙ whole

    each : (k : ℕ) → k < 128 → word_at cwp cached windows k ≡ slice_index (put_mid (ins_place cwp) 8 once ins) k
    each k h = lies_or (own_place cwp) 16 k
        (λ low high. word_at-own cwp cached windows k low high
        ∙ sym (get_or-put_mid_other once ins (ins_place cwp) 8 k eight (omega (arith, counted_once)) (own_apart low high)
        ∙ get_or-put_mid windows own (own_place cwp) 16 k sixteen (omega arith) low high
        ∙ own_word low high))
        (λ apart. lies_or (ins_place cwp) 8 k
        (λ low high. word_at-ins cwp cached windows k apart low high
        ∙ sym (get_or-put_mid once ins (ins_place cwp) 8 k eight (omega (arith, counted_once)) low high ∙ ins_word low high))
        (λ apart_ins. word_at-other cwp cached windows k apart apart_ins
        ∙ sym (get_or-put_mid_other once ins (ins_place cwp) 8 k eight (omega (arith, counted_once)) apart_ins
        ∙ get_or-put_mid_other windows own (own_place cwp) 16 k sixteen (omega arith) apart)))
      where
        own_apart : own_place cwp ≤ k → k < own_place cwp + 16 → (k < ins_place cwp) ⊎ (ins_place cwp + 8 ≤ k)
        own_apart low high = ⊎_elim (λ here. inl here) (λ from. inr (omega arith)) (cases_lt k (ins_place cwp))

        own_word : own_place cwp ≤ k → k < own_place cwp + 16 → slice_index own (k - own_place cwp) ≡ slice_index cached (k - own_place cwp + 8)
        own_word low high = ap (λ (xs : List ℕ). slice_index xs (k - own_place cwp)) own_is ∙ get_or-part cached 8 16 (k - own_place cwp) (k - own_place cwp + 8) (omega arith) (omega arith)

        ins_word : ins_place cwp ≤ k → k < ins_place cwp + 8 → slice_index ins (k - ins_place cwp) ≡ slice_index cached (k - ins_place cwp + 24)
        ins_word low high = ap (λ (xs : List ℕ). slice_index xs (k - ins_place cwp)) ins_is ∙ get_or-part cached 24 8 (k - ins_place cwp) (k - ins_place cwp + 24) (omega arith) (omega arith)

-- a window taken to hand: its outs and locals, then its ins
pub taken_to_cache : (cwp : ℕ) (cached windows own ins : List ℕ) → cwp < 8 → length cached ≡ 33 → length windows ≡ 128 → own ≡ take 16 (drop (own_place cwp) windows) → ins ≡ take 8 (drop (ins_place cwp) windows) → windows_with cwp (put_mid 24 8 (put_mid 8 16 cached own) ins) windows ≡ windows
unfolding windows_with
taken_to_cache cwp cached windows own ins window counted whole own_is ins_is = table-of (word_at cwp both windows) windows 128 whole each
  where
    sixteen : length own ≡ 16
    sixteen = ap length own_is ∙ length-part windows (own_place cwp) 16 (omega arith)

    eight : length ins ≡ 8
    eight = ap length ins_is ∙ length-part windows (ins_place cwp) 8 (omega arith)

    once : List ℕ
    once = put_mid 8 16 cached own

    counted_once : length once ≡ 33
    counted_once = length-put_mid cached own 8 16 sixteen (omega arith) ∙ counted

    both : List ℕ
    both = put_mid 24 8 once ins

    each : (k : ℕ) → k < 128 → word_at cwp both windows k ≡ slice_index windows k
    each k h = lies_or (own_place cwp) 16 k
        (λ low high. word_at-own cwp both windows k low high
        ∙ get_or-put_mid_other once ins 24 8 (k - own_place cwp + 8) eight (omega (arith, counted_once)) (inl (omega arith))
        ∙ get_or-put_mid cached own 8 16 (k - own_place cwp + 8) sixteen (omega arith) (omega arith) (omega arith)
        ∙ own_word low high)
        (λ apart. lies_or (ins_place cwp) 8 k
        (λ low high. word_at-ins cwp both windows k apart low high
        ∙ get_or-put_mid once ins 24 8 (k - ins_place cwp + 24) eight (omega (arith, counted_once)) (omega arith) (omega arith)
        ∙ ins_word low high)
        (λ apart_ins. word_at-other cwp both windows k apart apart_ins))
      where
        own_word : own_place cwp ≤ k → k < own_place cwp + 16 → slice_index own (k - own_place cwp + 8 - 8) ≡ slice_index windows k
        own_word low high = ap (λ (xs : List ℕ). slice_index xs (k - own_place cwp + 8 - 8)) own_is ∙ get_or-part windows (own_place cwp) 16 (k - own_place cwp + 8 - 8) k (omega arith) (omega arith)

        ins_word : ins_place cwp ≤ k → k < ins_place cwp + 8 → slice_index ins (k - ins_place cwp + 24 - 24) ≡ slice_index windows k
        ins_word low high = ap (λ (xs : List ℕ). slice_index xs (k - ins_place cwp + 24 - 24)) ins_is ∙ get_or-part windows (ins_place cwp) 8 (k - ins_place cwp + 24 - 24) k (omega arith) (omega arith)

-- the globals stay where a window is taken to hand
pub taken_to_cache-globals : (cached own ins : List ℕ) → length cached ≡ 33 → length own ≡ 16 → take 8 (put_mid 24 8 (put_mid 8 16 cached own) ins) ≡ take 8 cached
taken_to_cache-globals cached own ins counted sixteen =
    take-put_mid_below 24 8 (put_mid 8 16 cached own) ins 8 (omega arith) (omega (arith, length-put_mid cached own 8 16 sixteen (omega arith))) ∙ take-put_mid_below 8 16 cached own 8 (omega arith) (omega arith)

-- what is cached are registers
pub cached_registers-AreRegisters : (pc npc y icc cwp inv : ℕ) (cached windows : List ℕ) → IsCached pc npc y icc cwp inv cached windows → AreRegisters (gathered pc npc y icc cwp inv cached windows)
unfolding gathered windows_with
cached_registers-AreRegisters pc npc y icc cwp inv cached windows is = record {
  pc_aligned = is.pc_aligned;
  npc_aligned = is.npc_aligned;
  four_conditions = is.four_conditions;
  current_window = is.current_window;
  invalid_window = is.invalid_window;
  windows_differ = is.windows_differ;
  zero = get_or-take 8 cached 0 0 (omega arith) ∙ is.zero;
  eight_globals = length-front cached 8 (omega (arith, is.cached_count));
  eight_windows = length-table (word_at cwp cached windows) 128;
}
  where
    length-front : (xs : List ℕ) (count : ℕ) → count ≤ length xs → length (take count xs) ≡ count
    length-front xs count long = grind (arith, places)

-- the last eight words are all that is left after those before them
rest_whole : (n : ℕ) (words : List ℕ) → length words ≤ n + 8 → take 8 (drop n words) ≡ drop n words
rest_whole n words short = take_all 8 (drop n words) (omega (arith, length-drop n words))

-- the same in two writes
pub written_in_two : (cwp from to : ℕ) (cached windows once twice : List ℕ) → cwp < 8 → length cached ≡ 33 → length windows ≡ 128 → from ≡ own_place cwp → to ≡ ins_place cwp → once ≡ put_mid from 16 windows (take 16 (drop 8 cached)) → twice ≡ put_mid to 8 once (take 8 (drop 24 cached)) → twice ≡ windows_with cwp cached windows
written_in_two cwp from to cached windows once twice window counted whole from_is to_is once_is twice_is =
    twice_is
    ∙ ap (λ (xs : List ℕ). put_mid to 8 xs (take 8 (drop 24 cached))) once_is
    ∙ ap (λ place. put_mid place 8 (put_mid from 16 windows (take 16 (drop 8 cached))) (take 8 (drop 24 cached))) to_is
    ∙ ap (λ place. put_mid (ins_place cwp) 8 (put_mid place 16 windows (take 16 (drop 8 cached))) (take 8 (drop 24 cached))) from_is
    ∙ written_back cwp cached windows (take 16 (drop 8 cached)) (take 8 (drop 24 cached)) window counted whole refl refl

pub taken_in_two : (cwp from to : ℕ) (cached windows once twice : List ℕ) → cwp < 8 → length cached ≡ 33 → length windows ≡ 128 → from ≡ own_place cwp → to ≡ ins_place cwp → once ≡ put_mid 8 16 cached (take 16 (drop from windows)) → twice ≡ put_mid 24 8 once (take 8 (drop to windows)) → windows_with cwp twice windows ≡ windows
taken_in_two cwp from to cached windows once twice window counted whole from_is to_is once_is twice_is =
    ap (λ (xs : List ℕ). windows_with cwp xs windows)
    (twice_is
    ∙ ap (λ (xs : List ℕ). put_mid 24 8 xs (take 8 (drop to windows))) once_is
    ∙ ap (λ place. put_mid 24 8 (put_mid 8 16 cached (take 16 (drop from windows))) (take 8 (drop place windows))) to_is
    ∙ ap (λ place. put_mid 24 8 (put_mid 8 16 cached (take 16 (drop place windows))) (take 8 (drop (ins_place cwp) windows))) from_is)
    ∙ taken_to_cache cwp cached windows (take 16 (drop (own_place cwp) windows)) (take 8 (drop (ins_place cwp) windows)) window counted whole refl refl

-- the prefix of a list that was written is what was written
pub front_written : (count : ℕ) (new ys rest : List ℕ) → new ≡ ys → length ys ≡ count → take count (new ++ rest) ≡ ys
front_written count new ys rest is counted = ap (λ (xs : List ℕ). take count (xs ++ rest)) is ∙ same_lists _ _ (grind (arith, places)) (λ k d h. grind (arith, places))

-- registers of which a window was taken to hand are as they were
pub gathered_from : (pc npc y icc cwp inv : ℕ) (globals windows first cached : List ℕ) → take 8 first ≡ globals → take 8 cached ≡ take 8 first → windows_with cwp cached windows ≡ windows → gathered pc npc y icc cwp inv cached windows ≡ record { pc = pc; npc = npc; y = y; icc = icc; cwp = cwp; inv = inv; globals = globals; windows = windows }
gathered_from pc npc y icc cwp inv globals windows first cached first_is front words =
    sym (gathered-same pc npc y icc cwp inv cached windows globals windows (sym (front ∙ first_is)) (sym words))

-- what stands apart from what is cached
pub record IsAway (cwp from count : ℕ) : Type 0 where
  pub own : (from + count ≤ own_place cwp) ⊎ (own_place cwp + 16 ≤ from)
  pub ins : (from + count ≤ ins_place cwp) ⊎ (ins_place cwp + 8 ≤ from)

away_at : (a b from count k : ℕ) → (from + count ≤ a) ⊎ (b ≤ from) → from ≤ k → k < from + count → (k < a) ⊎ (b ≤ k)
away_at a b from count k (inl below) low high = inl (omega arith)
away_at a b from count k (inr above) low high = inr (omega arith)

-- a word of it is that of the windows
pub word_away : (cwp : ℕ) (cached windows : List ℕ) (from count k : ℕ) → IsAway cwp from count → from ≤ k → k < from + count → word_at cwp cached windows k ≡ slice_index windows k
word_away cwp cached windows from count k away low high =
    word_at-other cwp cached windows k (away_at (own_place cwp) (own_place cwp + 16) from count k away.own low high) (away_at (ins_place cwp) (ins_place cwp + 8) from count k away.ins low high)

-- and so is a part of it
pub part_away : (cwp : ℕ) (cached windows : List ℕ) (from count : ℕ) → length windows ≡ 128 → from + count ≤ 128 → IsAway cwp from count → take count (drop from (windows_with cwp cached windows)) ≡ take count (drop from windows)
unfolding windows_with
part_away cwp cached windows from count whole fits away = same_lists _ _ counted each
  where
    all : List ℕ
    all = listed_below (word_at cwp cached windows) 128

    sized : length all ≡ 128
    sized = length-table (word_at cwp cached windows) 128

    counted : length (take count (drop from all)) ≡ length (take count (drop from windows))
    counted = length-part all from count (omega (arith, sized)) ∙ sym (length-part windows from count (omega (arith, whole)))

    each : (k d : ℕ) → k < length (take count (drop from all)) → get_or (take count (drop from all)) k d ≡ get_or (take count (drop from windows)) k d
    each k d h =
        let below : k < count = omega (arith, length-part all from count (omega (arith, sized))) in
        get_or-take count (drop from all) k d below ∙ get_or-drop from all k d
        ∙ get_or-table (word_at cwp cached windows) 128 (from + k) d (omega arith)
        ∙ word_away cwp cached windows from count (from + k) away (omega arith) (omega arith)
        ∙ default (from + k) d (omega (arith, whole))
        ∙ sym (get_or-take count (drop from windows) k d below ∙ get_or-drop from windows k d)
      where
        default : (j d : ℕ) → j < length windows → get_or windows j 0 ≡ get_or windows j d
        default j d h = grind (arith, places)

-- what is written to it is written to the windows
pub put_away : (cwp : ℕ) (cached windows words : List ℕ) (from count : ℕ) → length windows ≡ 128 → from + count ≤ 128 → length words ≡ count → IsAway cwp from count
    → windows_with cwp cached (put_mid from count windows words) ≡ put_mid from count (windows_with cwp cached windows) words
unfolding windows_with
put_away cwp cached windows words from count whole fits counted away =
    table-of (word_at cwp cached put) _ 128 (length-put_mid all words from count counted (omega (arith, sized)) ∙ sized) each
  where
    put : List ℕ
    put = put_mid from count windows words

    all : List ℕ
    all = listed_below (word_at cwp cached windows) 128

    sized : length all ≡ 128
    sized = length-table (word_at cwp cached windows) 128

    inside : (k : ℕ) → from ≤ k → k < from + count → word_at cwp cached put k ≡ slice_index (put_mid from count all words) k
    inside k low high =
        word_away cwp cached put from count k away low high
        ∙ get_or-put_mid windows words from count k counted (omega (arith, whole)) low high
        ∙ sym (get_or-put_mid all words from count k counted (omega (arith, sized)) low high)

    same_word : (k : ℕ) → (k < from) ⊎ (from + count ≤ k) → word_at cwp cached put k ≡ word_at cwp cached windows k
    same_word k apart = lies_or (own_place cwp) 16 k
        (λ low high. word_at-own cwp cached put k low high ∙ sym (word_at-own cwp cached windows k low high))
        (λ other. lies_or (ins_place cwp) 8 k
        (λ low high. word_at-ins cwp cached put k other low high ∙ sym (word_at-ins cwp cached windows k other low high))
        (λ neither. word_at-other cwp cached put k other neither
        ∙ get_or-put_mid_other windows words from count k counted (omega (arith, whole)) apart
        ∙ sym (word_at-other cwp cached windows k other neither)))

    outside : (k : ℕ) → k < 128 → (k < from) ⊎ (from + count ≤ k) → word_at cwp cached put k ≡ slice_index (put_mid from count all words) k
    outside k small apart =
        same_word k apart
        ∙ sym (get_or-table (word_at cwp cached windows) 128 k 0 small)
        ∙ sym (get_or-put_mid_other all words from count k counted (omega (arith, sized)) apart)

    each : (k : ℕ) → k < 128 → word_at cwp cached put k ≡ slice_index (put_mid from count all words) k
    each k small = lies_or from count k (inside k) (outside k small)

-- the locals and the ins of a window of which nothing is cached
locals_away : (cwp window : ℕ) → cwp < 8 → window < 8 → window ≢ cwp → IsAway cwp (locals_place window) 8
locals_away cwp window current small other = record { own = of_own (cases_lt window cwp); ins = of_ins (cases_lt window ((cwp + 1) % 8)) }
  where
    of_own : (window < cwp) ⊎ (cwp ≤ window) → (locals_place window + 8 ≤ own_place cwp) ⊎ (own_place cwp + 16 ≤ locals_place window)
    of_own (inl below) = inl (omega arith)
    of_own (inr above) = inr (omega arith)

    of_ins : (window < (cwp + 1) % 8) ⊎ ((cwp + 1) % 8 ≤ window) → (locals_place window + 8 ≤ ins_place cwp) ⊎ (ins_place cwp + 8 ≤ locals_place window)
    of_ins (inl below) = inl (omega arith)
    of_ins (inr above) = inr (omega arith)

ins_away : (cwp window : ℕ) → cwp < 8 → window < 8 → window ≢ cwp → (window + 1) % 8 ≢ cwp → IsAway cwp (ins_place window) 8
ins_away cwp window current small other above_other = record { own = of_own (cases_lt ((window + 1) % 8) cwp); ins = of_ins (cases_lt ((window + 1) % 8) ((cwp + 1) % 8)) }
  where
    of_own : ((window + 1) % 8 < cwp) ⊎ (cwp ≤ (window + 1) % 8) → (ins_place window + 8 ≤ own_place cwp) ⊎ (own_place cwp + 16 ≤ ins_place window)
    of_own (inl below) = inl (omega arith)
    of_own (inr above) = inr (omega arith)

    of_ins : ((window + 1) % 8 < (cwp + 1) % 8) ⊎ ((cwp + 1) % 8 ≤ (window + 1) % 8) → (ins_place window + 8 ≤ ins_place cwp) ⊎ (ins_place cwp + 8 ≤ ins_place window)
    of_ins (inl below) = inl (omega arith)
    of_ins (inr above) = inr (omega arith)

-- the stack pointer of a window is not cached
pub stack_away : (cwp window : ℕ) (cached windows : List ℕ) → cwp < 8 → window < 8 → window ≢ cwp → window ≢ (cwp + 1) % 8 → slice_index (windows_with cwp cached windows) (16 * window + 6) ≡ slice_index windows (16 * window + 6)
unfolding windows_with
stack_away cwp window cached windows current small other above =
    get_or-table (word_at cwp cached windows) 128 (16 * window + 6) 0 (omega arith)
    ∙ word_at-other cwp cached windows (16 * window + 6) (of_own (cases_lt window cwp)) (of_ins (cases_lt window ((cwp + 1) % 8)))
  where
    of_own : (window < cwp) ⊎ (cwp ≤ window) → (16 * window + 6 < own_place cwp) ⊎ (own_place cwp + 16 ≤ 16 * window + 6)
    of_own (inl below) = inl (omega arith)
    of_own (inr from) = inr (omega arith)

    of_ins : (window < (cwp + 1) % 8) ⊎ ((cwp + 1) % 8 ≤ window) → (16 * window + 6 < ins_place cwp) ⊎ (ins_place cwp + 8 ≤ 16 * window + 6)
    of_ins (inl below) = inl (omega arith)
    of_ins (inr from) = inr (omega arith)

-- the locals and ins of a window
pub saved_away : (cwp window : ℕ) (cached windows : List ℕ) → cwp < 8 → window < 8 → length windows ≡ 128 → window ≢ cwp → (window + 1) % 8 ≢ cwp
    → locals_and_ins (windows_with cwp cached windows) window ≡ take 8 (drop (locals_place window) windows) ++ take 8 (drop (ins_place window) windows)
unfolding locals_and_ins
saved_away cwp window cached windows current small whole other above_other =
    ap (λ (xs : List ℕ). xs ++ take 8 (drop (ins_place window) (windows_with cwp cached windows))) (part_away cwp cached windows (locals_place window) 8 whole (omega arith) (locals_away cwp window current small other))
    ∙ ap (λ (xs : List ℕ). take 8 (drop (locals_place window) windows) ++ xs) (part_away cwp cached windows (ins_place window) 8 whole (omega arith) (ins_away cwp window current small other above_other))

-- and others in their place
pub with_saved_away : (cwp window : ℕ) (cached windows words : List ℕ) → cwp < 8 → window < 8 → length windows ≡ 128 → length words ≡ 16 → window ≢ cwp → (window + 1) % 8 ≢ cwp
    → windows_with cwp cached (put_mid (ins_place window) 8 (put_mid (locals_place window) 8 windows (take 8 words)) (drop 8 words)) ≡ with_locals_and_ins (windows_with cwp cached windows) window words
unfolding with_locals_and_ins
with_saved_away cwp window cached windows words current small whole counted other above_other =
    put_away cwp cached once (drop 8 words) (ins_place window) 8 (length-put_mid windows (take 8 words) (locals_place window) 8 front (omega (arith, whole)) ∙ whole) (omega arith) (length-rest words 8 8 (omega (arith, counted))) (ins_away cwp window current small other above_other)
    ∙ ap (λ (xs : List ℕ). put_mid (ins_place window) 8 xs (drop 8 words)) (put_away cwp cached windows (take 8 words) (locals_place window) 8 whole (omega arith) front (locals_away cwp window current small other))
  where
    once : List ℕ
    once = put_mid (locals_place window) 8 windows (take 8 words)

    front : length (take 8 words) ≡ 8
    front = length-part words 0 8 (omega (arith, counted))

-- two parts, written one after the other
two_parts_of : (n m : ℕ) (words first second : List ℕ) → length words ≡ n + m → length first ≡ n → length second ≡ m → put_mid n m (put_mid 0 n words first) second ≡ first ++ second
two_parts_of n m words first second counted one two = same_lists _ _ (grind (arith, places)) (λ k d h. grind (arith, places))

two_halves : (words first second : List ℕ) → length words ≡ 16 → length first ≡ 8 → length second ≡ 8 → put_mid 8 8 (put_mid 0 8 words first) second ≡ first ++ second
two_halves words first second counted one two = two_parts_of 8 8 words first second counted one two

-- the same of registers that are seen so
module _ (pc npc y icc cwp inv : ℕ) (cached windows : List ℕ) (now : Registers) (seen : gathered pc npc y icc cwp inv cached windows ≡ now) (cached_registers : IsCached pc npc y icc cwp inv cached windows) (window : ℕ) (small : window < 8) where
  current_is : cwp ≡ now.cwp
  unfolding gathered
  current_is = ap (λ (r : Registers). r.cwp) seen

  other_is : window ≢ now.cwp → window ≢ cwp
  other_is other e = other (e ∙ current_is)

  below_is : (window + 1) % 8 ≢ now.cwp → (window + 1) % 8 ≢ cwp
  below_is below e = below (e ∙ current_is)

  above_is : window ≢ (now.cwp + 1) % 8 → window ≢ (cwp + 1) % 8
  above_is above e = above (e ∙ ap (λ (n : ℕ). (n + 1) % 8) current_is)

  pub windows_seen : length now.windows ≡ 128
  unfolding gathered windows_with
  windows_seen = sym (ap (λ (r : Registers). length r.windows) seen) ∙ length-table (word_at cwp cached windows) 128

  pub stack_seen : (value : ℕ) → window ≢ now.cwp → window ≢ (now.cwp + 1) % 8 → value ≡ slice_index windows (16 * window + 6) → value ≡ slice_index now.windows (16 * window + 6)
  unfolding gathered
  stack_seen value other above is =
      is ∙ sym (stack_away cwp window cached windows cached_registers.current_window small (other_is other) (above_is above)) ∙ ap (λ (r : Registers). slice_index r.windows (16 * window + 6)) seen

  pub saved_seen : (locals ins : ℕ) (zeros once twice : List ℕ) → window ≢ now.cwp → (window + 1) % 8 ≢ now.cwp → locals ≡ locals_place window → ins ≡ ins_place window → length zeros ≡ 16
      → once ≡ with_first zeros (take 8 (drop locals windows)) → twice ≡ put_mid 8 8 once (take 8 (drop ins windows)) → twice ≡ locals_and_ins now.windows window
  unfolding gathered with_first
  saved_seen locals ins zeros once twice other below locals_is ins_are sixteen once_is twice_is =
      twice_is
      ∙ ap (λ (xs : List ℕ). put_mid 8 8 xs (take 8 (drop ins windows))) once_is
      ∙ two_halves zeros (take 8 (drop locals windows)) (take 8 (drop ins windows)) sixteen (length-part windows locals 8 (omega (arith, cached_registers.eight_windows))) (length-part windows ins 8 (omega (arith, cached_registers.eight_windows)))
      ∙ ap (λ (n : ℕ). take 8 (drop n windows) ++ take 8 (drop ins windows)) locals_is
      ∙ ap (λ (n : ℕ). take 8 (drop (locals_place window) windows) ++ take 8 (drop n windows)) ins_are
      ∙ sym (saved_away cwp window cached windows cached_registers.current_window small cached_registers.eight_windows (other_is other) (below_is below))
      ∙ ap (λ (r : Registers). locals_and_ins r.windows window) seen

  pub put_seen : (locals ins : ℕ) (words once twice : List ℕ) → window ≢ now.cwp → (window + 1) % 8 ≢ now.cwp → locals ≡ locals_place window → ins ≡ ins_place window → length words ≡ 16
      → once ≡ put_mid locals 8 windows (take 8 words) → twice ≡ put_mid ins 8 once (take 8 (drop 8 words)) → gathered pc npc y icc cwp inv cached twice ≡ with_saved now window words
  unfolding gathered with_saved
  put_seen locals ins words once twice other below locals_is ins_are sixteen once_is twice_is =
      ap (gathered pc npc y icc cwp inv cached)
      (twice_is
      ∙ ap (put_mid ins 8 once) (rest_whole 8 words (omega (arith, sixteen)))
      ∙ ap (λ (xs : List ℕ). put_mid ins 8 xs (drop 8 words)) once_is
      ∙ ap (λ (n : ℕ). put_mid ins 8 (put_mid n 8 windows (take 8 words)) (drop 8 words)) locals_is
      ∙ ap (λ (n : ℕ). put_mid n 8 (put_mid (locals_place window) 8 windows (take 8 words)) (drop 8 words)) ins_are)
      ∙ sym (gathered-same pc npc y icc cwp inv cached (put_mid (ins_place window) 8 (put_mid (locals_place window) 8 windows (take 8 words)) (drop 8 words)) (take 8 cached) (with_locals_and_ins (windows_with cwp cached windows) window words) refl
      (sym (with_saved_away cwp window cached windows words cached_registers.current_window small cached_registers.eight_windows sixteen (other_is other) (below_is below))))
      ∙ ap (λ (r : Registers). with_saved r window words) seen

  -- the registers of the current window are no locals or ins of another that is not the one below
  pub apart_seen : (words : List ℕ) (r : ℕ) → window ≢ now.cwp → (window + 1) % 8 ≢ now.cwp → length words ≡ 16 → r < 32 → register_at (with_saved now window words) r ≡ register_at now r
  apart_seen words r other below sixteen low =
      sym (ap (λ (registers : Registers). register_at registers r) (put_seen (locals_place window) (ins_place window) words once twice other below refl refl sixteen refl refl))
      ∙ register_at_gathered pc npc y icc cwp inv cached twice r cached_registers.current_window low
      ∙ sym (register_at_gathered pc npc y icc cwp inv cached windows r cached_registers.current_window low)
      ∙ ap (λ (registers : Registers). register_at registers r) seen
    where
      once : List ℕ
      once = put_mid (locals_place window) 8 windows (take 8 words)

      twice : List ℕ
      twice = put_mid (ins_place window) 8 once (take 8 (drop 8 words))

-- the registers with the invalid window filled
pub filled_seen : (pc npc y icc cwp inv : ℕ) (cached windows : List ℕ) (now : Registers) → gathered pc npc y icc cwp inv cached windows ≡ now → IsCached pc npc y icc cwp inv cached windows
    → (locals ins : ℕ) (words once twice : List ℕ) → (now.inv + 1) % 8 ≢ now.cwp → locals ≡ locals_place inv → ins ≡ ins_place inv → length words ≡ 16
    → once ≡ put_mid locals 8 windows (take 8 words) → twice ≡ put_mid ins 8 once (take 8 (drop 8 words)) → gathered pc npc y icc cwp ((inv + 1) % 8) cached twice ≡ window_filled now words
unfolding gathered with_inv window_filled
filled_seen pc npc y icc cwp inv cached windows now seen is locals ins words once twice other locals_is ins_are sixteen once_is twice_is =
    ap (λ (r : Registers). with_inv r ((inv + 1) % 8)) (put_seen pc npc y icc cwp inv cached windows now seen is inv is.invalid_window locals ins words once twice differ below locals_is ins_are sixteen once_is twice_is)
    ∙ ap (λ (n : ℕ). with_inv (with_saved now n words) ((n + 1) % 8)) inv_is
  where
    inv_is : inv ≡ now.inv
    inv_is = ap (λ (r : Registers). r.inv) seen

    cwp_is : cwp ≡ now.cwp
    cwp_is = ap (λ (r : Registers). r.cwp) seen

    differ : inv ≢ now.cwp
    differ e = is.windows_differ (cwp_is ∙ sym e)

    below : (inv + 1) % 8 ≢ now.cwp
    below e = other (ap (λ (n : ℕ). (n + 1) % 8) (sym inv_is) ∙ e)
