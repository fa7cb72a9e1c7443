-- The locals and ins of a window are the registers that it saves, and those that it is given.
use borrow.Rule.Slice.PartMut.{put_mid}
use Rattle.std.proofs.Common.{◌≡◌, ℕ, zero, suc, ◌+◌, ◌-◌, ◌*◌, ◌%◌, ◌<◌, ◌≤◌, Bool, true, false, List, [], ◌∷◌, ◌++◌, length, take, drop, refl, sym, ap, ◌∙◌, arith, append_assoc, take-append-drop, length-append, length-take, length-drop}
use Rattle.std.proofs.lemmas.Bool.Decides.{nat_tests}
use Rattle.std.proofs.lemmas.List.{drop_more, drop-drop}
use Rattle.std.proofs.lemmas.List.Edits.{sets, sets-eq}
use Rattle.std.specs.Prelude.{if◌then◌else◌, nat_lt, slice_index, slice_set}
use Rattle.sparc_step.specs.Registers.{ins_place, locals_and_ins, locals_place, place_in_windows, with_locals_and_ins}
use Rattle.virt_traps.specs.SaveArea.{register_of, registers_from, saved, with_registers}

-- registers of a window that stand one after the other
registers_placed : (windows : List ℕ) (window n count from : ℕ) → ((k : ℕ) → k < count → place_in_windows window (n + k) ≡ from + k) → from + count ≤ length windows → registers_from windows window n count ≡ take count (drop from windows)
unfolding registers_from
registers_placed windows window n zero from there fits = refl
registers_placed windows window n (suc count) from there fits =
    let here : place_in_windows window n ≡ from = ap (λ (m : ℕ). place_in_windows window m) first ∙ there 0 (omega arith) ∙ second in
    ap (λ (v : ℕ). v ∷ registers_from windows window (suc n) count) (ap (slice_index windows) here)
    ∙ ap (λ (rest : List ℕ). slice_index windows from ∷ rest) (registers_placed windows window (suc n) count (from + 1) later (omega arith))
    ∙ sym (ap (take (suc count)) (drop_more windows from 0 (omega arith)))
  where
    first : n ≡ n + 0
    first = omega arith

    second : from + 0 ≡ from
    second = omega arith

    later : (k : ℕ) → k < count → place_in_windows window (suc n + k) ≡ from + 1 + k
    later k below =
        let one : suc n + k ≡ n + suc k = omega arith in
        let two : from + suc k ≡ from + 1 + k = omega arith in
        ap (λ (m : ℕ). place_in_windows window m) one ∙ there (suc k) (omega arith) ∙ two

-- two runs of registers
registers_split : (windows : List ℕ) (window n a b count later : ℕ) → count ≡ a + b → later ≡ n + a → registers_from windows window n count ≡ registers_from windows window n a ++ registers_from windows window later b
unfolding registers_from
registers_split windows window n zero b count later counted is =
    let one : count ≡ b = omega arith in
    let two : n ≡ later = omega arith in
    ap (registers_from windows window n) one ∙ ap (λ (m : ℕ). registers_from windows window m b) two
registers_split windows window n (suc a) b count later counted is =
    let one : count ≡ suc (a + b) = omega arith in
    ap (registers_from windows window n) one
    ∙ ap (λ (rest : List ℕ). register_of windows window n ∷ rest) (registers_split windows window (suc n) a b (a + b) later refl (omega arith))

-- locals stand there, and ins
locals_there : (window k : ℕ) → k < 8 → place_in_windows window (16 + k) ≡ locals_place window + k
locals_there window k below =
    let low : nat_lt (16 + k) 24 ≡ true = grind (arith, nat_tests) in
    let same : 16 * window + (16 + k) - 8 ≡ 16 * window + 8 + k = omega arith in
    ap (λ (t : Bool). if t then 16 * window + (16 + k) - 8 else 16 * ((window + 1) % 8) + (16 + k) - 24) low ∙ same

ins_there : (window k : ℕ) → place_in_windows window (24 + k) ≡ ins_place window + k
ins_there window k =
    let high : nat_lt (24 + k) 24 ≡ false = grind (arith, nat_tests) in
    let same : 16 * ((window + 1) % 8) + (24 + k) - 24 ≡ 16 * ((window + 1) % 8) + k = omega arith in
    ap (λ (t : Bool). if t then 16 * window + (24 + k) - 8 else 16 * ((window + 1) % 8) + (24 + k) - 24) high ∙ same

-- what a window saves
pub saved_is : (windows : List ℕ) (window : ℕ) → window < 8 → length windows ≡ 128 → saved windows window ≡ locals_and_ins windows window
unfolding saved locals_and_ins
saved_is windows window small whole =
    registers_split windows window 16 8 8 16 24 (omega arith) (omega arith)
    ∙ ap (λ (xs : List ℕ). xs ++ registers_from windows window 24 8) (registers_placed windows window 16 8 (locals_place window) (locals_there window) (omega (arith, whole)))
    ∙ ap (λ (xs : List ℕ). take 8 (drop (locals_place window) windows) ++ xs) (registers_placed windows window 24 8 (ins_place window) (λ k below. ins_there window k) (omega (arith, whole)))

-- values of registers that stand one after the other
values_placed : (windows : List ℕ) (window n from : ℕ) (values : List ℕ) → ((k : ℕ) → k < length values → place_in_windows window (n + k) ≡ from + k) → with_registers windows window n values ≡ sets windows from values
unfolding with_registers
values_placed windows window n from [] there = refl
values_placed windows window n from (value ∷ values) there =
    let here : place_in_windows window n ≡ from = ap (λ (m : ℕ). place_in_windows window m) first ∙ there 0 (omega arith) ∙ second in
    values_placed (slice_set windows (place_in_windows window n) value) window (suc n) (suc from) values later
    ∙ ap (λ (place : ℕ). sets (slice_set windows place value) (suc from) values) here
  where
    first : n ≡ n + 0
    first = omega arith

    second : from + 0 ≡ from
    second = omega arith

    later : (k : ℕ) → k < length values → place_in_windows window (suc n + k) ≡ suc from + k
    later k below =
        let one : suc n + k ≡ n + suc k = omega arith in
        let two : from + suc k ≡ suc from + k = omega arith in
        ap (λ (m : ℕ). place_in_windows window m) one ∙ there (suc k) (omega arith) ∙ two

-- that is to write a part
sets_put : (windows values : List ℕ) (from count : ℕ) → length values ≡ count → from + count ≤ length windows → sets windows from values ≡ put_mid from count windows values
sets_put windows values from count counted fits =
    let whole : (take from windows ++ values) ++ drop (from + length values) windows ≡ put_mid from count windows values = rw (counted, append_assoc, ← drop-drop count from windows) in
    sets-eq values windows from (omega arith) ∙ whole

-- values in two runs
values_split : (windows : List ℕ) (window n later : ℕ) (front back : List ℕ) → later ≡ n + length front → with_registers windows window n (front ++ back) ≡ with_registers (with_registers windows window n front) window later back
unfolding with_registers
values_split windows window n later [] back is =
    let same : n ≡ later = omega arith in
    ap (λ (m : ℕ). with_registers windows window m back) same
values_split windows window n later (value ∷ front) back is = values_split (slice_set windows (place_in_windows window n) value) window (suc n) later front back (omega arith)

-- as many words in two parts
first_eight : (words : List ℕ) → length words ≡ 16 → length (take 8 words) ≡ 8
first_eight words counted = omega (arith, length-take 8 words, counted)

last_eight : (words : List ℕ) → length words ≡ 16 → length (drop 8 words) ≡ 8
last_eight words counted = omega (arith, length-drop 8 words, counted)

-- a part that is written leaves as many
length_put : (i n : ℕ) (old new : List ℕ) → length new ≡ n → i + n ≤ length old → length (put_mid i n old new) ≡ length old
length_put i n old new counted fits =
    omega (arith, length-append (take i old) (new ++ drop n (drop i old)), length-append new (drop n (drop i old)), length-take i old, length-drop n (drop i old), length-drop i old)

-- what a window is given
pub given_is : (windows : List ℕ) (window : ℕ) (words : List ℕ) → window < 8 → length windows ≡ 128 → length words ≡ 16 → with_registers windows window 16 words ≡ with_locals_and_ins windows window words
unfolding with_locals_and_ins
given_is windows window words small whole counted =
    let once : length (put_mid (locals_place window) 8 windows (take 8 words)) ≡ 128 = length_put (locals_place window) 8 windows (take 8 words) (first_eight words counted) (omega (arith, whole)) ∙ whole in
    ap (with_registers windows window 16) (sym (take-append-drop 8 words))
    ∙ values_split windows window 16 24 (take 8 words) (drop 8 words) (omega (arith, first_eight words counted))
    ∙ ap (λ (xs : List ℕ). with_registers xs window 24 (drop 8 words))
    (values_placed windows window 16 (locals_place window) (take 8 words) (λ k below. locals_there window k (omega (arith, below, first_eight words counted))) ∙ sets_put windows (take 8 words) (locals_place window) 8 (first_eight words counted) (omega (arith, whole)))
    ∙ values_placed (put_mid (locals_place window) 8 windows (take 8 words)) window 24 (ins_place window) (drop 8 words) (λ k below. ins_there window k)
    ∙ sets_put (put_mid (locals_place window) 8 windows (take 8 words)) (drop 8 words) (ins_place window) 8 (last_eight words counted) (omega (arith, once))
