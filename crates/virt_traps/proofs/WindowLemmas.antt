-- Words in a save area, two at a time.
use Rattle.std.specs.Prelude.{◌≡◌, ℕ, zero, suc, ◌+◌, ◌/◌, ◌%◌, ◌^◌, ◌<◌, ◌≤◌, List, [], ◌∷◌, ◌++◌, length, drop, get_or, slice_index, slice_set}
use Rattle.std.proofs.Common.{refl, sym, ◌∙◌, ap, arith, append-nil}
use Rattle.std.proofs.lemmas.List.{drop_all, drop_more}
use Rattle.std.proofs.lemmas.List.Edits.{sets, sets-eq}
use Rattle.std.specs.Int.{from_be_bytes, to_be_bytes, w32, w64}
use Rattle.std.specs.FinMap.{insert}
use Rattle.guest_bus.specs.Memory.{Memory, byte_at, bytes_at, with_bytes}
use Rattle.guest_bus.specs.Words.{bytes_of, words_at}

-- bytes that are written one after another
with_bytes-append : (memory : Memory) (address : ℕ) (front back : List ℕ) → with_bytes memory address (front ++ back) ≡ with_bytes (with_bytes memory address front) (address + length front) back
with_bytes-append memory address [] back = ap (λ a. with_bytes memory a back) (omega arith)
with_bytes-append memory address (byte ∷ front) back =
    with_bytes-append (insert memory address byte) (suc address) front back ∙ ap (λ a. with_bytes (with_bytes memory address (byte ∷ front)) a back) (omega arith)

-- two words of a list, and the others after them
two_of : (words : List ℕ) (n next after : ℕ) → next ≡ n + 1 → after ≡ n + 2 → next < length words → drop n words ≡ slice_index words n ∷ slice_index words next ∷ drop after words
two_of words n next after next_is after_is inside =
    let following : next + 1 ≡ after = omega arith in
    drop_more words n 0 (omega arith)
    ∙ ap (λ (m : ℕ). slice_index words n ∷ drop m words) (sym next_is)
    ∙ ap (λ (rest : List ℕ). slice_index words n ∷ rest) (drop_more words next 0 inside)
    ∙ ap (λ (m : ℕ). slice_index words n ∷ slice_index words next ∷ drop m words) following

-- as bytes
two_bytes : (first second : ℕ) (words : List ℕ) → bytes_of (first ∷ second ∷ words) ≡ (to_be_bytes w32 first ++ to_be_bytes w32 second) ++ bytes_of words
unfolding bytes_of
two_bytes first second words = refl

-- two words that are written, and the others after them
pub stored_two : (memory : Memory) (words : List ℕ) (n address : ℕ) (bytes : List ℕ) (after later : ℕ) → n + 1 < length words → bytes ≡ to_be_bytes w32 (slice_index words n) ++ to_be_bytes w32 (slice_index words (n + 1)) → after ≡ n + 2 → later ≡ address + 8
    → with_bytes (with_bytes memory address bytes) later (bytes_of (drop after words)) ≡ with_bytes memory address (bytes_of (drop n words))
stored_two memory words n address bytes after later inside bytes_are after_is later_is =
    let long : length bytes ≡ 8 = ap length bytes_are in
    let place : later ≡ address + length bytes = omega arith in
    ap (λ a. with_bytes (with_bytes memory address bytes) a (bytes_of (drop after words))) place
    ∙ sym (with_bytes-append memory address bytes (bytes_of (drop after words)))
    ∙ ap (λ (front : List ℕ). with_bytes memory address (front ++ bytes_of (drop after words))) bytes_are
    ∙ ap (with_bytes memory address) (sym (two_bytes (slice_index words n) (slice_index words (n + 1)) (drop after words)))
    ∙ ap (λ (list : List ℕ). with_bytes memory address (bytes_of list)) (sym (two_of words n (n + 1) after refl after_is inside))

-- the high word of a double word
double_high : (a b c d e f g h : ℕ) → e < 256 → f < 256 → g < 256 → h < 256 → from_be_bytes w64 (a ∷ b ∷ c ∷ d ∷ e ∷ f ∷ g ∷ h ∷ []) / 2 ^ 32 ≡ from_be_bytes w32 (a ∷ b ∷ c ∷ d ∷ [])
double_high a b c d e f g h below_e below_f below_g below_h = omega arith

-- its low word
double_low : (a b c d e f g h : ℕ) → e < 256 → f < 256 → g < 256 → h < 256 → from_be_bytes w64 (a ∷ b ∷ c ∷ d ∷ e ∷ f ∷ g ∷ h ∷ []) % 2 ^ 32 ≡ from_be_bytes w32 (e ∷ f ∷ g ∷ h ∷ [])
double_low a b c d e f g h below_e below_f below_g below_h = omega arith

-- as many as were asked for
length-words_at : (memory : Memory) (address count : ℕ) → length (words_at memory address count) ≡ count
unfolding words_at
length-words_at memory address zero = refl
length-words_at memory address (suc count) = ap suc (length-words_at memory (address + 4) count)

-- two words from an address on, and the others after them
two_words : (memory : Memory) (address count : ℕ) → words_at memory address (suc (suc count)) ≡ from_be_bytes w32 (bytes_at memory address 4) ∷ from_be_bytes w32 (bytes_at memory (address + 4) 4) ∷ words_at memory (address + 4 + 4) count
unfolding words_at
two_words memory address count = refl

-- the words of a double word that was loaded
module _ (memory : Memory) (address : ℕ) (small : (i : ℕ) → get_or (bytes_at memory address 8) i 0 < 256) where
  pub high_word : from_be_bytes w64 (bytes_at memory address 8) / 2 ^ 32 ≡ from_be_bytes w32 (bytes_at memory address 4)
  high_word = double_high _ _ _ _ _ _ _ _ (small 4) (small 5) (small 6) (small 7)

  pub low_word : from_be_bytes w64 (bytes_at memory address 8) % 2 ^ 32 ≡ from_be_bytes w32 (bytes_at memory (address + 4) 4)
  low_word =
      let there : address + 4 ≡ suc (suc (suc (suc address))) = omega arith in
      rw there (double_low (byte_at memory address) _ _ _ _ _ _ _ (small 4) (small 5) (small 6) (small 7))

-- two words that are read, and the others after them
pub loaded_two : (memory : Memory) (words : List ℕ) (n address count value : ℕ) (after later whole : ℕ) → ((i : ℕ) → get_or (bytes_at memory address 8) i 0 < 256) → from_be_bytes w64 (bytes_at memory address 8) ≡ value → after ≡ n + 2 → later ≡ address + 8 → whole ≡ count + 2
    → sets (slice_set (slice_set words n (value / 2 ^ 32)) (n + 1) (value % 2 ^ 32)) after (words_at memory later count) ≡ sets words n (words_at memory address whole)
loaded_two memory words n address count value after later whole small value_is after_is later_is whole_is =
    let next : n + 1 ≡ suc n = omega arith in
    let following : after ≡ suc (suc n) = omega arith in
    let counted : whole ≡ suc (suc count) = omega arith in
    let place : later ≡ address + 4 + 4 = omega arith in
    let high : value / 2 ^ 32 ≡ from_be_bytes w32 (bytes_at memory address 4) = ap (λ v. v / 2 ^ 32) (sym value_is) ∙ high_word memory address small in
    let low : value % 2 ^ 32 ≡ from_be_bytes w32 (bytes_at memory (address + 4) 4) = ap (λ v. v % 2 ^ 32) (sym value_is) ∙ low_word memory address small in
    rw (next, following, counted, place, two_words memory address count, high, low) refl

-- no words that are left to write
pub stored_none : (memory : Memory) (words : List ℕ) (n address : ℕ) → length words ≤ n → memory ≡ with_bytes memory address (bytes_of (drop n words))
unfolding bytes_of
stored_none memory words n address none = rw (drop_all n words none) refl

-- none that are left to read
pub loaded_none : (memory : Memory) (words : List ℕ) (n address count : ℕ) → count ≡ 0 → words ≡ sets words n (words_at memory address count)
unfolding words_at
loaded_none memory words n address count none = rw none refl

-- as many words as there were are what was read
pub loaded_all : (memory : Memory) (words : List ℕ) (address count : ℕ) → length words ≡ count → sets words 0 (words_at memory address count) ≡ words_at memory address count
loaded_all memory words address count counted =
    sets-eq read words 0 (omega (arith, long, counted))
    ∙ ap (λ (rest : List ℕ). read ++ rest) (drop_all (0 + length read) words (omega (arith, long, counted)))
    ∙ append-nil read
  where
    read : List ℕ
    read = words_at memory address count

    long : length read ≡ count
    long = length-words_at memory address count
