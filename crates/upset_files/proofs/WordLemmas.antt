-- Words: where one ends in a text, and which bytes are words.
use Rattle.std.proofs.Common.{◌≡◌, ℕ, zero, suc, ◌/◌, ◌%◌, ◌<◌, ◌≤◌, ◌^◌, Bool, true, false, List, [], ◌∷◌, ◌++◌, length, take, drop, decimal, slice_index, refl, sym, ap, ◌∙◌, arith}
use Rattle.std.specs.List.{list_all, prefix_len}
use Rattle.std.specs.Str.{all_ascii_digits}
use Rattle.std.proofs.lemmas.Bool.{and_parts}
use Rattle.std.proofs.lemmas.Bool.Decides.{nat_tests}
use Rattle.std.proofs.lemmas.Fmt.{digits_decimal}
use Rattle.std.proofs.lemmas.List.{take-append-drop}
use Rattle.std.proofs.Math.Seq.{drop-append_seam, take-append_seam}
use Rattle.std.proofs.lemmas.Str.Parse.{tells_all_ascii_digits}
use Rattle.hex.specs.Hex.{encode_lower, encode_with, lower_digits}
use Rattle.upset_files.proofs.NumberLemmas.{numerals}
use Rattle.upset_files.specs.Reading.{from_blank, is_of_word, word_before_blank}

-- all bytes are those of a word
abbrev pub is_word : List ℕ → Bool
is_word word = list_all is_of_word word

-- a word ends at the first byte that is of none
pub word_ends : (word rest : List ℕ) (byte : ℕ) → is_word word ≡ true → is_of_word byte ≡ false → prefix_len is_of_word (word ++ byte ∷ rest) ≡ length word
word_ends [] rest byte is ends = rw ends refl
word_ends (first ∷ word) rest byte is ends =
    let parts = and_parts (is_of_word first) (is_word word) is in
    rw parts.0 (let more = word_ends word rest byte parts.1 ends in omega (arith, more))

-- so it is the word that its text begins with
pub word_is : (word rest : List ℕ) (byte : ℕ) → is_word word ≡ true → is_of_word byte ≡ false → word_before_blank (word ++ byte ∷ rest) ≡ word
unfolding word_before_blank
word_is word rest byte is ends = ap (λ n. take n (word ++ byte ∷ rest)) (word_ends word rest byte is ends) ∙ take-append_seam word (byte ∷ rest)

-- and that byte is the first after it
pub after_is : (word rest : List ℕ) (byte : ℕ) → is_word word ≡ true → is_of_word byte ≡ false → from_blank (word ++ byte ∷ rest) ≡ byte ∷ rest
unfolding from_blank
after_is word rest byte is ends = ap (λ n. drop n (word ++ byte ∷ rest)) (word_ends word rest byte is ends) ∙ drop-append_seam word (byte ∷ rest)

-- a text is its first word, and what stands after it
pub word_after : (text : List ℕ) → text ≡ word_before_blank text ++ from_blank text
unfolding word_before_blank from_blank
word_after text = sym (take-append-drop (prefix_len is_of_word text) text)

-- a digit is a byte of a word
digit_of_word : (byte : ℕ) → 48 ≤ byte → is_of_word byte ≡ true
unfolding is_of_word
digit_of_word byte digit = grind (arith, nat_tests)

-- digits are a word
pub digits_word : (word : List ℕ) → all_ascii_digits word ≡ true → is_word word ≡ true
digits_word [] is = refl
digits_word (c ∷ cs) is =
    let parts = tells_all_ascii_digits.parts c cs is in
    rw (digit_of_word c (omega (arith, parts.0))) (digits_word cs parts.1)

-- the text of a number is a word
pub decimal_word : (n : ℕ) → n < 2 ^ 64 → is_word (decimal n) ≡ true
decimal_word n small = digits_word (decimal n) (digits_decimal numerals n small)

-- what holds of each byte of a table, and of 0, holds of each that is read of it
pub table_passes : (test : ℕ → Bool) (table : List ℕ) → test 0 ≡ true → list_all test table ≡ true → (k : ℕ) → test (slice_index table k) ≡ true
table_passes test [] none all k = none
table_passes test (x ∷ xs) none all zero = (and_parts (test x) (list_all test xs) all).0
table_passes test (x ∷ xs) none all (suc k) = table_passes test xs none (and_parts (test x) (list_all test xs) all).1 k

-- the digits of the table are bytes of a word
digits_pass : (is_of_word 0 ≡ true) × (list_all is_of_word lower_digits ≡ true)
unfolding is_of_word
digits_pass = (refl, refl)

-- hexadecimal digits are a word
pub hex_word : (bytes : List ℕ) → is_word (encode_lower bytes) ≡ true
unfolding encode_with
hex_word [] = refl
hex_word (b ∷ bytes) = rw (digit (b / 16), digit (b % 16)) (hex_word bytes)
  where
    digit : (k : ℕ) → is_of_word (slice_index lower_digits k) ≡ true
    digit k = table_passes is_of_word lower_digits digits_pass.0 digits_pass.1 k
