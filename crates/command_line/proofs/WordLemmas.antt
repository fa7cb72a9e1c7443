-- What is to be typed for a number and for a file.
use Rattle.std.proofs.Common.{◌≡◌, ℕ, ◌^◌, ◌<◌, ◌≤◌, Bool, true, false, not, nat_eq, nat_lt, List, length, codes, decimal, slice_index, Some, refl, sym, ap, ◌∙◌, arith, inl, inr}
use Rattle.std.specs.Str.{bytes_eq}
use Rattle.std.specs.Str.Parse.{digits_value}
use Rattle.std.specs.List.{starts_with}
use Rattle.std.proofs.lemmas.Bool.{and_parts, and_from, both_ways, cases_lt, ltb-true, lt-ltb, not-true}
use Rattle.std.proofs.lemmas.Bool.Decides.{Decides-eqb}
use Rattle.std.proofs.lemmas.Slice.Eq.{bytes_eq-Decides, starts_is}
use Rattle.std.proofs.lemmas.Fmt.{digits_decimal, digits_value-decimal, decimal-digits_value, decimal_nonempty, decimal_digit, first_decimal}
use Rattle.xm_base.specs.declared.limits.TheConstants.{TICKS}
use Rattle.command_line.specs.Grammar.{IsFileName, TicksAreDecimal}
use Rattle.command_line.specs.Words.{is_file, is_decimal, number_spelled, seed_of, ticks_of}
use Rattle.command_line.proofs.NumberLemmas.{numerals, number_digits, number_plain, plain_number, spelled, unspelled, above}

-- the text of a number begins with a zero only where it is `0`
pub decimal_zero : (n : ℕ) → n < 2 ^ 64 → slice_index (decimal n) 0 ≡ 48 → length (decimal n) ≤ 1
decimal_zero n small zero_first = elim (cases_lt 0 n) [
  | inl some ↦ (let first = first_decimal n some small in absurd (omega arith))
  | inr none ↦ (let text : length (decimal n) ≡ 1 = ap length (decimal_digit n (omega arith)) in omega arith)
]

-- the text of a number is a number
pub decimal_number : (n : ℕ) → n < 2 ^ 64 → is_decimal (decimal n) ≡ true
decimal_number n small = plain_number (decimal n) (digits_decimal numerals n small) (decimal_nonempty n small) (decimal_zero n small)

-- what spells a number is its text
pub number_text : (limit : ℕ) (word : List ℕ) (n : ℕ) → limit < 2 ^ 64 → number_spelled limit word ≡ Some n → (n ≤ limit) × (word ≡ decimal n)
number_text limit word n fits spells = at (is_decimal word) refl
  where
    at : (t : Bool) → is_decimal word ≡ t → (n ≤ limit) × (word ≡ decimal n)
    at false none = (let no = unspelled limit word (λ is. both_ways (is_decimal word) none is) in cc)
    at true is = elim (cases_lt limit (digits_value 10 word)) [
      | inl large ↦ (let none = above limit word large in cc)
      | inr small ↦ (
          let same : n ≡ digits_value 10 word = cc (spelled limit word is small) in
          let digits = number_digits word is in
          let plain = number_plain word is in
          (omega arith, sym (decimal-digits_value numerals word digits.0 digits.1 (λ zero_first. omega (arith, plain.1 zero_first)) (omega arith)) ∙ ap decimal (sym same)))
    ]

-- the text of a number that is not above the limit spells it
pub text_number : (limit : ℕ) (word : List ℕ) (n : ℕ) → limit < 2 ^ 64 → n ≤ limit → word ≡ decimal n → number_spelled limit word ≡ Some n
text_number limit word n fits small text =
    let same : digits_value 10 (decimal n) ≡ n = digits_value-decimal numerals n (omega arith) in
    ap (number_spelled limit) text ∙ sym (spelled limit (decimal n) (decimal_number n (omega arith)) (omega arith)) ∙ ap Some same

-- what spells this many ticks is their text
pub ticks_text : (word : List ℕ) (n : ℕ) → ticks_of word ≡ Some n → (n ≤ TICKS) × (word ≡ decimal n)
ticks_text word n spells = number_text TICKS word n (omega arith) spells

-- the text of a number that is not above the limit spells this many ticks
pub text_ticks : (word : List ℕ) (n : ℕ) → n ≤ TICKS → word ≡ decimal n → ticks_of word ≡ Some n
text_ticks word n small text = text_number TICKS word n (omega arith) small text

-- a word that spells the number that a system is generated out of is its text
pub seed_text : (word : List ℕ) (n : ℕ) → seed_of word ≡ Some n → (n ≤ 4294967295) × (word ≡ decimal n)
seed_text word n spells = number_text 4294967295 word n (omega arith) spells

pub text_seed : (word : List ℕ) (n : ℕ) → n ≤ 4294967295 → word ≡ decimal n → seed_of word ≡ Some n
text_seed word n small text = text_number 4294967295 word n (omega arith) small text

-- a word is this many ticks exactly where it is their text
pub ticks_decimal : TicksAreDecimal
ticks_decimal word n = (ticks_text word n, λ spells. text_ticks word n spells.0 spells.1)

-- a name that passes its test is that text
pub named : (word text : List ℕ) → bytes_eq word text ≡ true → word ≡ text
named word text e = (bytes_eq-Decides word text).0 e

-- what the test of a file's name says
pub file_is : (word : List ℕ) → is_file word ≡ true → IsFileName word
unfolding is_file
file_is word is =
    let parts = and_parts (nat_lt 0 (length word)) (not (starts_with nat_eq word (codes "--"))) is in
    record {
      some = ltb-true 0 (length word) parts.0;
      plain = λ rest begins. both_ways (starts_with nat_eq word (codes "--")) (not-true _ parts.1) ((starts_is Decides-eqb word (codes "--") _ refl).1 rest begins);
    }

-- and what passes it
pub is_of_file : (word : List ℕ) → IsFileName word → is_file word ≡ true
unfolding is_file
is_of_file word file = and_from (nat_lt 0 (length word)) _ (lt-ltb _ _ file.some) (front (starts_with nat_eq word (codes "--")) refl)
  where
    front : (t : Bool) → starts_with nat_eq word (codes "--") ≡ t → not t ≡ true
    front true begins = absurd (file.plain _ ((starts_is Decides-eqb word (codes "--") _ refl).0 begins))
    front false other = refl
