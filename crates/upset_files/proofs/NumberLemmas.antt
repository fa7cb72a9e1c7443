-- What the reader of a number needs to know of its word, and the text of a number as a word.
use Rattle.std.proofs.Common.{◌≡◌, ◌≢◌, ℕ, ◌^◌, ◌<◌, ◌≤◌, Bool, true, false, ◌||◌, not, ◌==◌, nat_eq, List, [], ◌∷◌, length, slice_index, Some, None, Ok, Err, refl, arith, decimal, sym, ap, ◌∙◌, inl, inr}
use Rattle.std.specs.Str.{IsAscii, IsUtf8, all_ascii_digits}
use Rattle.std.specs.Str.Parse.{digits_value, ParsesUnsigned}
use Rattle.std.proofs.lemmas.Bool.{and_parts, and_from, and_left, and_right, or_cases, cases_Bool, cases_lt, lt-leb, le-leb, eqb-true, eq-eqb, not-true, both_ways}
use Rattle.std.proofs.lemmas.Str.{IsUtf8-from_ascii}
use Rattle.std.proofs.lemmas.Str.Ascii.{IsAscii-cons, IsAscii-nil}
use Rattle.std.proofs.lemmas.Fmt.{digits_decimal, digits_value-decimal, decimal-digits_value, decimal_nonempty, decimal_digit, first_decimal}
use Rattle.std.proofs.lemmas.Str.Parse.{IsNumeralModel, numerals_by_value, tells_all_ascii_digits, parse_plain, not_in_digits}
use Rattle.upset_files.specs.lemmas.NumberTerms.{IsPlain}
use Rattle.upset_files.specs.Reading.{is_decimal, number_spelled}

-- texts of digits and their values
pub numerals : IsNumeralModel (λ digits. all_ascii_digits digits ≡ true) (digits_value 10)
numerals = numerals_by_value _ tells_all_ascii_digits

-- a number is digits, and at least one
pub number_digits : (word : List ℕ) → is_decimal word ≡ true → (all_ascii_digits word ≡ true) × (0 < length word)
number_digits [] is = cc
number_digits (digit ∷ digits) is = ((and_parts _ _ is).0, omega arith)

-- a number has neither a plus sign nor a needless zero in front
pub number_plain : (word : List ℕ) → is_decimal word ≡ true → IsPlain word
number_plain [] is = cc
number_plain (digit ∷ digits) is =
    let parts = and_parts (all_ascii_digits (digit ∷ digits)) (not (digit == 48) || nat_eq (length digits) 0) is in (
      λ plus. not_in_digits numerals (digit ∷ digits) 43 parts.0 (λ within. omega arith) 0 (omega arith) plus,
      λ zero_first. elim (or_cases (not (digit == 48)) (nat_eq (length digits) 0) parts.1) [
        | inl other ↦ absurd (both_ways (digit == 48) (not-true _ other) (eq-eqb digit 48 zero_first))
        | inr alone ↦ (let none = eqb-true (length digits) 0 alone in omega arith)
      ],
    )

-- digits with neither a plus sign nor a needless zero in front are a number
pub plain_number : (word : List ℕ) → all_ascii_digits word ≡ true → 0 < length word → (slice_index word 0 ≡ 48 → length word ≤ 1) → is_decimal word ≡ true
plain_number [] digits some plain = absurd (omega arith)
plain_number (digit ∷ rest) digits some plain = and_from (all_ascii_digits (digit ∷ rest)) _ digits (first (digit == 48) refl)
  where
    first : (t : Bool) → (digit == 48) ≡ t → (not t || nat_eq (length rest) 0) ≡ true
    first true zero_first = (let short = plain (eqb-true digit 48 zero_first) in eq-eqb (length rest) 0 (omega arith))
    first false other = refl

-- a word that is no number spells none
pub unspelled : (limit : ℕ) (word : List ℕ) → is_decimal word ≢ true → None ≡ number_spelled limit word
unfolding number_spelled
unspelled limit word none = elim (cases_Bool (is_decimal word)) [ inl is ↦ absurd (none is) | inr is ↦ rw (and_left (is_decimal word) _ is) ]

-- a word with a number above the limit spells none
pub above : (limit : ℕ) (word : List ℕ) → limit < digits_value 10 word → None ≡ number_spelled limit word
unfolding number_spelled
above limit word large = rw (and_right (is_decimal word) _ (lt-leb _ _ large))

-- a number that is not above the limit is spelled
pub spelled : (limit : ℕ) (word : List ℕ) → is_decimal word ≡ true → digits_value 10 word ≤ limit → Some (digits_value 10 word) ≡ number_spelled limit word
unfolding number_spelled
spelled limit word is small = rw (and_from (is_decimal word) _ is (le-leb _ _ small))

-- where a plain word is read, it is a number, and that one
pub read_is : (word : List ℕ) (n : ℕ) → ParsesUnsigned {E = ℕ} 64 10 word (Ok n) → IsPlain word → (is_decimal word ≡ true) × (n ≡ digits_value 10 word)
read_is word n parsed plain =
    let read = parse_plain numerals {E = ℕ} 64 word (Ok n) parsed plain.0 in
    (plain_number word read.0.0 read.0.1 plain.1, read.1)

-- a plain word that isn't read spells no number
pub unread : {E : Type 0} (limit : ℕ) (word : List ℕ) (e : E) → limit < 2 ^ 64 → ParsesUnsigned 64 10 word (Err e) → IsPlain word → None ≡ number_spelled limit word
unread limit word e fits parsed plain =
    let refused = parse_plain numerals 64 word (Err e) parsed plain.0 in
    elim (cases_Bool (is_decimal word)) [
      | inl is ↦ (let digits = number_digits word is in
          elim (cases_lt (digits_value 10 word) (2 ^ 64)) [
            | inl small ↦ absurd (refused (digits.0, digits.1, small))
            | inr large ↦ above limit word (omega arith)
          ])
      | inr none ↦ unspelled limit word (λ is. both_ways (is_decimal word) none is)
    ]

-- digits are ASCII
pub digits_ascii : (word : List ℕ) → all_ascii_digits word ≡ true → IsAscii word
digits_ascii [] is = IsAscii-nil
digits_ascii (c ∷ cs) is =
    let parts = tells_all_ascii_digits.parts c cs is in
    IsAscii-cons c cs (omega (arith, parts.0)) (digits_ascii cs parts.1)

-- what is no text spells no number
pub no_text : (limit : ℕ) (word : List ℕ) → ¬ (IsUtf8 word) → None ≡ number_spelled limit word
no_text limit word none = unspelled limit word (λ is. none (IsUtf8-from_ascii word (digits_ascii word (number_digits word is).0)))

-- the text of a number begins with a zero only where it is `0`
pub decimal_zero : (n : ℕ) → n < 2 ^ 64 → slice_index (decimal n) 0 ≡ 48 → length (decimal n) ≤ 1
decimal_zero n small zero_first = elim (cases_lt 0 n) [
  | inl some ↦ (let first = first_decimal n some small in absurd (omega arith))
  | inr none ↦ (let text : length (decimal n) ≡ 1 = ap length (decimal_digit n (omega arith)) in omega arith)
]

-- the text of a number is a number
pub decimal_number : (n : ℕ) → n < 2 ^ 64 → is_decimal (decimal n) ≡ true
decimal_number n small = plain_number (decimal n) (digits_decimal numerals n small) (decimal_nonempty n small) (decimal_zero n small)

-- what spells a number is its text
pub number_text : (limit : ℕ) (word : List ℕ) (n : ℕ) → limit < 2 ^ 64 → number_spelled limit word ≡ Some n → (n ≤ limit) × (word ≡ decimal n)
number_text limit word n fits spells = at (is_decimal word) refl
  where
    at : (t : Bool) → is_decimal word ≡ t → (n ≤ limit) × (word ≡ decimal n)
    at false none = (let no = unspelled limit word (λ is. both_ways (is_decimal word) none is) in cc)
    at true is = elim (cases_lt limit (digits_value 10 word)) [
      | inl large ↦ (let none = above limit word large in cc)
      | inr small ↦ (
          let same : n ≡ digits_value 10 word = cc (spelled limit word is small) in
          let digits = number_digits word is in
          let plain = number_plain word is in
          (omega arith, sym (decimal-digits_value numerals word digits.0 digits.1 (λ zero_first. omega (arith, plain.1 zero_first)) (omega arith)) ∙ ap decimal (sym same)))
    ]

-- the text of a number that is not above the limit spells it
pub text_number : (limit : ℕ) (n : ℕ) → limit < 2 ^ 64 → n ≤ limit → number_spelled limit (decimal n) ≡ Some n
text_number limit n fits small =
    let same : digits_value 10 (decimal n) ≡ n = digits_value-decimal numerals n (omega arith) in
    sym (spelled limit (decimal n) (decimal_number n (omega arith)) (omega arith)) ∙ ap Some same
