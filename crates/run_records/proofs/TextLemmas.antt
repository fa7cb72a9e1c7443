-- The text of counts is that of no others.
use Rattle.std.proofs.Common.{◌≡◌, ◌≢◌, ℕ, zero, suc, ◌/◌, ◌%◌, ◌<◌, ◌^◌, ◌==◌, Bool, true, false, if◌then◌else◌, List, [], ◌∷◌, ◌++◌, length, drop, get_or, slice_index, codes, decimal, Option, Some, None, Ok, refl, sym, ap, ◌∙◌, arith, append_assoc}
use Rattle.std.specs.Int.{w32, from_be_bytes, to_be_bytes}
use Rattle.std.specs.List.{flat_map}
use Rattle.std.specs.Str.{all_ascii_digits}
use Rattle.std.specs.Str.Parse.{digits_value}
use Rattle.std.proofs.lemmas.Bool.{eq-eqb, eqb-true}
use Rattle.std.proofs.lemmas.Fmt.{decimal_injective, digits_decimal}
use Rattle.std.proofs.lemmas.Nat.{from_be_bytes-to_be_bytes_4}
use Rattle.std.proofs.lemmas.Str.Parse.{IsNumeralModel, not_in_digits, numerals_by_value, tells_all_ascii_digits}
use Rattle.hex.specs.Hex.{decode_of, encode_lower, encode_with, hex_digit_value, lower_digits}
use Rattle.hex.proofs.HexLemmas.{IsDigits-lower_digits, decode_of-encode_lower, length-encode_with}
use Rattle.xm_base.specs.Bytes.{AreBytes}
use Rattle.run_records.specs.Counts.{AreCounts, AreRows, Counts, IsRow, Row, TextsDetermineCounts, counts_text, row_text}

-- whether bytes have none that is this one
abbrev lacks : ℕ → List ℕ → Bool
lacks stop [] = true
lacks stop (byte ∷ bytes) = if byte == stop then false else lacks stop bytes

never_stop : (stop byte : ℕ) (bytes : List ℕ) → byte ≡ stop → lacks stop (byte ∷ bytes) ≡ true → ⊥
never_stop stop byte bytes same lacking =
    let wrong : false ≡ true = sym (ap (λ (t : Bool). if t then false else lacks stop bytes) (eq-eqb byte stop same)) ∙ lacking in
    cc

lacks_rest : (stop byte : ℕ) (bytes : List ℕ) → lacks stop (byte ∷ bytes) ≡ true → lacks stop bytes ≡ true
lacks_rest stop byte bytes lacking = at (byte == stop) lacking
  where
    at : (t : Bool) → (if t then false else lacks stop bytes) ≡ true → lacks stop bytes ≡ true
    at true wrong = absurd (cc)
    at false rest = rest

-- two fields before the same stop are the same, and so is what stands after it
cut : (stop : ℕ) (one other after later : List ℕ) → lacks stop one ≡ true → lacks stop other ≡ true → one ++ (stop ∷ after) ≡ other ++ (stop ∷ later) → (one ≡ other) × (after ≡ later)
cut stop [] [] after later none none_other same = (refl, cc)
cut stop [] (byte ∷ other) after later none none_other same = (let stands : byte ≡ stop = cc in absurd (never_stop stop byte other stands none_other))
cut stop (byte ∷ one) [] after later none none_other same = (let stands : byte ≡ stop = cc in absurd (never_stop stop byte one stands none))
cut stop (byte ∷ one) (next ∷ other) after later none none_other same =
    let first : byte ≡ next = cc in
    let rest : one ++ (stop ∷ after) ≡ other ++ (stop ∷ later) = cc in
    let both = cut stop one other after later (lacks_rest stop byte one none) (lacks_rest stop next other none_other) rest in
    let fields : one ≡ other = both.0 in
    (cc, both.1)

lacks_from : (stop : ℕ) (bytes : List ℕ) → ((k : ℕ) → k < length bytes → get_or bytes k 0 ≢ stop) → lacks stop bytes ≡ true
lacks_from stop [] none = refl
lacks_from stop (byte ∷ bytes) none = at (byte == stop) refl (lacks_from stop bytes (λ k below. none (suc k) (omega (arith, below))))
  where
    at : (t : Bool) → (byte == stop) ≡ t → lacks stop bytes ≡ true → (if t then false else lacks stop bytes) ≡ true
    at true is rest = absurd (none 0 (omega arith) (eqb-true byte stop is))
    at false is rest = rest

numerals : IsNumeralModel (λ digits. all_ascii_digits digits ≡ true) (digits_value 10)
numerals = numerals_by_value _ tells_all_ascii_digits

-- a number before a byte that is below the digits
decimal_lacks : (stop n : ℕ) → stop < 48 → n < 2 ^ 64 → lacks stop (decimal n) ≡ true
decimal_lacks stop n low small = lacks_from stop (decimal n) (λ k below. not_in_digits numerals (decimal n) stop (digits_decimal numerals n small) (λ within. omega (arith, low)) k below)

number_cut : (stop m n : ℕ) (after later : List ℕ) → stop < 48 → m < 2 ^ 64 → n < 2 ^ 64 → decimal m ++ (stop ∷ after) ≡ decimal n ++ (stop ∷ later) → (m ≡ n) × (after ≡ later)
number_cut stop m n after later low small small_other same =
    let both = cut stop (decimal m) (decimal n) after later (decimal_lacks stop m low small) (decimal_lacks stop n low small_other) same in
    (decimal_injective m n small small_other both.0, both.1)

-- a word in hexadecimal
hex_same : (one other : List ℕ) → AreBytes one → AreBytes other → encode_lower one ≡ encode_lower other → one ≡ other
hex_same one other bytes bytes_other same =
    let both : Ok one ≡ Ok other = sym (decode_of-encode_lower one bytes) ∙ ap decode_of same ∙ decode_of-encode_lower other bytes_other in
    cc

digit_is : (stop value : ℕ) → hex_digit_value stop ≡ None → value < 16 → (slice_index lower_digits value == stop) ≡ false
digit_is stop value none small = at (hex_digit_value (slice_index lower_digits value)) (IsDigits-lower_digits value small) (slice_index lower_digits value) refl
  where
    at : (o : Option ℕ) → o ≡ Some value → (digit : ℕ) → hex_digit_value digit ≡ o → (digit == stop) ≡ false
    at o is digit reads = stands (digit == stop) refl
      where
        stands : (t : Bool) → (digit == stop) ≡ t → t ≡ false
        stands false differs = refl
        stands true same =
            let here : digit ≡ stop = eqb-true digit stop same in
            let wrong : None ≡ Some value = sym none ∙ ap hex_digit_value (sym here) ∙ reads ∙ is in
            absurd (cc)

fixed_cut : (one other after later : List ℕ) → length one ≡ length other → one ++ after ≡ other ++ later → (one ≡ other) × (after ≡ later)
fixed_cut [] [] after later long same = (refl, same)
fixed_cut [] (byte ∷ other) after later long same = absurd (omega (arith, long))
fixed_cut (byte ∷ one) [] after later long same = absurd (omega (arith, long))
fixed_cut (byte ∷ one) (next ∷ other) after later long same =
    let first : byte ≡ next = cc in
    let rest : one ++ after ≡ other ++ later = cc in
    let both = fixed_cut one other after later (omega (arith, long)) rest in
    let fields : one ≡ other = both.0 in
    (cc, both.1)

word_bytes : (word : ℕ) → AreBytes (to_be_bytes w32 word)
word_bytes word zero = omega arith
word_bytes word (suc zero) = omega arith
word_bytes word (suc (suc zero)) = omega arith
word_bytes word (suc (suc (suc zero))) = omega arith
word_bytes word (suc (suc (suc (suc k)))) = omega arith

word_cut : (one other : ℕ) (after later : List ℕ) → one < 2 ^ 32 → other < 2 ^ 32 → encode_lower (to_be_bytes w32 one) ++ after ≡ encode_lower (to_be_bytes w32 other) ++ later → (one ≡ other) × (after ≡ later)
word_cut one other after later small small_other same =
    let long : length (encode_lower (to_be_bytes w32 one)) ≡ length (encode_lower (to_be_bytes w32 other)) =
    length-encode_with lower_digits (to_be_bytes w32 one) ∙ sym (length-encode_with lower_digits (to_be_bytes w32 other)) in
    let both = fixed_cut (encode_lower (to_be_bytes w32 one)) (encode_lower (to_be_bytes w32 other)) after later long same in
    let bytes = hex_same (to_be_bytes w32 one) (to_be_bytes w32 other) (word_bytes one) (word_bytes other) both.0 in
    (sym (from_be_bytes-to_be_bytes_4 one small) ∙ ap (from_be_bytes w32) bytes ∙ from_be_bytes-to_be_bytes_4 other small_other, both.1)

-- pieces after a first one, from the left
abbrev pieces_after : List ℕ → List (List ℕ) → List ℕ
pieces_after first [] = first
pieces_after first (piece ∷ pieces) = pieces_after (first ++ piece) pieces

-- and from the right, before more bytes
abbrev pieces_before : List (List ℕ) → List ℕ → List ℕ
pieces_before [] more = more
pieces_before (piece ∷ pieces) more = piece ++ pieces_before pieces more

turned : (first : List ℕ) (pieces : List (List ℕ)) (more : List ℕ) → pieces_after first pieces ++ more ≡ first ++ pieces_before pieces more
turned first [] more = refl
turned first (piece ∷ pieces) more = turned (first ++ piece) pieces more ∙ append_assoc first piece (pieces_before pieces more)

-- a row before other text
row_tail : Row → List ℕ → List ℕ
row_tail row more = encode_lower (to_be_bytes w32 row.address) ++ (32 ∷ (decimal row.completed ++ (32 ∷ (decimal row.taken ++ (32 ∷ (decimal row.trapped ++ (10 ∷ more)))))))

row_is : (row : Row) (more : List ℕ) → row_text row ++ more ≡ row_tail row more
unfolding row_text row_tail
row_is row more =
    turned (encode_lower (to_be_bytes w32 row.address)) (codes " " ∷ decimal row.completed ∷ codes " " ∷ decimal row.taken ∷ codes " " ∷ decimal row.trapped ∷ codes "\n" ∷ []) more

row_same : (one other : Row) → one.address ≡ other.address → one.completed ≡ other.completed → one.taken ≡ other.taken → one.trapped ≡ other.trapped → one ≡ other
row_same one other a b c d = rw (a, b, c, d) refl

row_cut : (one other : Row) (after later : List ℕ) → IsRow one → IsRow other → row_tail one after ≡ row_tail other later → (one ≡ other) × (after ≡ later)
unfolding row_tail
row_cut one other after later range range_other same =
    let address = word_cut one.address other.address _ _ range.address range_other.address same in
    let rest : (decimal one.completed ++ (32 ∷ (decimal one.taken ++ (32 ∷ (decimal one.trapped ++ (10 ∷ after))))))
    ≡ (decimal other.completed ++ (32 ∷ (decimal other.taken ++ (32 ∷ (decimal other.trapped ++ (10 ∷ later)))))) = tail_same _ _ address.1 in
    let completed = number_cut 32 one.completed other.completed _ _ (omega arith) range.completed range_other.completed rest in
    let taken = number_cut 32 one.taken other.taken _ _ (omega arith) range.taken range_other.taken completed.1 in
    let trapped = number_cut 10 one.trapped other.trapped _ _ (omega arith) range.trapped range_other.trapped taken.1 in
    (row_same one other address.0 completed.0 taken.0 trapped.0, trapped.1)
  where
    tail_same : (one_rest other_rest : List ℕ) → (32 ∷ one_rest) ≡ (32 ∷ other_rest) → one_rest ≡ other_rest
    tail_same one_rest other_rest same = cc

-- a row does not begin as the line after the rows
first_of : List ℕ → ℕ
first_of bytes = get_or bytes 0 0

row_first : (row : Row) (more : List ℕ) → first_of (row_tail row more) ≡ slice_index lower_digits (row.address / 16777216 % 256 / 16)
unfolding row_tail first_of encode_with
row_first row more = refl

never_row : (row : Row) (more rest : List ℕ) → (111 ∷ rest) ≡ row_tail row more → ⊥
unfolding first_of
never_row row more rest same =
    let digit : 111 ≡ slice_index lower_digits (row.address / 16777216 % 256 / 16) = ap first_of same ∙ row_first row more in
    let none = digit_is 111 (row.address / 16777216 % 256 / 16) refl (omega arith) in
    let is = eq-eqb (slice_index lower_digits (row.address / 16777216 % 256 / 16)) 111 (sym digit) in
    cc

rows_text_cons : (row : Row) (rows : List Row) (more : List ℕ) → flat_map row_text (row ∷ rows) ++ more ≡ row_tail row (flat_map row_text rows ++ more)
rows_text_cons row rows more = append_assoc (row_text row) (flat_map row_text rows) more ∙ row_is row (flat_map row_text rows ++ more)

rows_cut : (rows others : List Row) (after later : List ℕ) → AreRows rows → AreRows others → flat_map row_text rows ++ (111 ∷ after) ≡ flat_map row_text others ++ (111 ∷ later)
    → (rows ≡ others) × (after ≡ later)
rows_cut [] [] after later range range_other same = (refl, cc)
rows_cut [] (other ∷ others) after later range range_other same = absurd (never_row other (flat_map row_text others ++ (111 ∷ later)) after (same ∙ rows_text_cons other others (111 ∷ later)))
rows_cut (row ∷ rows) [] after later range range_other same = absurd (never_row row (flat_map row_text rows ++ (111 ∷ after)) later (sym same ∙ rows_text_cons row rows (111 ∷ after)))
rows_cut (row ∷ rows) (other ∷ others) after later range range_other same =
    let first = row_cut row other (flat_map row_text rows ++ (111 ∷ after)) (flat_map row_text others ++ (111 ∷ later)) range.0 range_other.0
    (sym (rows_text_cons row rows (111 ∷ after)) ∙ same ∙ rows_text_cons other others (111 ∷ later)) in
    let rest = rows_cut rows others after later range.1 range_other.1 first.1 in
    let one : row ≡ other = first.0 in
    let all : rows ≡ others = rest.0 in
    (cc, rest.1)

counts_same : (one other : Counts) → one.rows ≡ other.rows → one.outside ≡ other.outside → one.interrupts ≡ other.interrupts → one ≡ other
counts_same one other a b c = rw (a, b, c) refl

-- what stands after the rows
after_rows : Counts → List ℕ
after_rows c = codes "utside " ++ (decimal c.outside ++ (10 ∷ (codes "interrupts " ++ (decimal c.interrupts ++ (10 ∷ [])))))

counts_is : (c : Counts) → counts_text c ++ [] ≡ flat_map row_text c.rows ++ (111 ∷ after_rows c)
unfolding counts_text after_rows
counts_is c = turned (flat_map row_text c.rows) (codes "outside " ∷ decimal c.outside ∷ codes "\ninterrupts " ∷ decimal c.interrupts ∷ codes "\n" ∷ []) []

after_cut : (one other : Counts) → AreCounts one → AreCounts other → after_rows one ≡ after_rows other → (one.outside ≡ other.outside) × (one.interrupts ≡ other.interrupts)
unfolding after_rows
after_cut one other range range_other same =
    let after : (decimal one.outside ++ (10 ∷ (codes "interrupts " ++ (decimal one.interrupts ++ (10 ∷ [])))))
    ≡ (decimal other.outside ++ (10 ∷ (codes "interrupts " ++ (decimal other.interrupts ++ (10 ∷ []))))) = ap (λ (t : List ℕ). drop 7 t) same in
    let away = number_cut 10 one.outside other.outside _ _ (omega arith) range.outside range_other.outside after in
    let last : (decimal one.interrupts ++ (10 ∷ [])) ≡ (decimal other.interrupts ++ (10 ∷ [])) = ap (λ (t : List ℕ). drop 11 t) away.1 in
    let interrupts = number_cut 10 one.interrupts other.interrupts [] [] (omega arith) range.interrupts range_other.interrupts last in
    (away.0, interrupts.0)

pub texts_determine_counts : TextsDetermineCounts
texts_determine_counts one other range range_other same =
    let rows = rows_cut one.rows other.rows (after_rows one) (after_rows other) range.rows range_other.rows (sym (counts_is one) ∙ ap (λ (t : List ℕ). t ++ []) same ∙ counts_is other) in
    let rest = after_cut one other range range_other rows.1 in
    counts_same one other rows.0 rest.0 rest.1
