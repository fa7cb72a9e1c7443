-- A line is read from its spelling, and from no other text.
use Rattle.std.proofs.Common.{◌≡◌, ℕ, ◌<◌, ◌^◌, Bool, true, false, List, [], ◌∷◌, ◌++◌, decimal, codes, Option, Some, None, Result, Ok, Err, append_assoc, cond, refl, sym, ap, subst, ◌∙◌, ◌==◌, arith}
use Rattle.std.proofs.lemmas.Bool.{eqb-true}
use Rattle.file_headers.specs.Steps.{◌>>=◌}
use Rattle.file_headers.specs.lemmas.StepLemmas.{ok_is, stepped}
use Rattle.upset_files.proofs.NumberLemmas.{number_text, text_number}
use Rattle.upset_files.proofs.PlaceLemmas.{place_again, place_is, place_word}
use Rattle.upset_files.proofs.WordLemmas.{after_is, decimal_word, is_word, word_after, word_is}
use Rattle.upset_files.specs.Laws.{IsSpelledLine}
use Rattle.upset_files.specs.Reading.{after_byte, from_blank, is_of_word, line_at, meant, field_number, place_spelled, spaced_read, word_before_blank, word_read}
use Rattle.xm_report.specs.Places.{IsSpelledPlace, place_text}
use Rattle.upset_files.specs.Spelling.{upset_text}
use Rattle.upset_files.specs.declared.fault.UpsetCause.{UpsetCause}
use Rattle.upset_files.specs.declared.fault.UpsetCause.TheVariants.{BadBit, BadEnd, BadPartition, BadPlace, BadTick}
use Rattle.upset_files.specs.declared.numbers.TheConstants.{MOST_NUMBER}
use Rattle.xm_report.specs.declared.place.Place.{Place}
use Rattle.upset_model.specs.declared.upset_line.UpsetLine.{UpsetLine}

-- a number of 64 bits is read from its text
number_again : (n : ℕ) → n < 2 ^ 64 → field_number (decimal n) ≡ Some n
number_again n small = text_number MOST_NUMBER n (omega arith) (omega arith)

-- a number that is read has 64 bits, and that text
number_is : (word : List ℕ) (n : ℕ) → field_number word ≡ Some n → (n < 2 ^ 64) × (word ≡ decimal n)
number_is word n e = (let text = number_text MOST_NUMBER word n (omega arith) e in (omega (arith, text.0), text.1))

-- a space and a line feed are bytes of no word
blanks : (is_of_word 32 ≡ false) × (is_of_word 10 ≡ false)
unfolding is_of_word
blanks = (refl, refl)

-- the byte that stood first
byte_first : (byte : ℕ) (cause : UpsetCause) (text rest : List ℕ) → after_byte byte cause text ≡ Ok rest → text ≡ byte ∷ rest
byte_first byte cause [] rest e = absurd cc
byte_first byte cause (first ∷ others) rest e = at (first == byte) refl e
  where
    at : (t : Bool) → (first == byte) ≡ t → cond t (Ok others) (Err cause) ≡ Ok rest → first ∷ others ≡ byte ∷ rest
    at true is e =
        let first_is : first ≡ byte = eqb-true first byte is in
        let others_are : others ≡ rest = cc in
        rw (first_is, others_are) refl
    at false is e = absurd cc

-- a word that meant something
had : {X : Type 0} (cause : UpsetCause) (found : Option X) (after : List ℕ) (x : X) (rest : List ℕ) → meant cause found after ≡ Ok (x, rest) → (found ≡ Some x) × (after ≡ rest)
had cause None after x rest e = absurd cc
had cause (Some y) after x rest e = (let same : (y, after) ≡ (x, rest) = ok_is (y, after) (x, rest) e in (ap (λ p. Some p.0) same, ap (λ p. p.1) same))

-- a field that was read: its word, and what stands after it
pub record IsField {X : Type 0} (text_of : X → List ℕ) (P : X → Type 0) (text : List ℕ) (found : X × List ℕ) : Type 0 where
  pub text_is : text ≡ text_of found.0 ++ found.1
  pub right : P found.0

-- the field of a word
word_field : {X : Type 0} (meaning : List ℕ → Option X) (text_of : X → List ℕ) (P : X → Type 0) (cause : UpsetCause) (text : List ℕ) (found : X × List ℕ)
    → ((word : List ℕ) (x : X) → meaning word ≡ Some x → P x × (word ≡ text_of x)) → word_read meaning cause text ≡ Ok found → IsField text_of P text found
word_field meaning text_of P cause text found is e =
    let parts = had cause (meaning (word_before_blank text)) (from_blank text) found.0 found.1 e in
    let word = is (word_before_blank text) found.0 parts.0 in
    record {
      text_is = word_after text ∙ ap (λ w. w ++ from_blank text) word.1 ∙ ap (λ rest. text_of found.0 ++ rest) parts.1;
      right = word.0;
    }

-- the field of a word after a space
spaced_field : {X : Type 0} (meaning : List ℕ → Option X) (text_of : X → List ℕ) (P : X → Type 0) (cause : UpsetCause) (text : List ℕ) (found : X × List ℕ)
    → ((word : List ℕ) (x : X) → meaning word ≡ Some x → P x × (word ≡ text_of x)) → spaced_read meaning cause text ≡ Ok found → IsField (λ x. 32 ∷ text_of x) P text found
spaced_field meaning text_of P cause text found is e =
    let space = stepped (after_byte 32 cause text) (λ rest. word_read meaning cause rest) found e in
    let field = word_field meaning text_of P cause space.value found is space.led in
    record {
      text_is = byte_first 32 cause text space.value space.is ∙ ap (λ rest. 32 ∷ rest) field.text_is;
      right = field.right;
    }

-- a line in pieces
pieces : (a b c d rest : List ℕ) → a ++ codes " " ++ b ++ codes " " ++ c ++ codes " " ++ d ++ codes "\n" ++ rest ≡ a ++ (32 ∷ (b ++ (32 ∷ (c ++ (32 ∷ (d ++ (10 ∷ rest)))))))
pieces a b c d rest = simp append_assoc refl

-- the text of a line, and what stands after it, in pieces
line_text : (line : UpsetLine) (rest : List ℕ)
    → upset_text line ++ rest ≡ decimal line.tick ++ (32 ∷ (decimal line.part ++ (32 ∷ (place_text line.place ++ (32 ∷ (decimal line.bit ++ (10 ∷ rest)))))))
unfolding upset_text
line_text line rest = pieces (decimal line.tick) (decimal line.part) (place_text line.place) (decimal line.bit) rest

-- the fields that were read make the line
made_of : (text : List ℕ) (tick part : ℕ × List ℕ) (place : Place × List ℕ) (bit : ℕ × List ℕ) (rest : List ℕ)
    → IsField decimal (λ n. n < 2 ^ 64) text tick → IsField (λ n. 32 ∷ decimal n) (λ n. n < 2 ^ 64) tick.1 part → IsField (λ p. 32 ∷ place_text p) IsSpelledPlace part.1 place
    → IsField (λ n. 32 ∷ decimal n) (λ n. n < 2 ^ 64) place.1 bit → bit.1 ≡ 10 ∷ rest
    → (let line : UpsetLine = record { tick = tick.0; part = part.0; place = place.0; bit = bit.0 } in (text ≡ upset_text line ++ rest) × IsSpelledLine line)
made_of text tick part place bit rest a b c d end =
    let line : UpsetLine = record { tick = tick.0; part = part.0; place = place.0; bit = bit.0 } in (
      a.text_is ∙ ap (λ x. decimal tick.0 ++ x) b.text_is ∙ ap (λ x. decimal tick.0 ++ (32 ∷ (decimal part.0 ++ x))) c.text_is
          ∙ ap (λ x. decimal tick.0 ++ (32 ∷ (decimal part.0 ++ (32 ∷ (place_text place.0 ++ x))))) d.text_is
          ∙ ap (λ x. decimal tick.0 ++ (32 ∷ (decimal part.0 ++ (32 ∷ (place_text place.0 ++ (32 ∷ (decimal bit.0 ++ x))))))) end ∙ sym (line_text line rest),
      record { tick = a.right; part = b.right; place = c.right; bit = d.right },
    )

-- the line that was made is the one that was read
made_is : (text : List ℕ) (made : UpsetLine) (end : List ℕ) (line : UpsetLine) (rest : List ℕ) → (let done : Result (UpsetLine × List ℕ) UpsetCause = Ok (made, end) in done ≡ Ok (line, rest))
    → (text ≡ upset_text made ++ end) × IsSpelledLine made → (text ≡ upset_text line ++ rest) × IsSpelledLine line
made_is text made end line rest e is = subst (λ (found : UpsetLine × List ℕ). (text ≡ upset_text found.0 ++ found.1) × IsSpelledLine found.0) (ok_is (made, end) (line, rest) e) is

-- a line that is read is spelled so
pub line_is : (text : List ℕ) (line : UpsetLine) (rest : List ℕ) → line_at text ≡ Ok (line, rest) → (text ≡ upset_text line ++ rest) × IsSpelledLine line
unfolding line_at
line_is text line rest e =
    let tick = stepped (word_read field_number BadTick text) (λ tick. spaced_read field_number BadPartition tick.1 >>= λ part. spaced_read place_spelled BadPlace part.1 >>= λ place.
    spaced_read field_number BadBit place.1 >>= λ bit. after_byte 10 BadEnd bit.1 >>= λ end. Ok (record { tick = tick.0; part = part.0; place = place.0; bit = bit.0 }, end)) (line, rest) e in
    let part = stepped (spaced_read field_number BadPartition tick.value.1) (λ part. spaced_read place_spelled BadPlace part.1 >>= λ place.
    spaced_read field_number BadBit place.1 >>= λ bit. after_byte 10 BadEnd bit.1 >>= λ end. Ok (record { tick = tick.value.0; part = part.0; place = place.0; bit = bit.0 }, end)) (line, rest) tick.led in
    let place = stepped (spaced_read place_spelled BadPlace part.value.1) (λ place.
    spaced_read field_number BadBit place.1 >>= λ bit. after_byte 10 BadEnd bit.1 >>= λ end. Ok (record { tick = tick.value.0; part = part.value.0; place = place.0; bit = bit.0 }, end)) (line, rest) part.led in
    let bit = stepped (spaced_read field_number BadBit place.value.1) (λ bit. after_byte 10 BadEnd bit.1 >>= λ end.
    Ok (record { tick = tick.value.0; part = part.value.0; place = place.value.0; bit = bit.0 }, end)) (line, rest) place.led in
    let end = stepped (after_byte 10 BadEnd bit.value.1) (λ end. Ok (record { tick = tick.value.0; part = part.value.0; place = place.value.0; bit = bit.value.0 }, end)) (line, rest) bit.led in
    made_is text (record { tick = tick.value.0; part = part.value.0; place = place.value.0; bit = bit.value.0 }) end.value line rest end.led (
    made_of text tick.value part.value place.value bit.value end.value
    (word_field field_number decimal (λ n. n < 2 ^ 64) BadTick text tick.value number_is tick.is)
    (spaced_field field_number decimal (λ n. n < 2 ^ 64) BadPartition tick.value.1 part.value number_is part.is)
    (spaced_field place_spelled place_text IsSpelledPlace BadPlace part.value.1 place.value place_is place.is)
    (spaced_field field_number decimal (λ n. n < 2 ^ 64) BadBit place.value.1 bit.value number_is bit.is)
    (byte_first 10 BadEnd bit.value.1 end.value end.is)
    )

-- a field is read from its word
field_again : {X : Type 0} (meaning : List ℕ → Option X) (cause : UpsetCause) (word : List ℕ) (byte : ℕ) (rest : List ℕ) (x : X) → is_word word ≡ true → is_of_word byte ≡ false → meaning word ≡ Some x
    → word_read meaning cause (word ++ byte ∷ rest) ≡ Ok (x, byte ∷ rest)
field_again meaning cause word byte rest x is ends e = rw (word_is word rest byte is ends, after_is word rest byte is ends, e) refl

-- pieces are read
pieces_again : (tick part : ℕ) (place : Place) (bit : ℕ) (rest : List ℕ) → tick < 2 ^ 64 → part < 2 ^ 64 → IsSpelledPlace place → bit < 2 ^ 64
    → line_at (decimal tick ++ (32 ∷ (decimal part ++ (32 ∷ (place_text place ++ (32 ∷ (decimal bit ++ (10 ∷ rest)))))))) ≡ Ok (record { tick = tick; part = part; place = place; bit = bit }, rest)
unfolding line_at
pieces_again tick part place bit rest a b c d =
    let after_place = decimal bit ++ (10 ∷ rest) in
    let after_part = place_text place ++ (32 ∷ after_place) in
    let after_tick = decimal part ++ (32 ∷ after_part) in
    rw (
      field_again field_number BadTick (decimal tick) 32 after_tick tick (decimal_word tick a) blanks.0 (number_again tick a),
      field_again field_number BadPartition (decimal part) 32 after_part part (decimal_word part b) blanks.0 (number_again part b),
      field_again place_spelled BadPlace (place_text place) 32 after_place place (place_word place c) blanks.0 (place_again place c),
      field_again field_number BadBit (decimal bit) 10 rest bit (decimal_word bit d) blanks.1 (number_again bit d),
    ) refl

-- a line is read from its spelling
pub line_again : (line : UpsetLine) (rest : List ℕ) → IsSpelledLine line → line_at (upset_text line ++ rest) ≡ Ok (line, rest)
line_again line rest is = ap line_at (line_text line rest) ∙ pieces_again line.tick line.part line.place line.bit rest is.tick is.part is.place is.bit
