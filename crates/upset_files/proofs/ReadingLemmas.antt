-- Upsets are read from their text, and from no other.
use Rattle.std.proofs.Common.{◌≡◌, ℕ, zero, suc, ◌<◌, ◌≤◌, ◌^◌, Bool, true, false, not, nat_lt, nat_le, List, [], ◌∷◌, ◌++◌, length, length-append, Result, Ok, Err, cond, refl, sym, ap, subst, ◌∙◌, arith}
use Rattle.std.proofs.lemmas.Bool.{and_parts, leb-true, ltb-true, lt-ltb}
use Rattle.std.proofs.lemmas.Bool.Decides.{nat_tests}
use Rattle.file_headers.specs.Steps.{◌>>=◌}
use Rattle.file_headers.specs.lemmas.StepLemmas.{led_on, ok_is, stepped}
use Rattle.xm_conf.specs.Configuration.{Conf}
use Rattle.xm_conf.specs.declared.part.Area.{Area}
use Rattle.upset_files.proofs.LineLemmas.{line_again, line_is}
use Rattle.upset_files.specs.Fits.{AllFit, FitsRun, HasWordAddress, is_bit_of, is_place_of, areas_of_part}
use Rattle.upset_files.specs.Laws.{IsSpelledLine, ReadUpsetsAreSpelled, UpsetsAreRead, UpsetsHaveOneSpelling}
use Rattle.upset_files.specs.Reading.{fitted, fitted_line, in_line, line_at, lines_read, too_early, upsets_from}
use Rattle.upset_files.specs.Spelling.{upset_text, upsets_text}
use Rattle.upset_files.specs.declared.fault.UpsetCause.{UpsetCause}
use Rattle.upset_files.specs.declared.fault.UpsetCause.TheVariants.{NoBit, NoPartition, NoPlace, Unreached}
use Rattle.xm_report.specs.Places.{IsSpelledPlace}
use Rattle.xm_report.specs.declared.place.Place.{Place}
use Rattle.xm_report.specs.declared.place.Place.TheVariants.{Conditions, ExecutionDeadline, Global, HardwareDeadline, Mask, MemoryByte, Npc, Pc, Pending, TrapBase, Windowed, YRegister}
use Rattle.upset_model.specs.declared.upset_line.UpsetLine.{UpsetLine}
use Rattle.upset_files.specs.declared.reading.TheConstants.{UPSETS}

-- a place that a partition has, with an address of 32 bits, has a spelling
has_spelling : (areas : List Area) (place : Place) → is_place_of areas place ≡ true → HasWordAddress place → IsSpelledPlace place
has_spelling areas (Global n) has address = (let parts = and_parts (nat_le 1 n) (nat_lt n 8) has in (leb-true 1 n parts.0, ltb-true n 8 parts.1))
has_spelling areas (Windowed n) has address = ltb-true n 128 has
has_spelling areas Pc has address = tt
has_spelling areas Npc has address = tt
has_spelling areas YRegister has address = tt
has_spelling areas Conditions has address = tt
has_spelling areas HardwareDeadline has address = tt
has_spelling areas ExecutionDeadline has address = tt
has_spelling areas TrapBase has address = tt
has_spelling areas Mask has address = tt
has_spelling areas Pending has address = tt
has_spelling areas (MemoryByte at) has address = address

-- a place that has a spelling has an address of 32 bits
has_address : (place : Place) → IsSpelledPlace place → HasWordAddress place
has_address (Global n) is = tt
has_address (Windowed n) is = tt
has_address Pc is = tt
has_address Npc is = tt
has_address YRegister is = tt
has_address Conditions is = tt
has_address HardwareDeadline is = tt
has_address ExecutionDeadline is = tt
has_address TrapBase is = tt
has_address Mask is = tt
has_address Pending is = tt
has_address (MemoryByte address) is = is

-- the bits of a place are below 64
pub bit_below : (place : Place) (bit : ℕ) → is_bit_of place bit ≡ true → bit < 64
bit_below (Global n) bit has = grind (arith, nat_tests)
bit_below (Windowed n) bit has = grind (arith, nat_tests)
bit_below Pc bit has = grind (arith, nat_tests)
bit_below Npc bit has = grind (arith, nat_tests)
bit_below YRegister bit has = grind (arith, nat_tests)
bit_below Conditions bit has = grind (arith, nat_tests)
bit_below HardwareDeadline bit has = grind (arith, nat_tests)
bit_below ExecutionDeadline bit has = grind (arith, nat_tests)
bit_below TrapBase bit has = grind (arith, nat_tests)
bit_below Mask bit has = grind (arith, nat_tests)
bit_below Pending bit has = grind (arith, nat_tests)
bit_below (MemoryByte address) bit has = grind (arith, nat_tests)

-- what is not false
held : (t : Bool) → not t ≡ false → t ≡ true
held true e = refl
held false e = absurd cc

-- a line that was taken fits
pub fitting_is : (conf : Conf) (ticks number before : ℕ) (line found : UpsetLine) → IsSpelledLine line → fitted conf ticks number before line ≡ Ok found → (line ≡ found) × FitsRun conf ticks before line
unfolding fitted
fitting_is conf ticks number before line found spelled e =
    let place = not (is_place_of (areas_of_part conf line.part) line.place) in
    let bit = not (is_bit_of line.place line.bit) in
    let reached = cond (nat_le ticks line.tick) (Err Unreached) (Ok line) in
    let ordered = cond (nat_lt line.tick before) (Err (too_early number)) reached in
    let a = led_on (not (nat_lt line.part (length conf.parts))) NoPartition (cond place (Err NoPlace) (cond bit (Err NoBit) ordered)) found e in
    let b = led_on place NoPlace (cond bit (Err NoBit) ordered) found a.1 in
    let c = led_on bit NoBit ordered found b.1 in
    let d = led_on (nat_lt line.tick before) (too_early number) reached found c.1 in
    let f = led_on (nat_le ticks line.tick) Unreached (Ok line) found d.1 in (
      ok_is line found f.1,
      record {
        partition = ltb-true line.part (length conf.parts) (held (nat_lt line.part (length conf.parts)) a.0);
        place = held (is_place_of (areas_of_part conf line.part) line.place) b.0;
        address = has_address line.place spelled.place;
        bit = held (is_bit_of line.place line.bit) c.0;
        order = grind (arith, nat_tests, d.0);
        reached = grind (arith, nat_tests, f.0);
      },
    )

-- a line that fits is taken
pub fits_is : (conf : Conf) (ticks number before : ℕ) (line : UpsetLine) → FitsRun conf ticks before line → fitted conf ticks number before line ≡ Ok line
unfolding fitted
fits_is conf ticks number before line fits =
    let order : nat_lt line.tick before ≡ false = (let order = fits.order in grind (arith, nat_tests)) in
    let reached : nat_le ticks line.tick ≡ false = (let reached = fits.reached in grind (arith, nat_tests)) in
    rw (lt-ltb line.part (length conf.parts) fits.partition, fits.place, fits.bit, order, reached) refl

-- a line that fits has a spelling
pub fits_spelled : (conf : Conf) (ticks before : ℕ) (line : UpsetLine) → length conf.parts ≤ 2 ^ 64 → ticks ≤ 2 ^ 64 → FitsRun conf ticks before line → IsSpelledLine line
fits_spelled conf ticks before line parts most fits =
    let reached = fits.reached in
    let partition = fits.partition in
    let bit = bit_below line.place line.bit fits.bit in
    record {
      tick = omega (arith, reached, most);
      part = omega (arith, partition, parts);
      place = has_spelling (areas_of_part conf line.part) line.place fits.place fits.address;
      bit = omega (arith, bit);
    }

-- the line that a text begins with
pub first_is : (conf : Conf) (ticks number before : ℕ) (text : List ℕ) (line : UpsetLine) (rest : List ℕ) → fitted_line conf ticks number before text ≡ Ok (line, rest) → (text ≡ upset_text line ++ rest) × FitsRun conf ticks before line
unfolding fitted_line
first_is conf ticks number before text line rest e =
    let found = stepped (line_at text) (λ found. fitted conf ticks number before found.0 >>= λ line. Ok (line, found.1)) (line, rest) e in
    let fitted = stepped (fitted conf ticks number before found.value.0) (λ line. Ok (line, found.value.1)) (line, rest) found.led in
    let same : (fitted.value, found.value.1) ≡ (line, rest) = ok_is (fitted.value, found.value.1) (line, rest) fitted.led in
    let spelled = line_is text found.value.0 found.value.1 found.is in
    let fits = fitting_is conf ticks number before found.value.0 fitted.value spelled.1 fitted.is in
    let line_same : found.value.0 ≡ line = fits.0 ∙ ap (λ p. p.0) same in
    let rest_same : found.value.1 ≡ rest = ap (λ p. p.1) same in
    (spelled.0 ∙ ap (λ l. upset_text l ++ found.value.1) line_same ∙ ap (λ r. upset_text line ++ r) rest_same, subst (FitsRun conf ticks before) line_same fits.1)

-- and it is read
pub first_again : (conf : Conf) (ticks number before : ℕ) (line : UpsetLine) (rest : List ℕ) → length conf.parts ≤ 2 ^ 64 → ticks ≤ 2 ^ 64 → FitsRun conf ticks before line
    → fitted_line conf ticks number before (upset_text line ++ rest) ≡ Ok (line, rest)
unfolding fitted_line
first_again conf ticks number before line rest parts most fits = rw (line_again line rest (fits_spelled conf ticks before line parts most fits), fits_is conf ticks number before line fits) refl

-- a cause with a line is none where nothing is wrong
in_line_is : {X : Type 0} (number : ℕ) (read : Result X UpsetCause) (x : X) → in_line number read ≡ Ok x → read ≡ Ok x
in_line_is number (Ok y) x e = (let same : y ≡ x = ok_is y x e in ap (λ z. Ok z) same)
in_line_is number (Err cause) x e = absurd cc

-- what is read of a text are its lines
pub record AreLinesOf (most : ℕ) (conf : Conf) (ticks before : ℕ) (text : List ℕ) (lines : List UpsetLine) : Type 0 where
  pub spelled : text ≡ upsets_text lines
  pub few : length lines ≤ most
  pub fit : AllFit conf ticks before lines

pub lines_are : (most : ℕ) (conf : Conf) (ticks number before : ℕ) (text : List ℕ) (lines : List UpsetLine) → lines_read most conf ticks number before text ≡ Ok lines → AreLinesOf most conf ticks before text lines
lines_are zero conf ticks number before [] lines e = subst (AreLinesOf zero conf ticks before []) (ok_is [] lines e) record { spelled = refl; few = omega arith; fit = tt }
lines_are zero conf ticks number before (byte ∷ bytes) lines e = absurd cc
lines_are (suc most) conf ticks number before [] lines e = subst (AreLinesOf (suc most) conf ticks before []) (ok_is [] lines e) record { spelled = refl; few = omega arith; fit = tt }
lines_are (suc most) conf ticks number before (byte ∷ bytes) lines e =
    let text = byte ∷ bytes in
    let first = stepped (in_line number (fitted_line conf ticks number before text)) (λ found. lines_read most conf ticks (suc number) (found.0).tick found.1 >>= λ later. Ok (found.0 ∷ later)) lines e in
    let more = stepped (lines_read most conf ticks (suc number) (first.value.0).tick first.value.1) (λ later. Ok (first.value.0 ∷ later)) lines first.led in
    let line = first_is conf ticks number before text first.value.0 first.value.1 (in_line_is number (fitted_line conf ticks number before text) first.value first.is) in
    let later = lines_are most conf ticks (suc number) (first.value.0).tick first.value.1 more.value more.is in
    let few = later.few in
    subst (AreLinesOf (suc most) conf ticks before text) (ok_is (first.value.0 ∷ more.value) lines more.led) record {
      spelled = line.0 ∙ ap (λ rest. upset_text first.value.0 ++ rest) later.spelled;
      few = omega (arith, few);
      fit = (line.1, later.fit);
    }

-- a line has a byte
line_some : (line : UpsetLine) (rest : List ℕ) → 0 < length (upset_text line ++ rest)
unfolding upset_text
line_some line rest = grind (arith, length-append)

-- lines are read from their text
pub lines_again : (most : ℕ) (conf : Conf) (ticks number before : ℕ) (lines : List UpsetLine) → length conf.parts ≤ 2 ^ 64 → ticks ≤ 2 ^ 64 → length lines ≤ most → AllFit conf ticks before lines
    → lines_read most conf ticks number before (upsets_text lines) ≡ Ok lines
lines_again zero conf ticks number before [] parts ticked few fit = refl
lines_again (suc most) conf ticks number before [] parts ticked few fit = refl
lines_again zero conf ticks number before (line ∷ lines) parts ticked few fit = absurd (omega arith)
lines_again (suc most) conf ticks number before (line ∷ lines) parts ticked few fit =
    at (upsets_text (line ∷ lines)) refl (lines_again most conf ticks (suc number) line.tick lines parts ticked (omega (arith, few)) fit.1)
  where
    at : (text : List ℕ) → text ≡ upset_text line ++ upsets_text lines → lines_read most conf ticks (suc number) line.tick (upsets_text lines) ≡ Ok lines
        → lines_read (suc most) conf ticks number before text ≡ Ok (line ∷ lines)
    at [] is later = (let some = line_some line (upsets_text lines) in let none : 0 ≡ length (upset_text line ++ upsets_text lines) = ap length is in absurd (omega (arith, some, none)))
    at (byte ∷ bytes) is later =
        let first : fitted_line conf ticks number before (byte ∷ bytes) ≡ Ok (line, upsets_text lines)
        = ap (fitted_line conf ticks number before) is ∙ first_again conf ticks number before line (upsets_text lines) parts ticked fit.0 in
        rw (first, later) refl

-- what is read is spelled
pub read_spelled : ReadUpsetsAreSpelled
unfolding upsets_from
read_spelled conf begun ticks text lines e = (let are = lines_are UPSETS conf ticks 1 begun text lines e in record { spelled = are.spelled; few = are.few; fit = are.fit })

-- what is spelled is read
pub spelled_read : UpsetsAreRead
unfolding upsets_from
spelled_read conf begun ticks text lines parts ticked are = ap (lines_read UPSETS conf ticks 1 begun) are.spelled ∙ lines_again UPSETS conf ticks 1 begun lines parts ticked are.few are.fit

-- two lists of lines with one text are equal
pub one_spelling : UpsetsHaveOneSpelling
one_spelling [] [] one_is other_is e = refl
one_spelling [] (line ∷ lines) one_is other_is e =
    let some = line_some line (upsets_text lines) in
    let none : 0 ≡ length (upset_text line ++ upsets_text lines) = ap length e in
    absurd (omega (arith, some, none))
one_spelling (line ∷ lines) [] one_is other_is e =
    let some = line_some line (upsets_text lines) in
    let none : length (upset_text line ++ upsets_text lines) ≡ 0 = ap length e in
    absurd (omega (arith, some, none))
one_spelling (a ∷ as_lines) (b ∷ bs) one_is other_is e =
    let both : (a, upsets_text as_lines) ≡ (b, upsets_text bs)
    = ok_is (a, upsets_text as_lines) (b, upsets_text bs) (sym (line_again a (upsets_text as_lines) one_is.0) ∙ ap line_at e ∙ line_again b (upsets_text bs) other_is.0) in
    let line : a ≡ b = ap (λ p. p.0) both in
    let later : as_lines ≡ bs = one_spelling as_lines bs one_is.1 other_is.1 (ap (λ p. p.1) both) in
    ap (λ x. x ∷ as_lines) line ∙ ap (λ xs. b ∷ xs) later
