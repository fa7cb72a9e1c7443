-- Each place that has a spelling is read from it, and from no other word.
use Rattle.std.proofs.Common.{◌≡◌, ◌≢◌, ℕ, zero, suc, ◌/◌, ◌<◌, ◌≤◌, ◌^◌, Bool, true, false, cond, not, nat_le, ◌==◌, List, [], ◌∷◌, length, codes, decimal, slice_index, Option, Some, None, Result, Ok, Err, refl, sym, ap, subst, ◌∙◌, arith}
use Rattle.std.specs.Int.{w32, from_be_bytes, to_be_bytes}
use Rattle.std.specs.List.{AllByRecursion, find}
use Rattle.std.specs.Str.{bytes_eq}
use Rattle.std.proofs.lemmas.Bool.{eqb-true, le-leb, leb-true}
use Rattle.std.proofs.lemmas.Bool.Decides.{nat_tests}
use Rattle.std.proofs.lemmas.Nat.{from_be_bytes-to_be_bytes_4}
use Rattle.std.proofs.lemmas.Slice.Eq.{bytes_eq-Decides}
use Rattle.hex.specs.Hex.{IsBytes, decode_sized, encode_lower, encode_with, lower_digits}
use Rattle.hex.specs.declared.error.FromHexError.{FromHexError}
use Rattle.hex.proofs.HexLemmas.{decode_of-ok, decode_sized-encode_lower, decode_sized-ok, decode_sized-twice, length-encode_with}
use Rattle.upset_files.proofs.NumberLemmas.{number_text, text_number}
use Rattle.upset_files.proofs.WordLemmas.{decimal_word, hex_word, is_word, table_passes}
use Rattle.upset_files.specs.Laws.{PlacesAreSpelled}
use Rattle.upset_files.specs.Reading.{byte_by, byte_place, global_place, if_spelled, is_of_word, named_place, named_places, not_below, number_spelled, register_place, or_place, place_spelled, register_number, windowed_place}
use Rattle.xm_report.specs.Places.{IsSpelledPlace, place_text}
use Rattle.xm_report.specs.declared.place.Place.{Place}
use Rattle.xm_report.specs.declared.place.Place.TheVariants.{Conditions, ExecutionDeadline, Global, HardwareDeadline, Mask, MemoryByte, Npc, Pc, Pending, TrapBase, Windowed, YRegister}

-- bytes that are equal by their test are equal
equal_bytes : (xs ys : List ℕ) → bytes_eq xs ys ≡ true → xs ≡ ys
equal_bytes xs ys e = (bytes_eq-Decides xs ys).0 e

-- and bytes pass that test against themselves
same_bytes : (xs : List ℕ) → bytes_eq xs xs ≡ true
same_bytes xs = (bytes_eq-Decides xs xs).1 refl

-- a place that was found passes the test, and is one of those that were looked at
found_passes : (test : Place → Bool) (P : Place → Type 0) (places : List Place) (place : Place) → AllByRecursion P places → find test places ≡ Some place → (test place ≡ true) × P place
found_passes test P [] place all e = absurd cc
found_passes test P (x ∷ xs) place all e = at (test x) refl (λ later. found_passes test P xs place all.1 later) e
  where
    at : (t : Bool) → test x ≡ t → (find test xs ≡ Some place → (test place ≡ true) × P place) → cond t (Some x) (find test xs) ≡ Some place → (test place ≡ true) × P place
    at true passes more e = (let same : x ≡ place = cc in subst (λ p. (test p ≡ true) × P p) same (passes, all.0))
    at false fails more e = more e

-- none is found where each fails
none_found : (test : Place → Bool) (places : List Place) → AllByRecursion (λ p. test p ≡ false) places → find test places ≡ None
none_found test [] all = refl
none_found test (x ∷ xs) all = rw all.0 (none_found test xs all.1)

-- a number that is not below the least
least_is : (least : ℕ) (found : Option ℕ) (n : ℕ) → not_below least found ≡ Some n → (found ≡ Some n) × (least ≤ n)
least_is least None n e = absurd cc
least_is least (Some m) n e = at (nat_le least m) refl e
  where
    at : (t : Bool) → nat_le least m ≡ t → cond t (Some m) None ≡ Some n → (Some m ≡ Some n) × (least ≤ n)
    at true is e = (let same : m ≡ n = cc in (e, subst (λ k. least ≤ k) same (leb-true least m is)))
    at false is e = absurd cc

-- the number of a register that is read: its word is the letter and the number, which is within the bounds
pub register_is : (letter least most n : ℕ) (word : List ℕ) → most < 2 ^ 64 → register_number letter least most word ≡ Some n → (word ≡ letter ∷ decimal n) × (least ≤ n) × (n ≤ most)
register_is letter least most n [] fits e = absurd cc
register_is letter least most n (first ∷ digits) fits e = at (first == letter) refl e
  where
    at : (t : Bool) → (first == letter) ≡ t → cond t (not_below least (number_spelled most digits)) None ≡ Some n → (first ∷ digits ≡ letter ∷ decimal n) × (least ≤ n) × (n ≤ most)
    at true is e =
        let found = least_is least (number_spelled most digits) n e in
        let text = number_text most digits n fits found.0 in
        let first_is : first ≡ letter = eqb-true first letter is in
        (rw (first_is, text.1) refl, found.1, text.0)
    at false is e = absurd cc

-- the number of a register is read from the letter and the number
pub register_again : (letter least most n : ℕ) → most < 2 ^ 64 → least ≤ n → n ≤ most → register_number letter least most (letter ∷ decimal n) ≡ Some n
register_again letter least most n fits low high =
    let here : (letter == letter) ≡ true = grind (arith, nat_tests) in
    rw (here, text_number most n fits high, le-leb least n low) refl

-- the number that is there
numbered_is : (make : ℕ → Place) (found : Option ℕ) (place : Place) → register_place make found ≡ Some place → (n : ℕ) × (found ≡ Some n) × (make n ≡ place)
numbered_is make None place e = absurd cc
numbered_is make (Some n) place e = (n, refl, cc)

-- a place by its spelling
spelled_is : (t : Bool) (made place : Place) → if_spelled t made ≡ Some place → (t ≡ true) × (made ≡ place)
spelled_is true made place e = (refl, cc)
spelled_is false made place e = absurd cc

-- the address of four bytes has 32 bits
address_below : (bytes : List ℕ) → IsBytes bytes → from_be_bytes w32 bytes < 2 ^ 32
address_below bytes are = omega (arith, are 0, are 1, are 2, are 3)

-- a name that is read is that of its place
named_is : (word : List ℕ) (place : Place) → named_place word ≡ Some place → IsSpelledPlace place × (word ≡ place_text place)
unfolding named_place
named_is word place e =
    let found = found_passes (λ p. bytes_eq (place_text p) word) IsSpelledPlace named_places place (tt, (tt, (tt, (tt, (tt, (tt, (tt, (tt, (tt, tt))))))))) e in
    (found.1, sym (equal_bytes (place_text place) word found.0))

-- a global register that is read
global_is : (word : List ℕ) (place : Place) → global_place word ≡ Some place → IsSpelledPlace place × (word ≡ place_text place)
unfolding global_place
global_is word place e =
    let found = numbered_is Global (register_number 103 1 7 word) place e in
    let register = register_is 103 1 7 found.0 word (omega arith) found.1 in
    subst (λ p. IsSpelledPlace p × (word ≡ place_text p)) found.2 ((register.1, omega (arith, register.2)), register.0)

-- a register of the windows that is read
windowed_is : (word : List ℕ) (place : Place) → windowed_place word ≡ Some place → IsSpelledPlace place × (word ≡ place_text place)
unfolding windowed_place
windowed_is word place e =
    let found = numbered_is Windowed (register_number 119 0 127 word) place e in
    let register = register_is 119 0 127 found.0 word (omega arith) found.1 in
    subst (λ p. IsSpelledPlace p × (word ≡ place_text p)) found.2 (omega (arith, register.2), register.0)

-- a byte that is read
byte_is : (word : List ℕ) (place : Place) → byte_place word ≡ Some place → IsSpelledPlace place × (word ≡ place_text place)
unfolding byte_place
byte_is word place e = at (decode_sized word 4) refl e
  where
    at : (read : Result (List ℕ) FromHexError) → decode_sized word 4 ≡ read → byte_by read word ≡ Some place → IsSpelledPlace place × (word ≡ place_text place)
    at (Ok bytes) is e =
        let made : Place = MemoryByte (from_be_bytes w32 bytes) in
        let parts = spelled_is (bytes_eq (place_text made) word) made place e in
        let sized = decode_sized-ok word 4 bytes is in
        let each = decode_of-ok word bytes (sym (decode_sized-twice word 4 sized) ∙ is) in
        subst (λ p. IsSpelledPlace p × (word ≡ place_text p)) parts.1 (address_below bytes each.3, sym (equal_bytes (place_text made) word parts.0))
    at (Err error) is e = absurd cc

-- a place that is read is spelled so
pub place_is : (word : List ℕ) (place : Place) → place_spelled word ≡ Some place → IsSpelledPlace place × (word ≡ place_text place)
unfolding place_spelled
place_is word place e = first (named_place word) (or_place (global_place word) (or_place (windowed_place word) (byte_place word))) (named_is word place)
    (first (global_place word) (or_place (windowed_place word) (byte_place word)) (global_is word place)
    (first (windowed_place word) (byte_place word) (windowed_is word place) (byte_is word place))) e
  where
    first : (one other : Option Place) → (one ≡ Some place → IsSpelledPlace place × (word ≡ place_text place)) → (other ≡ Some place → IsSpelledPlace place × (word ≡ place_text place))
        → or_place one other ≡ Some place → IsSpelledPlace place × (word ≡ place_text place)
    first (Some x) other by_one by_other e = by_one e
    first None other by_one by_other e = by_other e

-- a word of another length is not that one
other_length : (xs ys : List ℕ) → length xs ≢ length ys → bytes_eq xs ys ≡ false
other_length xs ys differ = at (bytes_eq xs ys) refl
  where
    at : (t : Bool) → bytes_eq xs ys ≡ t → t ≡ false
    at true e = absurd (differ (ap length (equal_bytes xs ys e)))
    at false e = refl

-- no name has eight bytes
no_name : (word : List ℕ) → length word ≡ 8 → named_place word ≡ None
unfolding named_place
no_name word eight =
    let other : (name : List ℕ) → length name < 8 → bytes_eq name word ≡ false = λ name short. other_length name word (λ same. omega (arith, same, eight, short)) in
    none_found (λ p. bytes_eq (place_text p) word) named_places (
      other (codes "pc") (omega arith),
      (
        other (codes "npc") (omega arith),
        (
          other (codes "y") (omega arith),
          (
            other (codes "icc") (omega arith),
            (
              other (codes "hw") (omega arith),
              (
                other (codes "exec") (omega arith),
                (
                  other (codes "tbr") (omega arith),
                  (
                    other (codes "mask") (omega arith),
                    (other (codes "pending") (omega arith), tt),
                  ),
                ),
              ),
            ),
          ),
        ),
      ),
    )

-- a word that does not begin with the letter is no register
no_register : (letter least most first : ℕ) (digits : List ℕ) → (first == letter) ≡ false → register_number letter least most (first ∷ digits) ≡ None
no_register letter least most first digits other = rw other refl

-- no hexadecimal digit is `g` or `w`
no_letter : (k : ℕ) → ((slice_index lower_digits k == 103) ≡ false) × ((slice_index lower_digits k == 119) ≡ false)
no_letter k = (opposite (slice_index lower_digits k == 103) (table_passes (λ b. not (b == 103)) lower_digits refl refl k), opposite (slice_index lower_digits k == 119) (table_passes (λ b. not (b == 119)) lower_digits refl refl k))
  where
    opposite : (t : Bool) → not t ≡ true → t ≡ false
    opposite true e = cc
    opposite false e = refl

-- the digits of an address are no register
no_registers : (bytes : List ℕ) → (global_place (encode_lower bytes) ≡ None) × (windowed_place (encode_lower bytes) ≡ None)
unfolding global_place windowed_place encode_with
no_registers [] = (refl, refl)
no_registers (b ∷ bytes) = (rw (no_letter (b / 16)).0 refl, rw (no_letter (b / 16)).1 refl)

-- a byte is read from its address
byte_again : (address : ℕ) → address < 2 ^ 32 → byte_place (place_text (MemoryByte address)) ≡ Some (MemoryByte address)
unfolding byte_place
byte_again address small =
    let bytes = to_be_bytes w32 address in
    let back : from_be_bytes w32 bytes ≡ address = from_be_bytes-to_be_bytes_4 address small in
    rw (decode_sized-encode_lower bytes 4 refl (address_bytes address), back, same_bytes (place_text (MemoryByte address))) refl
  where
    address_bytes : (address : ℕ) → IsBytes (to_be_bytes w32 address)
    address_bytes address zero = omega arith
    address_bytes address (suc zero) = omega arith
    address_bytes address (suc (suc zero)) = omega arith
    address_bytes address (suc (suc (suc zero))) = omega arith
    address_bytes address (suc (suc (suc (suc i)))) = omega arith

-- and no other place is
byte_alone : (address : ℕ) → address < 2 ^ 32 → place_spelled (place_text (MemoryByte address)) ≡ Some (MemoryByte address)
unfolding place_spelled
byte_alone address small =
    let word = place_text (MemoryByte address) in
    let none = no_registers (to_be_bytes w32 address) in
    rw (no_name word (length-encode_with lower_digits (to_be_bytes w32 address)), none.0, none.1) (byte_again address small)

-- a place is read from its spelling
pub place_again : (place : Place) → IsSpelledPlace place → place_spelled (place_text place) ≡ Some place
unfolding place_spelled named_place global_place windowed_place
place_again (Global n) is = rw (register_again 103 1 7 n (omega arith) is.0 (omega (arith, is.1))) refl
place_again (Windowed n) is = rw (register_again 119 0 127 n (omega arith) (omega arith) (omega (arith, is))) refl
place_again Pc is = refl
place_again Npc is = refl
place_again YRegister is = refl
place_again Conditions is = refl
place_again HardwareDeadline is = refl
place_again ExecutionDeadline is = refl
place_again TrapBase is = refl
place_again Mask is = refl
place_again Pending is = refl
place_again (MemoryByte address) is = byte_alone address is

-- a word is a place exactly where it is its spelling
pub places_spelled : PlacesAreSpelled
places_spelled word place = (λ e. place_is word place e, λ is. subst (λ w. place_spelled w ≡ Some place) (sym is.1) (place_again place is.0))

-- the spelling of a place is a word
pub place_word : (place : Place) → IsSpelledPlace place → is_word (place_text place) ≡ true
unfolding is_of_word
place_word (Global n) is = decimal_word n (omega (arith, is.1))
place_word (Windowed n) is = decimal_word n (omega (arith, is))
place_word Pc is = refl
place_word Npc is = refl
place_word YRegister is = refl
place_word Conditions is = refl
place_word HardwareDeadline is = refl
place_word ExecutionDeadline is = refl
place_word TrapBase is = refl
place_word Mask is = refl
place_word Pending is = refl
place_word (MemoryByte address) is = hex_word (to_be_bytes w32 address)
