-- A field that is read is the bytes that stand there, and what stands there is read.
use Rattle.std.proofs.Common.{◌≡◌, ℕ, ◌+◌, ◌^◌, ◌<◌, ◌≤◌, Bool, true, false, ltb, List, ◌++◌, length, take, drop, Result, Ok, refl, sym, ap, subst, ◌∙◌, append_assoc, arith, inl, inr}
use Rattle.std.specs.Int.{Width, w8, w16, w32, byte_len, from_be_bytes, to_be_bytes}
use Rattle.std.proofs.lemmas.Bool.{cases_lt, ltb-false, le-ltb}
use Rattle.std.proofs.lemmas.List.{take_at, drop_at, take-append-drop, drop-drop, length-append, length-take, get_or-drop, get_or-take, get_or_past}
use Rattle.std.proofs.lemmas.Nat.{be_bytes_2, be_bytes_4, from_be_bytes-to_be_bytes_2, from_be_bytes-to_be_bytes_4}
use Rattle.xm_base.specs.Bytes.{AreBytes}
use Rattle.xm_base.specs.lemmas.BytesLemmas.{spelled_1}
use Rattle.xm_base.specs.Cursor.{Place, ahead, left, next, past}
use Rattle.file_headers.specs.Fields.{field_bytes, listed_at, number_at}
use Rattle.file_headers.specs.lemmas.StepLemmas.{ok_is, passed, stepped, went_on}
use Rattle.file_headers.specs.Steps.{unless}

-- from some byte on they are bytes
pub AreBytes-drop : (n : ℕ) (bytes : List ℕ) → AreBytes bytes → AreBytes (drop n bytes)
AreBytes-drop n bytes each i = rw get_or-drop (each (n + i))

-- up to some byte they are bytes
pub AreBytes-take : (n : ℕ) (bytes : List ℕ) → AreBytes bytes → AreBytes (take n bytes)
AreBytes-take n bytes each i =
    elim (cases_lt i n) [
      | inl lt ↦ rw (get_or-take n bytes i 0 lt) (each i)
      | inr le ↦ rw (get_or_past (take n bytes) i 0 (omega (arith, length-take n bytes))) (omega arith)
    ]

-- a text stands at a place, and after it a place with the bytes that are left
pub record Takes (place : Place) (text : List ℕ) (after : Place) : Type 0 where
  pub parts : ahead place ≡ text ++ ahead after
  pub rest : AreBytes (ahead after)

-- two texts, one after the other
pub takes_both : (a : Place) (x : List ℕ) (b : Place) (y : List ℕ) (c : Place) → Takes a x b → Takes b y c → Takes a (x ++ y) c
takes_both a x b y c first second =
    record { parts = first.parts ∙ ap (λ rest. x ++ rest) second.parts ∙ sym (append_assoc x y (ahead c)); rest = second.rest }

-- bytes that are read stand there
pub bytes_take : {F : Type 0} (short : ℕ → F) (count : ℕ) (place : Place) (bytes : List ℕ) (after : Place) → AreBytes (ahead place) → field_bytes short count place ≡ Ok (bytes, after) → Takes place bytes after × (length bytes ≡ count)
bytes_take short count place bytes after each e =
    let g = went_on (ltb (left place) count) (short place.at) (next count place, past count place) (bytes, after) e in
    let enough : count ≤ left place = ltb-false _ _ g.0 in
    let following : ahead (past count place) ≡ drop count (ahead place) = sym (drop-drop count place.at place.bytes) in
    let P : List ℕ × Place → Type 0 = λ x. Takes place x.0 x.1 × (length x.0 ≡ count) in
    subst P g.1 (
      record {
        parts = rw following (sym (take-append-drop count (ahead place)));
        rest = rw following (AreBytes-drop count (ahead place) each);
      },
      omega (arith, length-take count (ahead place)),
    )

-- what the numbers of a width need
pub record IsWide (w : Width) (limit : ℕ) : Type 0 where
  pub size : (n : ℕ) → length (to_be_bytes w n) ≡ byte_len w
  pub back : (bytes : List ℕ) → length bytes ≡ byte_len w → AreBytes bytes → to_be_bytes w (from_be_bytes w bytes) ≡ bytes
  pub again : (n : ℕ) → n < limit → from_be_bytes w (to_be_bytes w n) ≡ n
  pub below : (bytes : List ℕ) → AreBytes bytes → from_be_bytes w bytes < limit

-- numbers of one byte
pub wide8 : IsWide w8 256
wide8 = record {
  size = λ n. refl;
  back = λ bytes one each. spelled_1 bytes one each;
  again = λ n below. omega (arith, below);
  below = λ bytes each. each 0;
}

-- numbers of two bytes
pub wide16 : IsWide w16 (2 ^ 16)
wide16 = record {
  size = λ n. refl;
  back = λ bytes two each. be_bytes_2 bytes _ two each refl;
  again = λ n below. from_be_bytes-to_be_bytes_2 n below;
  below = λ bytes each. omega (arith, each 0, each 1);
}

-- numbers of four bytes
pub wide32 : IsWide w32 (2 ^ 32)
wide32 = record {
  size = λ n. refl;
  back = λ bytes four each. be_bytes_4 bytes _ four each refl;
  again = λ n below. from_be_bytes-to_be_bytes_4 n below;
  below = λ bytes each. omega (arith, each 0, each 1, each 2, each 3);
}

-- a number that is read is the one whose bytes stand there
pub number_takes : {F : Type 0} (short : ℕ → F) (w : Width) (limit : ℕ) (wide : IsWide w limit) (place : Place) (n : ℕ) (after : Place) → AreBytes (ahead place) → number_at short w place ≡ Ok (n, after) → Takes place (to_be_bytes w n) after × (n < limit)
number_takes short w limit wide place n after each e =
    let s = stepped (field_bytes short (byte_len w) place) (λ field. Ok (from_be_bytes w field.0, field.1)) (n, after) e in
    let t = bytes_take short (byte_len w) place s.value.0 s.value.1 each s.is in
    let is = ok_is (from_be_bytes w s.value.0, s.value.1) (n, after) s.led in
    let front : AreBytes s.value.0 = AreBytes-front s.value.0 (ahead s.value.1) (rw t.0.parts at each) in
    let P : ℕ × Place → Type 0 = λ x. Takes place (to_be_bytes w x.0) x.1 × (x.0 < limit) in
    subst P is (rw (wide.back s.value.0 t.1 front) t.0, wide.below s.value.0 front)
  where
    AreBytes-front : (xs ys : List ℕ) → AreBytes (xs ++ ys) → AreBytes xs
    AreBytes-front xs ys all = rw (take_at xs ys (length xs) refl) at (AreBytes-take (length xs) (xs ++ ys) all)

-- a number that is read and tested has passed
pub listed_takes : {F : Type 0} (short field : ℕ → F) (w : Width) (limit : ℕ) (wide : IsWide w limit) (test : ℕ → Bool) (place : Place) (n : ℕ) (after : Place) → AreBytes (ahead place) → listed_at short field w test place ≡ Ok (n, after)
    → Takes place (to_be_bytes w n) after × (n < limit) × (test n ≡ true)
listed_takes short field w limit wide test place n after each e =
    let s = stepped (number_at short w place) (λ number. unless (test number.0) (field place.at) number) (n, after) e in
    let p = passed (test s.value.0) (field place.at) s.value (n, after) s.led in
    let t = number_takes short w limit wide place s.value.0 s.value.1 each s.is in
    let P : ℕ × Place → Type 0 = λ x. Takes place (to_be_bytes w x.0) x.1 × (x.0 < limit) × (test x.0 ≡ true) in
    subst P p.is (t.0, t.1, p.true)

-- what is read where a text stands: the value, and a place with the bytes after the text
pub record Reads {A F : Type 0} (read : Result (A × Place) F) (value : A) (rest : List ℕ) : Type 0 where
  pub after : Place
  pub is : read ≡ Ok (value, after)
  pub ahead : ahead after ≡ rest

-- bytes that stand there are read
pub bytes_again : {F : Type 0} (short : ℕ → F) (count : ℕ) (place : Place) (bytes rest : List ℕ) → length bytes ≡ count → ahead place ≡ bytes ++ rest → Reads (field_bytes short count place) bytes rest
bytes_again short count place bytes rest counted stands =
    let long : ltb (left place) count ≡ false = le-ltb _ _ (omega (arith, ap length stands, length-append bytes rest)) in
    let front : next count place ≡ bytes = rw stands (take_at bytes rest count counted) in
    record {
      after = past count place;
      is = rw (long, front) refl;
      ahead = sym (drop-drop count place.at place.bytes) ∙ ap (drop count) stands ∙ drop_at bytes rest count counted;
    }

-- a number whose bytes stand there is read
pub number_again : {F : Type 0} (short : ℕ → F) (w : Width) (limit : ℕ) (wide : IsWide w limit) (place : Place) (n : ℕ) (rest : List ℕ) → n < limit → ahead place ≡ to_be_bytes w n ++ rest → Reads (number_at short w place) n rest
number_again short w limit wide place n rest below stands =
    let b = bytes_again short (byte_len w) place (to_be_bytes w n) rest (wide.size n) stands in
    record { after = b.after; is = rw (b.is, wide.again n below) refl; ahead = b.ahead }

-- a number that passes its test is read
pub listed_again : {F : Type 0} (short field : ℕ → F) (w : Width) (limit : ℕ) (wide : IsWide w limit) (test : ℕ → Bool) (place : Place) (n : ℕ) (rest : List ℕ) → n < limit → test n ≡ true → ahead place ≡ to_be_bytes w n ++ rest → Reads (listed_at short field w test place) n rest
listed_again short field w limit wide test place n rest below passes stands =
    let b = number_again short w limit wide place n rest below stands in
    record { after = b.after; is = rw (b.is, passes) refl; ahead = b.ahead }
