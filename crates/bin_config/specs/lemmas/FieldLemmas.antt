-- A field that is read is the bytes that stand there, and what stands there is read.
use Rattle.std.proofs.Common.{◌≡◌, ℕ, zero, suc, ◌%◌, ◌^◌, ◌<◌, List, [], ◌∷◌, ◌++◌, length, Option, Some, None, Ok, refl, sym, ap, subst, ◌∙◌, append_assoc, arith}
use Rattle.std.specs.List.{flat_map, AllByRecursion}
use Rattle.std.specs.Int.{Width, w8, w16, w32, to_be_bytes}
use Rattle.std.proofs.lemmas.List.Concat.{flat_map-cons}
use Rattle.std.proofs.lemmas.List.Elements.{All-from_recursion, recursion_from_All}
use Rattle.xm_base.specs.Bytes.{AreBytes}
use Rattle.xm_base.specs.Cursor.{Place, ahead}
use Rattle.file_headers.specs.lemmas.FieldLemmas.{IsWide, Reads, Takes, number_again, number_takes, takes_both, wide16, wide32, wide8}
use Rattle.file_headers.specs.Fields.{number_at}
use Rattle.file_headers.specs.lemmas.StepLemmas.{ok_is, stepped}
use Rattle.file_headers.specs.Steps.{◌>>=◌}
use Rattle.bin_config.specs.Reading.{Read, byte_field_at, half_word_at, word_field_at, or_fault, coded_at, elements_at, counted_at, conf_short}
use Rattle.bin_config.specs.Spelled.{IsByte, IsHalfWord, HasFourBytes, AreFew}
use Rattle.bin_config.specs.Xmc.{half_word, word_field, list_field}

-- a field that had a value
pub had : {X : Type 0} (at : ℕ) (following : Place) (found : Option X) (x : X) (after : Place) → or_fault at following found ≡ Ok (x, after) → (found ≡ Some x) × (following ≡ after)
had at following (Some y) x after e = let same : (y, following) ≡ (x, after) = ok_is (y, following) (x, after) e in (ap (λ p. Some p.0) same, ap (λ p. p.1) same)
had at following None x after e = absurd cc

-- a reader reads exactly what is spelled: what it gives is spelled so where it stood, and what is spelled is read
pub record IsReaderOf {X : Type 0} (read : Place → Read X) (spell : X → List ℕ) (P : X → Type 0) : Type 0 where
  pub takes : (place : Place) (x : X) (after : Place) → AreBytes (ahead place) → read place ≡ Ok (x, after) → Takes place (spell x) after × P x
  pub again : (place : Place) (x : X) (rest : List ℕ) → P x → ahead place ≡ spell x ++ rest → Reads (read place) x rest

-- a number is read as it is spelled
number_spells : (w : Width) (limit : ℕ) → IsWide w limit → IsReaderOf (number_at conf_short w) (to_be_bytes w) (λ n. n < limit)
number_spells w limit wide = record { takes = number_takes conf_short w limit wide; again = number_again conf_short w limit wide }

-- another word for a spelling, and for what can be spelled
pub spells-like : {X : Type 0} (read : Place → Read X) (spell text_of : X → List ℕ) (P Q : X → Type 0) → IsReaderOf read spell P
    → ((x : X) → P x → (spell x ≡ text_of x) × Q x) → ((x : X) → Q x → P x) → IsReaderOf read text_of Q
spells-like read spell text_of P Q s there back = record {
  takes = λ place x after each e.
      let t = s.takes place x after each e in
      let like = there x t.1 in
      (subst (λ (text : List ℕ). Takes place text after) like.0 t.0, like.1);
  again = λ place x rest q is. s.again place x rest (back x q) (is ∙ ap (λ text. text ++ rest) (sym (there x (back x q)).0));
}

-- a number of one byte
pub byte_spells : IsReaderOf byte_field_at (λ n. n ∷ []) IsByte
unfolding byte_field_at
byte_spells = spells-like (number_at conf_short w8) (to_be_bytes w8) (λ n. n ∷ []) (λ n. n < 256) IsByte (number_spells w8 256 wide8)
    (λ n below. let same : n % 256 ≡ n = omega (arith, below) in (ap (λ b. b ∷ []) same, below)) (λ n below. below)

-- a number of two bytes
pub half_word_spells : IsReaderOf half_word_at half_word IsHalfWord
unfolding half_word_at
half_word_spells = number_spells w16 (2 ^ 16) wide16

-- a number of four bytes
pub word_spells : IsReaderOf word_field_at word_field HasFourBytes
unfolding word_field_at
word_spells = number_spells w32 (2 ^ 32) wide32

-- a value that has a code
pub coded_spells : {X : Type 0} (read : Place → Read ℕ) (spell : ℕ → List ℕ) (P : ℕ → Type 0) (value : ℕ → Option X) (code : X → ℕ) (Q : X → Type 0) → IsReaderOf read spell P
    → ((n : ℕ) (x : X) → P n → value n ≡ Some x → (n ≡ code x) × Q x) → ((x : X) → Q x → (value (code x) ≡ Some x) × P (code x))
    → IsReaderOf (coded_at read value) (λ x. spell (code x)) Q
coded_spells read spell P value code Q s there back = record {
  takes = λ place x after each e.
      let a = stepped (read place) (λ a. or_fault place.at a.1 (value a.0)) (x, after) e in
      let h = had place.at a.value.1 (value a.value.0) x after a.led in
      let t = s.takes place a.value.0 a.value.1 each a.is in
      let c = there a.value.0 x t.1 h.0 in
      (subst (λ (text : List ℕ). Takes place text after) (ap spell c.0) (subst (λ (b : Place). Takes place (spell a.value.0) b) h.1 t.0), c.1);
  again = λ place x rest q is.
      let c = back x q in
      let r = s.again place (code x) rest c.1 is in
      record { after = r.after; is = rw (r.is, c.0) refl; ahead = r.ahead };
}

-- this many elements are spelled one after another
pub elements_takes : {X : Type 0} (read : Place → Read X) (spell : X → List ℕ) (P : X → Type 0) → IsReaderOf read spell P → (count : ℕ) (place : Place) (xs : List X) (after : Place)
    → AreBytes (ahead place) → elements_at read count place ≡ Ok (xs, after) → Takes place (flat_map spell xs) after × (length xs ≡ count) × AllByRecursion P xs
elements_takes {X} read spell P s zero place xs after each e =
    let R : List X × Place → Type 0 = λ x. Takes place (flat_map spell x.0) x.1 × (length x.0 ≡ 0) × AllByRecursion P x.0 in
    subst R (ok_is ([], place) (xs, after) e) (record { parts = refl; rest = each }, refl, tt)
elements_takes {X} read spell P s (suc count) place xs after each e =
    let a = stepped (read place) (λ x. elements_at read count x.1 >>= λ others. Ok (x.0 ∷ others.0, others.1)) (xs, after) e in
    let b = stepped (elements_at read count a.value.1) (λ others. Ok (a.value.0 ∷ others.0, others.1)) (xs, after) a.led in
    let first = s.takes place a.value.0 a.value.1 each a.is in
    let others = elements_takes read spell P s count a.value.1 b.value.0 b.value.1 first.0.rest b.is in
    let both = takes_both place (spell a.value.0) a.value.1 (flat_map spell b.value.0) b.value.1 first.0 others.0 in
    let R : List X × Place → Type 0 = λ x. Takes place (flat_map spell x.0) x.1 × (length x.0 ≡ suc count) × AllByRecursion P x.0 in
    subst R {x = (a.value.0 ∷ b.value.0, b.value.1)} (ok_is (a.value.0 ∷ b.value.0, b.value.1) (xs, after) b.led) (rw flat_map-cons both, ap suc others.1, (first.1, others.2))

-- elements that are spelled one after another are read
pub elements_again : {X : Type 0} (read : Place → Read X) (spell : X → List ℕ) (P : X → Type 0) → IsReaderOf read spell P → (place : Place) (xs : List X) (rest : List ℕ)
    → AllByRecursion P xs → ahead place ≡ flat_map spell xs ++ rest → Reads (elements_at read (length xs) place) xs rest
elements_again read spell P s place [] rest each is = record { after = place; is = refl; ahead = is }
elements_again read spell P s place (x ∷ xs) rest each is =
    let regrouped : flat_map spell (x ∷ xs) ++ rest ≡ spell x ++ (flat_map spell xs ++ rest)
    = ap (λ all. all ++ rest) (flat_map-cons spell x xs) ∙ append_assoc (spell x) (flat_map spell xs) rest in
    let first = s.again place x (flat_map spell xs ++ rest) each.0 (is ∙ regrouped) in
    let others = elements_again read spell P s first.after xs rest each.1 first.ahead in
    record { after = others.after; is = rw (first.is, others.is) refl; ahead = others.ahead }

-- this many elements
pub elements_spells : {X : Type 0} (read : Place → Read X) (spell : X → List ℕ) (P : X → Type 0) (count : ℕ) → IsReaderOf read spell P
    → IsReaderOf (elements_at read count) (flat_map spell) (λ xs. (length xs ≡ count) × AllByRecursion P xs)
elements_spells read spell P count s = record {
  takes = λ place xs after each e. let t = elements_takes read spell P s count place xs after each e in (t.0, (t.1, t.2));
  again = λ place xs rest q is. subst (λ (n : ℕ). Reads (elements_at read n place) xs rest) q.0 (elements_again read spell P s place xs rest q.1 is);
}

-- a byte with the number of elements, and each of them
pub counted_spells : {X : Type 0} (read : Place → Read X) (spell : X → List ℕ) (P : X → Type 0) → IsReaderOf read spell P → IsReaderOf (counted_at read) (list_field spell) (AreFew P)
counted_spells read spell P s = record {
  takes = λ place xs after each e.
      let a = stepped (byte_field_at place) (λ count. elements_at read count.0 count.1) (xs, after) e in
      let first = byte_spells.takes place a.value.0 a.value.1 each a.is in
      let others = elements_takes read spell P s a.value.0 a.value.1 xs after first.0.rest a.led in
      let both = takes_both place (a.value.0 ∷ []) a.value.1 (flat_map spell xs) after first.0 others.0 in (
        subst (λ (n : ℕ). Takes place ((n ∷ []) ++ flat_map spell xs) after) (sym others.1) both,
        record { few = omega (arith, first.1, others.1); each = All-from_recursion P xs others.2 },
      );
  again = λ place xs rest few is.
      let first = byte_spells.again place (length xs) (flat_map spell xs ++ rest) few.few is in
      let others = elements_again read spell P s first.after xs rest (recursion_from_All P xs few.each) first.ahead in
      record { after = others.after; is = rw (first.is) others.is; ahead = others.ahead };
}
