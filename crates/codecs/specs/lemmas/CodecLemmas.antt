-- Each way to make a format keeps both round trips.
use Rattle.std.proofs.Common.{◌≡◌, ℕ, ◌^◌, ◌<◌, inl, inr, Bool, true, false, cond, List, ◌++◌, length, Option, Some, None, Ok, refl, sym, ap, subst, ◌∙◌, append_assoc, arith}
use Rattle.std.specs.Prelude.{is_none, is_some, nat_lt}
use Rattle.std.specs.Int.{Width, w64}
use Rattle.std.specs.Str.{bytes_eq}
use Rattle.std.proofs.lemmas.Bool.{false≢true}
use Rattle.std.proofs.lemmas.Bool.Decides.{Decides-eqb, nat_tests}
use Rattle.std.proofs.lemmas.Nat.{be_bytes_8, from_be_bytes-to_be_bytes_8}
use Rattle.std.proofs.lemmas.Slice.Eq.{bytes_eq-Decides}
use Rattle.xm_base.specs.Cursor.{Place, ahead}
use Rattle.file_headers.specs.lemmas.FieldLemmas.{IsWide, bytes_again, bytes_take, number_again, number_takes, wide16, wide32, wide8}
use Rattle.file_headers.specs.Fields.{field_bytes}
use Rattle.file_headers.specs.lemmas.StepLemmas.{ok_is, passed, stepped}
use Rattle.file_headers.specs.Steps.{unless}
use Rattle.codecs.specs.Codec.{Codec, absent, any_number, coded, fixed_text, keyed, limit_of, no_bytes, number, optional, or_refused, pair, present, raw_bytes, tested, through, through_where, value_as}
use Rattle.codecs.specs.Laws.{IsNumberWidth}
use Rattle.codecs.specs.Lawful.{GivesBefore, IsLawful, StandsAt}
use Rattle.codecs.specs.lemmas.ReadLemmas.{and_both, as_again, both, given, passes, read_as, rest_of, texts_both}

-- a number below a limit
pub below_of : (n limit : ℕ) → nat_lt n limit ≡ true → n < limit
below_of n limit e = grind (arith, nat_tests, e)

pub test_of : (n limit : ℕ) → n < limit → nat_lt n limit ≡ true
test_of n limit below = grind (arith, nat_tests, below)

-- numbers of eight bytes
pub wide64 : IsWide w64 (2 ^ 64)
wide64 = record {
  size = λ n. refl;
  back = λ bytes eight each. be_bytes_8 bytes _ eight each refl;
  again = λ n below. from_be_bytes-to_be_bytes_8 n below;
  below = λ bytes each. omega (arith, each 0, each 1, each 2, each 3, each 4, each 5, each 6, each 7);
}

-- each width of a number is one of these
pub wide_of : (width : Width) → IsNumberWidth width → IsWide width (limit_of width)
wide_of width (inl is) = rw is wide8
wide_of width (inr (inl is)) = rw is wide16
wide_of width (inr (inr (inl is))) = rw is wide32
wide_of width (inr (inr (inr is))) = rw is wide64

-- a number
pub any_number_lawful : {F : Type 0} (short : ℕ → F) (width : Width) → IsWide width (limit_of width) → IsLawful (any_number short width)
any_number_lawful short width wide = record {
  spelled = λ place x after bytes e.
      let t = number_takes short width (limit_of width) wide place x after bytes e in
      record { text = t.0.parts; fits = test_of x (limit_of width) t.1 };
  again = λ place x rest fits stands. given _ x rest (number_again short width (limit_of width) wide place x rest (below_of x (limit_of width) fits) stands);
}

-- bytes
pub raw_bytes_lawful : {F : Type 0} (short : ℕ → F) (count : ℕ) → IsLawful (raw_bytes short count)
raw_bytes_lawful short count = record {
  spelled = λ place x after bytes e.
      let t = bytes_take short count place x after bytes e in
      record { text = t.0.parts; fits = (Decides-eqb (length x) count).1 t.1 };
  again = λ place x rest fits stands. given _ x rest (bytes_again short count place x rest ((Decides-eqb (length x) count).0 fits) stands);
}

-- a fixed text
pub fixed_text_lawful : {F : Type 0} (short wrong : ℕ → F) (text : List ℕ) → IsLawful (fixed_text short wrong text)
fixed_text_lawful short wrong text = record {
  spelled = λ place x after bytes e.
      let s = stepped (field_bytes short (length text) place) (λ bs. unless (bytes_eq bs.0 text) (wrong place.at) (tt, bs.1)) (x, after) e in
      let p = passed (bytes_eq s.value.0 text) (wrong place.at) (tt, s.value.1) (x, after) s.led in
      let t = bytes_take short (length text) place s.value.0 s.value.1 bytes s.is in
      let same : s.value.0 ≡ text = (bytes_eq-Decides s.value.0 text).0 p.true in
      let P : Unit {0} × Place → Type 0 = λ q. StandsAt (fixed_text short wrong text) place q.0 q.1 in
      subst P p.is (record { text = t.0.parts ∙ ap (λ (bs : List ℕ). bs ++ ahead s.value.1) same; fits = refl });
  again = λ place x rest fits stands.
      let r = bytes_again short (length text) place text rest refl stands in
      let same : bytes_eq text text ≡ true = (bytes_eq-Decides text text).1 refl in
      record { after = r.after; is = rw (r.is, same) refl; later = r.ahead };
}

-- no bytes
pub no_bytes_lawful : {F : Type 0} → IsLawful (no_bytes {F = F})
no_bytes_lawful {F} = record {
  spelled = λ place x after bytes e.
      let P : Unit {0} × Place → Type 0 = λ q. StandsAt (no_bytes {F = F}) place q.0 q.1 in
      subst P (ok_is (tt, place) (x, after) e) (record { text = refl; fits = refl });
  again = λ place x rest fits stands. record { after = place; is = refl; later = stands };
}

-- one after the other
pub pair_lawful : {F A B : Type 0} (first : Codec F A) (second : A → Codec F B) → IsLawful first → ((a : A) → IsLawful (second a)) → IsLawful (pair first second)
pair_lawful {F} {A} {B} first second one other = record {
  spelled = λ place x after bytes e.
      let s = stepped (first.read place) (λ a. value_as (λ (b : B). (a.0, b)) ((second a.0).read a.1)) (x, after) e in
      let v = read_as (λ (b : B). (s.value.0, b)) ((second s.value.0).read s.value.1) x after s.led in
      let t = one.spelled place s.value.0 s.value.1 bytes s.is in
      let u = (other s.value.0).spelled s.value.1 v.value after (rest_of place (first.spell s.value.0) s.value.1 bytes t.text) v.is in
      subst (λ (p : A × B). StandsAt (pair first second) place p after) v.other
      (record {
        text = texts_both place (first.spell s.value.0) s.value.1 ((second s.value.0).spell v.value) after t.text u.text;
        fits = and_both _ _ t.fits u.fits;
      });
  again = λ place x rest fits stands.
      let f = both (first.fits x.0) ((second x.0).fits x.1) fits in
      let r = one.again place x.0 ((second x.0).spell x.1 ++ rest) f.0 (stands ∙ append_assoc (first.spell x.0) ((second x.0).spell x.1) rest) in
      let q = (other x.0).again r.after x.1 rest f.1 r.later in
      record { after = q.after; is = rw (r.is, q.is) refl; later = q.later };
}

-- other values for the same bytes
pub through_lawful : {F A X : Type 0} (to : A → X) (from : X → A) (c : Codec F A) → ((a : A) → c.fits a ≡ true → from (to a) ≡ a) → ((x : X) → c.fits (from x) ≡ true → to (from x) ≡ x) → IsLawful c → IsLawful (through to from c)
through_lawful {F} {A} {X} to from c back there law = record {
  spelled = λ place x after bytes e.
      let v = read_as to (c.read place) x after e in
      let t = law.spelled place v.value after bytes v.is in
      let same : v.value ≡ from x = sym (back v.value t.fits) ∙ ap from v.other in
      let u : StandsAt c place (from x) after = subst (λ (a : A). StandsAt c place a after) same t in
      record { text = u.text; fits = u.fits };
  again = λ place x rest fits stands.
      subst (λ (y : X). GivesBefore (value_as to (c.read place)) y rest) (there x fits) (as_again to (c.read place) (from x) rest (law.again place (from x) rest fits stands));
}

-- the same, where only some have bytes
pub through_where_lawful : {F A X : Type 0} (good : X → Bool) (to : A → X) (from : X → A) (c : Codec F A) → ((a : A) → c.fits a ≡ true → (from (to a) ≡ a) × (good (to a) ≡ true)) → ((x : X) → c.fits (from x) ≡ true → good x ≡ true → to (from x) ≡ x) → IsLawful c
    → IsLawful (through_where good to from c)
through_where_lawful {F} {A} {X} good to from c back there law = record {
  spelled = λ place x after bytes e.
      let v = read_as to (c.read place) x after e in
      let t = law.spelled place v.value after bytes v.is in
      let b = back v.value t.fits in
      let same : v.value ≡ from x = sym b.0 ∙ ap from v.other in
      let u : StandsAt c place (from x) after = subst (λ (a : A). StandsAt c place a after) same t in
      record { text = u.text; fits = and_both _ _ u.fits (subst (λ (y : X). good y ≡ true) v.other b.1) };
  again = λ place x rest fits stands.
      let f = both (c.fits (from x)) (good x) fits in
      subst (λ (y : X). GivesBefore (value_as to (c.read place)) y rest) (there x f.0 f.1) (as_again to (c.read place) (from x) rest (law.again place (from x) rest f.0 stands));
}

-- a key, and the value that has it
pub keyed_lawful : {F A X : Type 0} (keys : Codec F A) (of : A → Codec F X) (key : X → A) → IsLawful keys → ((a : A) → IsLawful (of a)) → ((a : A) (x : X) → (of a).fits x ≡ true → key x ≡ a) → IsLawful (keyed keys of key)
keyed_lawful {F} {A} {X} keys of key first more is = record {
  spelled = λ place x after bytes e.
      let s = stepped (keys.read place) (λ a. (of a.0).read a.1) (x, after) e in
      let t = first.spelled place s.value.0 s.value.1 bytes s.is in
      let u = (more s.value.0).spelled s.value.1 x after (rest_of place (keys.spell s.value.0) s.value.1 bytes t.text) s.led in
      let same : s.value.0 ≡ key x = sym (is s.value.0 x u.fits) in
      let P : A → Type 0 = λ a. (ahead place ≡ (keys.spell a ++ (of a).spell x) ++ ahead after) × (keys.fits a ≡ true) × ((of a).fits x ≡ true) in
      let all = subst P same (texts_both place (keys.spell s.value.0) s.value.1 ((of s.value.0).spell x) after t.text u.text, t.fits, u.fits) in
      record { text = all.0; fits = and_both _ _ all.1 all.2 };
  again = λ place x rest fits stands.
      let f = both (keys.fits (key x)) ((of (key x)).fits x) fits in
      let r = first.again place (key x) ((of (key x)).spell x ++ rest) f.0 (stands ∙ append_assoc (keys.spell (key x)) ((of (key x)).spell x) rest) in
      let q = (more (key x)).again r.after x rest f.1 r.later in
      record { after = q.after; is = rw (r.is, q.is) refl; later = q.later };
}

-- a value that has to pass a test
pub tested_lawful : {F X : Type 0} (refused : ℕ → X → F) (test : X → Bool) (c : Codec F X) → IsLawful c → IsLawful (tested refused test c)
tested_lawful {F} {X} refused test c law = record {
  spelled = λ place x after bytes e.
      let s = stepped (c.read place) (λ y. unless (test y.0) (refused place.at y.0) y) (x, after) e in
      let p = passed (test s.value.0) (refused place.at s.value.0) s.value (x, after) s.led in
      let t = law.spelled place s.value.0 s.value.1 bytes s.is in
      let P : X × Place → Type 0 = λ q. StandsAt (tested refused test c) place q.0 q.1 in
      subst P p.is (record { text = t.text; fits = and_both _ _ t.fits p.true });
  again = λ place x rest fits stands.
      let f = both (c.fits x) (test x) fits in
      let r = law.again place x rest f.0 stands in
      record { after = r.after; is = rw r.is (passes (test x) (refused place.at x) (x, r.after) f.1); later = r.later };
}

-- a number that has to pass a test
pub number_lawful : {F : Type 0} (short : ℕ → F) (refused : ℕ → ℕ → F) (width : Width) (test : ℕ → Bool) → IsWide width (limit_of width) → IsLawful (number short refused width test)
number_lawful short refused width test wide = tested_lawful refused test (any_number short width) (any_number_lawful short width wide)

-- the value that a code means
some_of : {F X : Type 0} (fault : F) (beyond : Place) (found : Option X) (x : X) (after : Place) → or_refused fault beyond found ≡ Ok (x, after) → (found ≡ Some x) × (beyond ≡ after)
some_of fault beyond None x after e = absurd cc
some_of fault beyond (Some y) x after e =
    let p = ok_is (y, beyond) (x, after) e in
    (ap (λ q. Some q.0) p, ap (λ q. q.1) p)

-- values by their codes
pub coded_lawful : {F A X : Type 0} (refused : ℕ → F) (meaning : A → Option X) (code : X → A) (c : Codec F A) → ((a : A) (x : X) → meaning a ≡ Some x → code x ≡ a) → ((x : X) → is_some (meaning (code x)) ≡ true → meaning (code x) ≡ Some x)
    → IsLawful c → IsLawful (coded refused meaning code c)
coded_lawful {F} {A} {X} refused meaning code c back there law = record {
  spelled = λ place x after bytes e.
      let s = stepped (c.read place) (λ a. or_refused (refused place.at) a.1 (meaning a.0)) (x, after) e in
      let m = some_of (refused place.at) s.value.1 (meaning s.value.0) x after s.led in
      let t = law.spelled place s.value.0 s.value.1 bytes s.is in
      let u : StandsAt c place (code x) after = subst (λ (a : A). StandsAt c place a after) (sym (back s.value.0 x m.0)) (subst (λ (to : Place). StandsAt c place s.value.0 to) m.1 t) in
      let known : is_some (meaning (code x)) ≡ true = ap (λ a. is_some (meaning a)) (back s.value.0 x m.0) ∙ ap is_some m.0 in
      record { text = u.text; fits = and_both _ _ u.fits known };
  again = λ place x rest fits stands.
      let f = both (c.fits (code x)) (is_some (meaning (code x))) fits in
      let r = law.again place (code x) rest f.0 stands in
      record { after = r.after; is = rw r.is (ap (or_refused (refused place.at) r.after) (there x f.1)); later = r.later };
}

-- a value that is there
pub present_lawful : {F X : Type 0} (c : Codec F X) → IsLawful c → IsLawful (present c)
present_lawful {F} {X} c law = record {
  spelled = λ place found after bytes e.
      let v = read_as (λ (x : X). Some x) (c.read place) found after e in
      let t = law.spelled place v.value after bytes v.is in
      subst (λ (o : Option X). StandsAt (present c) place o after) v.other (record { text = t.text; fits = t.fits });
  again = λ place found rest fits stands. at place found rest fits stands;
}
  where
    at : (place : Place) (found : Option X) (rest : List ℕ) → (present c).fits found ≡ true → ahead place ≡ (present c).spell found ++ rest → GivesBefore ((present c).read place) found rest
    at place None rest fits stands = absurd (false≢true fits)
    at place (Some x) rest fits stands = as_again (λ (y : X). Some y) (c.read place) x rest (law.again place x rest fits stands)

-- no value
pub absent_lawful : {F X : Type 0} (c : Codec F (Unit {0})) → IsLawful c → IsLawful (absent {X = X} c)
absent_lawful {F} {X} c law = through_where_lawful _ _ _ c (λ u fits. (refl, refl)) (λ found fits good. none_is found good) law
  where
    none_is : (found : Option X) → is_none found ≡ true → None ≡ found
    none_is None good = refl
    none_is (Some x) good = absurd (false≢true good)

-- whether a value is there, and then it
pub optional_lawful : {F X : Type 0} (there : Codec F Bool) (some : Codec F X) (none : Codec F (Unit {0})) → IsLawful there → IsLawful some → IsLawful none → IsLawful (optional there some none)
optional_lawful {F} {X} there some none first one other = keyed_lawful there _ _ first each is
  where
    each : (is : Bool) → IsLawful (cond is (present some) (absent none))
    each true = present_lawful some one
    each false = absent_lawful none other

    is : (a : Bool) (found : Option X) → (cond a (present some) (absent none)).fits found ≡ true → is_some found ≡ a
    is true None fits = absurd (false≢true fits)
    is true (Some x) fits = refl
    is false None fits = refl
    is false (Some x) fits = absurd (false≢true (both (none.fits tt) false fits).1)
