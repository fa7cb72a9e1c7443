-- Lists of items keep both round trips.
use Rattle.std.proofs.Common.{◌≡◌, ℕ, zero, suc, Bool, true, false, cond, List, [], ◌∷◌, ◌++◌, length, Result, Ok, refl, ap, subst, ◌∙◌, append_assoc}
use Rattle.std.proofs.lemmas.Bool.{false≢true}
use Rattle.xm_base.specs.Bytes.{AreBytes}
use Rattle.xm_base.specs.Cursor.{Place, ahead}
use Rattle.file_headers.specs.lemmas.StepLemmas.{ok_is, stepped}
use Rattle.file_headers.specs.Steps.{◌>>=◌}
use Rattle.codecs.specs.Codec.{Codec, counted, counted_items, each_fits, each_of, each_read, each_spelled, items, items_fit, items_read, items_spelled, times, value_as}
use Rattle.codecs.specs.Lawful.{GivesBefore, IsLawful, StandsAt}
use Rattle.codecs.specs.lemmas.ReadLemmas.{and_both, both, ends_so, goes, read_as, rest_of, texts_both}
use Rattle.codecs.specs.lemmas.CodecLemmas.{keyed_lawful}

-- items that are read stand there
items_spell : {F S X : Type 0} (done : S → Bool) (item : S → Codec F X) (next : S → X → S) → ((s : S) → IsLawful (item s)) → (most : ℕ) (state : S) (place : Place) (xs : List X) (after : Place)
    → AreBytes (ahead place) → items_read done item next most state place ≡ Ok (xs, after) → StandsAt (items done item next most state) place xs after
unfolding items_read
items_spell {F} {S} {X} done item next law zero state place xs after bytes e =
    let P : List X × Place → Type 0 = λ q. StandsAt (items done item next zero state) place q.0 q.1 in
    subst P (ok_is ([], place) (xs, after) e) (record { text = refl; fits = refl })
items_spell {F} {S} {X} done item next law (suc most) state place xs after bytes e =
    at (done state) refl (λ s from ys to there read. items_spell done item next law most s from ys to there read) e
  where
    more : Result (List X × Place) F
    more = (item state).read place >>= λ x. value_as (λ xs. x.0 ∷ xs) (items_read done item next most (next state x.0) x.1)

    at : (ends : Bool) → done state ≡ ends
        → ((s : S) (from : Place) (ys : List X) (to : Place) → AreBytes (ahead from) → items_read done item next most s from ≡ Ok (ys, to) → StandsAt (items done item next most s) from ys to)
        → cond ends (Ok ([], place)) more ≡ Ok (xs, after) → StandsAt (items done item next (suc most) state) place xs after
    at true is ih e =
        let P : List X × Place → Type 0 = λ q. StandsAt (items done item next (suc most) state) place q.0 q.1 in
        subst P (ok_is ([], place) (xs, after) e) (record { text = refl; fits = is })
    at false is ih e =
        let s = stepped ((item state).read place) (λ x. value_as (λ (ys : List X). x.0 ∷ ys) (items_read done item next most (next state x.0) x.1)) (xs, after) e in
        let v = read_as (λ (ys : List X). s.value.0 ∷ ys) (items_read done item next most (next state s.value.0) s.value.1) xs after s.led in
        let t = (law state).spelled place s.value.0 s.value.1 bytes s.is in
        let u = ih (next state s.value.0) s.value.1 v.value after (rest_of place ((item state).spell s.value.0) s.value.1 bytes t.text) v.is in
        subst (λ (ys : List X). StandsAt (items done item next (suc most) state) place ys after) v.other
        (record {
          text = texts_both place ((item state).spell s.value.0) s.value.1 (items_spelled item next (next state s.value.0) v.value) after t.text u.text;
          fits = and_both _ _ (rw is t.fits) u.fits;
        })

-- items that stand there are read
items_again : {F S X : Type 0} (done : S → Bool) (item : S → Codec F X) (next : S → X → S) → ((s : S) → IsLawful (item s)) → (most : ℕ) (state : S) (place : Place) (xs : List X) (rest : List ℕ)
    → items_fit done item next most state xs ≡ true → ahead place ≡ items_spelled item next state xs ++ rest → GivesBefore (items_read done item next most state place) xs rest
unfolding items_read
items_again done item next law zero state place [] rest fits stands = record { after = place; is = refl; later = stands }
items_again done item next law zero state place (x ∷ xs) rest fits stands = absurd (false≢true fits)
items_again done item next law (suc most) state place [] rest fits stands = record { after = place; is = ends_so (done state) _ _ fits; later = stands }
items_again {F} {S} {X} done item next law (suc most) state place (x ∷ xs) rest fits stands =
    let f = both (cond (done state) false ((item state).fits x)) (items_fit done item next most (next state x) xs) fits in
    let g = goes_on (done state) ((item state).fits x) f.0 in
    let r = (law state).again place x (items_spelled item next (next state x) xs ++ rest) g.1 (stands ∙ append_assoc ((item state).spell x) (items_spelled item next (next state x) xs) rest) in
    let q = items_again done item next law most (next state x) r.after xs rest f.1 r.later in
    record { after = q.after; is = goes (done state) _ _ g.0 ∙ rw (r.is, q.is) refl; later = q.later }
  where
    goes_on : (ends fit : Bool) → cond ends false fit ≡ true → (ends ≡ false) × (fit ≡ true)
    goes_on true fit e = absurd (false≢true e)
    goes_on false fit e = (refl, e)

pub items_lawful : {F S X : Type 0} (done : S → Bool) (item : S → Codec F X) (next : S → X → S) (most : ℕ) (state : S) → ((s : S) → IsLawful (item s)) → IsLawful (items done item next most state)
items_lawful done item next most state law = record {
  spelled = λ place xs after bytes e. items_spell done item next law most state place xs after bytes e;
  again = λ place xs rest fits stands. items_again done item next law most state place xs rest fits stands;
}

-- items of one format
pub times_lawful : {F X : Type 0} (count : ℕ) (c : Codec F X) → IsLawful c → IsLawful (times count c)
times_lawful count c law = items_lawful _ _ _ count tt (λ u. law)

-- an item for each of a list that is read stands there
each_spell : {F A X : Type 0} (part : A → Codec F X) → ((a : A) → IsLawful (part a)) → (known : List A) (place : Place) (xs : List X) (after : Place)
    → AreBytes (ahead place) → each_read part known place ≡ Ok (xs, after) → StandsAt (each_of part known) place xs after
unfolding each_read
each_spell {F} {A} {X} part law [] place xs after bytes e =
    let P : List X × Place → Type 0 = λ q. StandsAt (each_of part []) place q.0 q.1 in
    subst P (ok_is ([], place) (xs, after) e) (record { text = refl; fits = refl })
each_spell {F} {A} {X} part law (a ∷ known) place xs after bytes e =
    let s = stepped ((part a).read place) (λ x. value_as (λ (ys : List X). x.0 ∷ ys) (each_read part known x.1)) (xs, after) e in
    let v = read_as (λ (ys : List X). s.value.0 ∷ ys) (each_read part known s.value.1) xs after s.led in
    let t = (law a).spelled place s.value.0 s.value.1 bytes s.is in
    let u = each_spell part law known s.value.1 v.value after (rest_of place ((part a).spell s.value.0) s.value.1 bytes t.text) v.is in
    subst (λ (ys : List X). StandsAt (each_of part (a ∷ known)) place ys after) v.other
    (record {
      text = texts_both place ((part a).spell s.value.0) s.value.1 (each_spelled part known v.value) after t.text u.text;
      fits = and_both _ _ t.fits u.fits;
    })

-- an item for each of a list that stands there is read
each_again : {F A X : Type 0} (part : A → Codec F X) → ((a : A) → IsLawful (part a)) → (known : List A) (place : Place) (xs : List X) (rest : List ℕ)
    → each_fits part known xs ≡ true → ahead place ≡ each_spelled part known xs ++ rest → GivesBefore (each_read part known place) xs rest
unfolding each_read
each_again part law [] place [] rest fits stands = record { after = place; is = refl; later = stands }
each_again part law [] place (x ∷ xs) rest fits stands = absurd (false≢true fits)
each_again part law (a ∷ known) place [] rest fits stands = absurd (false≢true fits)
each_again part law (a ∷ known) place (x ∷ xs) rest fits stands =
    let f = both ((part a).fits x) (each_fits part known xs) fits in
    let r = (law a).again place x (each_spelled part known xs ++ rest) f.0 (stands ∙ append_assoc ((part a).spell x) (each_spelled part known xs) rest) in
    let q = each_again part law known r.after xs rest f.1 r.later in
    record { after = q.after; is = rw (r.is, q.is) refl; later = q.later }

pub each_lawful : {F A X : Type 0} (part : A → Codec F X) (known : List A) → ((a : A) → IsLawful (part a)) → IsLawful (each_of part known)
each_lawful part known law = record {
  spelled = λ place xs after bytes e. each_spell part law known place xs after bytes e;
  again = λ place xs rest fits stands. each_again part law known place xs rest fits stands;
}

-- a list of items without an end is as long as they are many
pub length-items : {F S X : Type 0} (item : S → Codec F X) (next : S → X → S) (most : ℕ) (state : S) (xs : List X) → (items (λ s. false) item next most state).fits xs ≡ true → length xs ≡ most
length-items item next zero state [] e = refl
length-items item next zero state (x ∷ xs) e = absurd (false≢true e)
length-items item next (suc most) state [] e = absurd (false≢true e)
length-items item next (suc most) state (x ∷ xs) e =
    ap suc (length-items item next most (next state x) xs (both ((item state).fits x) (items_fit (λ s. false) item next most (next state x) xs) e).1)

-- items after their number
pub counted_items_lawful : {F S X : Type 0} (count : Codec F ℕ) (item : S → Codec F X) (next : S → X → S) (first : S) → IsLawful count → ((s : S) → IsLawful (item s)) → IsLawful (counted_items count item next first)
counted_items_lawful count item next first one law = keyed_lawful count _ _ one (λ n. items_lawful _ item next n first law) (λ n xs fits. length-items item next n first xs fits)

-- lists after their number
pub counted_lawful : {F X : Type 0} (count : Codec F ℕ) (c : Codec F X) → IsLawful count → IsLawful c → IsLawful (counted count c)
counted_lawful count c one law = keyed_lawful count _ _ one (λ n. times_lawful n c law) (λ n xs fits. length-items (λ (u : Unit {0}). c) (λ u x. u) n tt xs fits)
