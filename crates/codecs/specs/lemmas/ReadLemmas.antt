-- What a read gives, in parts; tests, and both of two.
use Rattle.std.proofs.Common.{◌≡◌, ℕ, Bool, true, false, cond, List, ◌++◌, length, drop, Result, Ok, Err, refl, sym, ap, subst, ◌∙◌, append_assoc}
use Rattle.std.specs.Prelude.{◌&&◌}
use Rattle.std.proofs.lemmas.Bool.{false≢true}
use Rattle.std.proofs.lemmas.List.{drop_at}
use Rattle.xm_base.specs.Bytes.{AreBytes}
use Rattle.xm_base.specs.Cursor.{Place, ahead}
use Rattle.file_headers.specs.lemmas.FieldLemmas.{AreBytes-drop, Reads}
use Rattle.file_headers.specs.lemmas.StepLemmas.{ok_is}
use Rattle.file_headers.specs.Steps.{unless}
use Rattle.codecs.specs.Codec.{value_as}
use Rattle.codecs.specs.Lawful.{GivesBefore}

-- both of two tests
pub both : (a b : Bool) → (a && b) ≡ true → (a ≡ true) × (b ≡ true)
both true true e = (refl, refl)
both true false e = absurd (false≢true e)
both false b e = absurd (false≢true e)

pub and_both : (a b : Bool) → a ≡ true → b ≡ true → (a && b) ≡ true
and_both a b x y = rw (x, y) refl

-- a test that passes
pub passes : {A F : Type 0} (test : Bool) (fault : F) (value : A) → test ≡ true → unless test fault value ≡ Ok value
passes test fault value is = rw is refl

-- what a test chooses
pub ends_so : {R : Type 0} (test : Bool) (x y : R) → test ≡ true → cond test x y ≡ x
ends_so test x y is = rw is refl

pub goes : {R : Type 0} (test : Bool) (x y : R) → test ≡ false → cond test x y ≡ y
goes test x y is = rw is refl

-- what follows a text among bytes are bytes
pub rest_of : (place : Place) (text : List ℕ) (after : Place) → AreBytes (ahead place) → ahead place ≡ text ++ ahead after → AreBytes (ahead after)
rest_of place text after each is =
    subst (λ (bytes : List ℕ). AreBytes bytes) (ap (drop (length text)) is ∙ drop_at text (ahead after) (length text) refl)
    (AreBytes-drop (length text) (ahead place) each)

-- two texts, one after the other
pub texts_both : (a : Place) (x : List ℕ) (b : Place) (y : List ℕ) (c : Place) → ahead a ≡ x ++ ahead b → ahead b ≡ y ++ ahead c → ahead a ≡ (x ++ y) ++ ahead c
texts_both a x b y c first second = first ∙ ap (λ rest. x ++ rest) second ∙ sym (append_assoc x y (ahead c))

-- what was read is given
pub given : {X F : Type 0} (read : Result (X × Place) F) (x : X) (rest : List ℕ) → Reads read x rest → GivesBefore read x rest
given read x rest r = record { after = r.after; is = r.is; later = r.ahead }

-- a value that was read as another
pub record As {A X F : Type 0} (to : A → X) (read : Result (A × Place) F) (x : X) (after : Place) : Type 0 where
  pub value : A
  pub is : read ≡ Ok (value, after)
  pub other : to value ≡ x

pub read_as : {A X F : Type 0} (to : A → X) (read : Result (A × Place) F) (x : X) (after : Place) → value_as to read ≡ Ok (x, after) → As to read x after
read_as to (Ok a) x after e =
    let p = ok_is (to a.0, a.1) (x, after) e in
    record { value = a.0; is = ap (λ at. Ok (a.0, at)) (ap (λ q. q.1) p); other = ap (λ q. q.0) p }
read_as to (Err fault) x after e = absurd cc

-- a value is read where what it is made of is
pub as_again : {A X F : Type 0} (to : A → X) (read : Result (A × Place) F) (a : A) (rest : List ℕ) → GivesBefore read a rest → GivesBefore (value_as to read) (to a) rest
as_again to read a rest r = record { after = r.after; is = rw r.is refl; later = r.later }
