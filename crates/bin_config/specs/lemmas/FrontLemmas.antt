-- Fields that are read one after another, before what follows them.
use Rattle.std.proofs.Common.{◌≡◌, ℕ, List, ◌++◌, Result, Ok, refl, sym, ap, subst, ◌∙◌, append_assoc}
use Rattle.xm_base.specs.Bytes.{AreBytes}
use Rattle.xm_base.specs.Cursor.{Place, ahead}
use Rattle.file_headers.specs.lemmas.FieldLemmas.{Takes, takes_both}
use Rattle.file_headers.specs.lemmas.StepLemmas.{ok_is, stepped}
use Rattle.file_headers.specs.Steps.{◌>>=◌}
use Rattle.bin_config.specs.Reading.{Read}
use Rattle.bin_config.specs.lemmas.FieldLemmas.{IsReaderOf}
use Rattle.fault_messages.specs.declared.fault.XmcFault.{XmcFault}

-- fields before something: their values go to what follows, with the place after them
abbrev pub LeadingFields : Type 0 → Type 1
LeadingFields T = (Y : Type 0) → (T → Place → Result Y XmcFault) → Place → Result Y XmcFault

-- fields that did not fail: their values, the place after them, and what followed
pub record Opened {T Y : Type 0} (spell : T → List ℕ) (P : T → Type 0) (more : T → Place → Result Y XmcFault) (place : Place) (end : Y) : Type 0 where
  pub value : T
  pub after : Place
  pub takes : Takes place (spell value) after
  pub is : P value
  pub led : more value after ≡ Ok end

-- fields that are read where they stand: what follows is at the place after them
pub record Reached {Y : Type 0} (read : Result Y XmcFault) (more : Place → Result Y XmcFault) (rest : List ℕ) : Type 0 where
  pub after : Place
  pub is : read ≡ more after
  pub ahead : ahead after ≡ rest

-- fields are read exactly as they are spelled, whatever follows
pub record Opens {T : Type 0} (front : LeadingFields T) (spell : T → List ℕ) (P : T → Type 0) : Type 1 where
  pub takes : (Y : Type 0) (more : T → Place → Result Y XmcFault) (place : Place) (end : Y) → AreBytes (ahead place) → front Y more place ≡ Ok end → Opened spell P more place end
  pub again : (Y : Type 0) (more : T → Place → Result Y XmcFault) (place : Place) (t : T) (rest : List ℕ) → P t → ahead place ≡ spell t ++ rest → Reached (front Y more place) (more t) rest

-- one field
abbrev pub one_field : {A : Type 0} → (Place → Read A) → LeadingFields A
one_field read Y more place = read place >>= λ a. more a.0 a.1

-- one more field, which may depend on those before it
abbrev pub then_of : {T B : Type 0} → LeadingFields T → (T → Place → Read B) → LeadingFields (T × B)
then_of front read Y more place = front Y (λ t following. read t following >>= λ b. more (t, b.0) b.1) place

-- all fields, as one value
abbrev pub all_fields : {T X : Type 0} → LeadingFields T → (T → X) → Place → Read X
all_fields {T} {X} front to place = front (X × Place) (λ t following. Ok (to t, following)) place

-- one field is read as it is spelled
pub first : {A : Type 0} {read : Place → Read A} {spell : A → List ℕ} {P : A → Type 0} → IsReaderOf read spell P → Opens (one_field read) spell P
first {A} {read} {spell} {P} s = record {
  takes = λ Y more place end each e.
      let a = stepped (read place) (λ a. more a.0 a.1) end e in
      let t = s.takes place a.value.0 a.value.1 each a.is in
      record { value = a.value.0; after = a.value.1; takes = t.0; is = t.1; led = a.led };
  again = λ Y more place t rest p is.
      let r = s.again place t rest p is in
      record { after = r.after; is = rw r.is refl; ahead = r.ahead };
}

-- one more field is read as it is spelled
pub followed : {T B : Type 0} {front : LeadingFields T} {spell : T → List ℕ} {P : T → Type 0} (read : T → Place → Read B) (text_of : B → List ℕ) (Q : T → B → Type 0)
    → Opens front spell P → ((t : T) → IsReaderOf (read t) text_of (Q t)) → Opens (then_of front read) (λ x. spell x.0 ++ text_of x.1) (λ x. P x.0 × Q x.0 x.1)
followed {T} {B} {front} {spell} {P} read text_of Q opens s = record {
  takes = λ Y more place end each e.
      let o = opens.takes Y (λ t following. read t following >>= λ b. more (t, b.0) b.1) place end each e in
      let b = stepped (read o.value o.after) (λ b. more (o.value, b.0) b.1) end o.led in
      let t = (s o.value).takes o.after b.value.0 b.value.1 o.takes.rest b.is in
      record {
        value = (o.value, b.value.0);
        after = b.value.1;
        takes = takes_both place (spell o.value) o.after (text_of b.value.0) b.value.1 o.takes t.0;
        is = (o.is, t.1);
        led = b.led;
      };
  again = λ Y more place x rest p is.
      let o = opens.again Y (λ t following. read t following >>= λ b. more (t, b.0) b.1) place x.0 (text_of x.1 ++ rest) p.0 (is ∙ append_assoc (spell x.0) (text_of x.1) rest) in
      let r = (s x.0).again o.after x.1 rest p.1 o.ahead in
      record { after = r.after; is = o.is ∙ rw r.is refl; ahead = r.ahead };
}

-- one more field that is read as it is spelled, whatever stands before it
pub then : {T B : Type 0} {front : LeadingFields T} {spell : T → List ℕ} {P : T → Type 0} {read : Place → Read B} {text_of : B → List ℕ} {Q : B → Type 0}
    → Opens front spell P → IsReaderOf read text_of Q → Opens (then_of front (λ t. read)) (λ x. spell x.0 ++ text_of x.1) (λ x. P x.0 × Q x.1)
then {T} {B} {front} {spell} {P} {read} {text_of} {Q} opens s = followed (λ t. read) text_of (λ t. Q) opens (λ t. s)

-- a value is read as its fields are
pub made_of_fields : {T X : Type 0} {front : LeadingFields T} {spell : T → List ℕ} {P : T → Type 0} (to : T → X) (from : X → T) (text_of : X → List ℕ) (Q : X → Type 0)
    → Opens front spell P → ((t : T) → P t → (from (to t) ≡ t) × Q (to t)) → ((x : X) → Q x → (to (from x) ≡ x) × P (from x)) → ((x : X) → Q x → spell (from x) ≡ text_of x)
    → IsReaderOf (all_fields front to) text_of Q
made_of_fields {T} {X} {front} {spell} {P} to from text_of Q opens there back same = record {
  takes = λ place x after each e.
      let o = opens.takes (X × Place) (λ t following. Ok (to t, following)) place (x, after) each e in
      let h = there o.value o.is in
      let text : spell o.value ≡ text_of (to o.value) = ap spell (sym h.0) ∙ same (to o.value) h.1 in
      let R : X × Place → Type 0 = λ y. Takes place (text_of y.0) y.1 × Q y.0 in
      subst R (ok_is (to o.value, o.after) (x, after) o.led) (subst (λ (bytes : List ℕ). Takes place bytes o.after) text o.takes, h.1);
  again = λ place x rest q is.
      let h = back x q in
      let o = opens.again (X × Place) (λ t following. Ok (to t, following)) place (from x) rest h.1 (is ∙ ap (λ bytes. bytes ++ rest) (sym (same x q))) in
      record { after = o.after; is = o.is ∙ ap (λ y. Ok (y, o.after)) h.0; ahead = o.ahead };
}

-- a value is read as its two fields are
pub made_of_two : {A B X : Type 0} {one : Place → Read A} {other : Place → Read B} {spell : A → List ℕ} {text : B → List ℕ} {P : A → Type 0} {R : B → Type 0} (to : A × B → X) (from : X → A × B) (text_of : X → List ℕ) (Q : X → Type 0)
    → IsReaderOf one spell P → IsReaderOf other text R
    → ((t : A × B) → P t.0 × R t.1 → (from (to t) ≡ t) × Q (to t)) → ((x : X) → Q x → (to (from x) ≡ x) × (P (from x).0 × R (from x).1))
    → ((x : X) → Q x → spell (from x).0 ++ text (from x).1 ≡ text_of x) → IsReaderOf (all_fields (then_of (one_field one) (λ t. other)) to) text_of Q
made_of_two to from text_of Q a b there back same = made_of_fields to from text_of Q (then (first a) b) there back same
