-- What is read of a cue stands there, and may be received.
use Rattle.std.proofs.Common.{◌≡◌, ℕ, ◌^◌, ◌<◌, Bool, true, false, [], ◌∷◌, ◌++◌, length, Ok, refl, ap, subst, arith}
use Rattle.std.specs.Prelude.{nat_le, nat_lt, ◌&&◌, ◌==◌, is_some, if◌then◌else◌}
use Rattle.std.specs.List.{list_any}
use Rattle.std.specs.Int.{w16, to_be_bytes}
use Rattle.std.proofs.lemmas.Bool.{eqb-false, eqb-true}
use Rattle.std.proofs.lemmas.Bool.Decides.{nat_tests}
use Rattle.xm_base.specs.Bytes.{AreBytes}
use Rattle.xm_base.specs.Cursor.{Place, ahead}
use Rattle.xm_conf.specs.Configuration.{Conf}
use Rattle.file_headers.specs.lemmas.FieldLemmas.{Takes, takes_both, wide16, bytes_take, listed_takes}
use Rattle.file_headers.specs.lemmas.StepLemmas.{stepped, ok_is}
use Rattle.file_headers.specs.Steps.{◌>>=◌}
use Rattle.machine_model.specs.Cue.{Away, Mine, CueSlot}
use Rattle.machine_model.specs.Emission.{OwnPuts, OwnSignals, OwnTakes, OwnTraffic}
use Rattle.file_headers.specs.Fields.{field_bytes, listed_at}
use Rattle.cue_scripts.specs.Script.{CanHear, gives_queue, is_length, most_heard, signals}
use Rattle.cue_scripts.specs.Spelling.{slot_byte, traffic_text}
use Rattle.cue_scripts.specs.Reading.{message_at, put_message_at, signal_at, cue_slot_at, slot_of_byte, take_at, script_field, script_short}
use Rattle.cue_scripts.proofs.FieldLemmas.{AreBytes-front, begins}

-- a number is this one
pub is_this : (n m : ℕ) → (n == m) ≡ true → n ≡ m
is_this n m e = eqb-true n m e

-- a number is another one
pub is_not : (n m : ℕ) → (n == m) ≡ false → n ≡ m → ⊥
is_not n m e = eqb-false n m e

-- of the numbers up to 2 it is the one that is left
pub two : (n : ℕ) → nat_le n 2 ≡ true → (n == 0) ≡ false → (n == 1) ≡ false → n ≡ 2
two n few f0 f1 = grind (arith, nat_tests, few, f0, f1)

-- a slot that is read stands there
pub slot_takes : (place : Place) (mine : CueSlot) (after : Place) → AreBytes (ahead place) → cue_slot_at place ≡ Ok (mine, after) → Takes place (slot_byte mine ∷ []) after
unfolding cue_slot_at
slot_takes place mine after each e =
    let k = begins (λ byte. nat_le byte 2) (λ byte following. Ok (slot_of_byte byte, following)) place (mine, after) each e in
    let P : CueSlot × Place → Type 0 = λ x. Takes place (slot_byte x.0 ∷ []) x.1 in
    subst P (ok_is (slot_of_byte k.kind, k.following) (mine, after) k.led) (rw (slot_spelled k.kind k.passes) at k.first)
  where
    by : (n : ℕ) (a b : Bool) → (n == 0) ≡ a → (n == 2) ≡ b → nat_le n 2 ≡ true → n ≡ slot_byte (if a then Away else Mine b)
    by n true b none other few = eqb-true n 0 none
    by n false true none other few = eqb-true n 2 other
    by n false false none other few = grind (arith, nat_tests, few, none, other)

    slot_spelled : (n : ℕ) → nat_le n 2 ≡ true → n ∷ [] ≡ slot_byte (slot_of_byte n) ∷ []
    slot_spelled n few = ap (λ b. b ∷ []) (by n (n == 0) (n == 2) refl refl few)

-- a message that is read after its kind stands there
pub put_takes : (conf : Conf) (p : ℕ) (place following : Place) (traffic : OwnTraffic) (after : Place) → Takes place (1 ∷ []) following → put_message_at conf p following ≡ Ok (traffic, after)
    → Takes place (traffic_text traffic) after × CanHear conf p traffic
unfolding put_message_at message_at traffic_text
put_takes conf p place following traffic after kind e =
    let n = begins (λ name. is_some (most_heard conf p name)) (λ name later. message_at (most_heard conf p name) name later) following (traffic, after) kind.rest e in
    let most = most_heard conf p n.kind in
    let c = stepped (listed_at script_short script_field w16 (is_length most) n.following) (λ count. field_bytes script_short count.0 count.1 >>= λ bytes. Ok (OwnPuts n.kind bytes.0, bytes.1)) (traffic, after) n.led in
    let t = listed_takes script_short script_field w16 (2 ^ 16) wide16 (is_length most) n.following c.value.0 c.value.1 n.first.rest c.is in
    let b = stepped (field_bytes script_short c.value.0 c.value.1) (λ bytes. Ok (OwnPuts n.kind bytes.0, bytes.1)) (traffic, after) c.led in
    let u = bytes_take script_short c.value.0 c.value.1 b.value.0 b.value.1 t.0.rest b.is in
    let P : OwnTraffic × Place → Type 0 = λ x. Takes place (traffic_text x.0) x.1 × CanHear conf p x.0 in
    let sized : Takes n.following (to_be_bytes w16 (length b.value.0)) c.value.1 = rw u.1 t.0 in
    subst P {x = (OwnPuts n.kind b.value.0, b.value.1)} (ok_is (OwnPuts n.kind b.value.0, b.value.1) (traffic, after) b.led) (
      takes_both place (1 ∷ []) following (n.kind ∷ to_be_bytes w16 (length b.value.0) ++ b.value.0) b.value.1 kind
          (takes_both following (n.kind ∷ []) n.following (to_be_bytes w16 (length b.value.0) ++ b.value.0) b.value.1 n.first
          (takes_both n.following (to_be_bytes w16 (length b.value.0)) c.value.1 b.value.0 b.value.1 sized u.0)),
      record {
        called = n.small;
        fits = rw u.1 t.2;
        short = rw u.1 t.1;
        spelled = AreBytes-front b.value.0 (ahead b.value.1) (rw u.0.parts at t.0.rest);
      },
    )

-- a message that was taken, read after its kind, stands there
pub take_takes : (conf : Conf) (p : ℕ) (place following : Place) (traffic : OwnTraffic) (after : Place) → Takes place (2 ∷ []) following → take_at conf p following ≡ Ok (traffic, after)
    → Takes place (traffic_text traffic) after × CanHear conf p traffic
unfolding take_at traffic_text
take_takes conf p place following traffic after kind e =
    let n = begins (gives_queue conf p) (λ name later. Ok (OwnTakes name, later)) following (traffic, after) kind.rest e in
    let P : OwnTraffic × Place → Type 0 = λ x. Takes place (traffic_text x.0) x.1 × CanHear conf p x.0 in
    subst P {x = (OwnTakes n.kind, n.following)} (ok_is (OwnTakes n.kind, n.following) (traffic, after) n.led) (
      takes_both place (2 ∷ []) following (n.kind ∷ []) n.following kind n.first,
      (n.small, n.passes),
    )

-- a link's number is a small one
small_signal : (conf : Conf) (p number : ℕ) → signals conf p number ≡ true → number < 8
unfolding signals
small_signal conf p number is = by (nat_lt number 8) (list_any (λ link. link.dest == p && link.number == number) conf.links) refl is
  where
    by : (a b : Bool) → nat_lt number 8 ≡ a → (a && b) ≡ true → number < 8
    by true b small both = grind (arith, nat_tests, small)
    by false b small both = absurd cc

-- a signal that is read after its kind stands there
pub signal_takes : (conf : Conf) (p : ℕ) (place following : Place) (traffic : OwnTraffic) (after : Place) → Takes place (3 ∷ []) following → signal_at conf p following ≡ Ok (traffic, after)
    → Takes place (traffic_text traffic) after × CanHear conf p traffic
unfolding signal_at traffic_text
signal_takes conf p place following traffic after kind e =
    let n = begins (signals conf p) (λ number later. Ok (OwnSignals number, later)) following (traffic, after) kind.rest e in
    let P : OwnTraffic × Place → Type 0 = λ x. Takes place (traffic_text x.0) x.1 × CanHear conf p x.0 in
    subst P {x = (OwnSignals n.kind, n.following)} (ok_is (OwnSignals n.kind, n.following) (traffic, after) n.led) (
      takes_both place (3 ∷ []) following (n.kind ∷ []) n.following kind n.first,
      (small_signal conf p n.kind n.passes, n.passes),
    )
