-- What is read of the parts of a cue stands there, and may be received.
use Rattle.std.proofs.Common.{◌≡◌, ℕ, ◌^◌, Bool, true, false, [], ◌∷◌, length, Option, Some, None, Ok, refl, subst, arith}
use Rattle.std.specs.Prelude.{nat_le, ◌&&◌, ◌==◌, if◌then◌else◌}
use Rattle.std.specs.Int.{w32, to_be_bytes}
use Rattle.std.proofs.lemmas.Bool.{eqb-true}
use Rattle.std.proofs.lemmas.Bool.Decides.{nat_tests}
use Rattle.xm_base.specs.Bytes.{AreBytes}
use Rattle.xm_base.specs.Cursor.{Place, ahead}
use Rattle.xm_base.specs.declared.partition.Mode.{Mode}
use Rattle.xm_base.specs.declared.partition.Mode.TheVariants as mode
use Rattle.xm_base.specs.declared.partition.Order.{Order}
use Rattle.xm_base.specs.declared.partition.Order.TheVariants as upon
use Rattle.xm_conf.specs.Configuration.{Conf}
use Rattle.file_headers.specs.lemmas.FieldLemmas.{Takes, takes_both, wide32, bytes_take, number_takes}
use Rattle.file_headers.specs.lemmas.StepLemmas.{stepped, ok_is}
use Rattle.file_headers.specs.Steps.{◌>>=◌}
use Rattle.machine_model.specs.Cue.{Away, Mine, CueSlot}
use Rattle.machine_model.specs.Emission.{AllHalted, AllReset, NoEvent, NotKept, OwnStill, OwnTraffic, Sight, Unseen, WholeEvent, Words}
use Rattle.file_headers.specs.Fields.{field_bytes, number_at}
use Rattle.cue_scripts.specs.Entries.{is_away}
use Rattle.cue_scripts.specs.Script.{CanHear, CanSee, IsOrder, is_shown}
use Rattle.cue_scripts.specs.Spelling.{event_byte, order_text, reset_byte, sight_text, traffic_text}
use Rattle.cue_scripts.specs.Reading.{event_at, event_of_byte, is_event, is_heard, is_sight, order_at, order_of_kind, put_message_at, reset_at, signal_at, take_at, cue_sight_at, sight_of_kind, traffic_at, traffic_of_kind, shown_words_at, script_short}
use Rattle.cue_scripts.proofs.FieldLemmas.{AreBytes-front, begins}
use Rattle.cue_scripts.proofs.TakeLemmas.{is_this, put_takes, signal_takes, take_takes, two}

-- what holds in a slot of the partition's own alone
abbrev pub InOwn : CueSlot → Type 0 → Type 0
InOwn Away P = Unit {0}
InOwn (Mine first) P = P

-- something that is heard is not heard in a slot of the partition's own
not_own : (most : ℕ) (mine : CueSlot) (kind : ℕ) (P : Type 0) → (kind == 0) ≡ false → is_heard most mine kind ≡ true → InOwn mine P
not_own most Away kind P some heard = tt
not_own most (Mine first) kind P some heard =
    let none = rw some at heard in
    absurd cc

-- nothing is heard anywhere
in_own : (mine : CueSlot) (P : Type 0) → P → InOwn mine P
in_own Away P holds = tt
in_own (Mine first) P holds = holds

-- of what is heard up to 3 it is the one that is left
three : (mine : CueSlot) (n : ℕ) → is_heard 3 mine n ≡ true → (n == 0) ≡ false → (n == 1) ≡ false → (n == 2) ≡ false → n ≡ 3
three Away n heard f0 f1 f2 =
    let few : nat_le n 3 ≡ true = rw f0 at heard in
    grind (arith, nat_tests, few, f0, f1, f2)
three (Mine first) n heard f0 f1 f2 =
    let none = rw f0 at heard in
    absurd cc

-- traffic that is read stands there
pub traffic_takes : (conf : Conf) (p : ℕ) (mine : CueSlot) (place : Place) (traffic : OwnTraffic) (after : Place) → AreBytes (ahead place) → traffic_at conf p mine place ≡ Ok (traffic, after)
    → Takes place (traffic_text traffic) after × CanHear conf p traffic × InOwn mine (traffic ≡ OwnStill)
unfolding traffic_at traffic_text
traffic_takes conf p mine place traffic after each e =
    let k = begins (is_heard 3 mine) (traffic_of_kind conf p) place (traffic, after) each e in
    at k.kind k.following k.passes k.first (k.kind == 0) (k.kind == 1) (k.kind == 2) refl refl refl k.led
  where
    at : (kind : ℕ) (following : Place) → is_heard 3 mine kind ≡ true → Takes place (kind ∷ []) following
        → (a b c : Bool) → (kind == 0) ≡ a → (kind == 1) ≡ b → (kind == 2) ≡ c
        → (if a then Ok (OwnStill, following) else if b then put_message_at conf p following else if c then take_at conf p following else signal_at conf p following) ≡ Ok (traffic, after)
        → Takes place (traffic_text traffic) after × CanHear conf p traffic × InOwn mine (traffic ≡ OwnStill)
    at kind following passes first true b c fa fb fc led =
        let P : OwnTraffic × Place → Type 0 = λ x. Takes place (traffic_text x.0) x.1 × CanHear conf p x.0 × InOwn mine (x.0 ≡ OwnStill) in
        subst P {x = (OwnStill, following)} (ok_is (OwnStill, following) (traffic, after) led) (rw (is_this kind 0 fa) at first, tt, in_own mine _ refl)
    at kind following passes first false true c fa fb fc led =
        let t = put_takes conf p place following traffic after (rw (is_this kind 1 fb) at first) led in
        (t.0, t.1, not_own 3 mine kind _ fa passes)
    at kind following passes first false false true fa fb fc led =
        let t = take_takes conf p place following traffic after (rw (is_this kind 2 fc) at first) led in
        (t.0, t.1, not_own 3 mine kind _ fa passes)
    at kind following passes first false false false fa fb fc led =
        let t = signal_takes conf p place following traffic after (rw (three mine kind passes fa fb fc) at first) led in
        (t.0, t.1, not_own 3 mine kind _ fa passes)

-- a reset that is read after its kind stands there
reset_takes : (mode : Mode) (place following : Place) (order : Option Order) (after : Place) → Takes place (reset_byte mode ∷ []) following → reset_at mode following ≡ Ok (order, after)
    → Takes place (order_text order) after × IsOrder order
unfolding reset_at order_text
reset_takes mode place following order after kind e =
    let s = stepped (number_at script_short w32 following) (λ status. Ok (Some (upon.Reset mode status.0), status.1)) (order, after) e in
    let t = number_takes script_short w32 (2 ^ 32) wide32 following s.value.0 s.value.1 kind.rest s.is in
    let P : Option Order × Place → Type 0 = λ x. Takes place (order_text x.0) x.1 × IsOrder x.0 in
    subst P {x = (Some (upon.Reset mode s.value.0), s.value.1)} (ok_is (Some (upon.Reset mode s.value.0), s.value.1) (order, after) s.led) (
      takes_both place (reset_byte mode ∷ []) following (to_be_bytes w32 s.value.0) s.value.1 kind t.0,
      t.1,
    )

-- of what is heard up to 6 it is the one that is left
six : (mine : CueSlot) (n : ℕ) → is_heard 6 mine n ≡ true → (n == 0) ≡ false → (n == 1) ≡ false → (n == 2) ≡ false → (n == 3) ≡ false → (n == 4) ≡ false → (n == 5) ≡ false → n ≡ 6
six Away n heard f0 f1 f2 f3 f4 f5 =
    let few : nat_le n 6 ≡ true = rw f0 at heard in
    grind (arith, nat_tests, few, f0, f1, f2, f3, f4, f5)
six (Mine first) n heard f0 f1 f2 f3 f4 f5 =
    let none = rw f0 at heard in
    absurd cc

-- an order that is read stands there
pub order_takes : (mine : CueSlot) (place : Place) (order : Option Order) (after : Place) → AreBytes (ahead place) → order_at mine place ≡ Ok (order, after)
    → Takes place (order_text order) after × IsOrder order × InOwn mine (order ≡ None)
unfolding order_at order_text
order_takes mine place order after each e =
    let k = begins (is_heard 6 mine) order_of_kind place (order, after) each e in
    let n = k.kind in
    at k.kind k.following k.passes k.first (n == 0) (n == 1) (n == 2) (n == 3) (n == 4) (n == 5) refl refl refl refl refl refl k.led
  where
    P : Option Order × Place → Type 0
    P x = Takes place (order_text x.0) x.1 × IsOrder x.0 × InOwn mine (x.0 ≡ None)

    at : (n : ℕ) (following : Place) → is_heard 6 mine n ≡ true → Takes place (n ∷ []) following
        → (b0 b1 b2 b3 b4 b5 : Bool) → (n == 0) ≡ b0 → (n == 1) ≡ b1 → (n == 2) ≡ b2 → (n == 3) ≡ b3 → (n == 4) ≡ b4 → (n == 5) ≡ b5
        → (if b0 then Ok (None, following) else if b1 then Ok (Some upon.Halt, following) else if b2 then Ok (Some upon.Suspend, following) else if b3 then Ok (Some upon.Resume, following)
        else if b4 then Ok (Some upon.Shutdown, following) else if b5 then reset_at mode.Cold following else reset_at mode.Warm following) ≡ Ok (order, after)
        → Takes place (order_text order) after × IsOrder order × InOwn mine (order ≡ None)
    at n following passes first true b1 b2 b3 b4 b5 f0 f1 f2 f3 f4 f5 led =
        subst P {x = (None, following)} (ok_is (None, following) (order, after) led) (rw (is_this n 0 f0) at first, tt, in_own mine _ refl)
    at n following passes first false true b2 b3 b4 b5 f0 f1 f2 f3 f4 f5 led =
        subst P {x = (Some upon.Halt, following)} (ok_is (Some upon.Halt, following) (order, after) led) (rw (is_this n 1 f1) at first, tt, not_own 6 mine n _ f0 passes)
    at n following passes first false false true b3 b4 b5 f0 f1 f2 f3 f4 f5 led =
        subst P {x = (Some upon.Suspend, following)} (ok_is (Some upon.Suspend, following) (order, after) led) (rw (is_this n 2 f2) at first, tt, not_own 6 mine n _ f0 passes)
    at n following passes first false false false true b4 b5 f0 f1 f2 f3 f4 f5 led =
        subst P {x = (Some upon.Resume, following)} (ok_is (Some upon.Resume, following) (order, after) led) (rw (is_this n 3 f3) at first, tt, not_own 6 mine n _ f0 passes)
    at n following passes first false false false false true b5 f0 f1 f2 f3 f4 f5 led =
        subst P {x = (Some upon.Shutdown, following)} (ok_is (Some upon.Shutdown, following) (order, after) led) (rw (is_this n 4 f4) at first, tt, not_own 6 mine n _ f0 passes)
    at n following passes first false false false false false true f0 f1 f2 f3 f4 f5 led =
        let t = reset_takes mode.Cold place following order after (rw (is_this n 5 f5) at first) led in
        (t.0, t.1, not_own 6 mine n _ f0 passes)
    at n following passes first false false false false false false f0 f1 f2 f3 f4 f5 led =
        let t = reset_takes mode.Warm place following order after (rw (six mine n passes f0 f1 f2 f3 f4 f5) at first) led in
        (t.0, t.1, not_own 6 mine n _ f0 passes)

-- of the events it is the halt, in the last cue
halt : (last : Bool) (n : ℕ) → is_event last n ≡ true → (n == 0) ≡ false → (n == 1) ≡ false → (n == 2) ≡ false → (n ≡ 3) × (last ≡ true)
halt last n passes f0 f1 f2 =
    let many : nat_le n 2 ≡ false = grind (arith, nat_tests, f0, f1, f2) in
    let three : (last && n == 3) ≡ true = rw many at passes in
    by last (n == 3) refl three
  where
    by : (l t : Bool) → (n == 3) ≡ t → (l && t) ≡ true → (n ≡ 3) × (l ≡ true)
    by true true f e = (eqb-true n 3 f, refl)
    by true false f e = absurd cc
    by false t f e = absurd cc

-- a hypervisor event that is read stands there, and a halt is the last one
pub event_takes : (last : Bool) (place : Place) (whole : WholeEvent) (after : Place) → AreBytes (ahead place) → event_at last place ≡ Ok (whole, after)
    → Takes place (event_byte whole ∷ []) after × (whole ≡ AllHalted → last ≡ true)
unfolding event_at
event_takes last place whole after each e =
    let k = begins (is_event last) (λ byte following. Ok (event_of_byte byte, following)) place (whole, after) each e in
    let n = k.kind in
    subst P (ok_is (event_of_byte n, k.following) (whole, after) k.led) (at n k.following k.passes k.first (n == 0) (n == 1) (n == 2) refl refl refl)
  where
    P : WholeEvent × Place → Type 0
    P x = Takes place (event_byte x.0 ∷ []) x.1 × (x.0 ≡ AllHalted → last ≡ true)

    at : (n : ℕ) (following : Place) → is_event last n ≡ true → Takes place (n ∷ []) following
        → (b0 b1 b2 : Bool) → (n == 0) ≡ b0 → (n == 1) ≡ b1 → (n == 2) ≡ b2
        → P (if b0 then NoEvent else if b1 then AllReset mode.Cold else if b2 then AllReset mode.Warm else AllHalted, following)
    at n following passes first true b1 b2 f0 f1 f2 = (rw (is_this n 0 f0) at first, λ halts. absurd cc)
    at n following passes first false true b2 f0 f1 f2 = (rw (is_this n 1 f1) at first, λ halts. absurd cc)
    at n following passes first false false true f0 f1 f2 = (rw (is_this n 2 f2) at first, λ halts. absurd cc)
    at n following passes first false false false f0 f1 f2 =
        let h = halt last n passes f0 f1 f2 in
        (rw h.0 at first, λ halts. h.1)

-- something that is seen is one of two, in a slot of a system partition's own
in_sight : (system : Bool) (mine : CueSlot) (n : ℕ) → (n == 0) ≡ false → is_sight system mine n ≡ true → (is_away mine ≡ false) × (system ≡ true) × (nat_le n 2 ≡ true)
in_sight system Away n some passes =
    let none = rw some at passes in
    absurd cc
in_sight true (Mine first) n some passes = (refl, refl, rw some at passes)
in_sight false (Mine first) n some passes =
    let none = rw some at passes in
    absurd cc

-- bytes that were shown, read after their kind, stand there
words_take : (system : Bool) (mine : CueSlot) (place following : Place) (seen : Sight) (after : Place) → (is_away mine ≡ false) × (system ≡ true) → Takes place (2 ∷ []) following → shown_words_at following ≡ Ok (seen, after)
    → Takes place (sight_text seen) after × CanSee system mine seen
unfolding shown_words_at sight_text
words_take system mine place following seen after in_own_slot kind e =
    let n = begins is_shown (λ count later. field_bytes script_short count later >>= λ bytes. Ok (Words bytes.0, bytes.1)) following (seen, after) kind.rest e in
    let b = stepped (field_bytes script_short n.kind n.following) (λ bytes. Ok (Words bytes.0, bytes.1)) (seen, after) n.led in
    let u = bytes_take script_short n.kind n.following b.value.0 b.value.1 n.first.rest b.is in
    let P : Sight × Place → Type 0 = λ x. Takes place (sight_text x.0) x.1 × CanSee system mine x.0 in
    let counted : Takes following (length b.value.0 ∷ []) n.following = rw u.1 n.first in
    subst P {x = (Words b.value.0, b.value.1)} (ok_is (Words b.value.0, b.value.1) (seen, after) b.led) (
      takes_both place (2 ∷ []) following (length b.value.0 ∷ b.value.0) b.value.1 kind
          (takes_both following (length b.value.0 ∷ []) n.following b.value.0 b.value.1 counted u.0),
      (in_own_slot.0, in_own_slot.1, rw u.1 n.passes, AreBytes-front b.value.0 (ahead b.value.1) (rw u.0.parts at n.first.rest)),
    )

-- a sight that is read stands there
pub sight_takes : (system : Bool) (mine : CueSlot) (place : Place) (seen : Sight) (after : Place) → AreBytes (ahead place) → cue_sight_at system mine place ≡ Ok (seen, after)
    → Takes place (sight_text seen) after × CanSee system mine seen
unfolding cue_sight_at sight_text
sight_takes system mine place seen after each e =
    let k = begins (is_sight system mine) sight_of_kind place (seen, after) each e in
    let n = k.kind in
    at n k.following k.passes k.first (n == 0) (n == 1) refl refl k.led
  where
    P : Sight × Place → Type 0
    P x = Takes place (sight_text x.0) x.1 × CanSee system mine x.0

    at : (n : ℕ) (following : Place) → is_sight system mine n ≡ true → Takes place (n ∷ []) following → (b0 b1 : Bool) → (n == 0) ≡ b0 → (n == 1) ≡ b1
        → (if b0 then Ok (Unseen, following) else if b1 then Ok (NotKept, following) else shown_words_at following) ≡ Ok (seen, after)
        → Takes place (sight_text seen) after × CanSee system mine seen
    at n following passes first true b1 f0 f1 led = subst P {x = (Unseen, following)} (ok_is (Unseen, following) (seen, after) led) (rw (is_this n 0 f0) at first, tt)
    at n following passes first false true f0 f1 led =
        let s = in_sight system mine n f0 passes in
        subst P {x = (NotKept, following)} (ok_is (NotKept, following) (seen, after) led) (rw (is_this n 1 f1) at first, (s.0, s.1))
    at n following passes first false false f0 f1 led =
        let s = in_sight system mine n f0 passes in
        words_take system mine place following seen after (s.0, s.1) (rw (two n s.2 f0 f1) at first) led
