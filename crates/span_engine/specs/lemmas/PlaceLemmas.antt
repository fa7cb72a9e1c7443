-- The slot of a number that runs is the one that a search finds, and runs until its end.
use Rattle.std.proofs.Common.{◌≡◌, ℕ, zero, suc, ◌+◌, ◌-◌, ◌<◌, ◌≤◌, Bool, true, false, List, [], ◌∷◌, Option, None, Some, refl, sym, ap, ◌∙◌, subst, arith, if◌then◌else◌}
use Rattle.std.proofs.lemmas.Bool.Decides.{nat_tests}
use Rattle.std.proofs.lemmas.Option.{get_or_from_slice_get, slice_get_within}
use Rattle.std.specs.Prelude.{All, IfSome, slice_get}
use Rattle.cyclic_plans.specs.PlanClock.{CyclicClock, IsInFrame, here, moment, slot_at, ticks_left}
use Rattle.cyclic_plans.specs.lemmas.PlanLemmas.{IsPlan, plan_fits}
use Rattle.cyclic_plans.specs.Slots.{IsHere, covers, slot_or_gap_end, frame_of, here_in, slot_from, slots_of}
use Rattle.xm_base.specs.Options.{on}
use Rattle.xm_conf.specs.Configuration.{Conf}
use Rattle.xm_conf.specs.Description.{described}
use Rattle.xm_conf.specs.Fits.{Fits, InFrame, InTurn}
use Rattle.xm_conf.specs.declared.plan.Slot.{Slot}
use Rattle.machine_model.specs.Machine.{Machine}
use Rattle.span_model.specs.Spans.{IsStretch}
use Rattle.span_engine.specs.Place.{IsPlace}
use Rattle.span_engine.specs.lemmas.PlaceTerms.{place_numbered}
use Rattle.span_engine.specs.declared.place.Place.{Place}

-- fewer ticks of a stretch are one
pub fewer_ticks : (g : Machine) (left most : ℕ) → most ≤ left → IsStretch g left → IsStretch g most
fewer_ticks g left most fewer stretch = record {
  alike = λ k below. stretch.alike k (omega (arith, below, fewer));
  within = let within = stretch.within in omega (arith, within, fewer);
}

-- slots in turn without the first
turn_after : (slot : Slot) (rest : List Slot) → InTurn (slot ∷ rest) → InTurn rest
turn_after slot rest turn n d below = let e : suc n + 1 ≡ suc (n + 1) = omega arith in rw e at (turn (suc n) d (omega (arith, below)))

-- a slot begins at or after the end of one before it
ends_before : (slot : Slot) (rest : List Slot) (n : ℕ) (s : Slot) → InTurn (slot ∷ rest) → slice_get rest n ≡ Some s → slot.start + slot.duration ≤ s.start
ends_before slot [] n s turn is = absurd (let e : None ≡ Some s = is in cc)
ends_before slot (next ∷ rest) zero s turn is =
    let same : next ≡ s = let e : Some next ≡ Some s = is in cc in
    subst (λ (x : Slot). slot.start + slot.duration ≤ x.start) same (turn 0 slot (omega arith))
ends_before slot (next ∷ rest) (suc n) s turn is =
    let first : slot.start + slot.duration ≤ next.start = turn 0 slot (omega arith) in
    let later = ends_before next rest n s (turn_after slot (next ∷ rest) turn) is in
    omega (arith, first, later)

-- the slot of a number that runs is the one that is found
pub found_at : (m base n : ℕ) (slots : List Slot) (s : Slot) → InTurn slots → slice_get slots n ≡ Some s → covers m s ≡ true → slot_from m base slots ≡ Some (base + n, s)
found_at m base n [] s turn is runs = absurd (let e : None ≡ Some s = is in cc)
found_at m base zero (slot ∷ rest) s turn is runs =
    let same : slot ≡ s = let e : Some slot ≡ Some s = is in cc in
    let here : covers m slot ≡ true = ap (covers m) same ∙ runs in
    let place : base ≡ base + zero = omega arith in
    ap (λ (b : Bool). if b then Some (base, slot) else slot_from m (base + 1) rest) here
    ∙ ap (λ (x : Slot). Some (base, x)) same ∙ ap (λ (k : ℕ). Some (k, s)) place
found_at m base (suc n) (slot ∷ rest) s turn is runs =
    let before = ends_before slot rest n s turn is in
    let past : covers m slot ≡ false = grind (arith, nat_tests) in
    let place : base + 1 + n ≡ base + suc n = omega arith in
    ap (λ (b : Bool). if b then Some (base, slot) else slot_from m (base + 1) rest) past
    ∙ found_at m (base + 1) n rest s (turn_after slot rest turn) is runs
    ∙ ap (λ (k : ℕ). Some (k, s)) place

-- what a search answers of the slot that it finds
here_found : (conf : Conf) (clock : CyclicClock) (now number : ℕ) (s : Slot) → slot_from (moment clock now) 0 (slots_of conf clock.plan) ≡ Some (number, s)
    → here conf clock now ≡ Some (here_in (moment clock now) (number, s))
unfolding here slot_at
here_found conf clock now number s is = ap (on (here_in (moment clock now))) is

slot_found : (conf : Conf) (clock : CyclicClock) (now number : ℕ) (s : Slot) → slot_from (moment clock now) 0 (slots_of conf clock.plan) ≡ Some (number, s) → slot_at conf clock now ≡ Some (number, s)
unfolding slot_at
slot_found conf clock now number s is = is

left_found : (conf : Conf) (clock : CyclicClock) (now number : ℕ) (s : Slot) → slot_from (moment clock now) 0 (slots_of conf clock.plan) ≡ Some (number, s)
    → s.start + s.duration - moment clock now ≡ ticks_left conf clock now
unfolding ticks_left
left_found conf clock now number s is =
    sym (ap (λ (found : Option (ℕ × Slot)). slot_or_gap_end (frame_of conf clock.plan) (moment clock now) (slots_of conf clock.plan) found - moment clock now) is)

-- it runs up to its end
runs_on : (m k : ℕ) (s : Slot) → covers m s ≡ true → k < s.start + s.duration - m → covers (m + k) s ≡ true
runs_on m k s runs below = grind (arith, nat_tests)

pub runs_now : (m : ℕ) (s : Slot) → covers m s ≡ true → (s.start ≤ m) × (m < s.start + s.duration)
runs_now m s runs = (grind (arith, nat_tests), grind (arith, nat_tests))

-- it is found so
pub found_so : (m number : ℕ) (slots : List Slot) (s : Slot) → slice_get slots number ≡ Some s → covers m s ≡ true → IsHere m slots (here_in m (number, s))
found_so m number slots s is runs = rw is (record { part = refl; covers = runs_now m s runs; first = (λ first. grind (arith, nat_tests), λ first. grind (arith, nat_tests)) })

-- and it ends in its frame
ends_inside : (frame number : ℕ) (slots : List Slot) (s : Slot) → All (InFrame frame) slots → slice_get slots number ≡ Some s → s.start + s.duration ≤ frame
ends_inside frame number slots s inside is =
    let same = get_or_from_slice_get slots number s s is in
    (rw same at (inside number s (slice_get_within slots number s is))).inside

-- the place in a slot that runs
in_place : (g : Machine) (number : ℕ) (s : Slot) → Fits (described g.system.conf) → IsInFrame g.system.conf g.clock g.time
    → slice_get (slots_of g.system.conf g.clock.plan) number ≡ Some s → covers (moment g.clock g.time) s ≡ true
    → IsPlace (record { slot = Some (here_in (moment g.clock g.time) (number, s)); left = s.start + s.duration - moment g.clock g.time }) g
in_place g number s fits in_frame is runs =
    let plan : IsPlan g.system.conf g.clock.plan = plan_fits g.system.conf g.clock.plan fits in_frame.plan in
    let begun = in_frame.begun in
    let now = runs_now (moment g.clock g.time) s runs in
    record {
      at = record {
        slot = sym (here_found g.system.conf g.clock g.time number s (found plan (moment g.clock g.time) runs));
        covers = found_so (moment g.clock g.time) number (slots_of g.system.conf g.clock.plan) s is runs;
        stretch = record {
          alike = λ k below.
              let there : moment g.clock (g.time + k) ≡ moment g.clock g.time + k = omega (arith, begun) in
              slot_found g.system.conf g.clock (g.time + k) number s (found plan (moment g.clock (g.time + k)) (ap (λ m. covers m s) there ∙ runs_on (moment g.clock g.time) k s runs below))
              ∙ sym (slot_found g.system.conf g.clock g.time number s (found plan (moment g.clock g.time) runs));
          within = let ends = ends_inside (frame_of g.system.conf g.clock.plan) number (slots_of g.system.conf g.clock.plan) s plan.inside is in omega (arith, ends, begun, now.0, now.1);
        };
        begun = begun;
        some = omega (arith, now.0, now.1);
      };
      left = left_found g.system.conf g.clock g.time number s (found plan (moment g.clock g.time) runs);
    }
  where
    found : IsPlan g.system.conf g.clock.plan → (m : ℕ) → covers m s ≡ true → slot_from m 0 (slots_of g.system.conf g.clock.plan) ≡ Some (number, s)
    found plan m covered =
        let count : 0 + number ≡ number = omega arith in
        found_at m 0 number (slots_of g.system.conf g.clock.plan) s plan.in_turn is covered ∙ ap (λ (k : ℕ). Some (k, s)) count

-- what is found by its number is the place
pub place_is : (g : Machine) (number : ℕ) (place : Place) → Fits (described g.system.conf) → IsInFrame g.system.conf g.clock g.time
    → place_numbered (moment g.clock g.time) number (slice_get (slots_of g.system.conf g.clock.plan) number) ≡ Some place → IsPlace place g
place_is g number place fits in_frame is = at (slice_get (slots_of g.system.conf g.clock.plan) number) refl is
  where
    slot : (s : Slot) (b : Bool) → slice_get (slots_of g.system.conf g.clock.plan) number ≡ Some s → covers (moment g.clock g.time) s ≡ b
        → (if b then Some (record { slot = Some (here_in (moment g.clock g.time) (number, s)); left = s.start + s.duration - moment g.clock g.time }) else None) ≡ Some place → IsPlace place g
    slot s false there runs found = absurd (let e : None ≡ Some place = found in cc)
    slot s true there runs found =
        let same : record { slot = Some (here_in (moment g.clock g.time) (number, s)); left = s.start + s.duration - moment g.clock g.time } ≡ place = cc in
        subst (λ (x : Place). IsPlace x g) same (in_place g number s fits in_frame there runs)

    at : (o : Option Slot) → slice_get (slots_of g.system.conf g.clock.plan) number ≡ o → place_numbered (moment g.clock g.time) number o ≡ Some place → IsPlace place g
    at None there found = absurd (let e : None ≡ Some place = found in cc)
    at (Some s) there found = slot s (covers (moment g.clock g.time) s) there refl found

-- and where one is found, at a moment and among slots that are these
pub near_is : (g : Machine) (m number : ℕ) (slots : List Slot) (found : Option Place) → Fits (described g.system.conf) → IsInFrame g.system.conf g.clock g.time
    → m ≡ moment g.clock g.time → slots ≡ slots_of g.system.conf g.clock.plan → found ≡ place_numbered m number (slice_get slots number) → IfSome found (λ place. IsPlace place g)
near_is g m number slots found fits in_frame m_is slots_are is = at found (sym (here ∙ there) ∙ sym is)
  where
    here : place_numbered m number (slice_get slots number) ≡ place_numbered (moment g.clock g.time) number (slice_get slots number)
    here = ap (λ (k : ℕ). place_numbered k number (slice_get slots number)) m_is

    there : place_numbered (moment g.clock g.time) number (slice_get slots number) ≡ place_numbered (moment g.clock g.time) number (slice_get (slots_of g.system.conf g.clock.plan) number)
    there = ap (λ (s : List Slot). place_numbered (moment g.clock g.time) number (slice_get s number)) slots_are

    at : (o : Option Place) → place_numbered (moment g.clock g.time) number (slice_get (slots_of g.system.conf g.clock.plan) number) ≡ o → IfSome o (λ place. IsPlace place g)
    at None none = tt
    at (Some place) some = place_is g number place fits in_frame some
