-- A place in the plan this many ticks later, when none of them has an act that ends a stretch.
use Rattle.std.proofs.Common.{◌≡◌, ℕ, zero, suc, ◌+◌, ◌-◌, ◌<◌, ◌≤◌, ◌==◌, Bool, true, false, List, [], ◌∷◌, Option, None, Some, refl, sym, ap, ◌∙◌, subst, arith, if◌then◌else◌}
use Rattle.std.proofs.lemmas.Bool.Decides.{nat_tests}
use Rattle.std.specs.Prelude.{IfSome, slice_get}
use Rattle.cyclic_plans.specs.PlanClock.{CyclicClock, ended, frame_from, here, moment, next_plan, slot_at}
use Rattle.cyclic_plans.specs.Slots.{IsHere, covers, frame_of, here_in, slot_from, slots_of}
use Rattle.cyclic_plans.specs.declared.slots.Here.{Here}
use Rattle.xm_base.specs.Options.{on}
use Rattle.xm_conf.specs.Configuration.{Conf}
use Rattle.xm_conf.specs.declared.plan.Slot.{Slot}
use Rattle.machine_model.specs.Facts.{RunsKeepNumbers}
use Rattle.machine_model.specs.Machine as machine
use Rattle.machine_model.specs.Machine.{Machine, after, clock_after, happened, happened_by, local, next_clock, run, step, step_unless, turn_here, turn_of}
use Rattle.machine_model.specs.Emission as emission
use Rattle.machine_model.specs.Emission.{Act}
use Rattle.machine_model.specs.View.{System}
use Rattle.machine_model.specs.Whole.{event_of, time_after}
use Rattle.span_model.specs.lemmas.RunLemmas.{run_more}
use Rattle.span_engine.specs.Place.{IsAt}
use Rattle.span_engine.specs.lemmas.PlaceTerms.{past_first_tick, place_after}
use Rattle.tick_steps.specs.Quiet.{ends_in, ends_stretch}
use Rattle.span_engine.specs.declared.place.Place.{Place}
use Rattle.span_engine.specs.lemmas.PlaceLemmas.{runs_now, found_so}
use Rattle.tick_steps.specs.lemmas.QuietRunLemmas.{AllQuiet, quiet_runs}

-- an act that ends no stretch leaves the plan clock to itself, and the hardware clock goes on
clock_goes : (conf : Conf) (clock : CyclicClock) (time : ℕ) (act : Act) → ends_stretch act ≡ false → clock_after (event_of act) conf act clock time ≡ ended conf clock time
clock_goes conf clock time emission.Nothing goes = refl
clock_goes conf clock time (emission.Trades traffic) goes = refl
clock_goes conf clock time (emission.Upon id order) goes = absurd cc
clock_goes conf clock time (emission.Plans change) goes = absurd cc
clock_goes conf clock time (emission.UponAll event) goes = absurd cc

time_goes : (time : ℕ) (act : Act) → ends_stretch act ≡ false → time_after (event_of act) time ≡ time + 1
time_goes time emission.Nothing goes = refl
time_goes time (emission.Trades traffic) goes = refl
time_goes time (emission.Upon id order) goes = absurd cc
time_goes time (emission.Plans change) goes = absurd cc
time_goes time (emission.UponAll event) goes = absurd cc

-- inside a frame the plan clock stands
inside_frame : (conf : Conf) (clock : CyclicClock) (now : ℕ) → clock.frame_start ≤ now → now + 1 < clock.frame_start + frame_of conf clock.plan → ended conf clock now ≡ clock
unfolding ended
inside_frame conf clock now begun before =
    let inside : now + 1 - clock.frame_start < frame_of conf clock.plan = omega (arith, begun, before) in
    let goes : (now + 1 - clock.frame_start == frame_of conf clock.plan) ≡ false = grind (arith, nat_tests) in
    ap (λ (b : Bool). if b then frame_from (next_plan clock) (now + 1) else clock) goes

-- the clocks after a tick
step_clock : (g : Machine) → g.halted ≡ false → ends_in g ≡ false → (step g).clock ≡ ended g.system.conf g.clock g.time
unfolding step after happened happened_by ends_in next_clock
step_clock g runs goes = ap (λ (b : Bool). (step_unless b g).clock) runs ∙ clock_goes g.system.conf g.clock g.time (machine.act_of (local g)) goes

step_time : (g : Machine) → g.halted ≡ false → ends_in g ≡ false → (step g).time ≡ g.time + 1
unfolding step after happened happened_by ends_in
step_time g runs goes = ap (λ (b : Bool). (step_unless b g).time) runs ∙ time_goes g.time (machine.act_of (local g)) goes

-- the clocks after this many ticks of one frame
record IsInsideFrame (count : ℕ) (g : Machine) : Type 0 where
  pub clock : (run g count).clock ≡ g.clock
  pub time : (run g count).time ≡ g.time + count

inside_more : (g : Machine) (count : ℕ) → g.clock.frame_start ≤ g.time → g.time + suc count < g.clock.frame_start + frame_of g.system.conf g.clock.plan
    → (run g count).halted ≡ false → ends_in (run g count) ≡ false → (run g count).system ≡ g.system → IsInsideFrame count g → IsInsideFrame (suc count) g
inside_more g count begun before runs goes same is =
    let last : g.time + count + 1 ≡ g.time + suc count = omega arith in
    record {
      clock = ap (λ (m : Machine). m.clock) (run_more g count)
          ∙ step_clock (run g count) runs goes
          ∙ ap (λ (s : System). ended s.conf (run g count).clock (run g count).time) same
          ∙ ap (λ (c : CyclicClock). ended g.system.conf c (run g count).time) is.clock
          ∙ ap (λ (now : ℕ). ended g.system.conf g.clock now) is.time
          ∙ inside_frame g.system.conf g.clock (g.time + count) (omega (arith, begun)) (omega (arith, before));
      time = ap (λ (m : Machine). m.time) (run_more g count) ∙ step_time (run g count) runs goes ∙ ap (λ (now : ℕ). now + 1) is.time ∙ last;
    }

all_inside_frame : RunsKeepNumbers → (count : ℕ) (g : Machine) → g.halted ≡ false → AllQuiet count g → g.clock.frame_start ≤ g.time
    → g.time + count < g.clock.frame_start + frame_of g.system.conf g.clock.plan → IsInsideFrame count g
all_inside_frame keeps zero g runs quiet begun before = record { clock = refl; time = omega arith }
all_inside_frame keeps (suc count) g runs quiet begun before =
    inside_more g count begun before (quiet_runs count g runs (λ k below. quiet k (omega (arith, below)))) (quiet count (omega arith)) (keeps g count).system
    (all_inside_frame keeps count g runs (λ k below. quiet k (omega (arith, below))) begun (omega (arith, before)))

-- a slot that a search found stands at its number, and runs
record IsSlotFound (m base : ℕ) (slots : List Slot) (found : ℕ × Slot) : Type 0 where
  pub from : base ≤ found.0
  pub there : slice_get slots (found.0 - base) ≡ Some found.1
  pub runs : covers m found.1 ≡ true

slot_found_is : (m base : ℕ) (slots : List Slot) (found : ℕ × Slot) → slot_from m base slots ≡ Some found → IsSlotFound m base slots found
slot_found_is m base [] found is = absurd (let e : None ≡ Some found = is in cc)
slot_found_is m base (slot ∷ rest) found is = at (covers m slot) refl is (slot_found_is m (base + 1) rest found)
  where
    at : (b : Bool) → covers m slot ≡ b → (if b then Some (base, slot) else slot_from m (base + 1) rest) ≡ Some found
        → (slot_from m (base + 1) rest ≡ Some found → IsSlotFound m (base + 1) rest found) → IsSlotFound m base (slot ∷ rest) found
    at true runs this more =
        let pair : (base, slot) ≡ found = let e : Some (base, slot) ≡ Some found = this in cc in
        let number : base ≡ found.0 = ap (λ (x : ℕ × Slot). x.0) pair in
        let its : slot ≡ found.1 = ap (λ (x : ℕ × Slot). x.1) pair in
        let none : found.0 - base ≡ 0 = omega (arith, number) in
        record { from = omega (arith, number); there = ap (slice_get (slot ∷ rest)) none ∙ ap (λ (x : Slot). Some x) its; runs = ap (covers m) (sym its) ∙ runs }
    at false runs this more =
        let following = more this in
        let place : found.0 - base ≡ suc (found.0 - (base + 1)) = omega (arith, following.from) in
        record { from = omega (arith, following.from); there = ap (slice_get (slot ∷ rest)) place ∙ following.there; runs = following.runs }

-- what is reported of a tick, by what is found
here_by : (conf : Conf) (clock : CyclicClock) (now : ℕ) (found : Option (ℕ × Slot)) → slot_at conf clock now ≡ found → here conf clock now ≡ on (here_in (moment clock now)) found
unfolding here
here_by conf clock now found is = ap (on (here_in (moment clock now))) is

found_there : (conf : Conf) (clock : CyclicClock) (now : ℕ) (found : ℕ × Slot) → slot_at conf clock now ≡ Some found → IsSlotFound (moment clock now) 0 (slots_of conf clock.plan) found
unfolding slot_at
found_there conf clock now found is = slot_found_is (moment clock now) 0 (slots_of conf clock.plan) found is

-- a slot that runs begins with no later tick
not_first : (m n : ℕ) (s : Slot) → covers m s ≡ true → m < n → (s.start == n) ≡ false
not_first m n s runs less = let start = (runs_now m s runs).0 in grind (arith, nat_tests)

-- what is reported of the same slot or gap this many ticks later
record IsLater (conf : Conf) (clock : CyclicClock) (now ticks : ℕ) (slot : Option Here) : Type 0 where
  pub reported : on past_first_tick slot ≡ here conf clock (now + ticks)
  pub covers : IfSome (on past_first_tick slot) (IsHere (moment clock (now + ticks)) (slots_of conf clock.plan))

found_later : (conf : Conf) (clock : CyclicClock) (now ticks : ℕ) (slot : Option Here) → clock.frame_start ≤ now → 0 < ticks → slot ≡ here conf clock now
    → slot_at conf clock (now + ticks) ≡ slot_at conf clock now → IsLater conf clock now ticks slot
found_later conf clock now ticks slot begun some is same = at (slot_at conf clock now) refl
  where
    at : (o : Option (ℕ × Slot)) → slot_at conf clock now ≡ o → IsLater conf clock now ticks slot
    at None none =
        let reported : on past_first_tick slot ≡ None = ap (on past_first_tick) (is ∙ here_by conf clock now None none) in
        record {
          reported = reported ∙ sym (here_by conf clock (now + ticks) None (same ∙ none));
          covers = subst (λ (o : Option Here). IfSome o (IsHere (moment clock (now + ticks)) (slots_of conf clock.plan))) (sym reported) tt;
        }
    at (Some found) this =
        let before = found_there conf clock now found this in
        let following = found_there conf clock (now + ticks) found (same ∙ this) in
        let number : found.0 - 0 ≡ found.0 = omega arith in
        let first : (found.1.start == moment clock (now + ticks)) ≡ false =
        not_first (moment clock now) (moment clock (now + ticks)) found.1 before.runs (omega (arith, begun, some)) in
        let its : past_first_tick (here_in (moment clock now) found) ≡ here_in (moment clock (now + ticks)) found =
        ap (λ (b : Bool). record { slot = found.0; part = found.1.part; first = b }) (sym first) in
        let reported : on past_first_tick slot ≡ Some (here_in (moment clock (now + ticks)) found) =
        ap (on past_first_tick) (is ∙ here_by conf clock now (Some found) this) ∙ ap (λ (h : Here). Some h) its in
        record {
          reported = reported ∙ sym (here_by conf clock (now + ticks) (Some found) (same ∙ this));
          covers = subst (λ (o : Option Here). IfSome o (IsHere (moment clock (now + ticks)) (slots_of conf clock.plan))) (sym reported)
              (found_so (moment clock (now + ticks)) found.0 (slots_of conf clock.plan) found.1 (ap (slice_get (slots_of conf clock.plan)) (sym number) ∙ following.there) following.runs);
        }

-- a place this many ticks later
pub later_at : RunsKeepNumbers → (g mid : Machine) (place : Place) (ticks : ℕ) → IsAt place g → 0 < ticks → ticks < place.left → mid ≡ run g ticks → g.halted ≡ false → AllQuiet ticks g
    → IsAt (place_after ticks place) mid
later_at keeps g mid place ticks at some less is runs quiet = record {
  slot = carried (λ (s : System) (c : CyclicClock) (now : ℕ). on past_first_tick place.slot ≡ here s.conf c now) later.reported;
  covers = carried (λ (s : System) (c : CyclicClock) (now : ℕ). IfSome (on past_first_tick place.slot) (IsHere (moment c now) (slots_of s.conf c.plan))) later.covers;
  stretch = record {
    alike = carried (λ (s : System) (c : CyclicClock) (now : ℕ). (k : ℕ) → k < place.left - ticks → slot_at s.conf c (now + k) ≡ slot_at s.conf c now) (λ k below. alike k (omega (arith, below, less)));
    within = carried (λ (s : System) (c : CyclicClock) (now : ℕ). now + (place.left - ticks) ≤ c.frame_start + frame_of s.conf c.plan) (let within = at.stretch.within in omega (arith, within, less));
  };
  begun = carried (λ (s : System) (c : CyclicClock) (now : ℕ). c.frame_start ≤ now) (let begun = at.begun in omega (arith, begun));
  some = omega (arith, less);
}
  where
    inside : IsInsideFrame ticks g
    inside = all_inside_frame keeps ticks g runs quiet at.begun (let within = at.stretch.within in omega (arith, within, less))

    later : IsLater g.system.conf g.clock g.time ticks place.slot
    later = found_later g.system.conf g.clock g.time ticks place.slot at.begun some at.slot (at.stretch.alike ticks less)

    alike : (k : ℕ) → ticks + k < place.left → slot_at g.system.conf g.clock (g.time + ticks + k) ≡ slot_at g.system.conf g.clock (g.time + ticks)
    alike k below =
        let there : g.time + ticks + k ≡ g.time + (ticks + k) = omega arith in
        ap (slot_at g.system.conf g.clock) there ∙ at.stretch.alike (ticks + k) below ∙ sym (at.stretch.alike ticks less)

    carried : (P : System → CyclicClock → ℕ → Type 0) → P g.system g.clock (g.time + ticks) → P mid.system mid.clock mid.time
    carried P holds =
        subst (λ (s : System). P s mid.clock mid.time) (sym (ap (λ (m : Machine). m.system) is ∙ (keeps g ticks).system))
        (subst (λ (c : CyclicClock). P g.system c mid.time) (sym (ap (λ (m : Machine). m.clock) is ∙ inside.clock))
        (subst (λ (now : ℕ). P g.system g.clock now) (sym (ap (λ (m : Machine). m.time) is ∙ inside.time)) holds))

-- whose slot a machine at a place is in
pub turn_at : (place : Place) (g : Machine) → IsAt place g → turn_here place.slot ≡ turn_of g
unfolding turn_of
turn_at place g at = ap turn_here at.slot
