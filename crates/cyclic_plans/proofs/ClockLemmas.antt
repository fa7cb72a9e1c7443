-- What runs in a tick, what is left of it, and what the next tick's clock is.
use Rattle.std.proofs.Common.{◌≡◌, ℕ, ◌+◌, ◌-◌, ◌<◌, ◌≤◌, List, Option, Some, None, refl, subst, length, arith}
use Rattle.std.specs.Prelude.{◌↔◌, ◌==◌, IfSome, IsNone, IsTrue, slice_get, unwrap_or}
use Rattle.std.proofs.lemmas.Bool.Decides.{nat_tests}
use Rattle.xm_base.specs.Options.{on}
use Rattle.xm_conf.specs.Configuration.{Conf}
use Rattle.xm_conf.specs.Description.{described}
use Rattle.xm_conf.specs.Fits.{Fits}
use Rattle.xm_conf.specs.declared.plan.Slot.{Slot}
use Rattle.cyclic_plans.specs.Slots.{Covers, slots_of, frame_of, slot_from, here_in, RunsIn, IsHere, IsGap}
use Rattle.cyclic_plans.specs.PlanClock.{CyclicClock, IsInFrame, frame_from, moment, slot_at, here, next_plan, AsksPlan, ticks_left}
use Rattle.cyclic_plans.specs.lemmas.PlanLemmas.{plan_fits, begins_in_frame}
use Rattle.cyclic_plans.proofs.SlotLemmas.{slot_from-found, slot_from-gap, slot_from-none}
use Rattle.cyclic_plans.proofs.StretchLemmas.{stretch_end-past, stretch_end-inside, stretch_end-alike}

-- what is reported of a slot that runs
runs_in : (moment number : ℕ) (slot : Slot) → Covers moment slot → RunsIn moment (here_in moment (number, slot)) slot
runs_in moment number slot runs = record { part = refl; covers = runs; first = first }
  where
    first : IsTrue (slot.start == moment) ↔ (slot.start ≡ moment)
    first = (λ is. grind (arith, nat_tests), λ is. grind (arith, nat_tests))

-- what is found to run is a slot that runs
pub here_covers : (conf : Conf) (clock : CyclicClock) (now : ℕ) → IfSome (here conf clock now) (IsHere (moment clock now) (slots_of conf clock.plan))
unfolding here slot_at
here_covers conf clock now = at (moment clock now) (slots_of conf clock.plan) (slot_from (moment clock now) 0 (slots_of conf clock.plan)) (slot_from-found (moment clock now) 0 (slots_of conf clock.plan))
  where
    at : (m : ℕ) (slots : List Slot) (o : Option (ℕ × Slot)) → IfSome o (λ found. (0 ≤ found.0) × (slice_get slots (found.0 - 0) ≡ Some found.1) × Covers m found.1)
        → IfSome (on (here_in m) o) (IsHere m slots)
    at m slots None there = tt
    at m slots (Some found) there =
        let place : found.0 - 0 ≡ found.0 = omega arith in
        let is = subst (λ (k : ℕ). slice_get slots k ≡ Some found.1) place there.1 in
        rw is (runs_in m found.0 found.1 there.2)

-- nothing is found to run in gaps, and there alone
pub here_gap : (conf : Conf) (clock : CyclicClock) (now : ℕ) → IsNone (here conf clock now) ↔ IsGap (moment clock now) (slots_of conf clock.plan)
unfolding here slot_at
here_gap conf clock now = at (moment clock now) (slots_of conf clock.plan) (slot_from (moment clock now) 0 (slots_of conf clock.plan)) refl
  where
    at : (m : ℕ) (slots : List Slot) (o : Option (ℕ × Slot)) → slot_from m 0 slots ≡ o → IsNone (on (here_in m) o) ↔ IsGap m slots
    at m slots None is = (λ none. slot_from-none m 0 slots is, λ gap. refl)
    at m slots (Some found) is = (λ none. absurd (let never : ⊥ = cc in never), λ gap. absurd (let never : ⊥ = cc (slot_from-gap m 0 slots gap) in never))

-- until the ticks are over, the same slot is found
pub ticks_alike : (conf : Conf) (clock : CyclicClock) (now : ℕ) → Fits (described conf) → IsInFrame conf clock now
    → (ticks : ℕ) → ticks < ticks_left conf clock now → slot_at conf clock (now + ticks) ≡ slot_at conf clock now
unfolding ticks_left slot_at
ticks_alike conf clock now fits in_frame ticks below =
    let plan = plan_fits conf clock.plan fits in_frame.plan in
    stretch_end-alike (frame_of conf clock.plan) (moment clock now) (moment clock (now + ticks)) (slots_of conf clock.plan) plan.in_turn (omega arith) (omega arith)

-- the ticks that are left lie in the frame
pub ticks_within : (conf : Conf) (clock : CyclicClock) (now : ℕ) → Fits (described conf) → IsInFrame conf clock now
    → now + ticks_left conf clock now ≤ clock.frame_start + frame_of conf clock.plan
unfolding ticks_left
ticks_within conf clock now fits in_frame =
    let plan = plan_fits conf clock.plan fits in_frame.plan in
    omega (arith, stretch_end-inside (frame_of conf clock.plan) (moment clock now) (slots_of conf clock.plan) plan.inside)

-- at least one tick is left
pub ticks_some : (conf : Conf) (clock : CyclicClock) (now : ℕ) → IsInFrame conf clock now → 0 < ticks_left conf clock now
unfolding ticks_left
ticks_some conf clock now in_frame =
    omega (arith, stretch_end-past (frame_of conf clock.plan) (moment clock now) (slots_of conf clock.plan) (omega arith))

-- the first tick of a frame is in that frame
pub entered_in_frame : (conf : Conf) (clock : CyclicClock) (now : ℕ) → Fits (described conf) → IsInFrame conf clock now → AsksPlan conf clock
    → IsInFrame conf (frame_from (next_plan clock) (now + 1)) (now + 1)
entered_in_frame conf clock now fits in_frame asks = begins_in_frame conf (next_plan clock) (now + 1) fits (next clock.asked asks)
  where
    next : (o : Option ℕ) → IfSome o (λ plan. plan < length conf.plans) → unwrap_or o clock.plan < length conf.plans
    next None asks = in_frame.plan
    next (Some plan) asks = asks
