-- While no tick steers the plan, the slots are the plan's.
use Rattle.std.proofs.Common.{◌≡◌, ℕ, zero, suc, ◌<◌, ◌+◌, ◌-◌, ◌%◌, Bool, true, false, None, refl, sym, ap, ◌∙◌, arith, subst}
use Rattle.std.specs.Prelude.{if◌then◌else◌, unwrap_or}
use Rattle.std.proofs.Math.Nat.{add-mod_right, mod-eq_of_lt}
use Rattle.std.proofs.lemmas.Bool.{eqb-true}
use Rattle.std.proofs.lemmas.Bool.Decides.{nat_tests}
use Rattle.cyclic_plans.specs.PlanClock.{CyclicClock, IsInFrame, ended, ends_frame, frame_from, here, moment, next_plan, slot_at}
use Rattle.cyclic_plans.specs.Slots.{frame_of}
use Rattle.xm_conf.specs.Configuration.{Conf}
use Rattle.machine_model.specs.Machine.{Machine, after, clock_after, happened, is_halt, next_clock, next_plan_clock, step, turn_of}
use Rattle.machine_laws.specs.Planned.{GoesAsPlanned, IsCalmTick, IsPlanned, planned_turn}
use Rattle.machine_model.specs.lemmas.TickLemmas.{step_runs}
use Rattle.machine_model.specs.Whole.{time_after}
use Rattle.machine_model.specs.Facts.{KeepsNumbers}

-- the clock after a calm tick
record Follows (conf : Conf) (clock next : CyclicClock) (now k : ℕ) : Type 0 where
  plan : next.plan ≡ clock.plan
  asked : next.asked ≡ None
  in_frame : IsInFrame conf next (now + 1)
  moment_is : (moment next (now + 1) + k) % frame_of conf clock.plan ≡ (moment clock now + suc k) % frame_of conf clock.plan

-- this many places on, over the end of a frame
wraps : (frame at k : ℕ) → at + 1 ≡ frame → k % frame ≡ (at + suc k) % frame
wraps frame at k is = sym (ap (λ n. n % frame) (let e : at + suc k ≡ k + frame = omega (arith, is) in e) ∙ add-mod_right k frame)

not_ended : (conf : Conf) (clock : CyclicClock) (now : ℕ) → IsInFrame conf clock now → ends_frame conf clock now ≡ false → now + 1 < clock.frame_start + frame_of conf clock.plan
not_ended conf clock now inside test = let first = inside.before_end in let second = inside.begun in grind (arith, nat_tests)

follows : (conf : Conf) (clock : CyclicClock) (now k : ℕ) → IsInFrame conf clock now → clock.asked ≡ None → Follows conf clock (ended conf clock now) now k
unfolding ended
follows conf clock now k inside none = by (ends_frame conf clock now) refl
  where
    same_plan : next_plan clock ≡ clock.plan
    same_plan = ap (λ o. unwrap_or o clock.plan) none

    by : (b : Bool) → ends_frame conf clock now ≡ b → Follows conf clock (if b then frame_from (next_plan clock) (now + 1) else clock) now k
    by true ends =
        let is : now + 1 - clock.frame_start ≡ frame_of conf clock.plan = eqb-true (now + 1 - clock.frame_start) (frame_of conf clock.plan) ends in
        record {
          plan = same_plan;
          asked = refl;
          in_frame = subst (λ plan. IsInFrame conf (frame_from plan (now + 1)) (now + 1)) (sym same_plan) (record {
            plan = inside.plan;
            begun = omega arith;
            before_end = omega (arith, is, inside.begun);
          });
          moment_is = ap (λ n. n % frame_of conf clock.plan) (let e : now + 1 - (now + 1) + k ≡ k = omega arith in e)
              ∙ wraps (frame_of conf clock.plan) (now - clock.frame_start) k (omega (arith, is, inside.begun));
        }
    by false goes =
        record {
          plan = refl;
          asked = none;
          in_frame = record { plan = inside.plan; begun = omega (arith, inside.begun); before_end = not_ended conf clock now inside goes };
          moment_is = ap (λ n. n % frame_of conf clock.plan) (omega (arith, inside.begun));
        }

-- the machine after a calm tick
record Calms (g : Machine) : Type 0 where
  halted : (step g).halted ≡ false
  time : (step g).time ≡ g.time + 1
  clock : (step g).clock ≡ ended g.system.conf g.clock g.time

after_halted : (g : Machine) → (after g (happened g)).halted ≡ is_halt (happened g).event
unfolding after
after_halted g = refl

after_time : (g : Machine) → (after g (happened g)).time ≡ time_after (happened g).event g.time
unfolding after
after_time g = refl

after_clock : (g : Machine) → (after g (happened g)).clock ≡ clock_after (happened g).event g.system.conf (happened g).act g.clock g.time
unfolding after next_clock
after_clock g = refl

calms : (g : Machine) → g.halted ≡ false → IsCalmTick g → Calms g
calms g runs calm = record {
  halted = ap (λ (m : Machine). m.halted) (step_runs g runs) ∙ after_halted g ∙ ap is_halt calm.event;
  time = ap (λ (m : Machine). m.time) (step_runs g runs) ∙ after_time g ∙ ap (λ e. time_after e g.time) calm.event;
  clock = ap (λ (m : Machine). m.clock) (step_runs g runs) ∙ after_clock g ∙ ap (λ e. clock_after e g.system.conf (happened g).act g.clock g.time) calm.event
      ∙ ap (λ change. next_plan_clock change g.system.conf g.clock g.time) calm.plan;
}

-- the slot of a moment of the frame
turn_is : (g : Machine) → turn_of g ≡ planned_turn g.system.conf g.clock.plan (moment g.clock g.time)
unfolding turn_of planned_turn here slot_at
turn_is g = refl

-- a tick more
more_planned : (g : Machine) (k : ℕ) → (step g).system ≡ g.system → (step g).time ≡ g.time + 1 → Follows g.system.conf g.clock (step g).clock g.time k → IsPlanned (step g) k → IsPlanned g (suc k)
more_planned g k same time next rest = record {
  goes_on = rest.goes_on;
  time = rest.time ∙ ap (λ t. t + k) time ∙ (let e : g.time + 1 + k ≡ g.time + suc k = omega arith in e);
  plan = rest.plan ∙ next.plan;
  turn = rest.turn
      ∙ ap (λ s. planned_turn s.conf (step g).clock.plan ((moment (step g).clock (step g).time + k) % frame_of s.conf (step g).clock.plan)) same
      ∙ ap (λ t. planned_turn g.system.conf (step g).clock.plan ((moment (step g).clock t + k) % frame_of g.system.conf (step g).clock.plan)) time
      ∙ ap (λ plan. planned_turn g.system.conf plan ((moment (step g).clock (g.time + 1) + k) % frame_of g.system.conf plan)) next.plan
      ∙ ap (planned_turn g.system.conf g.clock.plan) next.moment_is;
}

pub goes_as_planned : KeepsNumbers → GoesAsPlanned
goes_as_planned numbers g zero runs inside none calm = record {
  goes_on = runs;
  time = omega arith;
  plan = refl;
  turn = turn_is g ∙ ap (planned_turn g.system.conf g.clock.plan) (sym (mod-eq_of_lt (omega (arith, inside.begun, inside.before_end)))
      ∙ ap (λ n. n % frame_of g.system.conf g.clock.plan) (omega arith));
}
goes_as_planned numbers g (suc k) runs inside none calm =
    let tick : Calms g = calms g runs (calm 0 (omega arith)) in
    let next : Follows g.system.conf g.clock (step g).clock g.time k =
    subst (λ clock. Follows g.system.conf g.clock clock g.time k) (sym tick.clock) (follows g.system.conf g.clock g.time k inside none) in
    more_planned g k (numbers g).system tick.time next
    (goes_as_planned numbers (step g) k tick.halted
    (subst (λ s. IsInFrame s.conf (step g).clock (step g).time) (sym (numbers g).system) (subst (λ t. IsInFrame g.system.conf (step g).clock t) (sym tick.time) next.in_frame))
    next.asked (λ j below. calm (suc j) (omega (arith, below))))
