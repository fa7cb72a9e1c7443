-- Where no partition may steer others, the slots are those of plan 0.
use Rattle.std.proofs.Common.{◌≡◌, ℕ, zero, suc, ◌%◌, Some, false, refl, sym, ap, ◌∙◌, arith, subst}
use Rattle.std.specs.Prelude.{slice_get}
use Rattle.cyclic_plans.specs.PlanClock.{IsInFrame, started as clock_started}
use Rattle.cyclic_plans.specs.Slots.{frame_of}
use Rattle.xm_conf.specs.Configuration.{Plan}
use Rattle.xm_conf.specs.Description.{described}
use Rattle.xm_conf.specs.Fits.{Fits}
use Rattle.machine_model.specs.Facts.{BootsClocked, KeepsNumbers}
use Rattle.machine_model.specs.Machine.{Machine, act_of, happened, happened_by, local, run, start, step}
use Rattle.machine_laws.specs.Planned.{GoesAsPlanned, IsCalmTick, IsPlanned, planned_turn}
use Rattle.machine_model.specs.Emission.{reach_of}
use Rattle.machine_model.specs.View.{System}
use Rattle.machine_laws.specs.Served.{BeginsFrame, ServesNeeds}
use Rattle.flow_laws.specs.Planned.{IsAsPlanned, NeedsAreServed, SlotsAsPlanned}
use Rattle.xm_flows.specs.Rights.{ActsByRight, IsUnsteered}
use Rattle.xm_flows.specs.lemmas.CalmLemmas.{act_calm, calm_event, calm_reach, start_asks, start_plain}

act_is : (g : Machine) → (happened g).act ≡ act_of (local g)
unfolding happened happened_by
act_is g = refl

event_is : (g : Machine) → (happened g).event ≡ (reach_of (act_of (local g))).event
unfolding happened happened_by
event_is g = refl

tick_calm : ActsByRight → (g : Machine) → IsUnsteered g.system.conf → IsCalmTick g
tick_calm rights g plain = record {
  plan = ap (λ act. (reach_of act).plan) (act_is g) ∙ calm_reach (act_of (local g)) (act_calm rights g plain);
  event = event_is g ∙ calm_event (act_of (local g)) (act_calm rights g plain);
}

run_calm : ActsByRight → KeepsNumbers → (count : ℕ) (g : Machine) → IsUnsteered g.system.conf → IsCalmTick (run g count)
run_calm rights numbers zero g plain = tick_calm rights g plain
run_calm rights numbers (suc count) g plain = run_calm rights numbers count (step g) (subst (λ (system : System). IsUnsteered system.conf) (sym (numbers g).system) plain)

begins : (system : System) (k : ℕ) → IsPlanned (start system) k → IsAsPlanned system k
unfolding start clock_started
begins system k planned = record {
  goes_on = planned.goes_on;
  time = planned.time ∙ omega arith;
  plan = planned.plan;
  turn = planned.turn ∙ ap (λ n. planned_turn system.conf 0 (n % frame_of system.conf 0)) (omega arith);
}

start_runs : (system : System) → (start system).halted ≡ false
unfolding start
start_runs system = refl

pub slots_as_planned : ActsByRight → KeepsNumbers → BootsClocked → GoesAsPlanned → SlotsAsPlanned
slots_as_planned rights numbers boots goes system k fits plain =
    begins system k (goes (start system) k (start_runs system) (boots system fits).in_frame (start_asks system)
    (λ j below. run_calm rights numbers j (start system) (start_plain system plain)))

-- the first frame of plan 0 begins as the machine boots
boot_begins : (system : System) (plan : Plan) → Fits (described system.conf) → IsInFrame (start system).system.conf (start system).clock (start system).time → slice_get system.conf.plans 0 ≡ Some plan
    → BeginsFrame (start system) plan
unfolding start clock_started
boot_begins system plan fits inside there = record { fits = fits; goes_on = refl; in_frame = inside; first = refl; unasked = refl; there = there }

pub needs_are_served : ActsByRight → KeepsNumbers → BootsClocked → ServesNeeds → NeedsAreServed
needs_are_served rights numbers boots serves system p plan need window fits plain there met =
    serves (start system) p plan need window (boot_begins system plan fits (boots system fits).in_frame there) met
    (λ j below. run_calm rights numbers j (start system) (start_plain system plain))
