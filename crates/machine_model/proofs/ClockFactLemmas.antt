-- The plan clock stays inside its frame, on plans that there are.
use Rattle.std.proofs.Common.{◌≡◌, ℕ, zero, suc, ◌<◌, ◌≤◌, ◌+◌, Bool, true, false, List, [], ◌∷◌, length, Option, None, Some, refl, sym, arith, subst}
use Rattle.std.specs.Prelude.{slice_get, slice_index_or, ◌==◌, ◌-◌, nat_lt, if◌then◌else◌, map, IfSome, unwrap_or, All}
use Rattle.std.proofs.lemmas.Bool.Decides.{nat_tests}
use Rattle.std.proofs.lemmas.List.Elements.{All-head, All-tail}
use Rattle.cyclic_plans.specs.PlanClock.{AsksPlan, CyclicClock, IsInFrame, ended, ends_frame, frame_from, in_maintenance, next_plan, started as clock_started}
use Rattle.cyclic_plans.specs.lemmas.PlanLemmas.{begins_in_frame}
use Rattle.cyclic_plans.specs.Slots.{frame_of}
use Rattle.health_monitor.specs.Monitor.{action_in}
use Rattle.xm_conf.specs.Along.{each_from}
use Rattle.xm_conf.specs.Configuration.{Conf, Part}
use Rattle.xm_conf.specs.Description.{answer_of, described, event_numbered, monitor_of}
use Rattle.xm_conf.specs.Fits.{Fits, HasAnswers}
use Rattle.xm_conf.specs.Health.{event_row}
use Rattle.xm_conf.specs.View.{counts_seen, is_system, sees}
use Rattle.xm_conf.specs.declared.health.Action.{Action}
use Rattle.xm_conf.specs.declared.health.Action.TheVariants as action
use Rattle.xm_conf.specs.declared.health.Event.{Event}
use Rattle.xm_ports.specs.Channels.{Content}
use Rattle.machine_model.specs.lemmas.TickLemmas.{step_halted, step_runs}
use Rattle.machine_model.specs.Facts.{BootsClocked, IsClocked, KeepsClocked, RunsClocked}
use Rattle.machine_model.specs.Machine.{Machine, SlotTurn, act_of, after, clock_after, copies, happened, happened_by, local, local_in, local_of, next_clock, run, sight_of_state, start, step, taken_by, turn_of}
use Rattle.machine_model.specs.OwnActs.{IsWithinOwn}
use Rattle.machine_model.specs.Partition.{PartitionState, takes_turns}
use Rattle.machine_model.specs.Emission as emission
use Rattle.machine_model.specs.Emission.{Act, AllHalted, AllReset, Asked, Maintenance, NoEvent}
use Rattle.machine_model.specs.View.{System, no_part, part_of, view_of}
use Rattle.machine_model.specs.Whole.{event_of, time_after}
use Rattle.machine_model.proofs.WithinLemmas.{local_within}
use Rattle.machine_model.proofs.RunLemmas.{step_system}

-- an act of a tick asks for a plan that there is, and starts maintenance where plan 1 is there
abbrev FitsPlans : Conf → Act → Type 0
FitsPlans conf emission.Nothing = Unit {0}
FitsPlans conf (emission.Trades traffic) = Unit {0}
FitsPlans conf (emission.Upon id order) = Unit {0}
FitsPlans conf (emission.Plans (Asked plan)) = plan < length conf.plans
FitsPlans conf (emission.Plans Maintenance) = 1 < length conf.plans
FitsPlans conf (emission.UponAll event) = Unit {0}

-- a plan that a partition sees is there
seen_there : (parts plans : ℕ) (flag : Bool) (plan : ℕ) → nat_lt plan (counts_seen parts plans flag).plans ≡ true → plan < plans
seen_there parts plans true plan below = grind (arith, nat_tests)
seen_there parts plans false plan below = absurd (let no : plan < 0 = grind (arith, nat_tests) in omega (arith, no))

-- a table that starts maintenance is that of a configuration with plan 1
maintained : (actions : List Action) (k plans : ℕ) → All (λ answer. answer.action ≡ action.SwitchToMaintenance → 1 < plans) (each_from answer_of k actions)
    → (n : ℕ) → slice_index_or actions n action.Halt ≡ action.SwitchToMaintenance → 1 < plans
maintained [] k plans all n is = absurd cc
maintained (one ∷ actions) k plans all zero is =
    All-head (λ answer. answer.action ≡ action.SwitchToMaintenance → 1 < plans) (record { event = event_numbered k; action = one }) (each_from answer_of (k + 1) actions) all is
maintained (one ∷ actions) k plans all (suc n) is =
    maintained actions (k + 1) plans
    (All-tail (λ answer. answer.action ≡ action.SwitchToMaintenance → 1 < plans) (record { event = event_numbered k; action = one }) (each_from answer_of (k + 1) actions) all) n is

table_maintained : (part : Part) (plans : ℕ) → HasAnswers plans (monitor_of part) → (event : Event) → action_in part.hm event ≡ action.SwitchToMaintenance → 1 < plans
unfolding action_in monitor_of
table_maintained part plans answers event is = maintained part.hm.actions 0 plans answers.maintenance (event_row event).number is

parts_maintained : (parts : List Part) (plans : ℕ) → All (HasAnswers plans) (map monitor_of parts) → (p : ℕ) (event : Event)
    → action_in (slice_index_or parts p no_part).hm event ≡ action.SwitchToMaintenance → 1 < plans
unfolding action_in
parts_maintained [] plans all p event is = absurd cc
parts_maintained (part ∷ parts) plans all zero event is =
    table_maintained part plans (All-head (HasAnswers plans) (monitor_of part) (map monitor_of parts) all) event is
parts_maintained (part ∷ parts) plans all (suc p) event is =
    parts_maintained parts plans (All-tail (HasAnswers plans) (monitor_of part) (map monitor_of parts) all) p event is

maintenance_there : (conf : Conf) (p : ℕ) → Fits (described conf) → (event : Event) → action_in (part_of conf p).hm event ≡ action.SwitchToMaintenance → 1 < length conf.plans
unfolding described part_of
maintenance_there conf p fits event is = parts_maintained conf.parts (length conf.plans) fits.answers p event is

plans_some : (conf : Conf) → Fits (described conf) → 0 < length conf.plans
unfolding described
plans_some conf fits = fits.counts.plans.some

-- an act that is within what a partition has fits the plans
fits_plans : (system : System) (p : ℕ) (contents : List (Option Content)) (act : Act) → Fits (described system.conf) → IsWithinOwn (view_of system p) contents act → FitsPlans system.conf act
unfolding sees view_of
fits_plans system p contents emission.Nothing fits within = tt
fits_plans system p contents (emission.Trades traffic) fits within = tt
fits_plans system p contents (emission.Upon id order) fits within = tt
fits_plans system p contents (emission.Plans (Asked plan)) fits within =
    seen_there (length system.conf.parts) (length system.conf.plans) (is_system (slice_get system.conf.parts p)) plan within.0
fits_plans system p contents (emission.Plans Maintenance) fits within = maintenance_there system.conf p fits within.event within.is
fits_plans system p contents (emission.UponAll event) fits within = tt

-- the act of a tick fits them
taken_fits : (g : Machine) (p : ℕ) (first : Bool) (o : Option PartitionState) → Fits (described g.system.conf) → FitsPlans g.system.conf (act_of (taken_by g p first o))
unfolding local_of
taken_fits g p first None fits = tt
taken_fits g p first (Some ps) fits = at (takes_turns ps.state)
  where
    at : (b : Bool) → FitsPlans g.system.conf (act_of (if b then Some (local_of g p first ps) else None))
    at true =
        fits_plans g.system p (copies g p) (local_of g p first ps).act fits (local_within g.system p ps (copies g p) g.ticks g.time first (sight_of_state g p first ps))
    at false = tt

turn_fits : (g : Machine) (o : Option SlotTurn) → Fits (described g.system.conf) → FitsPlans g.system.conf (act_of (local_in g o))
turn_fits g None fits = tt
turn_fits g (Some turn) fits = taken_fits g turn.part turn.first (slice_get g.parts turn.part) fits

local_fits : (g : Machine) → Fits (described g.system.conf) → FitsPlans g.system.conf (act_of (local g))
unfolding local
local_fits g fits = turn_fits g (turn_of g) fits

-- a clock at a moment, as it has to be
record AreRight (conf : Conf) (clock : CyclicClock) (now : ℕ) : Type 0 where
  in_frame : IsInFrame conf clock now
  asked : AsksPlan conf clock

-- the clock of the next tick where no maintenance starts
ended_right : (conf : Conf) (clock : CyclicClock) (now : ℕ) → Fits (described conf) → AreRight conf clock now → AreRight conf (ended conf clock now) (now + 1)
unfolding ended
ended_right conf clock now fits right = at (ends_frame conf clock now) refl
  where
    next : (o : Option ℕ) → IfSome o (λ plan. plan < length conf.plans) → unwrap_or o clock.plan < length conf.plans
    next None asked = right.in_frame.plan
    next (Some plan) asked = asked

    at : (b : Bool) → ends_frame conf clock now ≡ b → AreRight conf (if b then frame_from (next_plan clock) (now + 1) else clock) (now + 1)
    at true e = record { in_frame = begins_in_frame conf (next_plan clock) (now + 1) fits (next clock.asked right.asked); asked = tt }
    at false e =
        let begun : clock.frame_start ≤ now = right.in_frame.begun in
        let before : now < clock.frame_start + frame_of conf clock.plan = right.in_frame.before_end in
        let other : (now + 1 - clock.frame_start == frame_of conf clock.plan) ≡ false = e in
        record {
          in_frame = record { plan = right.in_frame.plan; begun = omega (arith, begun); before_end = grind (arith, nat_tests) };
          asked = right.asked;
        }

-- the clock after a tick, by its act
act_right : (conf : Conf) (clock : CyclicClock) (now : ℕ) (act : Act) → Fits (described conf) → AreRight conf clock now → FitsPlans conf act
    → AreRight conf (clock_after (event_of act) conf act clock now) (time_after (event_of act) now)
unfolding clock_started in_maintenance
act_right conf clock now emission.Nothing fits right plans = ended_right conf clock now fits right
act_right conf clock now (emission.Trades traffic) fits right plans = ended_right conf clock now fits right
act_right conf clock now (emission.Upon id order) fits right plans = ended_right conf clock now fits right
act_right conf clock now (emission.Plans (Asked plan)) fits right plans =
    ended_right conf (record clock { asked = Some plan }) now fits (record {
      in_frame = record { plan = right.in_frame.plan; begun = right.in_frame.begun; before_end = right.in_frame.before_end };
      asked = plans;
    })
act_right conf clock now (emission.Plans Maintenance) fits right plans = record { in_frame = begins_in_frame conf 1 (now + 1) fits plans; asked = tt }
act_right conf clock now (emission.UponAll NoEvent) fits right plans = ended_right conf clock now fits right
act_right conf clock now (emission.UponAll (AllReset mode)) fits right plans = record { in_frame = begins_in_frame conf 0 0 fits (plans_some conf fits); asked = tt }
act_right conf clock now (emission.UponAll AllHalted) fits right plans = right

after_clocked : (g : Machine) → Fits (described g.system.conf) → IsClocked g → IsClocked (after g (happened g))
unfolding after happened happened_by next_clock
after_clocked g fits clocked =
    let right = act_right g.system.conf g.clock g.time (act_of (local g)) fits (record { in_frame = clocked.in_frame; asked = clocked.asked }) (local_fits g fits) in
    record { in_frame = right.in_frame; asked = right.asked }

pub keeps_clocked : KeepsClocked
keeps_clocked g fits clocked = at g.halted refl
  where
    at : (b : Bool) → g.halted ≡ b → IsClocked (step g)
    at true halts = subst IsClocked (sym (step_halted g halts)) clocked
    at false runs = subst IsClocked (sym (step_runs g runs)) (after_clocked g fits clocked)

pub boots_clocked : BootsClocked
unfolding clock_started start
boots_clocked system fits = record { in_frame = begins_in_frame system.conf 0 0 fits (plans_some system.conf fits); asked = tt }

run_clocked : (count : ℕ) (g : Machine) → Fits (described g.system.conf) → IsClocked g → IsClocked (run g count)
run_clocked zero g fits clocked = clocked
run_clocked (suc count) g fits clocked =
    run_clocked count (step g) (subst (λ (system : System). Fits (described system.conf)) (sym (step_system g)) fits) (keeps_clocked g fits clocked)

start_fits : (system : System) → Fits (described system.conf) → Fits (described (start system).system.conf)
unfolding start
start_fits system fits = fits

pub runs_clocked : RunsClocked
runs_clocked system count fits = run_clocked count (start system) (start_fits system fits) (boots_clocked system fits)
