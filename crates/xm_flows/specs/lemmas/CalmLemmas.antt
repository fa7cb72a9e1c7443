-- Where no partition may steer others no tick steers.
use Rattle.std.proofs.Common.{◌≡◌, ℕ, zero, suc, ◌+◌, Bool, true, false, List, [], ◌∷◌, Option, None, Some, refl, sym, ap, ◌∙◌, arith, subst, inl, inr}
use Rattle.std.specs.Prelude.{slice_get, slice_index_or, ◌==◌, if◌then◌else◌, All, unwrap_or}
use Rattle.std.proofs.lemmas.List.Elements.{All-head, All-tail}
use Rattle.cyclic_plans.specs.PlanClock.{CyclicClock, ended, ends_frame, frame_from, next_plan, other_plan, started as clock_started}
use Rattle.health_monitor.specs.Monitor.{action_in}
use Rattle.xm_conf.specs.Configuration.{Conf, Part}
use Rattle.xm_conf.specs.Health.{event_row}
use Rattle.xm_conf.specs.declared.health.Action.{Action}
use Rattle.xm_conf.specs.declared.health.Action.TheVariants as action
use Rattle.xm_conf.specs.declared.health.Event.{Event}
use Rattle.machine_model.specs.lemmas.TickLemmas.{step_halted, step_runs}
use Rattle.machine_model.specs.Facts.{KeepsNumbers}
use Rattle.machine_model.specs.LocalTick.{bounded, local_tick, worked}
use Rattle.machine_model.specs.Machine.{Machine, SlotTurn, act_of, after, clock_after, copies, happened, happened_by, local, local_in, local_of, next_clock, next_plan_clock, run, sight_of_state, start, step, taken_by, turn_of}
use Rattle.machine_model.specs.Partition.{PartitionState, takes_turns}
use Rattle.machine_model.specs.Emission as emission
use Rattle.machine_model.specs.Emission.{Act, Asked, Directed, Maintenance, NoEvent, WholeEvent, reach_of}
use Rattle.machine_model.specs.View.{PartitionView, System, no_part, part_of, view_of}
use Rattle.xm_flows.specs.lemmas.ActLemmas.{does_reach}
use Rattle.xm_flows.specs.Groups.{Members}
use Rattle.xm_flows.specs.Laws.{NoneSteers}
use Rattle.xm_flows.specs.Rights.{ActsByRight, IsByRight, IsUnsteered, MaySteer, reaches_all}
use Rattle.xm_flows.specs.Steering.{Steering, no_steering, steered_plan, steering, steering_in, steering_unless, to_member}
use Rattle.xm_flows.specs.Together.{UnsteeredTicks}

-- an act that reaches others by channels alone
abbrev pub IsCalm : Act → Type 0
IsCalm emission.Nothing = Unit {0}
IsCalm (emission.Trades traffic) = Unit {0}
IsCalm (emission.Upon id order) = ⊥
IsCalm (emission.Plans change) = ⊥
IsCalm (emission.UponAll event) = ⊥

calm_bounded : (view : PartitionView) → (MaySteer view → ⊥) → (act : Act) → IsByRight view act → IsCalm (bounded view act)
calm_bounded view never emission.Nothing right = tt
calm_bounded view never (emission.Trades traffic) right = grind (arith)
calm_bounded view never (emission.Upon id order) right = by (id == view.id) refl
  where
    by : (b : Bool) → (id == view.id) ≡ b → IsCalm (if b then emission.Nothing else emission.Upon id order)
    by true its = tt
    by false other = absurd (never (inl right.1))
calm_bounded view never (emission.Plans (Asked plan)) right = absurd (never (inl right.1))
calm_bounded view never (emission.Plans Maintenance) right = absurd (never (inr (record { event = right.event; reaches = ap reaches_all right.is })))
calm_bounded view never (emission.UponAll event) (inl system) = absurd (never (inl system))
calm_bounded view never (emission.UponAll event) (inr table) =
    absurd (never (inr (record { event = table.event; reaches = does_reach (action_in view.part.hm table.event) table.enabled event table.is })))

-- no partition may steer
no_system : (parts : List Part) (p : ℕ) → All (λ part. part.system ≡ false) parts → (slice_index_or parts p no_part).system ≡ false
no_system [] p all = refl
no_system (part ∷ parts) zero all = All-head (λ (one : Part). one.system ≡ false) part parts all
no_system (part ∷ parts) (suc p) all = no_system parts p (All-tail (λ (one : Part). one.system ≡ false) part parts all)

no_action : (actions : List Action) (n : ℕ) → All (λ an_action. reaches_all an_action ≡ false) actions → reaches_all (slice_index_or actions n action.Halt) ≡ false
no_action [] n all = refl
no_action (one ∷ actions) zero all = All-head (λ an_action. reaches_all an_action ≡ false) one actions all
no_action (one ∷ actions) (suc n) all = no_action actions n (All-tail (λ an_action. reaches_all an_action ≡ false) one actions all)

abbrev HasCalmTable : Part → Type 0
HasCalmTable part = All (λ an_action. reaches_all an_action ≡ false) part.hm.actions

no_table : (parts : List Part) (p : ℕ) → All HasCalmTable parts → (event : Event) → reaches_all (action_in (slice_index_or parts p no_part).hm event) ≡ false
unfolding action_in
no_table [] p all event = no_action [] (event_row event).number (λ k d below. absurd (omega (arith, below)))
no_table (part ∷ parts) zero all event = no_action part.hm.actions (event_row event).number (All-head HasCalmTable part parts all)
no_table (part ∷ parts) (suc p) all event = no_table parts p (All-tail HasCalmTable part parts all) event

never_steers : (system : System) (p : ℕ) → IsUnsteered system.conf → MaySteer (view_of system p) → ⊥
unfolding part_of view_of
never_steers system p plain (inl flag) = let fails : (slice_index_or system.conf.parts p no_part).system ≡ false = no_system system.conf.parts p plain.plain in absurd cc
never_steers system p plain (inr table) =
    let fails : reaches_all (action_in (slice_index_or system.conf.parts p no_part).hm table.event) ≡ false = no_table system.conf.parts p plain.tables table.event in
    let holds = table.reaches in
    absurd cc

-- so each tick's act is calm
taken_calm : ActsByRight → (g : Machine) → IsUnsteered g.system.conf → (p : ℕ) (first : Bool) (o : Option PartitionState) → IsCalm (act_of (taken_by g p first o))
unfolding local_of local_tick
taken_calm rights g plain p first None = tt
taken_calm rights g plain p first (Some ps) = by (takes_turns ps.state)
  where
    by : (b : Bool) → IsCalm (act_of (if b then Some (local_of g p first ps) else None))
    by true =
        calm_bounded (view_of g.system p) (never_steers g.system p plain) (worked (view_of g.system p) (copies g p) g.time first (sight_of_state g p first ps) ps).act
        (rights (view_of g.system p) ps (copies g p) g.time first (sight_of_state g p first ps))
    by false = tt

turn_calm : ActsByRight → (g : Machine) → IsUnsteered g.system.conf → (o : Option SlotTurn) → IsCalm (act_of (local_in g o))
turn_calm rights g plain None = tt
turn_calm rights g plain (Some turn) = taken_calm rights g plain turn.part turn.first (slice_get g.parts turn.part)

pub act_calm : ActsByRight → (g : Machine) → IsUnsteered g.system.conf → IsCalm (act_of (local g))
unfolding local
act_calm rights g plain = turn_calm rights g plain (turn_of g)

pub calm_reach : (act : Act) → IsCalm act → (reach_of act).plan ≡ None
calm_reach emission.Nothing calm = refl
calm_reach (emission.Trades traffic) calm = refl
calm_reach (emission.Upon id order) calm = absurd calm
calm_reach (emission.Plans change) calm = absurd calm
calm_reach (emission.UponAll event) calm = absurd calm

pub calm_event : (act : Act) → IsCalm act → (reach_of act).event ≡ NoEvent
calm_event emission.Nothing calm = refl
calm_event (emission.Trades traffic) calm = refl
calm_event (emission.Upon id order) calm = absurd calm
calm_event (emission.Plans change) calm = absurd calm
calm_event (emission.UponAll event) calm = absurd calm

pub calm_order : (act : Act) → IsCalm act → (reach_of act).directed ≡ None
calm_order emission.Nothing calm = refl
calm_order (emission.Trades traffic) calm = refl
calm_order (emission.Upon id order) calm = absurd calm
calm_order (emission.Plans change) calm = absurd calm
calm_order (emission.UponAll event) calm = absurd calm

-- the clock goes on in the same plan where none is asked for
record GoesOn (clock next : CyclicClock) : Type 0 where
  plan : next.plan ≡ clock.plan
  asked : next.asked ≡ None

ended_on : (conf : Conf) (clock : CyclicClock) (now : ℕ) → clock.asked ≡ None → GoesOn clock (ended conf clock now)
unfolding ended
ended_on conf clock now none = by (ends_frame conf clock now)
  where
    by : (b : Bool) → GoesOn clock (if b then frame_from (next_plan clock) (now + 1) else clock)
    by true = record { plan = ap (λ o. unwrap_or o clock.plan) none; asked = refl }
    by false = record { plan = refl; asked = none }

pub next_is : (g : Machine) → next_clock g (happened g) ≡ clock_after (reach_of (act_of (local g))).event g.system.conf (act_of (local g)) g.clock g.time
unfolding happened happened_by next_clock
next_is g = refl

next_on : ActsByRight → (g : Machine) → IsUnsteered g.system.conf → g.clock.asked ≡ None → GoesOn g.clock (next_clock g (happened g))
next_on rights g plain none =
    let calm = act_calm rights g plain in
    subst (GoesOn g.clock)
    (sym (next_is g ∙ ap (λ e. clock_after e g.system.conf (act_of (local g)) g.clock g.time) (calm_event (act_of (local g)) calm)
    ∙ ap (λ change. next_plan_clock change g.system.conf g.clock g.time) (calm_reach (act_of (local g)) calm)))
    (ended_on g.system.conf g.clock g.time none)

-- a tick without an act on others steers nothing
same_again : (plan : ℕ) → other_plan plan plan ≡ None
same_again plan = let same : (plan == plan) ≡ true = grind (arith) in ap (λ b. if b then None else Some plan) same

abbrev pub steering_of : Option ℕ → WholeEvent → Option Directed → Steering
steering_of plan event order = record { plan = plan; event = event; order = order }

pub in_parts : (members : Members) (g : Machine) → steering_in members g (happened g)
    ≡ steering_of (steered_plan (reach_of (act_of (local g))).plan g.clock.plan (next_clock g (happened g)).plan) (reach_of (act_of (local g))).event (to_member members (reach_of (act_of (local g))).directed)
unfolding happened happened_by steering_in
in_parts members g = refl

nothing_steered : ActsByRight → (members : Members) (g : Machine) → IsUnsteered g.system.conf → g.clock.asked ≡ None → steering_in members g (happened g) ≡ no_steering
unfolding no_steering
nothing_steered rights members g plain none =
    let calm = act_calm rights g plain in
    in_parts members g
    ∙ ap (λ change. steering_of (steered_plan change g.clock.plan (next_clock g (happened g)).plan) (reach_of (act_of (local g))).event (to_member members (reach_of (act_of (local g))).directed))
    (calm_reach (act_of (local g)) calm)
    ∙ ap (λ plan. steering_of (other_plan g.clock.plan plan) (reach_of (act_of (local g))).event (to_member members (reach_of (act_of (local g))).directed)) (next_on rights g plain none).plan
    ∙ ap (λ plan. steering_of plan (reach_of (act_of (local g))).event (to_member members (reach_of (act_of (local g))).directed)) (same_again g.clock.plan)
    ∙ ap (λ event. steering_of None event (to_member members (reach_of (act_of (local g))).directed)) (calm_event (act_of (local g)) calm)
    ∙ ap (λ order. steering_of None NoEvent (to_member members order)) (calm_order (act_of (local g)) calm)

tick_steers : ActsByRight → (members : Members) (g : Machine) → IsUnsteered g.system.conf → g.clock.asked ≡ None → steering members g ≡ no_steering
unfolding steering
tick_steers rights members g plain none = by g.halted
  where
    by : (b : Bool) → steering_unless b members g ≡ no_steering
    by true = refl
    by false = nothing_steered rights members g plain none

-- and no plan is asked for in the next one
clock_is : (g : Machine) → (after g (happened g)).clock ≡ next_clock g (happened g)
unfolding after
clock_is g = refl

step_asks : ActsByRight → (g : Machine) → IsUnsteered g.system.conf → g.clock.asked ≡ None → (step g).clock.asked ≡ None
step_asks rights g plain none = by g.halted refl
  where
    by : (b : Bool) → g.halted ≡ b → (step g).clock.asked ≡ None
    by true halts = ap (λ (m : Machine). m.clock.asked) (step_halted g halts) ∙ none
    by false runs = ap (λ (m : Machine). m.clock.asked) (step_runs g runs) ∙ ap (λ (c : CyclicClock). c.asked) (clock_is g) ∙ (next_on rights g plain none).asked

run_steers : ActsByRight → KeepsNumbers → (members : Members) (count : ℕ) (g : Machine) → IsUnsteered g.system.conf → g.clock.asked ≡ None → steering members (run g count) ≡ no_steering
run_steers rights numbers members zero g plain none = tick_steers rights members g plain none
run_steers rights numbers members (suc count) g plain none =
    run_steers rights numbers members count (step g) (subst (λ (system : System). IsUnsteered system.conf) (sym (numbers g).system) plain) (step_asks rights g plain none)

pub start_plain : (system : System) → IsUnsteered system.conf → IsUnsteered (start system).system.conf
unfolding start
start_plain system plain = plain

pub start_asks : (system : System) → (start system).clock.asked ≡ None
unfolding clock_started start
start_asks system = refl

pub none_steers : ActsByRight → KeepsNumbers → NoneSteers
none_steers rights numbers members system count plain = run_steers rights numbers members count (start system) (start_plain system plain) (start_asks system)

-- the law on any tick
pub unsteered_ticks : ActsByRight → UnsteeredTicks
unsteered_ticks rights members g plain none = record { steers = tick_steers rights members g plain none; asked = step_asks rights g plain none }
