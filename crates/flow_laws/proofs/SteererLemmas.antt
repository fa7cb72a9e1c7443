-- Two runs are steered alike where each partition that may steer others receives the same in both.
use Rattle.std.proofs.Common.{◌≡◌, ℕ, zero, suc, ◌<◌, ◌≤◌, ◌+◌, ◌⊎◌, inl, inr, Bool, true, false, List, [], ◌∷◌, Option, None, Some, refl, sym, ap, ◌∙◌, arith, subst}
use Rattle.std.specs.Prelude.{slice_get, ◌-◌, ◌==◌, if◌then◌else◌}
use Rattle.std.proofs.lemmas.Option.{same_Some}
use Rattle.cyclic_plans.specs.PlanClock.{CyclicClock, ended, frame_from, next_plan, started as clock_started}
use Rattle.cyclic_plans.specs.Slots.{frame_of}
use Rattle.health_monitor.specs.Monitor.{action_in}
use Rattle.xm_base.specs.Options.{on}
use Rattle.xm_conf.specs.Configuration.{Conf}
use Rattle.machine_laws.specs.Acts.{ActsAlone}
use Rattle.machine_model.specs.Alone.{Alone, alone_local}
use Rattle.machine_model.specs.Cue.{Cue, cue, script, script_unless}
use Rattle.machine_model.specs.Facts.{RunsKeepNumbers}
use Rattle.machine_model.specs.Laws.{AreAlike, TwoRunsEarlier, alone_part_at, part}
use Rattle.machine_model.specs.LocalTick.{LocalTick, local_tick, worked}
use Rattle.machine_model.specs.Machine.{Machine, SlotTurn, act_of, after, clock_after, copies, happened, happened_by, if_its_turn, is_halt, is_turn_of, local, local_in, local_of, next_clock, next_plan_clock, run, sight_of_state, start, step, taken_by, tick_of, turn_of}
use Rattle.machine_model.specs.Partition.{PartitionState, takes_turns}
use Rattle.machine_model.specs.lemmas.TickLemmas.{step_halted, step_runs}
use Rattle.machine_model.specs.Emission as emission
use Rattle.machine_model.specs.Emission.{Act, AllHalted, AllReset, Asked, Maintenance, NoEvent, PlanChange, WholeEvent, reach_of}
use Rattle.machine_model.specs.View.{PartitionView, System, view_of}
use Rattle.machine_model.specs.Whole.{time_after}
use Rattle.xm_flows.specs.Groups.{Members}
use Rattle.xm_flows.specs.Laws.{ClosedRunsAlike}
use Rattle.xm_flows.specs.Rights.{ActsByRight, IsByRight, MaySteer, reaches_all}
use Rattle.flow_laws.specs.Steerers.{AreSteerersAlike, SteeredRunsAlike, SteerersAlike}
use Rattle.xm_flows.specs.Steering.{steered_plan, steering, steering_in, steering_unless, to_member}
use Rattle.xm_flows.specs.lemmas.ActLemmas.{bounded_right, does_reach}
use Rattle.xm_flows.specs.lemmas.CalmLemmas.{IsCalm, calm_event, calm_order, calm_reach, in_parts, next_is, steering_of}
use Rattle.xm_flows.specs.lemmas.FrameLemmas.{same_frame}

-- an act reaches others by channels alone, or its partition may steer
calm_or_may : (view : PartitionView) (act : Act) → IsByRight view act → IsCalm act ⊎ MaySteer view
calm_or_may view emission.Nothing right = inl tt
calm_or_may view (emission.Trades traffic) right = inl tt
calm_or_may view (emission.Upon id order) right = inr (inl right.1)
calm_or_may view (emission.Plans (Asked plan)) right = inr (inl right.1)
calm_or_may view (emission.Plans Maintenance) right = inr (inr (record { event = right.event; reaches = ap reaches_all right.is }))
calm_or_may view (emission.UponAll event) (inl system) = inr (inl system)
calm_or_may view (emission.UponAll event) (inr table) =
    inr (inr (record { event = table.event; reaches = does_reach (action_in view.part.hm table.event) table.enabled event table.is }))

-- the partition whose act may steer, and its part of the tick
record Steers (g : Machine) : Type 0 where
  p : ℕ
  its : is_turn_of (turn_of g) p ≡ true
  ps : PartitionState
  there : slice_get g.parts p ≡ Some ps
  tick : LocalTick
  is : local g ≡ Some tick
  may : MaySteer (view_of g.system p)

same_number : (n : ℕ) → (n == n) ≡ true
same_number n = grind (arith)

local_right : ActsByRight → (g : Machine) (p : ℕ) (first : Bool) (ps : PartitionState) → IsByRight (view_of g.system p) (local_of g p first ps).act
unfolding local_of local_tick
local_right rights g p first ps =
    bounded_right (view_of g.system p) (worked (view_of g.system p) (copies g p) g.time first (sight_of_state g p first ps) ps).act
    (rights (view_of g.system p) ps (copies g p) g.time first (sight_of_state g p first ps))

taken_steers : ActsByRight → (g : Machine) (turn : SlotTurn) (o : Option PartitionState) → turn_of g ≡ Some turn → slice_get g.parts turn.part ≡ o → local g ≡ taken_by g turn.part turn.first o
    → IsCalm (act_of (taken_by g turn.part turn.first o)) ⊎ Steers g
taken_steers rights g turn None is_turn there is = inl tt
taken_steers rights g turn (Some ps) is_turn there is = at (takes_turns ps.state) is
  where
    by : local g ≡ Some (local_of g turn.part turn.first ps) → IsCalm (local_of g turn.part turn.first ps).act ⊎ MaySteer (view_of g.system turn.part) → IsCalm (local_of g turn.part turn.first ps).act ⊎ Steers g
    by tick (inl calm) = inl calm
    by tick (inr may) = inr (record {
      p = turn.part;
      its = ap (λ o. is_turn_of o turn.part) is_turn ∙ same_number turn.part;
      ps = ps;
      there = there;
      tick = local_of g turn.part turn.first ps;
      is = tick;
      may = may;
    })

    at : (b : Bool) → local g ≡ (if b then Some (local_of g turn.part turn.first ps) else None)
        → IsCalm (act_of (if b then Some (local_of g turn.part turn.first ps) else None)) ⊎ Steers g
    at true tick = by tick (calm_or_may (view_of g.system turn.part) (local_of g turn.part turn.first ps).act (local_right rights g turn.part turn.first ps))
    at false tick = inl tt

local_is : (g : Machine) → local g ≡ local_in g (turn_of g)
unfolding local
local_is g = refl

turn_steers : ActsByRight → (g : Machine) (o : Option SlotTurn) → turn_of g ≡ o → local g ≡ local_in g o → IsCalm (act_of (local_in g o)) ⊎ Steers g
turn_steers rights g None is_turn is = inl tt
turn_steers rights g (Some turn) is_turn is = taken_steers rights g turn (slice_get g.parts turn.part) is_turn refl is

calm_or_steers : ActsByRight → (g : Machine) → IsCalm (act_of (local g)) ⊎ Steers g
calm_or_steers rights g = subst (λ o. IsCalm (act_of o) ⊎ Steers g) (sym (local_is g)) (turn_steers rights g (turn_of g) refl (local_is g))

-- a partition that is the same in two machines and receives the same in a tick does the same in it
tick_is : (g : Machine) (p : ℕ) → tick_of (happened g) p ≡ if_its_turn (is_turn_of (turn_of g) p) (local g)
unfolding tick_of happened happened_by
tick_is g p = refl

its_tick : (b : Bool) (o : Option LocalTick) (tick : LocalTick) → if_its_turn b o ≡ Some tick → o ≡ Some tick
its_tick true o tick is = is
its_tick false o tick is = absurd cc

part_there : (g : Machine) (p : ℕ) (ps : PartitionState) → slice_get g.parts p ≡ Some ps → alone_part_at g p ≡ Some (part g p ps)
unfolding alone_part_at
part_there g p ps there = ap (λ o. on (part g p) o) there

-- the same partition in another machine
record IsThereToo (h : Machine) (p : ℕ) (a : Alone) : Type 0 where
  ps : PartitionState
  there : slice_get h.parts p ≡ Some ps
  is : part h p ps ≡ a

there_too : (h : Machine) (p : ℕ) (a : Alone) → alone_part_at h p ≡ Some a → IsThereToo h p a
unfolding alone_part_at
there_too h p a is = at (slice_get h.parts p) refl is
  where
    at : (o : Option PartitionState) → slice_get h.parts p ≡ o → on (part h p) o ≡ Some a → IsThereToo h p a
    at None none found = absurd cc
    at (Some ps) there found = record { ps = ps; there = there; is = same_Some (part h p ps) a found }

-- what is the same of a steerer in two machines
record IsSame (g h : Machine) (p : ℕ) : Type 0 where
  part : alone_part_at g p ≡ alone_part_at h p
  view : view_of g.system p ≡ view_of h.system p
  cue : cue g p ≡ cue h p

same_local : ActsAlone → (g h : Machine) (p : ℕ) (ps : PartitionState) (tick : LocalTick) → is_turn_of (turn_of g) p ≡ true → slice_get g.parts p ≡ Some ps → local g ≡ Some tick
    → IsSame g h p → local h ≡ Some tick
same_local acts g h p ps tick its there is same =
    let too : IsThereToo h p (part g p ps) = there_too h p (part g p ps) (sym same.part ∙ part_there g p ps there) in
    let here_it : alone_local (view_of g.system p) (part g p ps) (cue g p) ≡ Some tick =
    acts g p ps there ∙ tick_is g p ∙ ap (λ b. if_its_turn b (local g)) its ∙ is in
    its_tick (is_turn_of (turn_of h) p) (local h) tick
    (sym (tick_is h p) ∙ sym (acts h p too.ps too.there) ∙ ap (λ a. alone_local (view_of h.system p) a (cue h p)) too.is
    ∙ ap (λ v. alone_local v (part g p ps) (cue h p)) (sym same.view) ∙ ap (alone_local (view_of g.system p) (part g p ps)) (sym same.cue) ∙ here_it)

-- what an act reaches beyond its channels is the same
record ReachSame (a b : Act) : Type 0 where
  plan : (reach_of a).plan ≡ (reach_of b).plan
  event : (reach_of a).event ≡ (reach_of b).event
  order : (reach_of a).directed ≡ (reach_of b).directed

equal_reach : (a b : Act) → a ≡ b → ReachSame a b
equal_reach a b same = subst (ReachSame a) same (record { plan = refl; event = refl; order = refl })

calm_reaches : (a b : Act) → IsCalm a → IsCalm b → ReachSame a b
calm_reaches a b first second = record {
  plan = calm_reach a first ∙ sym (calm_reach b second);
  event = calm_event a first ∙ sym (calm_event b second);
  order = calm_order a first ∙ sym (calm_order b second);
}

same_reach : ActsByRight → ActsAlone → (g h : Machine) → ((p : ℕ) → MaySteer (view_of g.system p) → IsSame g h p) → ((p : ℕ) → MaySteer (view_of h.system p) → IsSame h g p)
    → ReachSame (act_of (local g)) (act_of (local h))
same_reach rights acts g h forth back = by (calm_or_steers rights g) (calm_or_steers rights h)
  where
    by : IsCalm (act_of (local g)) ⊎ Steers g → IsCalm (act_of (local h)) ⊎ Steers h → ReachSame (act_of (local g)) (act_of (local h))
    by (inl calm) (inl also) = calm_reaches (act_of (local g)) (act_of (local h)) calm also
    by (inr it) other = equal_reach (act_of (local g)) (act_of (local h)) (ap act_of (it.is ∙ sym (same_local acts g h it.p it.ps it.tick it.its it.there it.is (forth it.p it.may))))
    by (inl calm) (inr it) = equal_reach (act_of (local g)) (act_of (local h)) (ap act_of (same_local acts h g it.p it.ps it.tick it.its it.there it.is (back it.p it.may) ∙ sym it.is))

-- machines whose clocks are the same
record AreTimedAlike (g h : Machine) : Type 0 where
  time : g.time ≡ h.time
  clock : g.clock ≡ h.clock
  halted : g.halted ≡ h.halted

ended_same : (first second : Conf) (clock : CyclicClock) (now : ℕ) → frame_of first clock.plan ≡ frame_of second clock.plan → ended first clock now ≡ ended second clock now
unfolding ended
ended_same first second clock now same = ap (λ frame. if now + 1 - clock.frame_start == frame then frame_from (next_plan clock) (now + 1) else clock) same

planned_same : (change : Option PlanChange) (first second : Conf) (clock : CyclicClock) (now : ℕ) → frame_of first clock.plan ≡ frame_of second clock.plan
    → next_plan_clock change first clock now ≡ next_plan_clock change second clock now
planned_same None first second clock now same = ended_same first second clock now same
planned_same (Some (Asked plan)) first second clock now same = ended_same first second (record clock { asked = Some plan }) now same
planned_same (Some Maintenance) first second clock now same = refl

-- the clock after a tick, by the event and what was done to the plan
abbrev clock_by : WholeEvent → Conf → Option PlanChange → CyclicClock → ℕ → CyclicClock
clock_by NoEvent conf change clock time = next_plan_clock change conf clock time
clock_by (AllReset mode) conf change clock time = clock_started
clock_by AllHalted conf change clock time = clock

clock_is : (event : WholeEvent) (conf : Conf) (act : Act) (clock : CyclicClock) (time : ℕ) → clock_after event conf act clock time ≡ clock_by event conf (reach_of act).plan clock time
clock_is NoEvent conf act clock time = refl
clock_is (AllReset mode) conf act clock time = refl
clock_is AllHalted conf act clock time = refl

by_same : (event : WholeEvent) (first second : Conf) (change : Option PlanChange) (clock : CyclicClock) (now : ℕ) → frame_of first clock.plan ≡ frame_of second clock.plan
    → clock_by event first change clock now ≡ clock_by event second change clock now
by_same NoEvent first second change clock now same = planned_same change first second clock now same
by_same (AllReset mode) first second change clock now same = refl
by_same AllHalted first second change clock now same = refl

-- the next clock is the same
next_same : (g h : Machine) → ((n : ℕ) → frame_of g.system.conf n ≡ frame_of h.system.conf n) → AreTimedAlike g h → ReachSame (act_of (local g)) (act_of (local h))
    → next_clock g (happened g) ≡ next_clock h (happened h)
next_same g h frames timed reach =
    next_is g ∙ clock_is (reach_of (act_of (local g))).event g.system.conf (act_of (local g)) g.clock g.time
    ∙ ap (λ e. clock_by e g.system.conf (reach_of (act_of (local g))).plan g.clock g.time) reach.event
    ∙ ap (λ c. clock_by (reach_of (act_of (local h))).event g.system.conf c g.clock g.time) reach.plan
    ∙ ap (λ c. clock_by (reach_of (act_of (local h))).event g.system.conf (reach_of (act_of (local h))).plan c g.time) timed.clock
    ∙ ap (λ t. clock_by (reach_of (act_of (local h))).event g.system.conf (reach_of (act_of (local h))).plan h.clock t) timed.time
    ∙ by_same (reach_of (act_of (local h))).event g.system.conf h.system.conf (reach_of (act_of (local h))).plan h.clock h.time (frames h.clock.plan)
    ∙ sym (next_is h ∙ clock_is (reach_of (act_of (local h))).event h.system.conf (act_of (local h)) h.clock h.time)

-- a tick that steers alike
steer_in_same : (members : Members) (g h : Machine) → AreTimedAlike g h → ReachSame (act_of (local g)) (act_of (local h)) → next_clock g (happened g) ≡ next_clock h (happened h)
    → steering_in members g (happened g) ≡ steering_in members h (happened h)
steer_in_same members g h timed reach next =
    in_parts members g
    ∙ ap (λ c. steering_of (steered_plan c g.clock.plan (next_clock g (happened g)).plan) (reach_of (act_of (local g))).event (to_member members (reach_of (act_of (local g))).directed)) reach.plan
    ∙ ap (λ k. steering_of (steered_plan (reach_of (act_of (local h))).plan k.plan (next_clock g (happened g)).plan) (reach_of (act_of (local g))).event (to_member members (reach_of (act_of (local g))).directed)) timed.clock
    ∙ ap (λ k. steering_of (steered_plan (reach_of (act_of (local h))).plan h.clock.plan k.plan) (reach_of (act_of (local g))).event (to_member members (reach_of (act_of (local g))).directed)) next
    ∙ ap (λ e. steering_of (steered_plan (reach_of (act_of (local h))).plan h.clock.plan (next_clock h (happened h)).plan) e (to_member members (reach_of (act_of (local g))).directed)) reach.event
    ∙ ap (λ o. steering_of (steered_plan (reach_of (act_of (local h))).plan h.clock.plan (next_clock h (happened h)).plan) (reach_of (act_of (local h))).event (to_member members o)) reach.order
    ∙ sym (in_parts members h)

-- the machines after the tick
after_halted : (g : Machine) → (after g (happened g)).halted ≡ is_halt (reach_of (act_of (local g))).event
unfolding after happened happened_by
after_halted g = refl

after_time : (g : Machine) → (after g (happened g)).time ≡ time_after (reach_of (act_of (local g))).event g.time
unfolding after happened happened_by
after_time g = refl

after_clock : (g : Machine) → (after g (happened g)).clock ≡ next_clock g (happened g)
unfolding after
after_clock g = refl

step_timed : (g h : Machine) → g.halted ≡ false → h.halted ≡ false → AreTimedAlike g h → ReachSame (act_of (local g)) (act_of (local h)) → next_clock g (happened g) ≡ next_clock h (happened h)
    → AreTimedAlike (step g) (step h)
step_timed g h runs also timed reach next = record {
  time = ap (λ (m : Machine). m.time) (step_runs g runs) ∙ after_time g ∙ ap (λ e. time_after e g.time) reach.event ∙ ap (time_after (reach_of (act_of (local h))).event) timed.time
      ∙ sym (ap (λ (m : Machine). m.time) (step_runs h also) ∙ after_time h);
  clock = ap (λ (m : Machine). m.clock) (step_runs g runs) ∙ after_clock g ∙ next ∙ sym (ap (λ (m : Machine). m.clock) (step_runs h also) ∙ after_clock h);
  halted = ap (λ (m : Machine). m.halted) (step_runs g runs) ∙ after_halted g ∙ ap is_halt reach.event
      ∙ sym (ap (λ (m : Machine). m.halted) (step_runs h also) ∙ after_halted h);
}

-- runs, the last tick outermost
run_more : (k : ℕ) (g : Machine) → run g (suc k) ≡ step (run g k)
run_more zero g = refl
run_more (suc k) g = run_more k (step g)

halted_run : (k : ℕ) (g : Machine) → g.halted ≡ true → run g k ≡ g
halted_run zero g halts = refl
halted_run (suc k) g halts = ap (λ m. run m k) (step_halted g halts) ∙ halted_run k g halts

-- a machine that goes on after some ticks has gone on before
runs_before : (k : ℕ) (g : Machine) → (run (step g) k).halted ≡ false → g.halted ≡ false
runs_before k g runs = at g.halted refl
  where
    at : (b : Bool) → g.halted ≡ b → g.halted ≡ false
    at false is = is
    at true is =
        let halts : (run (step g) k).halted ≡ true = ap (λ (m : Machine). m.halted) (ap (λ m. run m k) (step_halted g is) ∙ halted_run k g is) ∙ is in
        absurd cc

-- the cue of each tick of equal scripts
first_or : Cue → List Cue → Cue
first_or other [] = other
first_or other (one ∷ rest) = one

but_first : List Cue → List Cue
but_first [] = []
but_first (one ∷ rest) = rest

script_is : (count : ℕ) (g : Machine) (p : ℕ) → g.halted ≡ false → script g p (suc count) ≡ cue g p ∷ script (step g) p count
script_is count g p runs = ap (λ b. script_unless b (cue g p) (script (step g) p count)) runs

heads : (other a b : Cue) (xs ys : List Cue) → a ∷ xs ≡ b ∷ ys → a ≡ b
unfolding first_or
heads other a b xs ys same = ap (first_or other) same

tails : (a b : Cue) (xs ys : List Cue) → a ∷ xs ≡ b ∷ ys → xs ≡ ys
unfolding but_first
tails a b xs ys same = ap but_first same

cue_at : (k count : ℕ) (g h : Machine) (p : ℕ) → k < count → script g p count ≡ script h p count → (run g k).halted ≡ false → (run h k).halted ≡ false → cue (run g k) p ≡ cue (run h k) p
cue_at k zero g h p below same runs also = absurd (omega (arith, below))
cue_at zero (suc count) g h p below same runs also =
    heads (cue g p) (cue g p) (cue h p) (script (step g) p count) (script (step h) p count) (sym (script_is count g p runs) ∙ same ∙ script_is count h p also)
cue_at (suc k) (suc count) g h p below same runs also =
    cue_at k count (step g) (step h) p (omega (arith, below))
    (tails (cue g p) (cue h p) (script (step g) p count) (script (step h) p count)
    (sym (script_is count g p (runs_before k g runs)) ∙ same ∙ script_is count h p (runs_before k h also)))
    runs also

-- what runs stays
start_system : (system : System) → (start system).system ≡ system
unfolding start
start_system system = refl

pub record SteererLaws : Type 0 where
  pub rights : ActsByRight
  pub acts : ActsAlone
  pub earlier : TwoRunsEarlier
  pub numbers : RunsKeepNumbers

run_system : SteererLaws → (system : System) (k : ℕ) → (run (start system) k).system ≡ system
run_system laws system k = (laws.numbers (start system) k).system ∙ start_system system

same_at : SteererLaws → (one other : System) (p count k : ℕ) → k < count → AreAlike one other p count → (run (start one) k).halted ≡ false → (run (start other) k).halted ≡ false
    → IsSame (run (start one) k) (run (start other) k) p
same_at laws one other p count k below alike runs also = record {
  part = (laws.earlier one other p count k (omega (arith, below)) alike).state;
  view = ap (λ s. view_of s p) (run_system laws one k) ∙ alike.view ∙ sym (ap (λ s. view_of s p) (run_system laws other k));
  cue = cue_at k count (start one) (start other) p below alike.script runs also;
}

turned : (g h : Machine) (p : ℕ) → IsSame g h p → IsSame h g p
turned g h p same = record { part = sym same.part; view = sym same.view; cue = sym same.cue }

reach_at : SteererLaws → (one other : System) (count k : ℕ) → k < count → AreSteerersAlike one other count → (run (start one) k).halted ≡ false → (run (start other) k).halted ≡ false
    → ReachSame (act_of (local (run (start one) k))) (act_of (local (run (start other) k)))
reach_at laws one other count k below alike runs also =
    same_reach laws.rights laws.acts (run (start one) k) (run (start other) k)
    (λ p may. same_at laws one other p count k below (alike.steerers p (subst (λ s. MaySteer (view_of s p)) (run_system laws one k) may)) runs also)
    (λ p may. turned (run (start one) k) (run (start other) k) p
    (same_at laws one other p count k below (alike.steerers_back p (subst (λ s. MaySteer (view_of s p)) (run_system laws other k) may)) runs also))

frames_at : SteererLaws → (one other : System) (count k : ℕ) → AreSteerersAlike one other count → (n : ℕ) → frame_of (run (start one) k).system.conf n ≡ frame_of (run (start other) k).system.conf n
frames_at laws one other count k alike n =
    ap (λ s. frame_of s.conf n) (run_system laws one k) ∙ same_frame one.conf other.conf alike.frames n ∙ sym (ap (λ s. frame_of s.conf n) (run_system laws other k))

starts_timed : (one other : System) → AreTimedAlike (start one) (start other)
unfolding start
starts_timed one other = record { time = refl; clock = refl; halted = refl }

timed_at : SteererLaws → (one other : System) (count k : ℕ) → k ≤ count → AreSteerersAlike one other count → AreTimedAlike (run (start one) k) (run (start other) k)
timed_at laws one other count zero below alike = starts_timed one other
timed_at laws one other count (suc k) below alike = at (run (start one) k).halted refl (timed_at laws one other count k (omega (arith, below)) alike)
  where
    at : (b : Bool) → (run (start one) k).halted ≡ b → AreTimedAlike (run (start one) k) (run (start other) k) → AreTimedAlike (run (start one) (suc k)) (run (start other) (suc k))
    at true halts timed =
        subst (λ m. AreTimedAlike m (run (start other) (suc k))) (sym (run_more k (start one) ∙ step_halted (run (start one) k) halts))
        (subst (λ m. AreTimedAlike (run (start one) k) m) (sym (run_more k (start other) ∙ step_halted (run (start other) k) (sym timed.halted ∙ halts))) timed)
    at false runs timed =
        let reach = reach_at laws one other count k (omega (arith, below)) alike runs (sym timed.halted ∙ runs) in
        let next = next_same (run (start one) k) (run (start other) k) (frames_at laws one other count k alike) timed reach in
        subst (λ m. AreTimedAlike m (run (start other) (suc k))) (sym (run_more k (start one)))
        (subst (λ m. AreTimedAlike (step (run (start one) k)) m) (sym (run_more k (start other)))
        (step_timed (run (start one) k) (run (start other) k) runs (sym timed.halted ∙ runs) timed reach next))

steers_is : (members : Members) (g : Machine) (b : Bool) → g.halted ≡ b → steering members g ≡ steering_unless b members g
unfolding steering
steers_is members g b is = ap (λ c. steering_unless c members g) is

pub steerers_alike : SteererLaws → SteerersAlike
steerers_alike laws members one other count alike k below = at (run (start one) k).halted refl (timed_at laws one other count k (omega (arith, below)) alike)
  where
    at : (b : Bool) → (run (start one) k).halted ≡ b → AreTimedAlike (run (start one) k) (run (start other) k) → steering members (run (start one) k) ≡ steering members (run (start other) k)
    at true halts timed = steers_is members (run (start one) k) true halts ∙ sym (steers_is members (run (start other) k) true (sym timed.halted ∙ halts))
    at false runs timed =
        let reach = reach_at laws one other count k below alike runs (sym timed.halted ∙ runs) in
        let next = next_same (run (start one) k) (run (start other) k) (frames_at laws one other count k alike) timed reach in
        steers_is members (run (start one) k) false runs
        ∙ steer_in_same members (run (start one) k) (run (start other) k) timed reach next
        ∙ sym (steers_is members (run (start other) k) false (sym timed.halted ∙ runs))

pub steered_runs : ClosedRunsAlike → SteerersAlike → SteeredRunsAlike
steered_runs closed same members one other count alike steerers = closed members one other count alike (same members one other count steerers)
