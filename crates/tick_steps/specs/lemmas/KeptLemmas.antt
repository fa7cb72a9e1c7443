-- What holds of every machine holds of it when it boots, after ticks and after resets; and what that says of a partition.
use Rattle.std.proofs.Common.{◌≡◌, ◌≢◌, ⊎_elim, ℕ, zero, suc, ◌+◌, ◌^◌, ◌<◌, ◌≤◌, Bool, false, true, length, set, get_or, Option, Some, None, refl, sym, ap, ◌∙◌, subst, arith, length-set}
use Rattle.std.specs.Prelude.{All, ◌||◌, replicate, slice_get, slice_index_or}
use Rattle.std.proofs.lemmas.Bool.{cases_eq}
use Rattle.std.proofs.lemmas.List.{get_or-set_other, get_or-set_same, length-map}
use Rattle.std.proofs.lemmas.Option.{get_or_from_slice_get, same_Some, slice_get-get_or, slice_get_within}
use Rattle.cyclic_plans.specs.PlanClock.{AsksPlan, IsInFrame, started as clock_started}
use Rattle.cyclic_plans.specs.lemmas.PlanLemmas.{begins_in_frame}
use Rattle.virt_clocks.specs.Clocks.{no_clocks}
use Rattle.xm_base.specs.Options.{on}
use Rattle.xm_base.specs.declared.limits.TheConstants.{TICKS}
use Rattle.xm_base.specs.declared.partition.Mode.{Mode}
use Rattle.xm_conf.specs.Configuration.{Conf}
use Rattle.xm_conf.specs.Description.{described}
use Rattle.xm_conf.specs.Fits.{Fits}
use Rattle.xm_ports.specs.Channels.{cleared, shapes_of}
use Rattle.xm_ports.specs.Ports.{no_ports}
use Rattle.system_state.specs.State.{SysState, part_at, with_machine, with_part}
use Rattle.machine_model.specs.lemmas.TickLemmas.{step_runs, step_halted}
use Rattle.machine_model.specs.lemmas.ListLemmas.{get_each, each_counted as each_length}
use Rattle.machine_model.specs.Facts.{AreEnds, AreFacts, BootsClocked, BootsComplete, BootsTimed, BootsWithFacts, HasFacts, IsAsMany, IsClocked, IsComplete, IsTimed, KeepsClocked, KeepsFacts, KeepsNumbers, KeepsTimed, begun}
use Rattle.machine_model.specs.Machine.{Machine, after, booted_part, happened, is_halt, run, start, step}
use Rattle.machine_model.specs.Partition.{PartitionState, is_halted, reset}
use Rattle.machine_model.specs.Structures.{flag}
use Rattle.machine_model.specs.View.{PartitionView, System, view_of}
use Rattle.machine_model.specs.Whole.{AllHalted, AllReset, NoEvent, WholeEvent, ticks_after}
use Rattle.span_model.specs.Passes.{evented}
use Rattle.tick_steps.specs.Machine.{IsMachine}

-- what a hypervisor event counts
event_most : (e : WholeEvent) (n : ℕ) → ticks_after e n ≤ n + 1
event_most NoEvent n = omega arith
event_most (AllReset mode) n = omega arith
event_most AllHalted n = omega arith

event_least : (e : WholeEvent) (n : ℕ) → n ≤ ticks_after e n
event_least NoEvent n = omega arith
event_least (AllReset mode) n = omega arith
event_least AllHalted n = omega arith

event_counts : (e : WholeEvent) (n : ℕ) → is_halt e ≡ false → ticks_after e n ≡ n + 1
event_counts NoEvent n runs = refl
event_counts (AllReset mode) n runs = refl
event_counts AllHalted n runs = absurd cc

event_stands : (e : WholeEvent) (n : ℕ) → is_halt e ≡ true → ticks_after e n ≡ n
event_stands NoEvent n halts = absurd cc
event_stands (AllReset mode) n halts = absurd cc
event_stands AllHalted n halts = refl

-- what a tick counts
record Counts (g next : Machine) : Type 0 where
  most : next.ticks ≤ g.ticks + 1
  least : g.ticks ≤ next.ticks
  runs : next.halted ≡ false → next.ticks ≡ g.ticks + 1
  halts : next.halted ≡ true → next.ticks ≡ g.ticks

after_counts : (g : Machine) → Counts g (after g (happened g))
unfolding after
after_counts g = record {
  most = event_most (happened g).event g.ticks;
  least = event_least (happened g).event g.ticks;
  runs = event_counts (happened g).event g.ticks;
  halts = event_stands (happened g).event g.ticks;
}

step_counts : (g : Machine) → g.halted ≡ false → Counts g (step g)
step_counts g runs = subst (Counts g) (sym (step_runs g runs)) (after_counts g)

-- a machine that has halted stays as it is
pub run_halted : (k : ℕ) (g : Machine) → g.halted ≡ true → run g k ≡ g
run_halted zero g halts = refl
run_halted (suc k) g halts = ap (λ (m : Machine). run m k) (step_halted g halts) ∙ run_halted k g halts

-- a run counts at most its ticks, and takes none back
pub ticks_most : (k : ℕ) (g : Machine) → (run g k).ticks ≤ g.ticks + k
ticks_most zero g = omega arith
ticks_most (suc k) g = at g.halted refl (ticks_most k (step g))
  where
    at : (b : Bool) → g.halted ≡ b → (run (step g) k).ticks ≤ (step g).ticks + k → (run (step g) k).ticks ≤ g.ticks + suc k
    at true halts more = omega (arith, more, ap (λ (m : Machine). m.ticks) (step_halted g halts))
    at false runs more = omega (arith, more, (step_counts g runs).most)

-- no more begin than it has, and so no more than a run may have
begun_after : (g next : Machine) → Counts g next → begun next ≤ g.ticks + 1
begun_after g next counts = at next.halted refl
  where
    at : (b : Bool) → next.halted ≡ b → next.ticks + flag next.halted ≤ g.ticks + 1
    at true halts = omega (arith, counts.halts halts, ap flag halts)
    at false runs = omega (arith, counts.runs runs, ap flag runs)

pub begun_most : (k : ℕ) (g : Machine) → begun g ≤ TICKS → g.ticks + k ≤ TICKS → begun (run g k) ≤ TICKS
begun_most zero g few room = few
begun_most (suc k) g few room = at g.halted refl (begun_most k (step g))
  where
    at : (b : Bool) → g.halted ≡ b → (begun (step g) ≤ TICKS → (step g).ticks + k ≤ TICKS → begun (run (step g) k) ≤ TICKS) → begun (run g (suc k)) ≤ TICKS
    at true halts later = subst (λ (m : Machine). begun m ≤ TICKS) (sym (run_halted (suc k) g halts)) few
    at false runs later =
        let begins : begun (step g) ≤ g.ticks + 1 = begun_after g (step g) (step_counts g runs) in
        later (omega (arith, begins, room)) (omega (arith, (step_counts g runs).most, room))

pub ticks_least : (k : ℕ) (g : Machine) → g.ticks ≤ (run g k).ticks
ticks_least zero g = omega arith
ticks_least (suc k) g = at g.halted refl (ticks_least k (step g))
  where
    at : (b : Bool) → g.halted ≡ b → (step g).ticks ≤ (run (step g) k).ticks → g.ticks ≤ (run (step g) k).ticks
    at true halts more = omega (arith, more, ap (λ (m : Machine). m.ticks) (step_halted g halts))
    at false runs more = omega (arith, more, (step_counts g runs).least)

-- a machine that has not halted after a run had not before
pub ran_on : (k : ℕ) (g : Machine) → (run g k).halted ≡ false → g.halted ≡ false
ran_on k g runs = at g.halted refl
  where
    at : (b : Bool) → g.halted ≡ b → b ≡ false
    at true halts = sym halts ∙ sym (ap (λ (m : Machine). m.halted) (run_halted k g halts)) ∙ runs
    at false e = refl

-- it has counted all ticks
pub ticks_exact : (k : ℕ) (g : Machine) → (run g k).halted ≡ false → (run g k).ticks ≡ g.ticks + k
ticks_exact zero g runs = omega arith
ticks_exact (suc k) g runs =
    let more = ticks_exact k (step g) runs in
    let one = (step_counts g (ran_on (suc k) g runs)).runs (ran_on k (step g) runs) in
    omega (arith, more, one)

-- and one that halted in a run has not counted all
pub ticks_fewer : (k : ℕ) (g : Machine) → g.halted ≡ false → (run g k).halted ≡ true → (run g k).ticks < g.ticks + k
ticks_fewer zero g runs halts = absurd (let wrong : true ≡ false = sym halts ∙ runs in cc)
ticks_fewer (suc k) g runs halts = at (step g).halted refl (ticks_fewer k (step g))
  where
    at : (b : Bool) → (step g).halted ≡ b → ((step g).halted ≡ false → (run (step g) k).halted ≡ true → (run (step g) k).ticks < (step g).ticks + k) → (run (step g) k).ticks < g.ticks + suc k
    at true now rest = omega (arith, ap (λ (m : Machine). m.ticks) (run_halted k (step g) now), (step_counts g runs).halts now)
    at false later rest = omega (arith, rest later halts, (step_counts g runs).most)

-- what holds of the machine of a system at all times, but for the number of its ticks
record Stands (g : Machine) : Type 0 where
  fits : Fits (described g.system.conf)
  complete : IsComplete g
  clocked : IsClocked g
  facts : HasFacts g
  time : IsTimed g

stands : (sys : SysState) → IsMachine sys → Stands sys.machine
stands sys is = record { fits = is.fits; complete = is.complete; clocked = is.clocked; facts = is.counted.facts; time = is.counted.time }

-- another machine of the same system
same_system : (sys : SysState) (next : Machine) → IsMachine sys → next.system ≡ sys.machine.system → Stands next → begun next ≤ TICKS → IsMachine (with_machine next sys)
same_system sys next is same stands few = record {
  shapes = is.shapes ∙ ap (λ (s : System). shapes_of s.conf) (sym same);
  fits = stands.fits;
  complete = stands.complete;
  clocked = stands.clocked;
  counted = record { facts = stands.facts; time = stands.time; ticks = few };
}

-- with as many partitions and channels as a complete machine another one is complete
as_complete : (g next : Machine) → IsComplete g → IsAsMany g next → IsComplete next
as_complete g next complete many = record {
  parts = many.parts ∙ complete.parts ∙ ap (λ (s : System). length s.conf.parts) (sym many.system);
  channels = many.channels ∙ complete.channels ∙ ap (λ (s : System). length s.conf.chans) (sym many.system);
}

module _ (facts : KeepsFacts) (time : KeepsTimed) (numbers : KeepsNumbers) (clocks : KeepsClocked) where
  stands_step : (g : Machine) → Stands g → Stands (step g)
  stands_step g is = record {
    fits = subst (λ (s : System). Fits (described s.conf)) (sym (numbers g).system) is.fits;
    complete = as_complete g (step g) is.complete (numbers g);
    clocked = clocks g is.fits is.clocked;
    facts = facts g is.facts;
    time = time g is.time;
  }

  stands_run : (k : ℕ) (g : Machine) → Stands g → Stands (run g k)
  stands_run zero g is = is
  stands_run (suc k) g is = stands_run k (step g) (stands_step g is)

  -- a run is of one system
  pub run_system : (k : ℕ) (g : Machine) → (run g k).system ≡ g.system
  run_system zero g = refl
  run_system (suc k) g = run_system k (step g) ∙ (numbers g).system

  -- what holds of every machine holds of it after ticks
  pub kept_run : (sys : SysState) (k : ℕ) → IsMachine sys → begun (run sys.machine k) ≤ TICKS → IsMachine (with_machine (run sys.machine k) sys)
  kept_run sys k is few = same_system sys (run sys.machine k) is (run_system k sys.machine) (stands_run k sys.machine (stands sys is)) few

  -- and after at most this many, where a run may have them
  pub kept_ticks : (sys new : SysState) (k most : ℕ) → IsMachine sys → new ≡ with_machine (run sys.machine k) sys → k ≤ most → sys.machine.ticks + most ≤ TICKS → IsMachine new
  kept_ticks sys new k most is same within few =
      subst IsMachine (sym same) (kept_run sys k is (begun_most k sys.machine is.counted.ticks (omega (arith, within, few))))

-- a machine as it boots
started_machine : BootsWithFacts → BootsTimed → BootsComplete → BootsClocked → (system : System) → Fits (described system.conf) → Stands (start system)
unfolding start
started_machine facts time numbers clocks system fits = record { fits = fits; complete = numbers system; clocked = clocks system fits; facts = facts system; time = time system }

start_system : (system : System) → (start system).system ≡ system
unfolding start
start_system system = refl

start_begun : (system : System) → begun (start system) ≡ 0
unfolding start
start_begun system = refl

pub kept_boot : BootsWithFacts → BootsTimed → BootsComplete → BootsClocked → (system : System) (sys : SysState) → Fits (described system.conf) → sys.machine ≡ start system → sys.shapes ≡ shapes_of system.conf → IsMachine sys
kept_boot facts time numbers clocks system sys fits is shapes =
    let stands : Stands sys.machine = subst Stands (sym is) (started_machine facts time numbers clocks system fits) in
    record {
      shapes = shapes ∙ ap (λ (s : System). shapes_of s.conf) (sym (ap (λ (g : Machine). g.system) is ∙ start_system system));
      fits = stands.fits;
      complete = stands.complete;
      clocked = stands.clocked;
      counted = record { facts = stands.facts; time = stands.time; ticks = omega (arith, ap begun is ∙ start_begun system) };
    }

-- no port is made
none_made : (n k : ℕ) → slice_index_or (replicate n false) k false ≡ false
none_made zero k = refl
none_made (suc n) zero = refl
none_made (suc n) (suc k) = none_made n k

no_ends : (view : PartitionView) → AreEnds view no_ports
unfolding no_ports
no_ends view r is = absurd (let e : false ≡ true = sym (none_made 32 r) ∙ is in cc)

-- a partition after a reset, whose health log is no longer than the ticks
reset_facts : (view : PartitionView) (mode : Mode) (status ticks : ℕ) (halts : Bool) (ps : PartitionState) → AreFacts view ticks halts ps → ps.health.next ≤ ticks
    → AreFacts view ticks halts (reset view mode status ps)
unfolding no_clocks reset
reset_facts view mode status ticks halts ps is log = record {
  traces = is.traces;
  health = omega (arith, log);
  execution = omega arith;
  loads = is.loads;
  inputs = is.inputs;
  made = no_ends view;
}

-- one partition is replaced by another that has the facts
pub facts_with : (g : Machine) (p : ℕ) (new : PartitionState) → HasFacts g → p < length g.parts → AreFacts (view_of g.system p) g.ticks g.halted new → HasFacts (with_part p new g)
facts_with g p new facts below is q ps there = ⊎_elim here other (cases_eq q p)
  where
    within : q < length g.parts
    within = omega (arith, slice_get_within (set g.parts p new) q ps there, length-set g.parts p new)

    found : get_or (set g.parts p new) q ps ≡ ps
    found = get_or_from_slice_get (set g.parts p new) q ps ps there

    here : q ≡ p → AreFacts (view_of g.system q) g.ticks g.halted ps
    here same =
        let new_there : new ≡ ps = sym (get_or-set_same g.parts p new ps below) ∙ ap (λ (k : ℕ). get_or (set g.parts p new) k ps) (sym same) ∙ found in
        subst (λ (k : ℕ). AreFacts (view_of g.system k) g.ticks g.halted ps) (sym same) (subst (AreFacts (view_of g.system p) g.ticks g.halted) new_there is)

    other : q ≢ p → AreFacts (view_of g.system q) g.ticks g.halted ps
    other differs =
        let old_there : get_or g.parts q ps ≡ ps = sym (get_or-set_other g.parts p q new ps differs) ∙ found in
        facts q ps (slice_get-get_or g.parts q ps within ∙ ap (λ (x : PartitionState). Some x) old_there)

-- the counters of a flag are few
flag_small : (b : Bool) → flag b ≤ 1
flag_small true = omega arith
flag_small false = omega arith

-- the ticks of a machine, those that have begun, and its hardware clock
module _ (sys : SysState) (is : IsMachine sys) where
  pub begun_few : begun sys.machine ≤ TICKS
  begun_few = is.counted.ticks

  pub ticks_few : sys.machine.ticks ≤ TICKS
  ticks_few = omega (arith, begun_few)

  pub time_few : sys.machine.time ≤ TICKS
  time_few = omega (arith, is.counted.time, begun_few)

  pub frame : IsInFrame sys.machine.system.conf sys.machine.clock sys.machine.time
  frame = is.clocked.in_frame

  pub plan_asked : AsksPlan sys.machine.system.conf sys.machine.clock
  plan_asked = is.clocked.asked

-- of a machine that has not halted only the ticks have begun that are done
pub begun_running : (g : Machine) → g.halted ≡ false → begun g ≡ g.ticks
begun_running g runs = omega (arith, ap flag runs)

-- what a machine says of one of its partitions
module _ (sys : SysState) (p : ℕ) (is : IsMachine sys) (below : p < length sys.machine.parts) where
  pub facts_at : AreFacts (view_of sys.machine.system p) sys.machine.ticks sys.machine.halted (part_at p sys.machine)
  facts_at = is.counted.facts p (part_at p sys.machine) (slice_get-get_or sys.machine.parts p (booted_part sys.machine.system p) below)

  -- its traces and its health log have room for more
  pub traces_few : (part_at p sys.machine).traces.next < 4294967295
  traces_few = omega (arith, facts_at.traces, begun_few sys is)

  pub health_few : (part_at p sys.machine).health.next < 4294967295
  health_few = omega (arith, facts_at.health, flag_small (sys.machine.halted || is_halted (part_at p sys.machine).state), begun_few sys is)

  -- its execution clock is far from its end
  pub execution_few : (part_at p sys.machine).clocks.execution ≤ TICKS
  execution_few = omega (arith, facts_at.execution, begun_few sys is)

  pub execution_below : (part_at p sys.machine).clocks.execution < 2 ^ 63
  execution_below = omega (arith, execution_few)

  -- its made ports are ends of channels
  pub made_ends : AreEnds (view_of sys.machine.system p) (part_at p sys.machine).made
  made_ends = facts_at.made

  -- it stands in the configuration
  pub configured : p < length sys.machine.system.conf.parts
  configured = omega (arith, below, is.complete.parts)

  -- a reset of it is kept, where its health log is no longer than the ticks
  pub kept_reset : (mode : Mode) (status : ℕ) → (part_at p sys.machine).health.next ≤ sys.machine.ticks
      → IsMachine (with_machine (with_part p (reset (view_of sys.machine.system p) mode status (part_at p sys.machine)) sys.machine) sys)
  kept_reset mode status log =
      let now : PartitionState = reset (view_of sys.machine.system p) mode status (part_at p sys.machine) in
      same_system sys (with_part p now sys.machine) is refl (record {
        fits = is.fits;
        complete = record { parts = length-set sys.machine.parts p now ∙ is.complete.parts; channels = is.complete.channels };
        clocked = record { in_frame = is.clocked.in_frame; asked = is.clocked.asked };
        facts = facts_with sys.machine p now is.counted.facts below
            (reset_facts (view_of sys.machine.system p) mode status sys.machine.ticks sys.machine.halted (part_at p sys.machine) facts_at log);
        time = is.counted.time;
      }) is.counted.ticks

-- all partitions are reset
facts_reset : (g : Machine) (mode : Mode) → HasFacts g → All (λ part. part.health.next ≤ g.ticks) g.parts
    → HasFacts (record (evented (AllReset mode) g) { clock = clock_started; time = 0 })
facts_reset g mode facts log q ps there =
    at (slice_get g.parts q) refl (sym (get_each (λ k x. reset (view_of g.system k) mode 0 x) g.parts q) ∙ there)
  where
    at : (o : Option PartitionState) → slice_get g.parts q ≡ o → on (λ x. reset (view_of g.system q) mode 0 x) o ≡ Some ps → AreFacts (view_of g.system q) g.ticks g.halted ps
    at None e is = absurd cc
    at (Some old) e is =
        let short : (get_or g.parts q old).health.next ≤ g.ticks = log q old (slice_get_within g.parts q old e) in
        subst (AreFacts (view_of g.system q) g.ticks g.halted) (same_Some (reset (view_of g.system q) mode 0 old) ps is)
        (reset_facts (view_of g.system q) mode 0 g.ticks g.halted old (facts q old e)
        (omega (arith, short, ap (λ (x : PartitionState). x.health.next) (get_or_from_slice_get g.parts q old old e))))

-- the first plan begins
plan_begins : (conf : Conf) → Fits (described conf) → IsInFrame conf clock_started 0
unfolding described clock_started
plan_begins conf fits = begins_in_frame conf 0 0 fits fits.counts.plans.some

nothing_asked : (conf : Conf) → AsksPlan conf clock_started
unfolding clock_started
nothing_asked conf = tt

-- a reset of all is kept, where no health log is longer than the ticks
pub kept_reset_all : (sys : SysState) (mode : Mode) → IsMachine sys → All (λ part. part.health.next ≤ sys.machine.ticks) sys.machine.parts
    → IsMachine (with_machine (record (evented (AllReset mode) sys.machine) { clock = clock_started; time = 0 }) sys)
kept_reset_all sys mode is log =
    same_system sys (record (evented (AllReset mode) sys.machine) { clock = clock_started; time = 0 }) is refl (record {
      fits = is.fits;
      complete = record {
        parts = each_length (λ k x. reset (view_of sys.machine.system k) mode 0 x) sys.machine.parts ∙ is.complete.parts;
        channels = length-map sys.machine.channels cleared ∙ is.complete.channels;
      };
      clocked = record { in_frame = plan_begins sys.machine.system.conf is.fits; asked = nothing_asked sys.machine.system.conf };
      facts = facts_reset sys.machine mode is.counted.facts log;
      time = omega arith;
    }) is.counted.ticks
