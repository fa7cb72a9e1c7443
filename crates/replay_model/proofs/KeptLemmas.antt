-- Each pass of a tick in isolation keeps the machine as it may stand.
use Rattle.std.proofs.Common.{◌≡◌, ◌≢◌, ⊎_elim, ℕ, zero, suc, ◌+◌, ◌≤◌, Bool, true, false, List, [], ◌∷◌, length, set, get_or, Option, None, Some, refl, sym, ap, ◌∙◌, subst, arith, length-set}
use Rattle.std.specs.Prelude.{if◌then◌else◌, slice_get}
use Rattle.std.proofs.lemmas.Bool.{cases_eq}
use Rattle.std.proofs.lemmas.List.{length-map}
use Rattle.std.proofs.lemmas.Option.{get_or_from_slice_get, same_Some}
use Rattle.cyclic_plans.specs.PlanClock.{AsksPlan, CyclicClock, IsInFrame, ended, started}
use Rattle.cyclic_plans.specs.lemmas.PlanLemmas.{begins_in_frame}
use Rattle.xm_base.specs.Options.{on}
use Rattle.xm_conf.specs.Configuration.{Conf}
use Rattle.xm_conf.specs.Description.{described}
use Rattle.xm_conf.specs.Fits.{Fits}
use Rattle.xm_ports.specs.Channels.{cleared}
use Rattle.machine_model.specs.lemmas.ListLemmas.{get_each, each_counted as each_length}
use Rattle.machine_model.specs.Cue.{Cue}
use Rattle.machine_model.specs.Facts.{AreFacts, HasFacts, IsClocked, IsTimed, KeepsClocked}
use Rattle.machine_model.specs.Health.{Worked}
use Rattle.machine_model.specs.Machine.{Machine, SlotTurn, after, booted_part, happened, happened_by, is_halt, local, local_in, next_clock, step, turn_of}
use Rattle.machine_model.specs.Partition.{PartitionState, is_halted, link_signal, reset}
use Rattle.machine_model.specs.Structures.{flag}
use Rattle.machine_model.specs.Emission.{OwnPuts, OwnSignals, OwnStill, OwnTakes, OwnTraffic}
use Rattle.machine_model.specs.Traffic.{Puts, Signals, Still, Takes, Traffic, after_message, after_traffic, heard_as, heard_from, hearing, interrupted, puts_at, takes_at}
use Rattle.machine_model.specs.View.{PartitionView, System, named, view_of}
use Rattle.machine_model.specs.Whole.{AllHalted, AllReset, NoEvent, WholeEvent, event_of, ticks_after}
use Rattle.span_model.specs.Passes.{part_at, traded, traffic_in, with_part, with_traffic}
use Rattle.virt_traps.specs.Virtual.{raised}
use Rattle.replay_model.specs.Kept.{IsKeptBy, PassesKeep}
use Rattle.replay_model.specs.Passes.{away_passed, event_met, obeyed_by, rested_in, tick_past, traffic_received, work_passed}

-- what the facts say of a partition is the same
record IsAlike (before after : PartitionState) : Type 0 where
  traces : after.traces ≡ before.traces
  health : after.health ≡ before.health
  execution : after.clocks.execution ≡ before.clocks.execution
  inputs : after.inputs ≡ before.inputs
  made : after.made ≡ before.made
  state : after.state ≡ before.state

-- facts of more ticks
more_facts : (view : PartitionView) (e : WholeEvent) (n : ℕ) (before after : PartitionState) → IsAlike before after → AreFacts view n false before → AreFacts view (ticks_after e n) (is_halt e) after
more_facts view e n before after alike facts = by e
  where
    traces : before.traces.next ≤ n
    traces = facts.traces

    health : before.health.next ≤ n + flag (is_halted before.state)
    health = facts.health

    execution : before.clocks.execution ≤ n + 0
    execution = facts.execution

    small : (b : Bool) → flag b ≤ 1
    small true = omega arith
    small false = omega arith

    counted : AreFacts view (n + 1) false after
    counted = record {
      traces = omega (arith, traces, ap (λ t. t.next) alike.traces);
      health = omega (arith, health, ap (λ h. h.next) alike.health, ap (λ s. flag (is_halted s)) alike.state);
      execution = omega (arith, execution, alike.execution);
      loads = rw (alike.traces) facts.loads;
      inputs = rw (alike.inputs) facts.inputs;
      made = rw (alike.made) facts.made;
    }

    by : (event : WholeEvent) → AreFacts view (ticks_after event n) (is_halt event) after
    by NoEvent = counted
    by (AllReset mode) = counted
    by AllHalted = record {
      traces = omega (arith, traces, ap (λ t. t.next) alike.traces);
      health = omega (arith, health, ap (λ h. h.next) alike.health, small (is_halted before.state));
      execution = omega (arith, execution, alike.execution);
      loads = counted.loads;
      inputs = counted.inputs;
      made = counted.made;
    }

itself : (ps : PartitionState) → IsAlike ps ps
itself ps = record { traces = refl; health = refl; execution = refl; inputs = refl; made = refl; state = refl }

-- what is heard changes none of it
interrupted_alike : (o : Option ℕ) (ps : PartitionState) → IsAlike ps (interrupted o ps)
interrupted_alike None ps = itself ps
interrupted_alike (Some n) ps = by (is_halted ps.state)
  where
    by : (b : Bool) → IsAlike ps (if b then ps else record ps { traps = raised n ps.traps })
    by true = itself ps
    by false = record { traces = refl; health = refl; execution = refl; inputs = refl; made = refl; state = refl }

hearing_alike : (view : PartitionView) (own : OwnTraffic) (ps : PartitionState) → IsAlike ps (hearing view own ps)
unfolding after_message
hearing_alike view OwnStill ps = itself ps
hearing_alike view (OwnPuts q bytes) ps = interrupted_alike (heard_from q view.part.ports ps.made view.channels) ps
hearing_alike view (OwnTakes q) ps = itself ps
hearing_alike view (OwnSignals number) ps = interrupted_alike (Some (link_signal number)) ps

-- another partition of a machine that stands for one of this one, of which the facts say the same
record IsBefore (q : ℕ) (g : Machine) (ps : PartitionState) : Type 0 where
  before : PartitionState
  there : slice_get g.parts q ≡ Some before
  alike : IsAlike before ps

-- all partitions but one are as they were, as far as the facts speak of them
abbrev OthersStay : ℕ → Machine → Machine → Type 0
OthersStay p g h = (q : ℕ) (ps : PartitionState) → q ≢ p → slice_get h.parts q ≡ Some ps → IsBefore q g ps

alike_then : (x y z : PartitionState) → IsAlike x y → IsAlike y z → IsAlike x z
alike_then x y z one other = record {
  traces = other.traces ∙ one.traces;
  health = other.health ∙ one.health;
  execution = other.execution ∙ one.execution;
  inputs = other.inputs ∙ one.inputs;
  made = other.made ∙ one.made;
  state = other.state ∙ one.state;
}

stay_then : (p : ℕ) (g h k : Machine) → OthersStay p g h → OthersStay p h k → OthersStay p g k
stay_then p g h k one other q ps differs there =
    let last = other q ps differs there in
    let first = one q last.before differs last.there in
    record { before = first.before; there = first.there; alike = alike_then first.before last.before ps first.alike last.alike }

stay_same : (p : ℕ) (g h : Machine) → h.parts ≡ g.parts → OthersStay p g h
stay_same p g h same q ps differs there = record { before = ps; there = sym (ap (λ xs. slice_get xs q) same) ∙ there; alike = itself ps }

-- a partition is written
set_other : {X : Type 0} (xs : List X) (p q : ℕ) (new : X) → q ≢ p → slice_get (set xs p new) q ≡ slice_get xs q
set_other [] p q new other = refl
set_other (x ∷ xs) zero zero new other = absurd (other refl)
set_other (x ∷ xs) zero (suc q) new other = refl
set_other (x ∷ xs) (suc p) zero new other = refl
set_other (x ∷ xs) (suc p) (suc q) new other = set_other xs p q new (λ e. other (ap suc e))

stay_put : (p : ℕ) (x : PartitionState) (g h : Machine) → h.parts ≡ set g.parts p x → OthersStay p g h
stay_put p x g h is q ps differs there =
    record { before = ps; there = sym (set_other g.parts p q x differs) ∙ sym (ap (λ xs. slice_get xs q) is) ∙ there; alike = itself ps }

-- traffic
stay_heard : (p : ℕ) (t : Traffic) (g : Machine) → OthersStay p g (with_traffic t g)
stay_heard p t g q ps differs there = by (slice_get g.parts q) refl (sym (get_each (λ k x. hearing (view_of g.system k) (heard_as g.system.conf k t) x) g.parts q) ∙ there)
  where
    by : (o : Option PartitionState) → slice_get g.parts q ≡ o → on (λ x. hearing (view_of g.system q) (heard_as g.system.conf q t) x) o ≡ Some ps → IsBefore q g ps
    by None is found = absurd cc
    by (Some x) is found = record {
      before = x;
      there = is;
      alike = subst (IsAlike x) (same_Some (hearing (view_of g.system q) (heard_as g.system.conf q t) x) ps found) (hearing_alike (view_of g.system q) (heard_as g.system.conf q t) x);
    }

stay_traded : (p : ℕ) (t : Traffic) (g : Machine) → OthersStay p g (traded t g)
stay_traded p Still g = stay_same p g g refl
stay_traded p (Puts c bytes) g = stay_heard p (Puts c bytes) g
stay_traded p (Takes c) g = stay_heard p (Takes c) g
stay_traded p (Signals source number) g = stay_heard p (Signals source number) g

stay_met : (p : ℕ) (e : WholeEvent) (g : Machine) → OthersStay p g (event_met p e g)
stay_met p NoEvent g = stay_same p g g refl
stay_met p (AllReset mode) g = stay_put p (reset (view_of g.system p) mode 0 (part_at p g)) g (event_met p (AllReset mode) g) refl
stay_met p AllHalted g = stay_same p g (event_met p AllHalted g) refl

stay_past : (p : ℕ) (e : WholeEvent) (g : Machine) → OthersStay p g (tick_past e g)
stay_past p NoEvent g = stay_same p g (tick_past NoEvent g) refl
stay_past p (AllReset mode) g = stay_same p g (tick_past (AllReset mode) g) refl
stay_past p AllHalted g = stay_same p g g refl

-- what a pass keeps beside the partitions
record IsSide (g h : Machine) : Type 0 where
  system : h.system ≡ g.system
  parts : length h.parts ≡ length g.parts
  channels : length h.channels ≡ length g.channels
  clock : h.clock ≡ g.clock
  time : h.time ≡ g.time
  ticks : h.ticks ≡ g.ticks

side_then : (g h k : Machine) → IsSide g h → IsSide h k → IsSide g k
side_then g h k one other = record {
  system = other.system ∙ one.system;
  parts = other.parts ∙ one.parts;
  channels = other.channels ∙ one.channels;
  clock = other.clock ∙ one.clock;
  time = other.time ∙ one.time;
  ticks = other.ticks ∙ one.ticks;
}

side_itself : (g : Machine) → IsSide g g
side_itself g = record { system = refl; parts = refl; channels = refl; clock = refl; time = refl; ticks = refl }

side_put : (p : ℕ) (x : PartitionState) (g : Machine) → IsSide g (with_part p x g)
side_put p x g = record { system = refl; parts = length-set g.parts p x; channels = refl; clock = refl; time = refl; ticks = refl }

side_traded : (t : Traffic) (g : Machine) → IsSide g (traded t g)
side_traded Still g = side_itself g
side_traded (Puts c bytes) g = record { system = refl; parts = each_length _ g.parts; channels = each_length (after_traffic g.time (Puts c bytes)) g.channels; clock = refl; time = refl; ticks = refl }
side_traded (Takes c) g = record { system = refl; parts = each_length _ g.parts; channels = each_length (after_traffic g.time (Takes c)) g.channels; clock = refl; time = refl; ticks = refl }
side_traded (Signals source number) g = record { system = refl; parts = each_length _ g.parts; channels = each_length (after_traffic g.time (Signals source number)) g.channels; clock = refl; time = refl; ticks = refl }

side_met : (p : ℕ) (e : WholeEvent) (g : Machine) → IsSide g (event_met p e g)
side_met p NoEvent g = side_itself g
side_met p (AllReset mode) g = record { system = refl; parts = length-set g.parts p (reset (view_of g.system p) mode 0 (part_at p g)); channels = length-map g.channels cleared; clock = refl; time = refl; ticks = refl }
side_met p AllHalted g = record { system = refl; parts = refl; channels = refl; clock = refl; time = refl; ticks = refl }

-- whether the hypervisor has halted
traded_halted : (t : Traffic) (g : Machine) → (traded t g).halted ≡ g.halted
traded_halted Still g = refl
traded_halted (Puts c bytes) g = refl
traded_halted (Takes c) g = refl
traded_halted (Signals source number) g = refl

met_halted : (p : ℕ) (e : WholeEvent) (g : Machine) → g.halted ≡ false → (event_met p e g).halted ≡ is_halt e
met_halted p NoEvent g runs = runs
met_halted p (AllReset mode) g runs = runs
met_halted p AllHalted g runs = refl

past_halted : (e : WholeEvent) (g : Machine) → (tick_past e g).halted ≡ g.halted
past_halted NoEvent g = refl
past_halted (AllReset mode) g = refl
past_halted AllHalted g = refl

-- the clocks past a tick
past_ticks : (e : WholeEvent) (g : Machine) → (tick_past e g).ticks ≡ ticks_after e g.ticks
past_ticks NoEvent g = refl
past_ticks (AllReset mode) g = refl
past_ticks AllHalted g = refl

past_timed : (e : WholeEvent) (g : Machine) → IsTimed g → IsTimed (tick_past e g)
past_timed NoEvent g timed = omega (arith, timed)
past_timed (AllReset mode) g timed = omega arith
past_timed AllHalted g timed = timed

-- the plan clock past a plain tick: it moves as that of a machine without partitions
abbrev bare : Machine → Machine
bare g = record g { parts = []; halted = false }

none_local : (g : Machine) (o : Option SlotTurn) → local_in (bare g) o ≡ None
none_local g None = refl
none_local g (Some turn) = refl

bare_step : (g : Machine) → step (bare g) ≡ after (bare g) (happened_by g.system.conf (turn_of (bare g)) None)
unfolding step happened local
bare_step g = ap (λ tick. after (bare g) (happened_by g.system.conf (turn_of (bare g)) tick)) (none_local g (turn_of (bare g)))

bare_clock : (g : Machine) (o : Option SlotTurn) → (after (bare g) (happened_by g.system.conf o None)).clock ≡ ended g.system.conf g.clock g.time
unfolding after happened_by next_clock
bare_clock g o = refl

bare_time : (g : Machine) (o : Option SlotTurn) → (after (bare g) (happened_by g.system.conf o None)).time ≡ g.time + 1
unfolding after happened_by
bare_time g o = refl

bare_system : (g : Machine) (o : Option SlotTurn) → (after (bare g) (happened_by g.system.conf o None)).system ≡ g.system
unfolding after
bare_system g o = refl

clocked_so : (h : Machine) (system : System) (clock : CyclicClock) (time : ℕ) → h.system ≡ system → h.clock ≡ clock → h.time ≡ time → IsClocked h
    → IsInFrame system.conf clock time × AsksPlan system.conf clock
clocked_so h system clock time same_system same_clock same_time is = rw (sym same_system, sym same_clock, sym same_time) (is.in_frame, is.asked)

plain_clocked : KeepsClocked → (g : Machine) → Fits (described g.system.conf) → IsClocked g → IsClocked (tick_past NoEvent g)
plain_clocked law g fits is =
    let next : IsClocked (step (bare g)) = law (bare g) fits (record { in_frame = is.in_frame; asked = is.asked }) in
    let o = turn_of (bare g) in
    let moved = clocked_so (step (bare g)) g.system (ended g.system.conf g.clock g.time) (g.time + 1) (ap (λ m. m.system) (bare_step g) ∙ bare_system g o) (ap (λ m. m.clock) (bare_step g) ∙ bare_clock g o) (ap (λ m. m.time) (bare_step g) ∙ bare_time g o) next in
    record { in_frame = moved.0; asked = moved.1 }

plan_begins : (conf : Conf) → Fits (described conf) → IsInFrame conf started 0
unfolding described started
plan_begins conf fits = begins_in_frame conf 0 0 fits fits.counts.plans.some

nothing_asked : (conf : Conf) → AsksPlan conf started
unfolding started
nothing_asked conf = tt

past_clocked : KeepsClocked → (e : WholeEvent) (g : Machine) → Fits (described g.system.conf) → IsClocked g → IsClocked (tick_past e g)
past_clocked law NoEvent g fits is = plain_clocked law g fits is
past_clocked law (AllReset mode) g fits is = record { in_frame = plan_begins g.system.conf fits; asked = nothing_asked g.system.conf }
past_clocked law AllHalted g fits is = is

-- the system, the partitions and the channels past a tick
past_system : (e : WholeEvent) (g : Machine) → (tick_past e g).system ≡ g.system
past_system NoEvent g = refl
past_system (AllReset mode) g = refl
past_system AllHalted g = refl

past_parts : (e : WholeEvent) (g : Machine) → (tick_past e g).parts ≡ g.parts
past_parts NoEvent g = refl
past_parts (AllReset mode) g = refl
past_parts AllHalted g = refl

past_channels : (e : WholeEvent) (g : Machine) → (tick_past e g).channels ≡ g.channels
past_channels NoEvent g = refl
past_channels (AllReset mode) g = refl
past_channels AllHalted g = refl

-- the facts hold of all, where the others stay
all_facts : (p : ℕ) (e : WholeEvent) (g h : Machine) → g.halted ≡ false → h.system ≡ g.system → h.ticks ≡ ticks_after e g.ticks → h.halted ≡ is_halt e → OthersStay p g h → HasFacts g
    → AreFacts (view_of g.system p) h.ticks h.halted (part_at p h) → HasFacts h
all_facts p e g h runs same ticks halts stay facts own q ps there =
    subst (λ (s : System). AreFacts (view_of s q) h.ticks h.halted ps) (sym same) (⊎_elim here other (cases_eq q p))
  where
    here : q ≡ p → AreFacts (view_of g.system q) h.ticks h.halted ps
    here is =
        let found : part_at p h ≡ ps = ap (λ (k : ℕ). get_or h.parts k (booted_part h.system p)) (sym is) ∙ get_or_from_slice_get h.parts q ps (booted_part h.system p) there in
        subst (λ (k : ℕ). AreFacts (view_of g.system k) h.ticks h.halted ps) (sym is) (subst (AreFacts (view_of g.system p) h.ticks h.halted) found own)

    other : q ≢ p → AreFacts (view_of g.system q) h.ticks h.halted ps
    other differs =
        let was = stay q ps differs there in
        let before : AreFacts (view_of g.system q) g.ticks false was.before = subst (λ (b : Bool). AreFacts (view_of g.system q) g.ticks b was.before) runs (facts q was.before was.there) in
        subst (λ (n : ℕ). AreFacts (view_of g.system q) n h.halted ps) (sym ticks)
        (subst (λ (b : Bool). AreFacts (view_of g.system q) (ticks_after e g.ticks) b ps) (sym halts) (more_facts (view_of g.system q) e g.ticks was.before ps was.alike before))

-- passes up to the clocks, and then the clocks
kept_by : KeepsClocked → (p : ℕ) (e : WholeEvent) (g h : Machine) → g.halted ≡ false → IsSide g h → OthersStay p g h → h.halted ≡ is_halt e → IsKeptBy p e g (tick_past e h)
kept_by law p e g h runs side stay halts =
    let system : (tick_past e h).system ≡ g.system = past_system e h ∙ side.system in
    let halted : (tick_past e h).halted ≡ is_halt e = past_halted e h ∙ halts in
    let ticks : (tick_past e h).ticks ≡ ticks_after e g.ticks = past_ticks e h ∙ ap (ticks_after e) side.ticks in
    record {
      system = system;
      parts = ap length (past_parts e h) ∙ side.parts;
      channels = ap length (past_channels e h) ∙ side.channels;
      ticks = ticks;
      halted = halted;
      clocked = λ fits is. past_clocked law e h (subst (λ (s : System). Fits (described s.conf)) (sym side.system) fits) (record { in_frame = rw (side.system, side.clock, side.time) is.in_frame; asked = rw (side.system, side.clock) is.asked });
      timed = λ timed. past_timed e h (rw (side.time, side.ticks) timed);
      facts = λ facts own. all_facts p e g (tick_past e h) runs system ticks halted (stay_then p g h (tick_past e h) stay (stay_past p e h)) facts own;
    }

-- the same of traffic of others
stay_received : (p : ℕ) (own : OwnTraffic) (g : Machine) → OthersStay p g (traffic_received p own g)
stay_received p OwnStill g = stay_same p g g refl
stay_received p (OwnPuts q bytes) g = stay_traded p (puts_at (named g.system.conf p q) bytes) g
stay_received p (OwnTakes q) g = stay_traded p (takes_at (named g.system.conf p q)) g
stay_received p (OwnSignals number) g = stay_put p (hearing (view_of g.system p) (OwnSignals number) (part_at p g)) g (traffic_received p (OwnSignals number) g) refl

side_received : (p : ℕ) (own : OwnTraffic) (g : Machine) → IsSide g (traffic_received p own g)
side_received p OwnStill g = side_itself g
side_received p (OwnPuts q bytes) g = side_traded (puts_at (named g.system.conf p q) bytes) g
side_received p (OwnTakes q) g = side_traded (takes_at (named g.system.conf p q)) g
side_received p (OwnSignals number) g = side_put p (hearing (view_of g.system p) (OwnSignals number) (part_at p g)) g

received_halted : (p : ℕ) (own : OwnTraffic) (g : Machine) → (traffic_received p own g).halted ≡ g.halted
received_halted p OwnStill g = refl
received_halted p (OwnPuts q bytes) g = traded_halted (puts_at (named g.system.conf p q) bytes) g
received_halted p (OwnTakes q) g = traded_halted (takes_at (named g.system.conf p q)) g
received_halted p (OwnSignals number) g = refl

-- a tick in the slot of another partition, or in a gap
away_kept : KeepsClocked → (g : Machine) (p : ℕ) (cue : Cue) → g.halted ≡ false → IsKeptBy p cue.whole g (away_passed p cue g)
away_kept law g p cue runs =
    kept_by law p cue.whole g g4 runs
    (side_then g g3 g4 (side_then g g2 g3 (side_then g g1 g2 (side_received p cue.traffic g) (side_put p _ g1)) (side_met p cue.whole g2)) (side_put p _ g3))
    (stay_then p g g3 g4 (stay_then p g g2 g3 (stay_then p g g1 g2 (stay_received p cue.traffic g) (stay_put p _ g1 g2 refl)) (stay_met p cue.whole g2)) (stay_put p _ g3 g4 refl))
    (met_halted p cue.whole g2 (received_halted p cue.traffic g ∙ runs))
  where
    g1 : Machine
    g1 = traffic_received p cue.traffic g

    g2 : Machine
    g2 = obeyed_by p cue g1

    g3 : Machine
    g3 = event_met p cue.whole g2

    g4 : Machine
    g4 = rested_in p g3

-- a tick in which the partition takes its turn
working_kept : KeepsClocked → (g : Machine) (p : ℕ) (work : Worked) → g.halted ≡ false → IsKeptBy p (event_of work.act) g (work_passed p work g)
working_kept law g p work runs =
    kept_by law p (event_of work.act) g g3 runs
    (side_then g g2 g3 (side_then g g1 g2 (side_put p work.after g) (side_traded t g1)) (side_met p (event_of work.act) g2))
    (stay_then p g g2 g3 (stay_then p g g1 g2 (stay_put p work.after g g1 refl) (stay_traded p t g1)) (stay_met p (event_of work.act) g2))
    (met_halted p (event_of work.act) g2 (traded_halted t g1 ∙ runs))
  where
    t : Traffic
    t = traffic_in g p work.act

    g1 : Machine
    g1 = with_part p work.after g

    g2 : Machine
    g2 = traded t g1

    g3 : Machine
    g3 = event_met p (event_of work.act) g2

resting_kept : KeepsClocked → (g : Machine) (p : ℕ) → g.halted ≡ false → IsKeptBy p NoEvent g (tick_past NoEvent (rested_in p g))
resting_kept law g p runs = kept_by law p NoEvent g (rested_in p g) runs (side_put p _ g) (stay_put p _ g (rested_in p g) refl) runs

pub passes_keep : KeepsClocked → PassesKeep
passes_keep law = record {
  away = λ g p cue runs below. away_kept law g p cue runs;
  resting = λ g p runs below. resting_kept law g p runs;
  working = λ g p work runs below. working_kept law g p work runs;
}
