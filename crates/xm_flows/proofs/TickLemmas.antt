-- One tick of two machines that go together for a closed set of partitions: its members receive the same, and the machines still go together.
use Rattle.std.proofs.Common.{◌≡◌, ℕ, ◌+◌, Bool, true, false, List, length, Option, None, Some, refl, sym, ap, ◌∙◌, arith, subst}
use Rattle.std.specs.Prelude.{slice_get, ◌==◌, ◌-◌, if◌then◌else◌, is_some}
use Rattle.std.proofs.lemmas.Bool.{eqb-true}
use Rattle.std.proofs.lemmas.Option.{same_Some}
use Rattle.cyclic_plans.specs.PlanClock.{CyclicClock, ends_frame}
use Rattle.cyclic_plans.specs.Slots.{frame_of}
use Rattle.xm_base.specs.Options.{on}
use Rattle.xm_base.specs.declared.partition.Order.{Order}
use Rattle.xm_conf.specs.Configuration.{Conf}
use Rattle.xm_conf.specs.Description.{described}
use Rattle.xm_conf.specs.Fits.{Fits}
use Rattle.xm_ports.specs.Channels.{Content}
use Rattle.machine_model.specs.lemmas.TickLemmas.{step_runs}
use Rattle.machine_model.specs.Alone.{Alone, alone_step}
use Rattle.machine_model.specs.Cue.{Cue, CueSlot, cue, cue_in, slot_of, unless_own}
use Rattle.machine_model.specs.Laws.{OneTick, SeesNothing, part, alone_part_at}
use Rattle.machine_model.specs.LocalTick.{LocalTick, local_tick, worked}
use Rattle.machine_model.specs.Machine.{Machine, SlotTurn, act_of, after, clock_after, copies, happened, happened_by, if_its_turn, is_halt, is_turn_of, local, local_in, local_of, next_clock, order_for, order_upon, sight, sight_in, sight_of_state, step, system_traffic, taken_by, tick_of, turn_of}
use Rattle.machine_model.specs.Partition.{PartitionState, takes_turns}
use Rattle.machine_model.specs.Emission.{Directed, OwnStill, OwnTraffic, Sight, Unseen, WholeEvent, reach_of}
use Rattle.machine_model.specs.Traffic.{heard_as, traffic_of}
use Rattle.machine_model.specs.View.{System, part_of, view_of}
use Rattle.machine_model.specs.Whole.{event_of, ticks_after, time_after}
use Rattle.xm_flows.specs.Groups.{HasItsPeers, Members}
use Rattle.xm_flows.specs.Laws.{AreClosedAlike}
use Rattle.xm_flows.specs.Rights.{ActsByRight, IsByRight}
use Rattle.xm_flows.specs.Steering.{steered_plan, steering, steering_in, steering_unless, to_member}
use Rattle.xm_flows.specs.Together.{GoTogether, HasSamePart, ReceivesTheSame, RunTheSame, TicksTogether}
use Rattle.xm_flows.specs.lemmas.ActLemmas.{bounded_right}
use Rattle.xm_flows.proofs.ClockLemmas.{clocks_alike}
use Rattle.xm_flows.proofs.HeardLemmas.{unheard}
use Rattle.xm_flows.proofs.PairLemmas.{HaveSameChannels, heard_alike}
use Rattle.xm_flows.proofs.TurnLemmas.{member_turn, same_turn}
use Rattle.xm_flows.specs.lemmas.FrameLemmas.{same_frame}

-- the channels and links of the two systems
pub same_channels : (members : Members) (one other : System) → AreClosedAlike members one other → HaveSameChannels members one.conf other.conf
unfolding view_of
same_channels members one other alike = record {
  fits_one = alike.fits_one;
  fits_other = alike.fits_other;
  channels = alike.same.channels;
  channels_back = alike.same.channels_back;
  links = alike.same.links;
  links_back = alike.same.links_back;
  ports = λ p member. ap (λ view. length view.part.ports) (alike.same.views p member);
}

-- Turns: a member's turn is the same in both, and where it is no member's it is none in both.

-- a turn that is a member's
turn_is : (members : Members) (o : Option SlotTurn) (turn : SlotTurn) → member_turn members o ≡ Some turn → (o ≡ Some turn) × (members turn.part ≡ true)
turn_is members None turn is = absurd cc
turn_is members (Some one) turn is = by (members one.part) refl is
  where
    by : (b : Bool) → members one.part ≡ b → (if b then Some one else None) ≡ Some turn → (Some one ≡ Some turn) × (members turn.part ≡ true)
    by true member said = (said, sym (ap (λ (t : SlotTurn). members t.part) (same_Some one turn said)) ∙ member)
    by false fails said = absurd cc

-- a turn that is no member's
stranger_turn : (members : Members) (one turn : SlotTurn) → member_turn members (Some one) ≡ None → members one.part ≡ false
stranger_turn members one turn is = by (members one.part) is
  where
    by : (b : Bool) → (if b then Some one else None) ≡ None → b ≡ false
    by true said = absurd cc
    by false said = refl

-- the local tick of a member
shown_nothing : SeesNothing → (g : Machine) (turn : SlotTurn) (ps : PartitionState) → turn_of g ≡ Some turn → slice_get g.parts turn.part ≡ Some ps → (part_of g.system.conf turn.part).system ≡ false
    → sight_of_state g turn.part turn.first ps ≡ Unseen
unfolding sight
shown_nothing sees g turn ps its there plain =
    let same : (turn.part == turn.part) ≡ true = grind (arith) in
    sym (ap (λ o. sight_in g turn.part o (slice_get g.parts turn.part)) its ∙ ap (sight_in g turn.part (Some turn)) there
    ∙ ap (λ b. if b then sight_of_state g turn.part turn.first ps else Unseen) same)
    ∙ sees g turn.part plain

local_is : (g : Machine) (p : ℕ) (first : Bool) (ps : PartitionState) → sight_of_state g p first ps ≡ Unseen
    → local_of g p first ps ≡ local_tick (view_of g.system p) ps (copies g p) g.ticks g.time first Unseen
unfolding local_of
local_is g p first ps unseen = ap (local_tick (view_of g.system p) ps (copies g p) g.ticks g.time first) unseen

ticks_alike : (g h : Machine) (p : ℕ) (first : Bool) (ps : PartitionState) → view_of g.system p ≡ view_of h.system p → copies g p ≡ copies h p → g.ticks ≡ h.ticks → g.time ≡ h.time
    → sight_of_state g p first ps ≡ Unseen → sight_of_state h p first ps ≡ Unseen → local_of g p first ps ≡ local_of h p first ps
ticks_alike g h p first ps view contents ticks time unseen unseen_too =
    local_is g p first ps unseen
    ∙ ap (λ v. local_tick v ps (copies g p) g.ticks g.time first Unseen) view
    ∙ ap (λ c. local_tick (view_of h.system p) ps c g.ticks g.time first Unseen) contents
    ∙ ap (λ n. local_tick (view_of h.system p) ps (copies h p) n g.time first Unseen) ticks
    ∙ ap (λ t. local_tick (view_of h.system p) ps (copies h p) h.ticks t first Unseen) time
    ∙ sym (local_is h p first ps unseen_too)

local_alike : SeesNothing → (members : Members) (g h : Machine) → AreClosedAlike members g.system h.system → GoTogether members g h → (turn : SlotTurn) → members turn.part ≡ true
    → turn_of g ≡ Some turn → turn_of h ≡ Some turn → local g ≡ local h
unfolding local
local_alike sees members g h alike go turn member its its_too =
    let same = go.parts turn.part member in
    let unseen = shown_nothing sees g turn same.state its same.there (alike.closed_one.plain turn.part member) in
    let unseen_too = shown_nothing sees h turn same.state its_too same.there_too (alike.closed_other.plain turn.part member) in
    ap (local_in g) its
    ∙ ap (taken_by g turn.part turn.first) same.there
    ∙ ap (λ tick. if takes_turns same.state.state then Some tick else None)
    (ticks_alike g h turn.part turn.first same.state (alike.same.views turn.part member) same.copies go.ticks go.time unseen unseen_too)
    ∙ sym (ap (local_in h) its_too ∙ ap (taken_by h turn.part turn.first) same.there_too)

-- what a partition does in its turn is by right
taken_right : ActsByRight → (g : Machine) (p : ℕ) (first : Bool) (o : Option PartitionState) → IsByRight (view_of g.system p) (act_of (taken_by g p first o))
unfolding local_of local_tick
taken_right rights g p first None = tt
taken_right rights g p first (Some ps) = by (takes_turns ps.state)
  where
    by : (b : Bool) → IsByRight (view_of g.system p) (act_of (if b then Some (local_of g p first ps) else None))
    by true =
        let work = worked (view_of g.system p) (copies g p) g.time first (sight_of_state g p first ps) ps in
        bounded_right (view_of g.system p) work.act (rights (view_of g.system p) ps (copies g p) g.time first (sight_of_state g p first ps))
    by false = tt

-- Cues.

-- the parts of a cue
abbrev cue_of : CueSlot → OwnTraffic → Option Order → WholeEvent → Sight → Cue
cue_of mine traffic order whole seen = record { mine = mine; traffic = traffic; order = order; whole = whole; seen = seen }

same_cue : (mine mine' : CueSlot) (traffic traffic' : OwnTraffic) (order order' : Option Order) (whole whole' : WholeEvent) (seen seen' : Sight)
    → mine ≡ mine' → traffic ≡ traffic' → order ≡ order' → whole ≡ whole' → seen ≡ seen' → cue_of mine traffic order whole seen ≡ cue_of mine' traffic' order' whole' seen'
same_cue mine mine' traffic traffic' order order' whole whole' seen seen' a b c d e = rw (a, b, c, d, e) refl

-- the traffic of others that a partition receives, by the turn and the local tick
abbrev traffic_cued : Conf → ℕ → Option SlotTurn → Option LocalTick → OwnTraffic
traffic_cued conf p o tick = unless_own (is_some (if_its_turn (is_turn_of o p) tick)) (heard_as conf p (system_traffic conf o (traffic_of (act_of tick))))

-- a cue, by the turn, the local tick and what is shown
cue_is : (g : Machine) (p : ℕ) → cue g p ≡ cue_of (slot_of (turn_of g) p) (traffic_cued g.system.conf p (turn_of g) (local g)) (order_upon (act_of (local g)) p) (event_of (act_of (local g))) (sight g p)
unfolding cue cue_in happened happened_by tick_of
cue_is g p = refl

-- an order to a member is one of the steering
order_is : (members : Members) (o : Option Directed) (p : ℕ) → members p ≡ true → order_for o p ≡ order_for (to_member members o) p
order_is members None p member = refl
order_is members (Some directed) p member = by (members directed.id) refl
  where
    other : members directed.id ≡ false → (b : Bool) → (directed.id == p) ≡ b → (if b then Some directed.order else None) ≡ None
    other fails false is = refl
    other fails true is =
        let its : members directed.id ≡ members p = ap members (eqb-true directed.id p is) in
        absurd cc

    by : (b : Bool) → members directed.id ≡ b → (if directed.id == p then Some directed.order else None) ≡ order_for (if b then Some directed else None) p
    by true its = refl
    by false fails = other fails (directed.id == p) refl

-- the steering of a machine that has not halted
pub record IsSteered (members : Members) (g h : Machine) : Type 0 where
  pub plan : steered_plan (reach_of (act_of (local g))).plan g.clock.plan (next_clock g (happened g)).plan ≡ steered_plan (reach_of (act_of (local h))).plan h.clock.plan (next_clock h (happened h)).plan
  pub event : event_of (act_of (local g)) ≡ event_of (act_of (local h))
  pub order : to_member members (reach_of (act_of (local g))).directed ≡ to_member members (reach_of (act_of (local h))).directed

steering_runs : (members : Members) (g : Machine) → g.halted ≡ false → steering members g ≡ steering_in members g (happened g)
unfolding steering
steering_runs members g runs = ap (λ b. steering_unless b members g) runs

steered_parts : (members : Members) (g h : Machine) → steering_in members g (happened g) ≡ steering_in members h (happened h) → IsSteered members g h
unfolding happened happened_by steering_in
steered_parts members g h same = record { plan = ap (λ s. s.plan) same; event = ap (λ s. s.event) same; order = ap (λ s. s.order) same }

pub steered : (members : Members) (g h : Machine) → g.halted ≡ false → h.halted ≡ false → steering members g ≡ steering members h → IsSteered members g h
steered members g h runs runs_too same =
    steered_parts members g h (sym (steering_runs members g runs) ∙ same ∙ steering_runs members h runs_too)

-- in the turn of a member, whose work is the same in both
own_traffic : (members : Members) (g h : Machine) → AreClosedAlike members g.system h.system → (p : ℕ) → members p ≡ true → (turn : SlotTurn) → members turn.part ≡ true → (tick : Option LocalTick)
    → traffic_cued g.system.conf p (Some turn) tick ≡ traffic_cued h.system.conf p (Some turn) tick
own_traffic members g h alike p member turn member_too tick =
    ap (unless_own (is_some (if_its_turn (turn.part == p) tick)))
    (heard_alike members g.system.conf h.system.conf (same_channels members g.system h.system alike) p turn.part member member_too (traffic_of (act_of tick)))

-- in a turn that is no member's
away : (members : Members) (p : ℕ) → members p ≡ true → (o : Option SlotTurn) → member_turn members o ≡ None → is_turn_of o p ≡ false
away members p member None fails = refl
away members p member (Some turn) fails = by (turn.part == p) refl
  where
    by : (b : Bool) → (turn.part == p) ≡ b → b ≡ false
    by false is = refl
    by true is =
        let its : members turn.part ≡ members p = ap members (eqb-true turn.part p is) in
        let stranger : members turn.part ≡ false = stranger_turn members turn turn fails in
        absurd cc

away_slot : (p : ℕ) (o : Option SlotTurn) → is_turn_of o p ≡ false → slot_of o p ≡ slot_of None p
away_slot p None fails = refl
away_slot p (Some turn) fails = rw fails refl

strange_traffic : ActsByRight → (members : Members) (g : Machine) → Fits (described g.system.conf) → HasItsPeers g.system.conf members → (p : ℕ) → members p ≡ true → (o : Option SlotTurn)
    → member_turn members o ≡ None → heard_as g.system.conf p (system_traffic g.system.conf o (traffic_of (act_of (local_in g o)))) ≡ OwnStill
strange_traffic rights members g fits peers p member None fails = refl
strange_traffic rights members g fits peers p member (Some turn) fails =
    unheard g.system members fits peers p turn.part member (stranger_turn members turn turn fails)
    (act_of (taken_by g turn.part turn.first (slice_get g.parts turn.part))) (taken_right rights g turn.part turn.first (slice_get g.parts turn.part))

nothing_received : ActsByRight → (members : Members) (g : Machine) → Fits (described g.system.conf) → HasItsPeers g.system.conf members → (p : ℕ) → members p ≡ true
    → member_turn members (turn_of g) ≡ None → traffic_cued g.system.conf p (turn_of g) (local g) ≡ OwnStill
unfolding local
nothing_received rights members g fits peers p member fails =
    ap (λ b. unless_own (is_some (if_its_turn b (local_in g (turn_of g)))) (heard_as g.system.conf p (system_traffic g.system.conf (turn_of g) (traffic_of (act_of (local_in g (turn_of g)))))))
    (away members p member (turn_of g) fails)
    ∙ strange_traffic rights members g fits peers p member (turn_of g) fails

received_with : (members : Members) (g h : Machine) → SeesNothing → AreClosedAlike members g.system h.system → IsSteered members g h
    → ((p : ℕ) → members p ≡ true → slot_of (turn_of g) p ≡ slot_of (turn_of h) p)
    → ((p : ℕ) → members p ≡ true → traffic_cued g.system.conf p (turn_of g) (local g) ≡ traffic_cued h.system.conf p (turn_of h) (local h))
    → ReceivesTheSame members g h
received_with members g h sees alike steered_so slots traffic = record {
  cues = λ p member.
      cue_is g p
      ∙ same_cue _ _ _ _ _ _ _ _ _ _ (slots p member) (traffic p member)
      (order_is members (reach_of (act_of (local g))).directed p member ∙ ap (λ o. order_for o p) steered_so.order ∙ sym (order_is members (reach_of (act_of (local h))).directed p member))
      steered_so.event
      (sees g p (alike.closed_one.plain p member) ∙ sym (sees h p (alike.closed_other.plain p member)))
      ∙ sym (cue_is h p);
}

received_by_turn : ActsByRight → SeesNothing → (members : Members) (g h : Machine) → AreClosedAlike members g.system h.system → GoTogether members g h → IsSteered members g h
    → (o o' : Option SlotTurn) → member_turn members (turn_of g) ≡ o → member_turn members (turn_of h) ≡ o' → o ≡ o' → ReceivesTheSame members g h
received_by_turn rights sees members g h alike go steered_so None None fails fails_too same =
    received_with members g h sees alike steered_so
    (λ p member. away_slot p (turn_of g) (away members p member (turn_of g) fails) ∙ sym (away_slot p (turn_of h) (away members p member (turn_of h) fails_too)))
    (λ p member. nothing_received rights members g alike.fits_one alike.closed_one.peers p member fails ∙ sym (nothing_received rights members h alike.fits_other alike.closed_other.peers p member fails_too))
received_by_turn rights sees members g h alike go steered_so None (Some turn) fails is same = absurd cc
received_by_turn rights sees members g h alike go steered_so (Some turn) None is fails same = absurd cc
received_by_turn rights sees members g h alike go steered_so (Some turn) (Some turn') is is' same =
    let its = turn_is members (turn_of g) turn is in
    let its_too : turn_of h ≡ Some turn = (turn_is members (turn_of h) turn' is').0 ∙ sym same in
    let work = local_alike sees members g h alike go turn its.1 its.0 its_too in
    received_with members g h sees alike steered_so
    (λ p member. ap (λ o. slot_of o p) (its.0 ∙ sym its_too))
    (λ p member.
    ap (λ o. traffic_cued g.system.conf p o (local g)) its.0
    ∙ own_traffic members g h alike p member turn its.1 (local g)
    ∙ ap (traffic_cued h.system.conf p (Some turn)) work
    ∙ ap (λ o. traffic_cued h.system.conf p o (local h)) (sym its_too))

pub received_alike : ActsByRight → SeesNothing → (members : Members) (g h : Machine) → AreClosedAlike members g.system h.system → GoTogether members g h → IsSteered members g h → ReceivesTheSame members g h
received_alike rights sees members g h alike go steered_so =
    received_by_turn rights sees members g h alike go steered_so (member_turn members (turn_of g)) (member_turn members (turn_of h)) refl refl
    (same_turn members g h alike.fits_one alike.fits_other alike.same.slots go.time go.clock.plan go.clock.frame_start)

-- The machines after the tick.

-- a partition's part of a machine, where it is known
pub parts_are : (g : Machine) (p : ℕ) (a : Alone) → alone_part_at g p ≡ Some a → (slice_get g.parts p ≡ Some a.state) × (copies g p ≡ a.copies)
unfolding part alone_part_at
parts_are g p a is = by (slice_get g.parts p) refl is
  where
    by : (o : Option PartitionState) → slice_get g.parts p ≡ o → on (part g p) o ≡ Some a → (slice_get g.parts p ≡ Some a.state) × (copies g p ≡ a.copies)
    by None there said = absurd cc
    by (Some ps) there said =
        let same : part g p ps ≡ a = same_Some (part g p ps) a said in
        (there ∙ ap (λ (x : Alone). Some x.state) same, ap (λ (x : Alone). x.copies) same)

pub same_part : (g h : Machine) (p : ℕ) (a : Alone) → alone_part_at g p ≡ Some a → alone_part_at h p ≡ Some a → HasSamePart g h p
same_part g h p a is is_too =
    let one = parts_are g p a is in
    let other = parts_are h p a is_too in
    record { state = a.state; there = one.0; there_too = other.0; copies = one.1 ∙ sym other.1 }

-- one partition alone, of its parts
abbrev alone_of : PartitionState → List (Option Content) → ℕ → ℕ → Alone
alone_of state contents ticks time = record { state = state; copies = contents; ticks = ticks; time = time }

pub part_alike : (members : Members) (g h : Machine) → GoTogether members g h → (p : ℕ) (ps : PartitionState) → copies g p ≡ copies h p → part g p ps ≡ part h p ps
unfolding part
part_alike members g h go p ps contents =
    ap (λ c. alone_of ps c g.ticks g.time) contents ∙ ap (λ n. alone_of ps (copies h p) n g.time) go.ticks ∙ ap (alone_of ps (copies h p) h.ticks) go.time

part_after_tick : OneTick → (members : Members) (g h : Machine) → AreClosedAlike members g.system h.system → GoTogether members g h → ReceivesTheSame members g h → g.halted ≡ false → h.halted ≡ false
    → (p : ℕ) → members p ≡ true → HasSamePart (step g) (step h) p
part_after_tick tick members g h alike go received_so runs runs_too p member =
    let same = go.parts p member in
    same_part (step g) (step h) p (alone_step (view_of h.system p) (part h p same.state) (cue h p))
    ((tick g p same.state runs same.there).state
    ∙ ap (λ v. Some (alone_step v (part g p same.state) (cue g p))) (alike.same.views p member)
    ∙ ap (λ a. Some (alone_step (view_of h.system p) a (cue g p))) (part_alike members g h go p same.state same.copies)
    ∙ ap (λ c. Some (alone_step (view_of h.system p) (part h p same.state) c)) (received_so.cues p member))
    (tick h p same.state runs_too same.there_too).state

-- the counts and the clock
ticks_are : (g : Machine) → (after g (happened g)).ticks ≡ ticks_after (event_of (act_of (local g))) g.ticks
unfolding after happened happened_by
ticks_are g = refl

time_is : (g : Machine) → (after g (happened g)).time ≡ time_after (event_of (act_of (local g))) g.time
unfolding after happened happened_by
time_is g = refl

halted_is : (g : Machine) → (after g (happened g)).halted ≡ is_halt (event_of (act_of (local g)))
unfolding after happened happened_by
halted_is g = refl

clock_is : (g : Machine) → (after g (happened g)).clock ≡ clock_after (event_of (act_of (local g))) g.system.conf (act_of (local g)) g.clock g.time
unfolding after happened happened_by next_clock
clock_is g = refl

next_is : (g : Machine) → next_clock g (happened g) ≡ clock_after (event_of (act_of (local g))) g.system.conf (act_of (local g)) g.clock g.time
unfolding happened happened_by next_clock
next_is g = refl

ends_alike : (members : Members) (g h : Machine) → AreClosedAlike members g.system h.system → GoTogether members g h → ends_frame g.system.conf g.clock g.time ≡ ends_frame h.system.conf h.clock h.time
ends_alike members g h alike go =
    ap (λ t. t + 1 - g.clock.frame_start == frame_of g.system.conf g.clock.plan) go.time
    ∙ ap (λ s. h.time + 1 - s == frame_of g.system.conf g.clock.plan) go.clock.frame_start
    ∙ ap (λ n. h.time + 1 - h.clock.frame_start == frame_of g.system.conf n) go.clock.plan
    ∙ ap (λ f. h.time + 1 - h.clock.frame_start == f) (same_frame g.system.conf h.system.conf alike.same.frames h.clock.plan)

clock_alike : (members : Members) (g h : Machine) → AreClosedAlike members g.system h.system → GoTogether members g h → IsSteered members g h
    → RunTheSame (clock_after (event_of (act_of (local g))) g.system.conf (act_of (local g)) g.clock g.time) (clock_after (event_of (act_of (local h))) h.system.conf (act_of (local h)) h.clock h.time)
clock_alike members g h alike go steered_so =
    let event = event_of (act_of (local g)) in
    let moved : RunTheSame (clock_after event g.system.conf (act_of (local g)) g.clock g.time) (clock_after event h.system.conf (act_of (local h)) h.clock g.time) =
    clocks_alike event (act_of (local g)) (act_of (local h)) g.system.conf h.system.conf g.clock h.clock g.time go.clock
    (ends_alike members g h alike go ∙ ap (ends_frame h.system.conf h.clock) (sym go.time))
    (sym (ap (λ (c : CyclicClock). steered_plan (reach_of (act_of (local g))).plan g.clock.plan c.plan) (next_is g)) ∙ steered_so.plan
    ∙ ap (λ (c : CyclicClock). steered_plan (reach_of (act_of (local h))).plan h.clock.plan c.plan) (next_is h)
    ∙ ap (λ e. steered_plan (reach_of (act_of (local h))).plan h.clock.plan (clock_after e h.system.conf (act_of (local h)) h.clock h.time).plan) (sym steered_so.event)
    ∙ ap (λ t. steered_plan (reach_of (act_of (local h))).plan h.clock.plan (clock_after event h.system.conf (act_of (local h)) h.clock t).plan) (sym go.time))
    in
    subst (λ (t : ℕ). RunTheSame (clock_after event g.system.conf (act_of (local g)) g.clock g.time) (clock_after (event_of (act_of (local h))) h.system.conf (act_of (local h)) h.clock t)) go.time
    (subst (λ (e : WholeEvent). RunTheSame (clock_after event g.system.conf (act_of (local g)) g.clock g.time) (clock_after e h.system.conf (act_of (local h)) h.clock g.time)) steered_so.event moved)

-- after the tick they go together
pub together_after : OneTick → ActsByRight → SeesNothing → (members : Members) (g h : Machine) → AreClosedAlike members g.system h.system → GoTogether members g h → g.halted ≡ false → h.halted ≡ false
    → IsSteered members g h → GoTogether members (step g) (step h)
together_after tick rights sees members g h alike go runs runs_too steered_so =
    let one = step_runs g runs in
    let other = step_runs h runs_too in
    record {
      parts = part_after_tick tick members g h alike go (received_alike rights sees members g h alike go steered_so) runs runs_too;
      ticks = ap (λ (m : Machine). m.ticks) one ∙ ticks_are g ∙ ap (λ e. ticks_after e g.ticks) steered_so.event ∙ ap (ticks_after (event_of (act_of (local h)))) go.ticks
          ∙ sym (ap (λ (m : Machine). m.ticks) other ∙ ticks_are h);
      time = ap (λ (m : Machine). m.time) one ∙ time_is g ∙ ap (λ e. time_after e g.time) steered_so.event ∙ ap (time_after (event_of (act_of (local h)))) go.time
          ∙ sym (ap (λ (m : Machine). m.time) other ∙ time_is h);
      clock =
          let moved = clock_alike members g h alike go steered_so in
          record {
            plan = ap (λ (m : Machine). m.clock.plan) one ∙ ap (λ (c : CyclicClock). c.plan) (clock_is g) ∙ moved.plan ∙ sym (ap (λ (m : Machine). m.clock.plan) other ∙ ap (λ (c : CyclicClock). c.plan) (clock_is h));
            frame_start = ap (λ (m : Machine). m.clock.frame_start) one ∙ ap (λ (c : CyclicClock). c.frame_start) (clock_is g) ∙ moved.frame_start
                ∙ sym (ap (λ (m : Machine). m.clock.frame_start) other ∙ ap (λ (c : CyclicClock). c.frame_start) (clock_is h));
          };
      halted = ap (λ (m : Machine). m.halted) one ∙ halted_is g ∙ ap is_halt steered_so.event ∙ sym (ap (λ (m : Machine). m.halted) other ∙ halted_is h);
    }

-- the law on one tick
pub ticks_together : OneTick → ActsByRight → SeesNothing → TicksTogether
ticks_together tick rights sees members g h alike go runs steers =
    let runs_too : h.halted ≡ false = sym go.halted ∙ runs in
    let steered_so = steered members g h runs runs_too steers in
    record {
      received = received_alike rights sees members g h alike go steered_so;
      next = together_after tick rights sees members g h alike go runs runs_too steered_so;
    }
