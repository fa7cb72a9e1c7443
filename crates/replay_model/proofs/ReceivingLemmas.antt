-- What a partition receives can be taken by the partition alone.
use Rattle.std.proofs.Common.{◌≡◌, ℕ, zero, suc, ◌<◌, Bool, true, false, List, [], ◌∷◌, length, Option, None, Some, refl, sym, ap, ◌∙◌, subst, arith}
use Rattle.std.specs.Prelude.{◌==◌, ◌&&◌, if◌then◌else◌, is_some, not, nat_lt, IsSome, slice_get, slice_index_or}
use Rattle.std.proofs.lemmas.Bool.{eqb-true}
use Rattle.std.proofs.lemmas.Bool.Decides.{nat_tests}
use Rattle.std.proofs.lemmas.Option.{same_Some, slice_get-get_or}
use Rattle.xm_base.specs.Options.{on}
use Rattle.xm_base.specs.declared.partition.Mode.TheVariants as mode
use Rattle.xm_conf.specs.Description.{described}
use Rattle.xm_conf.specs.Fits.{Fits}
use Rattle.xm_conf.specs.declared.channel.ChanKind.{ChanKind}
use Rattle.xm_conf.specs.declared.channel.ChanKind.TheVariants as kind
use Rattle.xm_ports.specs.Channels.{Content, Queuing, Sampling, first_message}
use Rattle.machine_model.specs.Allowed.{AllowsTraffic, AnswersCalls, HearsWhatIsAllowed, IsAnswerTo, IsForEntry, TakesMore}
use Rattle.machine_model.specs.Alone.{Alone, alone_start, alone_step}
use Rattle.machine_model.specs.Cue.{Away, Cue, Mine, cue, cue_in, script, script_unless, slot_of, unless_own}
use Rattle.machine_model.specs.Facts.{BootsComplete, BootsWithFacts, BootsWithShapes, KeepsFacts, KeepsNumbers, KeepsShapes}
use Rattle.machine_model.specs.Laws.{ActsWithinBounds, BootsAlone, OneTick, part, alone_part_at as model_part_at}
use Rattle.machine_model.specs.LocalTick.{LocalTick, bounded, local_tick, worked}
use Rattle.machine_model.specs.Machine.{Machine, SlotTurn, act_of, answer_to, booted_part, copies, happened, happened_by, if_its_turn, is_turn_of, local, local_in, local_of, sight, sight_for, sight_in, sight_of_state, start, step, system_traffic, taken_by, tick_of, turn_of, with_room}
use Rattle.machine_model.specs.Observed.{CurrentPlan, HealthCounts, HealthEntryOf, Observation, PartitionStatus, PlanStatus, Question, SystemStatus, TraceCounts, TraceEntryOf, asks}
use Rattle.machine_model.specs.Partition.{PartitionState, takes_turns}
use Rattle.machine_model.specs.Emission.{Act, AllHalted, AllReset, NoEvent, NotKept, OwnPuts, OwnSignals, OwnStill, OwnTakes, OwnTraffic, Sight, Unseen, WholeEvent, Words}
use Rattle.machine_model.specs.Traffic.{heard_as, traffic_of}
use Rattle.machine_model.specs.View.{PartitionView, PortChannel, System, view_of}
use Rattle.machine_model.specs.Whole.{event_of}
use Rattle.span_model.specs.Passes.{part_at}
use Rattle.replay_model.specs.Passes.{part_in}
use Rattle.replay_model.specs.Taking.{first_untaken, is_empty, is_empty_copy, asks_entry, is_queue_full, is_full_copy, is_no_sight, is_same_event, may_write, takes_cue, takes_sight, takes_traffic}
use Rattle.replay_model.specs.ReceivingLaws.{BootedScriptIsTaken, IsSound, ScriptIsTaken, ReceivedIsTaken}
use Rattle.replay_model.proofs.TakingLemmas.{takes_away, takes_resting, takes_working}

-- a queue that takes one more is not full, and one in which a message waits is not empty
more_fits : (of : ChanKind) (content : Content) → TakesMore of content → is_queue_full of content ≡ false
unfolding TakesMore
more_fits (kind.Sampling refresh) content more = refl
more_fits (kind.Queuing most) (Sampling sample) more = refl
more_fits (kind.Queuing most) (Queuing messages) more =
    let below : length messages < most = more in
    let is : nat_lt (length messages) most ≡ true = grind (arith, nat_tests) in
    ap not is

one_waits : (content : Content) → IsSome (first_message content) → is_empty content ≡ false
one_waits (Sampling sample) waits = refl
one_waits (Queuing []) waits = absurd cc
one_waits (Queuing (first ∷ later)) waits = refl

-- traffic that a partition's copies allow is traffic that it takes
allowed_taken : (view : PartitionView) (contents : List (Option Content)) (own : OwnTraffic) → AllowsTraffic view contents own → takes_traffic view contents own ≡ true
unfolding AllowsTraffic
allowed_taken view contents OwnStill allowed = refl
allowed_taken view contents (OwnPuts name bytes) allowed = ap not (by (slice_index_or view.channels name None) (slice_index_or contents name None) allowed)
  where
    by : (channel : Option PortChannel) (copy : Option Content)
        → ((one : PortChannel) (content : Content) → channel ≡ Some one → copy ≡ Some content → TakesMore one.shape.kind content) → is_full_copy channel copy ≡ false
    by None copy more = refl
    by (Some one) None more = refl
    by (Some one) (Some content) more = more_fits one.shape.kind content (more one content refl refl)
allowed_taken view contents (OwnTakes name) allowed = ap not (by (slice_index_or contents name None) allowed)
  where
    by : (copy : Option Content) → ((content : Content) → copy ≡ Some content → IsSome (first_message content)) → is_empty_copy copy ≡ false
    by None waits = refl
    by (Some content) waits = one_waits content (waits content refl)
allowed_taken view contents (OwnSignals number) allowed = refl

unless_own_taken : (view : PartitionView) (contents : List (Option Content)) (b : Bool) (own : OwnTraffic) → takes_traffic view contents own ≡ true → takes_traffic view contents (unless_own b own) ≡ true
unless_own_taken view contents true own taken = refl
unless_own_taken view contents false own taken = taken

-- a call that is answered is shown what it takes
entry_is : (question : Question) → IsForEntry question → asks_entry question ≡ true
entry_is (PartitionStatus id) entry = absurd entry
entry_is SystemStatus entry = absurd entry
entry_is CurrentPlan entry = absurd entry
entry_is PlanStatus entry = absurd entry
entry_is (TraceEntryOf id number) entry = refl
entry_is (TraceCounts id) entry = absurd entry
entry_is (HealthEntryOf id number) entry = refl
entry_is (HealthCounts id) entry = absurd entry

answer_taken : (view : PartitionView) (call : Observation) (seen : Sight) → IsAnswerTo call seen → takes_sight view (Some call) (with_room (may_write view call) seen) ≡ true
unfolding IsAnswerTo
answer_taken view call Unseen answered = absurd answered
answer_taken view call NotKept answered = entry_is call.question answered
answer_taken view call (Words bytes) answered = by (may_write view call) refl
  where
    long : (length bytes == call.size) ≡ true
    long = let same : length bytes ≡ call.size = answered in grind (arith)

    by : (b : Bool) → may_write view call ≡ b → takes_sight view (Some call) (with_room b (Words bytes)) ≡ true
    by true room = ap (λ (b : Bool). b && length bytes == call.size) room ∙ long
    by false room = ap not room

sight_taken : (g : Machine) (p : ℕ) (ps : PartitionState) (first : Bool) (o : Option Observation) → AnswersCalls → IsSound g → asks (view_of g.system p) ps g.time first ≡ o
    → takes_sight (view_of g.system p) o (sight_for g (view_of g.system p) o) ≡ true
sight_taken g p ps first None answers sound is = refl
sight_taken g p ps first (Some call) answers sound is =
    answer_taken (view_of g.system p) call (answer_to g call.question) (answers g p ps first call sound.facts sound.complete is)

-- an event is the same as itself
same_event : (e : WholeEvent) → is_same_event e e ≡ true
same_event NoEvent = refl
same_event (AllReset mode.Cold) = refl
same_event (AllReset mode.Warm) = refl
same_event AllHalted = refl

-- what a partition receives in a tick, by whose turn it is
abbrev received_by : Machine → ℕ → Option SlotTurn → Cue
received_by g p o = record {
  mine = slot_of o p;
  traffic = unless_own (is_some (if_its_turn (is_turn_of o p) (local_in g o))) (heard_as g.system.conf p (system_traffic g.system.conf o (traffic_of (act_of (local_in g o)))));
  order = (cue g p).order;
  whole = event_of (act_of (local_in g o));
  seen = sight_in g p o (slice_get g.parts p);
}

received_is : (g : Machine) (p : ℕ) → cue g p ≡ received_by g p (turn_of g)
unfolding cue cue_in happened happened_by local sight tick_of
received_is g p = refl

-- in a tick that is not in its slot
away_slot : (o : Option SlotTurn) (p : ℕ) → is_turn_of o p ≡ false → slot_of o p ≡ Away
away_slot None p other = refl
away_slot (Some turn) p other = ap (λ (b : Bool). if b then Mine turn.first else Away) other

away_sight : (g : Machine) (p : ℕ) (o : Option SlotTurn) (there : Option PartitionState) → is_turn_of o p ≡ false → sight_in g p o there ≡ Unseen
away_sight g p None there other = refl
away_sight g p (Some turn) None other = refl
away_sight g p (Some turn) (Some ps) other = ap (λ (b : Bool). if b then sight_of_state g p turn.first ps else Unseen) other

heard_taken : (g : Machine) (p : ℕ) → HearsWhatIsAllowed → IsSound g
    → takes_traffic (view_of g.system p) (copies g p) (heard_as g.system.conf p (happened g).traffic) ≡ true
heard_taken g p hears sound =
    allowed_taken (view_of g.system p) (copies g p) (heard_as g.system.conf p (happened g).traffic) (hears g p sound.fits)

cue_traffic_taken : (g : Machine) (p : ℕ) → HearsWhatIsAllowed → IsSound g → takes_traffic (view_of g.system p) (copies g p) (cue g p).traffic ≡ true
unfolding cue cue_in
cue_traffic_taken g p hears sound =
    unless_own_taken (view_of g.system p) (copies g p) (is_some (tick_of (happened g) p)) (heard_as g.system.conf p (happened g).traffic) (heard_taken g p hears sound)

away_taken : (g : Machine) (p : ℕ) → HearsWhatIsAllowed → IsSound g → is_turn_of (turn_of g) p ≡ false → takes_cue (view_of g.system p) (part_in g p) (cue g p) ≡ true
away_taken g p hears sound other =
    takes_away g p (cue g p)
    (ap (λ (c : Cue). c.mine) (received_is g p) ∙ away_slot (turn_of g) p other)
    (ap (λ (c : Cue). c.seen) (received_is g p) ∙ away_sight g p (turn_of g) (slice_get g.parts p) other)
    ∙ cue_traffic_taken g p hears sound

-- in a tick of its slot
record IsInSlot (g : Machine) (p : ℕ) (first : Bool) (ps : PartitionState) (tick : Option LocalTick) : Type 0 where
  mine : (cue g p).mine ≡ Mine first
  traffic : (cue g p).traffic ≡ unless_own (is_some tick) (heard_as g.system.conf p (system_traffic g.system.conf (Some (record { part = p; first = first })) (traffic_of (act_of tick))))
  whole : (cue g p).whole ≡ event_of (act_of tick)
  seen : (cue g p).seen ≡ sight_of_state g p first ps

-- what it receives there, with the partition's own turn and its state
same_turn : (turn : SlotTurn) (p : ℕ) → (turn.part == p) ≡ true → turn ≡ record { part = p; first = turn.first }
same_turn turn p is = ap (λ (q : ℕ). record { part = q; first = turn.first }) (eqb-true turn.part p is)

itself : (p : ℕ) → (p == p) ≡ true
itself p = grind (arith)

own_slot : (p : ℕ) (first : Bool) → slot_of (Some (record { part = p; first = first })) p ≡ Mine first
own_slot p first = ap (λ (b : Bool). if b then Mine first else Away) (itself p)

own_sight : (g : Machine) (p : ℕ) (first : Bool) (ps : PartitionState) → sight_in g p (Some (record { part = p; first = first })) (Some ps) ≡ sight_of_state g p first ps
own_sight g p first ps = ap (λ (b : Bool). if b then sight_of_state g p first ps else Unseen) (itself p)

in_slot : (g : Machine) (p : ℕ) (first : Bool) (ps : PartitionState) (tick : Option LocalTick) → turn_of g ≡ Some (record { part = p; first = first }) → slice_get g.parts p ≡ Some ps
    → taken_by g p first (Some ps) ≡ tick → IsInSlot g p first ps tick
in_slot g p first ps tick turn there is =
    let received : cue g p ≡ received_by g p (Some (record { part = p; first = first })) = received_is g p ∙ ap (received_by g p) turn in
    let done : local_in g (Some (record { part = p; first = first })) ≡ tick = ap (taken_by g p first) there ∙ is in
    record {
      mine = ap (λ (c : Cue). c.mine) received ∙ own_slot p first;
      traffic = ap (λ (c : Cue). c.traffic) received ∙ ap (λ (b : Bool). unless_own (is_some (if_its_turn b (local_in g (Some (record { part = p; first = first })))))
          (heard_as g.system.conf p (system_traffic g.system.conf (Some (record { part = p; first = first })) (traffic_of (act_of (local_in g (Some (record { part = p; first = first })))))))) (itself p)
          ∙ ap (λ (t : Option LocalTick). unless_own (is_some t) (heard_as g.system.conf p (system_traffic g.system.conf (Some (record { part = p; first = first })) (traffic_of (act_of t))))) done;
      whole = ap (λ (c : Cue). c.whole) received ∙ ap (λ (t : Option LocalTick). event_of (act_of t)) done;
      seen = ap (λ (c : Cue). c.seen) received ∙ ap (sight_in g p (Some (record { part = p; first = first }))) there ∙ own_sight g p first ps;
    }

-- where it takes no turns
nothing_seen : (g : Machine) (p : ℕ) (first : Bool) (ps : PartitionState) → takes_turns ps.state ≡ false → sight_of_state g p first ps ≡ Unseen
unfolding sight_of_state
nothing_seen g p first ps rests = ap (λ (b : Bool). if b then sight_for g (view_of g.system p) (asks (view_of g.system p) ps g.time first) else Unseen) rests

resting_taken : (g : Machine) (p : ℕ) (first : Bool) → takes_turns (part_at p g).state ≡ false → IsInSlot g p first (part_at p g) None
    → takes_cue (view_of g.system p) (part_in g p) (cue g p) ≡ true
resting_taken g p first rests received =
    takes_resting g p first (cue g p) received.mine received.traffic rests
    ∙ ap (λ (seen : Sight). is_no_sight seen && is_same_event NoEvent (cue g p).whole) (received.seen ∙ nothing_seen g p first (part_at p g) rests)
    ∙ ap (λ (e : WholeEvent). is_no_sight Unseen && is_same_event NoEvent e) received.whole

-- and where it takes its turn
all_seen : (g : Machine) (p : ℕ) (first : Bool) (ps : PartitionState) → takes_turns ps.state ≡ true
    → sight_of_state g p first ps ≡ sight_for g (view_of g.system p) (asks (view_of g.system p) ps g.time first)
unfolding sight_of_state
all_seen g p first ps turns = ap (λ (b : Bool). if b then sight_for g (view_of g.system p) (asks (view_of g.system p) ps g.time first) else Unseen) turns

-- the act of a local tick is that of its work
work_act : (g : Machine) (p : ℕ) (first : Bool) (ps : PartitionState) (seen : Sight) → ActsWithinBounds
    → bounded (view_of g.system p) (worked (view_of g.system p) (copies g p) g.time first seen ps).act ≡ (worked (view_of g.system p) (copies g p) g.time first seen ps).act
unfolding local_tick
work_act g p first ps seen acts = acts g.system p ps (copies g p) g.ticks g.time first seen

local_act : (g : Machine) (p : ℕ) (first : Bool) (ps : PartitionState) (seen : Sight) → ActsWithinBounds → seen ≡ sight_of_state g p first ps
    → (local_of g p first ps).act ≡ (worked (view_of g.system p) (copies g p) g.time first seen ps).act
unfolding local_of
local_act g p first ps seen acts is =
    acts g.system p ps (copies g p) g.ticks g.time first (sight_of_state g p first ps)
    ∙ ap (λ (s : Sight). (worked (view_of g.system p) (copies g p) g.time first s ps).act) (sym is)

working_taken : (g : Machine) (p : ℕ) (first : Bool) → AnswersCalls → ActsWithinBounds → IsSound g → takes_turns (part_at p g).state ≡ true
    → IsInSlot g p first (part_at p g) (Some (local_of g p first (part_at p g))) → takes_cue (view_of g.system p) (part_in g p) (cue g p) ≡ true
working_taken g p first answers acts sound turns received =
    let view : PartitionView = view_of g.system p in
    let ps : PartitionState = part_at p g in
    let seen : Sight = (cue g p).seen in
    let act : Act = (worked view (copies g p) g.time first seen ps).act in
    takes_working g p first (cue g p) (worked view (copies g p) g.time first seen ps) received.mine received.traffic turns refl (work_act g p first ps seen acts)
    ∙ ap (λ (e : WholeEvent). takes_sight view (asks view ps g.time first) seen && is_same_event (event_of act) e)
    (received.whole ∙ ap event_of (local_act g p first ps seen acts received.seen))
    ∙ ap (λ (b : Bool). takes_sight view (asks view ps g.time first) seen && b) (same_event (event_of act))
    ∙ ap (λ (s : Sight). takes_sight view (asks view ps g.time first) s && true) (received.seen ∙ all_seen g p first ps turns)
    ∙ ap (λ (b : Bool). b && true) (sight_taken g p ps first (asks view ps g.time first) answers sound refl)

own_taken : (g : Machine) (p : ℕ) (first : Bool) → AnswersCalls → ActsWithinBounds → IsSound g → p < length g.parts → turn_of g ≡ Some (record { part = p; first = first })
    → takes_cue (view_of g.system p) (part_in g p) (cue g p) ≡ true
own_taken g p first answers acts sound below turn = at (takes_turns (part_at p g).state) refl
  where
    there : slice_get g.parts p ≡ Some (part_at p g)
    there = slice_get-get_or g.parts p (booted_part g.system p) below

    at : (b : Bool) → takes_turns (part_at p g).state ≡ b → takes_cue (view_of g.system p) (part_in g p) (cue g p) ≡ true
    at true turns =
        working_taken g p first answers acts sound turns
        (in_slot g p first (part_at p g) (Some (local_of g p first (part_at p g))) turn there (ap (λ (b : Bool). if b then Some (local_of g p first (part_at p g)) else None) turns))
    at false rests =
        resting_taken g p first rests
        (in_slot g p first (part_at p g) None turn there (ap (λ (b : Bool). if b then Some (local_of g p first (part_at p g)) else None) rests))

-- a tick of the machine
pub tick_taken : HearsWhatIsAllowed → AnswersCalls → ActsWithinBounds → ReceivedIsTaken
tick_taken hears answers acts g p sound below = at (turn_of g) refl
  where
    by : (turn : SlotTurn) → turn_of g ≡ Some turn → (b : Bool) → (turn.part == p) ≡ b → takes_cue (view_of g.system p) (part_in g p) (cue g p) ≡ true
    by turn is true its = own_taken g p turn.first answers acts sound below (is ∙ ap Some (same_turn turn p its))
    by turn is false other = away_taken g p hears sound (ap (λ (o : Option SlotTurn). is_turn_of o p) is ∙ other)

    at : (o : Option SlotTurn) → turn_of g ≡ o → takes_cue (view_of g.system p) (part_in g p) (cue g p) ≡ true
    at None is = away_taken g p hears sound (ap (λ (o : Option SlotTurn). is_turn_of o p) is)
    at (Some turn) is = by turn is (turn.part == p) refl

-- a tick leaves such a machine, with as many partitions
step_sound : KeepsNumbers → KeepsFacts → KeepsShapes → (g : Machine) → IsSound g → IsSound (step g)
step_sound numbers facts shapes g sound =
    let same = numbers g in
    record {
      fits = subst (λ (s : System). Fits (described s.conf)) (sym same.system) sound.fits;
      complete = record {
        parts = same.parts ∙ sound.complete.parts ∙ ap (λ (s : System). length s.conf.parts) (sym same.system);
        channels = same.channels ∙ sound.complete.channels ∙ ap (λ (s : System). length s.conf.chans) (sym same.system);
      };
      facts = facts g sound.facts;
      shapes = shapes g sound.fits sound.shapes;
    }

-- a partition's part of the machine that is there
part_there : (g : Machine) (p : ℕ) (a : Alone) → p < length g.parts → model_part_at g p ≡ Some a → part_in g p ≡ a
unfolding model_part_at
part_there g p a below is =
    same_Some (part_in g p) a (sym (ap (on (part g p)) (slice_get-get_or g.parts p (booted_part g.system p) below)) ∙ is)

-- the first cue that is not taken, after one that is
after_taken : (view : PartitionView) (a : Alone) (tick : ℕ) (cue : Cue) (later : List Cue) → takes_cue view a cue ≡ true
    → first_untaken view a tick (cue ∷ later) ≡ first_untaken view (alone_step view a cue) (suc tick) later
after_taken view a tick cue later taken =
    ap (λ (b : Bool). if b then first_untaken view (alone_step view a cue) (suc tick) later else Some tick) taken

-- what is received in this many ticks, counted from any number
module _ (receives : ReceivedIsTaken) (ticks : OneTick) (numbers : KeepsNumbers) (facts : KeepsFacts) (shapes : KeepsShapes) where
  script_from : (count : ℕ) (g : Machine) (p tick : ℕ) → IsSound g → p < length g.parts → first_untaken (view_of g.system p) (part_in g p) tick (script g p count) ≡ None
  script_from zero g p tick sound below = refl
  script_from (suc count) g p tick sound below = at g.halted refl (λ inside. script_from count (step g) p (suc tick) (step_sound numbers facts shapes g sound) inside)
    where
      at : (b : Bool) → g.halted ≡ b
          → (p < length (step g).parts → first_untaken (view_of (step g).system p) (part_in (step g) p) (suc tick) (script (step g) p count) ≡ None)
          → first_untaken (view_of g.system p) (part_in g p) tick (script_unless b (cue g p) (script (step g) p count)) ≡ None
      at true halts further = refl
      at false runs further =
          let inside : p < length (step g).parts = subst (λ (n : ℕ). p < n) (sym (numbers g).parts) below in
          let same = part_there (step g) p (alone_step (view_of g.system p) (part_in g p) (cue g p)) inside
          (ticks g p (part_at p g) runs (slice_get-get_or g.parts p (booted_part g.system p) below)).state in
          after_taken (view_of g.system p) (part_in g p) tick (cue g p) (script (step g) p count) (receives g p sound below)
          ∙ ap (λ (a : Alone). first_untaken (view_of g.system p) a (suc tick) (script (step g) p count)) (sym same)
          ∙ ap (λ (s : System). first_untaken (view_of s p) (part_in (step g) p) (suc tick) (script (step g) p count)) (sym (numbers g).system)
          ∙ further inside

  pub script_taken : ScriptIsTaken
  script_taken g p count sound below = script_from count g p 0 sound below

-- a machine boots so
start_sound : BootsComplete → BootsWithFacts → BootsWithShapes → (system : System) → Fits (described system.conf) → IsSound (start system)
unfolding start
start_sound complete facts shapes system fits = record { fits = fits; complete = complete system; facts = facts system; shapes = shapes system }

start_view : (system : System) (p : ℕ) → view_of (start system).system p ≡ view_of system p
unfolding start
start_view system p = refl

start_parts : BootsComplete → (system : System) → length (start system).parts ≡ length system.conf.parts
unfolding start
start_parts complete system = (complete system).parts

pub booted_taken : ScriptIsTaken → BootsAlone → BootsComplete → BootsWithFacts → BootsWithShapes → BootedScriptIsTaken
booted_taken taken boots complete facts shapes system p count fits below =
    let inside : p < length (start system).parts = subst (λ (n : ℕ). p < n) (sym (start_parts complete system)) below in
    let same = part_there (start system) p (alone_start (view_of system p)) inside (boots system p below) in
    sym (ap (λ (view : PartitionView). first_untaken view (alone_start (view_of system p)) 0 (script (start system) p count)) (start_view system p))
    ∙ ap (λ (a : Alone). first_untaken (view_of (start system).system p) a 0 (script (start system) p count)) (sym same)
    ∙ taken (start system) p count (start_sound complete facts shapes system fits) inside
