-- What a partition receives in a tick is what it may receive; and what it receives in a run is a script.
use Rattle.std.proofs.Common.{◌≡◌, ℕ, zero, suc, ◌≤◌, Bool, true, false, List, [], ◌∷◌, length, Option, None, Some, refl, sym, ap, ◌∙◌, subst, arith}
use Rattle.std.specs.Prelude.{◌==◌, ◌-◌, if◌then◌else◌, is_some, slice_get, IfSome, nat_lt}
use Rattle.std.specs.List.{AllByRecursion}
use Rattle.std.proofs.lemmas.Bool.{eqb-true}
use Rattle.std.proofs.lemmas.List.Elements.{All-head, All-tail}
use Rattle.guest_bus.specs.Memory.{all_from, is_writable}
use Rattle.health_monitor.specs.declared.entry.HealthEntry.{HealthEntry}
use Rattle.xm_base.specs.declared.partition.Order.{Order}
use Rattle.xm_conf.specs.Configuration.{Conf}
use Rattle.xm_conf.specs.Description.{described}
use Rattle.xm_conf.specs.Fits.{Fits}
use Rattle.xm_traces.specs.Ring.{Kept, entry_at, first_kept}
use Rattle.xm_traces.specs.declared.entry.TraceEntry.{TraceEntry}
use Rattle.xm_ports.specs.Channels.{Content}
use Rattle.machine_model.specs.Cue.{Away, Mine, CueSlot, cue, cue_in, script, script_unless, slot_of, unless_own}
use Rattle.machine_model.specs.Facts.{BootsWithFacts, HasFacts, HaveEight, KeepsFacts, KeepsNumbers}
use Rattle.machine_model.specs.Laws.{ActsWithinBounds, NeverUponItself, NoScript, SeesNothing}
use Rattle.machine_model.specs.LocalTick.{LocalTick}
use Rattle.machine_model.specs.Machine.{Machine, SlotTurn, act_of, after, answer_to, copies, happened, happened_by, if_its_turn, is_halt, is_turn_of, local, local_in, local_of, order_upon, shown_entry, shown_of, sight, sight_for, sight_in, sight_of_state, start, step, step_unless, system_traffic, taken_by, tick_of, turn_of, with_room}
use Rattle.machine_model.specs.Observed.{CurrentPlan, HealthCounts, HealthEntryOf, Observation, PartitionStatus, PlanStatus, Question, SystemStatus, TraceCounts, TraceEntryOf, asks}
use Rattle.machine_model.specs.OwnActs.{ActsWithinOwn, IsPutting, IsTaking, IsWithinOwn}
use Rattle.machine_model.specs.Partition.{PartitionState, areas_of, takes_turns}
use Rattle.machine_model.specs.Structures.{counts_bytes, health_bytes, partition_status, plan_status, system_status, trace_bytes}
use Rattle.machine_model.specs.Emission as emission
use Rattle.machine_model.specs.Emission.{Act, AllHalted, NotKept, OwnPuts, OwnSignals, OwnStill, OwnTakes, OwnTraffic, Sight, Unseen, Upon, Words}
use Rattle.machine_model.specs.Traffic.{heard_as, own_puts_at, own_takes_at, puts_at, takes_at, traffic_as, traffic_of}
use Rattle.machine_model.specs.View.{PartitionView, System, name_of, named, part_of, view_of}
use Rattle.cue_scripts.specs.Entries.{is_away}
use Rattle.cue_scripts.specs.Script.{CanHear, CanSee, HaltsLast, HearsNothing, IsCue, IsScript, is_shown, is_system_partition}
use Rattle.range_model.specs.Cues.{HasMessageBytes, HasNumbers, HasShownBytes}
use Rattle.range_model.specs.Laws.{BootedScriptsAreInRange, CuesAreInRange, ScriptsAreInRange}
use Rattle.recording_model.specs.Receiving.{ReceivesBootedScripts, ReceivesCues, ReceivesScripts}
use Rattle.recording_model.proofs.EndLemmas.{put_heard, take_heard}
use Rattle.recording_model.proofs.LinkLemmas.{signal_heard}

-- what others do on channels, as a partition hears it, by whose turn it is
abbrev heard_in_turn : Machine → ℕ → Option SlotTurn → OwnTraffic
heard_in_turn g p o =
    unless_own (is_some (if_its_turn (is_turn_of o p) (local_in g o))) (heard_as g.system.conf p (system_traffic g.system.conf o (traffic_of (act_of (local_in g o)))))

traffic_is : (g : Machine) (p : ℕ) → (cue g p).traffic ≡ heard_in_turn g p (turn_of g)
unfolding cue cue_in happened happened_by local tick_of
traffic_is g p = refl

-- in its own turn nothing
own_still : (conf : Conf) (p other : ℕ) (tick : Option LocalTick) → unless_own (is_some tick) (heard_as conf p (traffic_as conf other (traffic_of (act_of tick)))) ≡ OwnStill
own_still conf p other None = refl
own_still conf p other (Some tick) = refl

-- an act of another partition
put_received : (system : System) (p other name : ℕ) (bytes : List ℕ) (contents : List (Option Content)) → Fits (described system.conf) → IsPutting (view_of system other) contents name bytes → (other == p) ≡ false
    → HasMessageBytes (heard_as system.conf p (traffic_as system.conf other (OwnPuts name bytes)))
    → CanHear system.conf p (heard_as system.conf p (traffic_as system.conf other (OwnPuts name bytes)))
put_received system p other name bytes contents fits put differ = by (named system.conf other name) refl
  where
    at : (c : ℕ) → named system.conf other name ≡ Some c → (o : Option ℕ) → name_of system.conf p c ≡ o → HasMessageBytes (own_puts_at o bytes) → CanHear system.conf p (own_puts_at o bytes)
    at c named_other None is each = tt
    at c named_other (Some q) is each = put_heard system p other c q name bytes contents fits put named_other differ is each

    by : (o : Option ℕ) → named system.conf other name ≡ o → HasMessageBytes (heard_as system.conf p (puts_at o bytes)) → CanHear system.conf p (heard_as system.conf p (puts_at o bytes))
    by None is each = tt
    by (Some c) is each = at c is (name_of system.conf p c) refl each

take_received : (system : System) (p other name : ℕ) (contents : List (Option Content)) → Fits (described system.conf) → IsTaking (view_of system other) contents name → (other == p) ≡ false
    → CanHear system.conf p (heard_as system.conf p (traffic_as system.conf other (OwnTakes name)))
take_received system p other name contents fits take differ = by (named system.conf other name) refl
  where
    at : (c : ℕ) → named system.conf other name ≡ Some c → (o : Option ℕ) → name_of system.conf p c ≡ o → CanHear system.conf p (own_takes_at o)
    at c named_other None is = tt
    at c named_other (Some q) is = take_heard system p other c q name contents fits take named_other differ is

    by : (o : Option ℕ) → named system.conf other name ≡ o → CanHear system.conf p (heard_as system.conf p (takes_at o))
    by None is = tt
    by (Some c) is = at c is (name_of system.conf p c) refl

act_received : (system : System) (p other : ℕ) (contents : List (Option Content)) (act : Act) → Fits (described system.conf) → IsWithinOwn (view_of system other) contents act → (other == p) ≡ false
    → HasMessageBytes (heard_as system.conf p (traffic_as system.conf other (traffic_of act)))
    → CanHear system.conf p (heard_as system.conf p (traffic_as system.conf other (traffic_of act)))
act_received system p other contents emission.Nothing fits is differ each = tt
act_received system p other contents (emission.Trades OwnStill) fits is differ each = tt
act_received system p other contents (emission.Trades (OwnPuts name bytes)) fits is differ each = put_received system p other name bytes contents fits is differ each
act_received system p other contents (emission.Trades (OwnTakes name)) fits is differ each = take_received system p other name contents fits is differ
act_received system p other contents (emission.Trades (OwnSignals number)) fits is differ each = signal_heard system.conf p other number fits
act_received system p other contents (emission.Upon id order) fits is differ each = tt
act_received system p other contents (emission.Plans change) fits is differ each = tt
act_received system p other contents (emission.UponAll event) fits is differ each = tt

taken_within : ActsWithinBounds → ActsWithinOwn → (g : Machine) (p : ℕ) (first : Bool) (o : Option PartitionState) → IsWithinOwn (view_of g.system p) (copies g p) (act_of (taken_by g p first o))
unfolding local_of
taken_within bounds own g p first None = tt
taken_within bounds own g p first (Some ps) = at (takes_turns ps.state)
  where
    seen : Sight
    seen = sight_of_state g p first ps

    at : (b : Bool) → IsWithinOwn (view_of g.system p) (copies g p) (act_of (if b then Some (local_of g p first ps) else None))
    at true =
        subst (IsWithinOwn (view_of g.system p) (copies g p)) (sym (bounds g.system p ps (copies g p) g.ticks g.time first seen)) (own (view_of g.system p) (copies g p) g.time first seen ps)
    at false = tt

-- the local tick of the partition whose turn it is
abbrev tick_in : Machine → SlotTurn → Option LocalTick
tick_in g turn = taken_by g turn.part turn.first (slice_get g.parts turn.part)

turn_received : ActsWithinBounds → ActsWithinOwn → (g : Machine) (p : ℕ) (o : Option SlotTurn) → Fits (described g.system.conf) → HasMessageBytes (heard_in_turn g p o) → CanHear g.system.conf p (heard_in_turn g p o)
turn_received bounds own g p None fits each = tt
turn_received bounds own g p (Some turn) fits each = at (turn.part == p) refl each
  where
    at : (b : Bool) → (turn.part == p) ≡ b
        → HasMessageBytes (unless_own (is_some (if_its_turn b (tick_in g turn))) (heard_as g.system.conf p (traffic_as g.system.conf turn.part (traffic_of (act_of (tick_in g turn))))))
        → CanHear g.system.conf p (unless_own (is_some (if_its_turn b (tick_in g turn))) (heard_as g.system.conf p (traffic_as g.system.conf turn.part (traffic_of (act_of (tick_in g turn))))))
    at true its has = subst (CanHear g.system.conf p) (sym (own_still g.system.conf p turn.part (tick_in g turn))) tt
    at false differ has = act_received g.system p turn.part (copies g turn.part) (act_of (tick_in g turn)) fits (taken_within bounds own g turn.part turn.first (slice_get g.parts turn.part)) differ has

traffic_cued : ActsWithinBounds → ActsWithinOwn → (g : Machine) (p : ℕ) → Fits (described g.system.conf) → HasMessageBytes (cue g p).traffic → CanHear g.system.conf p (cue g p).traffic
traffic_cued bounds own g p fits each =
    subst (CanHear g.system.conf p) (sym (traffic_is g p)) (turn_received bounds own g p (turn_of g) fits (subst HasMessageBytes (traffic_is g p) each))

-- in its own turn a partition gives itself no order
no_order : (act : Act) (p : ℕ) → ((order : Order) → ¬ (act ≡ Upon p order)) → order_upon act p ≡ None
no_order emission.Nothing p never = refl
no_order (emission.Trades traffic) p never = refl
no_order (emission.Upon id order) p never = at (id == p) refl
  where
    at : (b : Bool) → (id == p) ≡ b → (if b then Some order else None) ≡ None
    at true same = absurd (never order (ap (λ (n : ℕ). Upon n order) (eqb-true id p same)))
    at false other = refl
no_order (emission.Plans change) p never = refl
no_order (emission.UponAll event) p never = refl

own_id : (system : System) (p : ℕ) → (view_of system p).id ≡ p
unfolding view_of
own_id system p = refl

taken_no_order : NeverUponItself → (g : Machine) (p : ℕ) (first : Bool) (o : Option PartitionState) → order_upon (act_of (taken_by g p first o)) p ≡ None
unfolding local_of
taken_no_order never g p first None = refl
taken_no_order never g p first (Some ps) = at (takes_turns ps.state)
  where
    at : (b : Bool) → order_upon (act_of (if b then Some (local_of g p first ps) else None)) p ≡ None
    at true = no_order (local_of g p first ps).act p
        (λ order is. never (view_of g.system p) ps (copies g p) g.ticks g.time first (sight_of_state g p first ps) order (is ∙ ap (λ (n : ℕ). Upon n order) (sym (own_id g.system p))))
    at false = refl

alone_in_turn : NeverUponItself → (g : Machine) (p : ℕ) (o : Option SlotTurn) → HearsNothing (slot_of o p) (heard_in_turn g p o) (order_upon (act_of (local_in g o)) p)
alone_in_turn never g p None = tt
alone_in_turn never g p (Some turn) = at (turn.part == p) refl
  where
    at : (b : Bool) → (turn.part == p) ≡ b
        → HearsNothing (if b then Mine turn.first else Away)
        (unless_own (is_some (if_its_turn b (tick_in g turn))) (heard_as g.system.conf p (traffic_as g.system.conf turn.part (traffic_of (act_of (tick_in g turn))))))
        (order_upon (act_of (tick_in g turn)) p)
    at true its = (
      own_still g.system.conf p turn.part (tick_in g turn),
      ap (λ (n : ℕ). order_upon (act_of (tick_in g turn)) n) (sym (eqb-true turn.part p its)) ∙ taken_no_order never g turn.part turn.first (slice_get g.parts turn.part),
    )
    at false other = tt

alone_received : NeverUponItself → (g : Machine) (p : ℕ) → HearsNothing (cue g p).mine (cue g p).traffic (cue g p).order
unfolding cue cue_in happened happened_by local tick_of
alone_received never g p = alone_in_turn never g p (turn_of g)

-- what is shown has the size of a structure
abbrev IsSized : Sight → Type 0
IsSized Unseen = Unit {0}
IsSized NotKept = Unit {0}
IsSized (Words bytes) = is_shown (length bytes) ≡ true

kept_eight : (entries : List TraceEntry) (k : ℕ) → HaveEight entries → IfSome (slice_get entries k) (λ entry. length entry.load ≡ 8)
kept_eight [] k all = tt
kept_eight (entry ∷ entries) zero all = All-head (λ one. length one.load ≡ 8) entry entries all
kept_eight (entry ∷ entries) (suc k) all = kept_eight entries k (All-tail (λ one. length one.load ≡ 8) entry entries all)

trace_sized : (number : ℕ) (kept : Kept TraceEntry) → HaveEight kept.entries → IsSized (shown_entry trace_bytes (entry_at number kept))
unfolding entry_at trace_bytes
trace_sized number kept all = by (nat_lt number (first_kept kept)) (nat_lt number kept.next)
  where
    one : (o : Option TraceEntry) → IfSome o (λ entry. length entry.load ≡ 8) → IsSized (shown_entry trace_bytes o)
    one None has = tt
    one (Some entry) has = rw has refl

    by : (a b : Bool) → IsSized (shown_entry trace_bytes (if a then None else if b then slice_get kept.entries (number - first_kept kept) else None))
    by true b = tt
    by false true = one (slice_get kept.entries (number - first_kept kept)) (kept_eight kept.entries (number - first_kept kept) all)
    by false false = tt

health_sized : (o : Option HealthEntry) → IsSized (shown_entry health_bytes o)
unfolding health_bytes
health_sized None = tt
health_sized (Some entry) = refl

answer_sized : (g : Machine) (question : Question) → HasFacts g → IsSized (answer_to g question)
unfolding counts_bytes partition_status plan_status system_status
answer_sized g (PartitionStatus id) facts = at (slice_get g.parts id)
  where
    at : (o : Option PartitionState) → IsSized (shown_of o (λ ps. Words (partition_status ps)))
    at None = tt
    at (Some ps) = refl
answer_sized g SystemStatus facts = refl
answer_sized g CurrentPlan facts = refl
answer_sized g PlanStatus facts = refl
answer_sized g (TraceEntryOf id number) facts = at (slice_get g.parts id) refl
  where
    at : (o : Option PartitionState) → slice_get g.parts id ≡ o → IsSized (shown_of o (λ ps. shown_entry trace_bytes (entry_at number ps.traces)))
    at None there = tt
    at (Some ps) there = trace_sized number ps.traces (facts id ps there).loads
answer_sized g (TraceCounts id) facts = at (slice_get g.parts id)
  where
    at : (o : Option PartitionState) → IsSized (shown_of o (λ ps. Words (counts_bytes ps.traces)))
    at None = tt
    at (Some ps) = refl
answer_sized g (HealthEntryOf id number) facts = at (slice_get g.parts id)
  where
    at : (o : Option PartitionState) → IsSized (shown_of o (λ ps. shown_entry health_bytes (entry_at number ps.health)))
    at None = tt
    at (Some ps) = health_sized (entry_at number ps.health)
answer_sized g (HealthCounts id) facts = at (slice_get g.parts id)
  where
    at : (o : Option PartitionState) → IsSized (shown_of o (λ ps. Words (counts_bytes ps.health)))
    at None = tt
    at (Some ps) = refl

room_sized : (b : Bool) (seen : Sight) → IsSized seen → IsSized (with_room b seen)
room_sized b Unseen sized = tt
room_sized b NotKept sized = tt
room_sized true (Words bytes) sized = sized
room_sized false (Words bytes) sized = tt

asked_sized : (g : Machine) (view : PartitionView) (o : Option Observation) → HasFacts g → IsSized (sight_for g view o)
asked_sized g view None facts = tt
asked_sized g view (Some call) facts = room_sized (all_from (is_writable (areas_of view)) call.address call.size) (answer_to g call.question) (answer_sized g call.question facts)

state_sized : (g : Machine) (p : ℕ) (first : Bool) (ps : PartitionState) → HasFacts g → IsSized (sight_of_state g p first ps)
unfolding sight_of_state
state_sized g p first ps facts = at (takes_turns ps.state)
  where
    at : (b : Bool) → IsSized (if b then sight_for g (view_of g.system p) (asks (view_of g.system p) ps g.time first) else Unseen)
    at true = asked_sized g (view_of g.system p) (asks (view_of g.system p) ps g.time first) facts
    at false = tt

-- and something is shown in its own slot alone
record IsSeenIn (mine : CueSlot) (seen : Sight) : Type 0 where
  sized : IsSized seen
  nowhere_else : is_away mine ≡ true → seen ≡ Unseen

seen_in_turn : (g : Machine) (p : ℕ) (o : Option SlotTurn) (there : Option PartitionState) → HasFacts g → IsSeenIn (slot_of o p) (sight_in g p o there)
seen_in_turn g p None there facts = record { sized = tt; nowhere_else = λ away. refl }
seen_in_turn g p (Some turn) None facts = record { sized = tt; nowhere_else = λ away. refl }
seen_in_turn g p (Some turn) (Some ps) facts = at (turn.part == p)
  where
    at : (b : Bool) → IsSeenIn (if b then Mine turn.first else Away) (if b then sight_of_state g p turn.first ps else Unseen)
    at true = record { sized = state_sized g p turn.first ps facts; nowhere_else = λ away. absurd cc }
    at false = record { sized = tt; nowhere_else = λ away. refl }

cue_seen_in : (g : Machine) (p : ℕ) → HasFacts g → IsSeenIn (cue g p).mine (cue g p).seen
unfolding cue cue_in happened happened_by sight
cue_seen_in g p facts = seen_in_turn g p (turn_of g) (slice_get g.parts p) facts

not_away : (mine : CueSlot) (seen : Sight) → (is_away mine ≡ true → seen ≡ Unseen) → ¬ (seen ≡ Unseen) → is_away mine ≡ false
not_away Away seen nowhere some = absurd (some (nowhere refl))
not_away (Mine first) seen nowhere some = refl

flagged : (system : Bool) (seen : Sight) → (system ≡ false → seen ≡ Unseen) → ¬ (seen ≡ Unseen) → system ≡ true
flagged true seen flag some = refl
flagged false seen flag some = absurd (some (flag refl))

can_see : (system : Bool) (mine : CueSlot) (seen : Sight) → IsSeenIn mine seen → (system ≡ false → seen ≡ Unseen) → HasShownBytes seen → CanSee system mine seen
can_see system mine Unseen is flag each = tt
can_see system mine NotKept is flag each = (not_away mine NotKept is.nowhere_else (λ no. absurd cc), flagged system NotKept flag (λ no. absurd cc))
can_see system mine (Words bytes) is flag each =
    (not_away mine (Words bytes) is.nowhere_else (λ no. absurd cc), flagged system (Words bytes) flag (λ no. absurd cc), is.sized, each)

seen_is : (g : Machine) (p : ℕ) → (cue g p).seen ≡ sight g p
unfolding cue cue_in
seen_is g p = refl

seen_received : SeesNothing → (g : Machine) (p : ℕ) → HasFacts g → HasShownBytes (cue g p).seen → CanSee (is_system_partition g.system.conf p) (cue g p).mine (cue g p).seen
unfolding is_system_partition
seen_received nothing g p facts each =
    can_see (part_of g.system.conf p).system (cue g p).mine (cue g p).seen (cue_seen_in g p facts) (λ plain. seen_is g p ∙ nothing g p plain) each

-- so a tick gives what a partition may receive
cue_received : ActsWithinBounds → ActsWithinOwn → NeverUponItself → SeesNothing → (g : Machine) (p : ℕ) → Fits (described g.system.conf) → HasFacts g → HasNumbers (cue g p) → IsCue g.system.conf p (cue g p)
cue_received bounds own never nothing g p fits facts numbers = record {
  traffic = traffic_cued bounds own g p fits numbers.message;
  order = numbers.status;
  alone = alone_received never g p;
  seen = seen_received nothing g p facts numbers.shown;
}

pub receives_cues : ActsWithinBounds → ActsWithinOwn → NeverUponItself → SeesNothing → CuesAreInRange → ReceivesCues
receives_cues bounds own never nothing ranged g p sound is = cue_received bounds own never nothing g p sound.fits sound.facts (ranged g p is)

-- a tick whose cue has a halt of the whole system halts the machine
halts_so : (g : Machine) (p : ℕ) → g.halted ≡ false → (cue g p).whole ≡ AllHalted → (step g).halted ≡ true
unfolding after cue cue_in step
halts_so g p runs is = ap (λ (b : Bool). (step_unless b g).halted) runs ∙ ap is_halt is

-- a run
step_conf : KeepsNumbers → (g : Machine) → (step g).system.conf ≡ g.system.conf
step_conf same g = ap (λ (s : System). s.conf) (same g).system

module _ (bounds : ActsWithinBounds) (own : ActsWithinOwn) (never : NeverUponItself) (nothing : SeesNothing) (same : KeepsNumbers) (keeps : KeepsFacts) where
  each_received : (count : ℕ) (g : Machine) (p : ℕ) → Fits (described g.system.conf) → HasFacts g → AllByRecursion HasNumbers (script g p count)
      → AllByRecursion (IsCue g.system.conf p) (script g p count)
  each_received zero g p fits facts numbers = tt
  each_received (suc count) g p fits facts numbers =
      at g.halted numbers (each_received count (step g) p (subst (λ (conf : Conf). Fits (described conf)) (sym (step_conf same g)) fits) (keeps g facts))
    where
      at : (b : Bool) → AllByRecursion HasNumbers (script_unless b (cue g p) (script (step g) p count))
          → (AllByRecursion HasNumbers (script (step g) p count) → AllByRecursion (IsCue (step g).system.conf p) (script (step g) p count))
          → AllByRecursion (IsCue g.system.conf p) (script_unless b (cue g p) (script (step g) p count))
      at true has further = tt
      at false has further = (
        cue_received bounds own never nothing g p fits facts has.0,
        subst (λ (conf : Conf). AllByRecursion (IsCue conf p) (script (step g) p count)) (step_conf same g) (further has.1),
      )

halts_last : NoScript → (count : ℕ) (g : Machine) (p : ℕ) → HaltsLast (script g p count)
halts_last none zero g p = tt
halts_last none (suc count) g p = at g.halted refl (halts_last none count (step g) p)
  where
    at : (b : Bool) → g.halted ≡ b → HaltsLast (script (step g) p count) → HaltsLast (script_unless b (cue g p) (script (step g) p count))
    at true halts further = tt
    at false runs further = (λ whole. none (step g) p count (halts_so g p runs whole), further)

few_cues : (count : ℕ) (g : Machine) (p : ℕ) → length (script g p count) ≤ count
few_cues zero g p = omega arith
few_cues (suc count) g p = at g.halted (few_cues count (step g) p)
  where
    at : (b : Bool) → length (script (step g) p count) ≤ count → length (script_unless b (cue g p) (script (step g) p count)) ≤ suc count
    at true few = omega arith
    at false few = omega (arith, few)

script_received : ActsWithinBounds → ActsWithinOwn → NeverUponItself → SeesNothing → KeepsNumbers → KeepsFacts → NoScript → (g : Machine) (p count : ℕ) → Fits (described g.system.conf) → HasFacts g → count ≤ 4000000000
    → AllByRecursion HasNumbers (script g p count) → IsScript g.system.conf p (script g p count)
script_received bounds own never nothing same keeps none g p count fits facts most numbers = record {
  few = (let few = few_cues count g p in omega (arith, few, most));
  each = each_received bounds own never nothing same keeps count g p fits facts numbers;
  halts = halts_last none count g p;
}

pub receives_scripts : ActsWithinBounds → ActsWithinOwn → NeverUponItself → SeesNothing → KeepsNumbers → KeepsFacts → NoScript → ScriptsAreInRange → ReceivesScripts
receives_scripts bounds own never nothing same keeps none ranged g p count sound is most =
    script_received bounds own never nothing same keeps none g p count sound.fits sound.facts most (ranged g p count is)

start_conf : (system : System) → (start system).system.conf ≡ system.conf
unfolding start
start_conf system = refl

pub receives_booted : ActsWithinBounds → ActsWithinOwn → NeverUponItself → SeesNothing → KeepsNumbers → KeepsFacts → NoScript → BootsWithFacts → BootedScriptsAreInRange → ReceivesBootedScripts
receives_booted bounds own never nothing same keeps none boots ranged system p count fits images most =
    subst (λ (conf : Conf). IsScript conf p (script (start system) p count)) (start_conf system)
    (script_received bounds own never nothing same keeps none (start system) p count (subst (λ (conf : Conf). Fits (described conf)) (sym (start_conf system)) fits) (boots system) most (ranged system p count fits images))
