-- A machine boots with its numbers in their ranges, and keeps them there in each tick.
use Rattle.std.proofs.Common.{◌≡◌, ℕ, zero, suc, ◌<◌, ◌≤◌, Bool, true, false, List, [], ◌∷◌, ◌++◌, length, map, Option, None, Some, refl, sym, ap, ◌∙◌, arith, subst}
use Rattle.std.specs.Prelude.{◌==◌, ◌^◌, if◌then◌else◌, is_some, slice_get, slice_index_or}
use Rattle.std.specs.Int.{w32, w64}
use Rattle.std.specs.List.{AllByRecursion}
use Rattle.std.proofs.lemmas.Option.{same_Some}
use Rattle.guest_bus.specs.Memory.{all_from, is_writable}
use Rattle.virt_traps.specs.Virtual.{raised}
use Rattle.cyclic_plans.specs.PlanClock.{CyclicClock, here}
use Rattle.cyclic_plans.specs.declared.slots.Here.{Here}
use Rattle.health_monitor.specs.declared.entry.HealthEntry.{HealthEntry}
use Rattle.xef_images.specs.Image.{Image}
use Rattle.xm_base.specs.Bytes.{AreBytes}
use Rattle.xm_base.specs.Options.{on}
use Rattle.xm_base.specs.declared.partition.Order.{Order}
use Rattle.xm_conf.specs.Configuration.{Conf}
use Rattle.xm_conf.specs.Description.{described}
use Rattle.xm_conf.specs.Fits.{Fits}
use Rattle.xm_conf.specs.declared.channel.ChanKind.{ChanKind}
use Rattle.xm_conf.specs.declared.channel.ChanKind.TheVariants as chan_kind
use Rattle.xm_ports.specs.Channels.{Content, Queuing, Sampling, Shape, cleared, empty, empty_of, first_taken, put, shapes_of}
use Rattle.xm_traces.specs.Ring.{entry_at}
use Rattle.xm_traces.specs.declared.entry.TraceEntry.{TraceEntry}
use Rattle.machine_model.specs.Cue.{cue, cue_in, script, script_unless, unless_own}
use Rattle.machine_model.specs.Facts.{BootsComplete, IsAsMany, IsComplete, KeepsNumbers}
use Rattle.machine_model.specs.lemmas.ListLemmas.{get_each}
use Rattle.machine_model.specs.Lists.{each, table, is_number}
use Rattle.machine_model.specs.LocalTick.{LocalTick}
use Rattle.machine_model.specs.Machine.{Happened, Machine, SlotTurn, act_of, after, after_tick, answer_to, booted_part, channel_after, copies, happened, happened_by, if_its_turn, is_turn_of, local, local_in, local_of, obeyed, order_upon, part_after, rested_unless, run, shown_entry, shown_of, sight, sight_for, sight_in, sight_of_state, start, step, system_traffic, taken_by, tick_of, turn_of, with_room, worked_in}
use Rattle.machine_model.specs.Observed.{CurrentPlan, HealthCounts, HealthEntryOf, Observation, PartitionStatus, PlanStatus, Question, SystemStatus, TraceCounts, TraceEntryOf, asks}
use Rattle.machine_model.specs.Partition.{PartitionState, areas_of, hardware_looked_at, is_halted, link_signal, rested, takes_turns}
use Rattle.machine_model.specs.Structures.{counts_bytes, double, health_bytes, or_none, partition_status, plan_status, slot_number, system_status, trace_bytes, word}
use Rattle.machine_model.specs.lemmas.TickLemmas.{step_halted, step_runs}
use Rattle.machine_model.specs.Emission as emission
use Rattle.machine_model.specs.Emission.{Act, NotKept, OwnPuts, OwnSignals, OwnStill, OwnTakes, OwnTraffic, Sight, Unseen, Words}
use Rattle.machine_model.specs.Traffic.{Puts, Signals, Still, Takes, Traffic, after_message, after_traffic, content_if, copies_of, heard_as, heard_from, hearing, interrupted, own_puts_at, own_signals_at, own_takes_at, puts_at, takes_at, traffic_as, traffic_of}
use Rattle.machine_model.specs.View.{PartitionView, System, linked, name_of, named, no_image, no_part, part_of, view_of}
use Rattle.machine_model.specs.Whole.{AllHalted, AllReset, NoEvent, WholeEvent, after_event, content_after}
use Rattle.cue_scripts.specs.Script.{IsOrder}
use Rattle.range_model.specs.Cues.{HasMessageBytes, HasNumbers, HasShownBytes}
use Rattle.range_model.specs.Laws.{BootedScriptsAreInRange, BootsInRange, CuesAreInRange, IsInRange, KeepsRanges, RunsInRange, ScriptsAreInRange}
use Rattle.range_model.specs.Ranges.{HasRanges, IsContentInRange, IsImageInRange, IsMachineInRange, IsPartitionInRange}
use Rattle.range_model.proofs.CallLemmas.{IsActInRange, IsCopyInRange, IsViewInRange, count_bytes, entry_kept, health_entry_bytes, same_range, status_bytes, trace_entry_bytes}
use Rattle.range_model.proofs.NumberLemmas.{append_below, number_bytes}
use Rattle.range_model.proofs.WorkLemmas.{IsLocalInRange, booted_range, local_range, looked_range, ordered_range, reset_range}

-- what a partition has of its own is in range
image_at : (images : List Image) (p : ℕ) → AllByRecursion IsImageInRange images → IsImageInRange (slice_index_or images p no_image)
image_at [] p each = record { entry = omega arith; bytes = tt }
image_at (image ∷ images) zero each = each.0
image_at (image ∷ images) (suc p) each = image_at images p each.1

few_ports : (conf : Conf) (p : ℕ) → Fits (described conf) → p < length conf.parts → length (part_of conf p).ports ≤ 32
unfolding described part_of
few_ports conf p fits there = fits.counts.ports p no_part there

few_parts : (conf : Conf) → Fits (described conf) → length conf.parts ≤ 2 ^ 32
unfolding described
few_parts conf fits = let few = fits.counts.parts.few in omega (arith, few)

pub view_range : (system : System) (p : ℕ) → Fits (described system.conf) → HasRanges system → p < length system.conf.parts → IsViewInRange (view_of system p)
unfolding view_of
view_range system p fits images there =
    let ports = few_ports system.conf p fits there in
    let parts = few_parts system.conf fits in
    record {
      id = omega (arith, parts, there);
      ports = omega (arith, ports);
      image = image_at system.images p images;
    }

image_of : (system : System) (p : ℕ) → HasRanges system → IsImageInRange (view_of system p).image
unfolding view_of
image_of system p images = image_at system.images p images

-- a partition that is there is one of the configuration's
below_length : {X : Type 0} (xs : List X) (p : ℕ) (x : X) → slice_get xs p ≡ Some x → p < length xs
below_length [] p x is = absurd cc
below_length (y ∷ xs) zero x is = omega arith
below_length (y ∷ xs) (suc p) x is = let less = below_length xs p x is in omega (arith, less)

its_view : (g : Machine) (p : ℕ) (ps : PartitionState) → IsInRange g → slice_get g.parts p ≡ Some ps → IsViewInRange (view_of g.system p)
its_view g p ps is there =
    let less = below_length g.parts p ps there in
    let many : length g.parts ≡ length g.system.conf.parts = is.complete.parts in
    view_range g.system p is.fits is.images (omega (arith, less, many))

-- the copies of its channels
table_each : {Y : Type 0} (P : Y → Type 0) (f : ℕ → Y) (n : ℕ) → ((k : ℕ) → P (f k)) → AllByRecursion P (table f n)
table_each P f zero each = tt
table_each P f (suc n) each = (each 0, table_each P (λ k. f (suc k)) n (λ k. each (suc k)))

content_at : (contents : List Content) (c : ℕ) → AllByRecursion IsContentInRange contents → IsCopyInRange (slice_get contents c)
content_at [] c each = tt
content_at (content ∷ contents) zero each = each.0
content_at (content ∷ contents) (suc c) each = content_at contents c each.1

copy_at : (contents : List Content) (o : Option ℕ) → AllByRecursion IsContentInRange contents → IsCopyInRange (content_if contents o)
copy_at contents None each = tt
copy_at contents (Some c) each = content_at contents c each

copies_range : (g : Machine) (p : ℕ) → IsMachineInRange g → AllByRecursion IsCopyInRange (copies g p)
unfolding copies copies_of
copies_range g p is = table_each IsCopyInRange (λ q. content_if g.channels (named g.system.conf p q)) (length (part_of g.system.conf p).ports) (λ q. copy_at g.channels (named g.system.conf p q) is.channels)

-- what it is shown
system_bytes : (resets parts : ℕ) → AreBytes (system_status resets parts)
unfolding system_status
system_bytes resets parts = append_below 256 (word resets) (word parts) (number_bytes w32 resets) (number_bytes w32 parts)

plan_bytes : (clock : CyclicClock) (slot : Option Here) → AreBytes (plan_status clock slot)
unfolding plan_status
plan_bytes clock slot =
    append_below 256 (double clock.frame_start ++ word clock.plan ++ word (or_none clock.asked)) (word (or_none (slot_number slot)))
    (append_below 256 (double clock.frame_start ++ word clock.plan) (word (or_none clock.asked))
    (append_below 256 (double clock.frame_start) (word clock.plan) (number_bytes w64 clock.frame_start) (number_bytes w32 clock.plan)) (number_bytes w32 (or_none clock.asked)))
    (number_bytes w32 (or_none (slot_number slot)))

health_shown : (o : Option HealthEntry) → HasShownBytes (shown_entry health_bytes o)
health_shown None = tt
health_shown (Some entry) = health_entry_bytes entry

shown_range : (g : Machine) (id : ℕ) (show : PartitionState → Sight) → IsMachineInRange g → ((ps : PartitionState) → IsPartitionInRange ps → HasShownBytes (show ps)) → HasShownBytes (shown_of (slice_get g.parts id) show)
shown_range g id show is shows = at (slice_get g.parts id) refl
  where
    at : (o : Option PartitionState) → slice_get g.parts id ≡ o → HasShownBytes (shown_of o show)
    at None there = tt
    at (Some ps) there = shows ps (is.parts id ps there)

answer_range : (g : Machine) (question : Question) → IsMachineInRange g → HasShownBytes (answer_to g question)
answer_range g (PartitionStatus id) is = shown_range g id (λ ps. Words (partition_status ps)) is (λ ps has. status_bytes ps)
answer_range g SystemStatus is = system_bytes g.resets (length g.system.conf.parts)
answer_range g CurrentPlan is = number_bytes w32 g.clock.plan
answer_range g PlanStatus is = plan_bytes g.clock (here g.system.conf g.clock g.time)
answer_range g (TraceEntryOf id number) is = shown_range g id (λ ps. shown_entry trace_bytes (entry_at number ps.traces)) is
    (λ ps has. entry_kept (λ (entry : TraceEntry). AreBytes entry.load) number ps.traces (λ o. HasShownBytes (shown_entry trace_bytes o)) has.traces tt trace_entry_bytes)
answer_range g (TraceCounts id) is = shown_range g id (λ ps. Words (counts_bytes ps.traces)) is (λ ps has. count_bytes ps.traces)
answer_range g (HealthEntryOf id number) is = shown_range g id (λ ps. shown_entry health_bytes (entry_at number ps.health)) is (λ ps has. health_shown (entry_at number ps.health))
answer_range g (HealthCounts id) is = shown_range g id (λ ps. Words (counts_bytes ps.health)) is (λ ps has. count_bytes ps.health)

room_range : (b : Bool) (seen : Sight) → HasShownBytes seen → HasShownBytes (with_room b seen)
room_range b Unseen is = tt
room_range b NotKept is = tt
room_range true (Words bytes) is = is
room_range false (Words bytes) is = tt

sight_for_range : (g : Machine) (view : PartitionView) (o : Option Observation) → IsMachineInRange g → HasShownBytes (sight_for g view o)
sight_for_range g view None is = tt
sight_for_range g view (Some call) is = room_range (all_from (is_writable (areas_of view)) call.address call.size) (answer_to g call.question) (answer_range g call.question is)

sight_of_range : (g : Machine) (p : ℕ) (first : Bool) (ps : PartitionState) → IsMachineInRange g → HasShownBytes (sight_of_state g p first ps)
unfolding sight_of_state
sight_of_range g p first ps is = at (takes_turns ps.state)
  where
    at : (b : Bool) → HasShownBytes (if b then sight_for g (view_of g.system p) (asks (view_of g.system p) ps g.time first) else Unseen)
    at true = sight_for_range g (view_of g.system p) (asks (view_of g.system p) ps g.time first) is
    at false = tt

sight_in_range : (g : Machine) (p : ℕ) (o : Option SlotTurn) (there : Option PartitionState) → IsMachineInRange g → HasShownBytes (sight_in g p o there)
sight_in_range g p None there is = tt
sight_in_range g p (Some turn) None is = tt
sight_in_range g p (Some turn) (Some ps) is = at (turn.part == p)
  where
    at : (b : Bool) → HasShownBytes (if b then sight_of_state g p turn.first ps else Unseen)
    at true = sight_of_range g p turn.first ps is
    at false = tt

sight_range : (g : Machine) (p : ℕ) → IsMachineInRange g → HasShownBytes (sight g p)
unfolding sight
sight_range g p is = sight_in_range g p (turn_of g) (slice_get g.parts p) is

-- the local tick
abbrev IsTickInRange : Option LocalTick → Type 0
IsTickInRange None = Unit {0}
IsTickInRange (Some tick) = IsLocalInRange tick

local_of_range : (g : Machine) (p : ℕ) (first : Bool) (ps : PartitionState) → IsInRange g → slice_get g.parts p ≡ Some ps → IsLocalInRange (local_of g p first ps)
unfolding local_of
local_of_range g p first ps is there =
    local_range (view_of g.system p) ps (copies g p) g.ticks g.time first (sight_of_state g p first ps) (its_view g p ps is there) (copies_range g p is.numbers) (sight_of_range g p first ps is.numbers)
    (is.numbers.parts p ps there)

taken_range : (g : Machine) (p : ℕ) (first : Bool) (o : Option PartitionState) → slice_get g.parts p ≡ o → IsInRange g → IsTickInRange (taken_by g p first o)
taken_range g p first None there is = tt
taken_range g p first (Some ps) there is = at (takes_turns ps.state)
  where
    at : (b : Bool) → IsTickInRange (if b then Some (local_of g p first ps) else None)
    at true = local_of_range g p first ps is there
    at false = tt

local_in_range : (g : Machine) (o : Option SlotTurn) → IsInRange g → IsTickInRange (local_in g o)
local_in_range g None is = tt
local_in_range g (Some turn) is = taken_range g turn.part turn.first (slice_get g.parts turn.part) refl is

act_of_range : (o : Option LocalTick) → IsTickInRange o → IsActInRange (act_of o)
act_of_range None is = tt
act_of_range (Some tick) is = is.act

-- traffic under the system's numbers, and under a partition's own
abbrev IsTrafficInRange : Traffic → Type 0
IsTrafficInRange Still = Unit {0}
IsTrafficInRange (Puts channel bytes) = AreBytes bytes
IsTrafficInRange (Takes channel) = Unit {0}
IsTrafficInRange (Signals source number) = Unit {0}

own_traffic : (act : Act) → IsActInRange act → HasMessageBytes (traffic_of act)
own_traffic emission.Nothing is = tt
own_traffic (emission.Trades traffic) is = is
own_traffic (emission.Upon id an_order) is = tt
own_traffic (emission.Plans change) is = tt
own_traffic (emission.UponAll event) is = tt

puts_range : (o : Option ℕ) (bytes : List ℕ) → AreBytes bytes → IsTrafficInRange (puts_at o bytes)
puts_range None bytes each = tt
puts_range (Some c) bytes each = each

takes_range : (o : Option ℕ) → IsTrafficInRange (takes_at o)
takes_range None = tt
takes_range (Some c) = tt

traffic_as_range : (conf : Conf) (p : ℕ) (traffic : OwnTraffic) → HasMessageBytes traffic → IsTrafficInRange (traffic_as conf p traffic)
traffic_as_range conf p OwnStill is = tt
traffic_as_range conf p (OwnPuts name bytes) is = puts_range (named conf p name) bytes is
traffic_as_range conf p (OwnTakes name) is = takes_range (named conf p name)
traffic_as_range conf p (OwnSignals number) is = tt

system_traffic_range : (conf : Conf) (o : Option SlotTurn) (traffic : OwnTraffic) → HasMessageBytes traffic → IsTrafficInRange (system_traffic conf o traffic)
system_traffic_range conf None traffic is = tt
system_traffic_range conf (Some turn) traffic is = traffic_as_range conf turn.part traffic is

own_puts_range : (o : Option ℕ) (bytes : List ℕ) → AreBytes bytes → HasMessageBytes (own_puts_at o bytes)
own_puts_range None bytes each = tt
own_puts_range (Some q) bytes each = each

own_takes_range : (o : Option ℕ) → HasMessageBytes (own_takes_at o)
own_takes_range None = tt
own_takes_range (Some q) = tt

own_signals_range : (b : Bool) (number : ℕ) → HasMessageBytes (own_signals_at b number)
own_signals_range false number = tt
own_signals_range true number = tt

heard_range : (conf : Conf) (p : ℕ) (traffic : Traffic) → IsTrafficInRange traffic → HasMessageBytes (heard_as conf p traffic)
heard_range conf p Still is = tt
heard_range conf p (Puts channel bytes) is = own_puts_range (name_of conf p channel) bytes is
heard_range conf p (Takes channel) is = own_takes_range (name_of conf p channel)
heard_range conf p (Signals source number) is = own_signals_range (is_number (linked conf source number) p) number

order_range : (act : Act) (p : ℕ) → IsActInRange act → IsOrder (order_upon act p)
order_range emission.Nothing p is = tt
order_range (emission.Trades traffic) p is = tt
order_range (emission.Upon id an_order) p is = at (id == p)
  where
    at : (b : Bool) → IsOrder (if b then Some an_order else None)
    at true = is
    at false = tt
order_range (emission.Plans change) p is = tt
order_range (emission.UponAll event) p is = tt

-- all that a tick did
record IsHappenedInRange (h : Happened) : Type 0 where
  local : IsTickInRange h.local
  act : IsActInRange h.act
  traffic : IsTrafficInRange h.traffic

happened_range : (g : Machine) → IsInRange g → IsHappenedInRange (happened g)
unfolding happened happened_by local
happened_range g is =
    let tick = local_in_range g (turn_of g) is in
    let its = act_of_range (local_in g (turn_of g)) tick in
    record {
      local = tick;
      act = its;
      traffic = system_traffic_range g.system.conf (turn_of g) (traffic_of (act_of (local_in g (turn_of g)))) (own_traffic (act_of (local_in g (turn_of g))) its);
    }

-- what a tick leaves of a partition
interrupted_range : (o : Option ℕ) (ps : PartitionState) → IsPartitionInRange ps → IsPartitionInRange (interrupted o ps)
unfolding raised
interrupted_range None ps has = has
interrupted_range (Some n) ps has = at (is_halted ps.state)
  where
    at : (b : Bool) → IsPartitionInRange (if b then ps else record ps { traps = raised n ps.traps })
    at true = has
    at false = same_range ps (record ps { traps = raised n ps.traps }) refl refl refl refl refl has

hearing_range : (view : PartitionView) (traffic : OwnTraffic) (ps : PartitionState) → IsPartitionInRange ps → IsPartitionInRange (hearing view traffic ps)
unfolding after_message
hearing_range view OwnStill ps has = has
hearing_range view (OwnPuts q bytes) ps has = interrupted_range (heard_from q view.part.ports ps.made view.channels) ps has
hearing_range view (OwnTakes q) ps has = has
hearing_range view (OwnSignals number) ps has = interrupted_range (Some (link_signal number)) ps has

obeyed_range : (view : PartitionView) (o : Option Order) (ps : PartitionState) → IsImageInRange view.image → IsOrder o → IsPartitionInRange ps → IsPartitionInRange (obeyed view o ps)
obeyed_range view None ps is small has = has
obeyed_range view (Some an_order) ps is small has = ordered_range view an_order ps is small has

event_range : (view : PartitionView) (e : WholeEvent) (ps : PartitionState) → IsImageInRange view.image → IsPartitionInRange ps → IsPartitionInRange (after_event view e ps)
event_range view NoEvent ps is has = has
event_range view (AllReset mode) ps is has = reset_range view mode 0 ps is (omega arith) has
event_range view AllHalted ps is has = has

rested_range : (worked : Bool) (time : ℕ) (ps : PartitionState) → IsPartitionInRange ps → IsPartitionInRange (rested_unless worked time ps)
unfolding rested
rested_range true time ps has = has
rested_range false time ps has = at (is_halted ps.state)
  where
    at : (b : Bool) → IsPartitionInRange (if b then ps else hardware_looked_at time ps)
    at true = has
    at false = looked_range time ps has

after_tick_range : (view : PartitionView) (time : ℕ) (worked : Bool) (traffic : OwnTraffic) (o : Option Order) (e : WholeEvent) (ps : PartitionState) → IsImageInRange view.image → IsOrder o → IsPartitionInRange ps
    → IsPartitionInRange (after_tick view time worked traffic o e ps)
unfolding after_tick
after_tick_range view time worked traffic o e ps is small has =
    rested_range worked time _ (event_range view e _ is (obeyed_range view o (hearing view traffic ps) is small (hearing_range view traffic ps has)))

turn_range : (b : Bool) (o : Option LocalTick) → IsTickInRange o → IsTickInRange (if_its_turn b o)
turn_range true o is = is
turn_range false o is = tt

worked_range : (o : Option LocalTick) (ps : PartitionState) → IsTickInRange o → IsPartitionInRange ps → IsPartitionInRange (worked_in o ps)
worked_range None ps is has = has
worked_range (Some tick) ps is has = is.after

part_range : (g : Machine) (h : Happened) (p : ℕ) (ps : PartitionState) → HasRanges g.system → IsHappenedInRange h → IsPartitionInRange ps → IsPartitionInRange (part_after g h p ps)
unfolding part_after tick_of
part_range g h p ps images is has =
    after_tick_range (view_of g.system p) g.time (is_some (if_its_turn (is_turn_of h.turn p) h.local)) (heard_as g.system.conf p h.traffic) (order_upon h.act p) h.event
    (worked_in (if_its_turn (is_turn_of h.turn p) h.local) ps) (image_of g.system p images) (order_range h.act p is.act)
    (worked_range (if_its_turn (is_turn_of h.turn p) h.local) ps (turn_range (is_turn_of h.turn p) h.local is.local) has)

-- what it leaves of a channel
one_more : (messages : List (List ℕ)) (bytes : List ℕ) → AreBytes bytes → AllByRecursion AreBytes messages → AllByRecursion AreBytes (messages ++ bytes ∷ [])
one_more [] bytes each all = (each, tt)
one_more (message ∷ messages) bytes each all = (all.0, one_more messages bytes each all.1)

put_range : (time : ℕ) (bytes : List ℕ) (content : Content) → AreBytes bytes → IsContentInRange content → IsContentInRange (put time bytes content)
unfolding put
put_range time bytes (Sampling sample) each is = each
put_range time bytes (Queuing messages) each is = one_more messages bytes each is

taken_first : (content : Content) → IsContentInRange content → IsContentInRange (first_taken content)
unfolding first_taken
taken_first (Sampling None) is = tt
taken_first (Sampling (Some sample)) is = is
taken_first (Queuing []) is = tt
taken_first (Queuing (message ∷ messages)) is = is.1

cleared_range : (content : Content) → IsContentInRange (cleared content)
unfolding cleared
cleared_range (Sampling sample) = tt
cleared_range (Queuing messages) = tt

traffic_range : (time : ℕ) (traffic : Traffic) (c : ℕ) (content : Content) → IsTrafficInRange traffic → IsContentInRange content → IsContentInRange (after_traffic time traffic c content)
traffic_range time Still c content is has = has
traffic_range time (Puts channel bytes) c content is has = at (channel == c)
  where
    at : (b : Bool) → IsContentInRange (if b then put time bytes content else content)
    at true = put_range time bytes content is has
    at false = has
traffic_range time (Takes channel) c content is has = at (channel == c)
  where
    at : (b : Bool) → IsContentInRange (if b then first_taken content else content)
    at true = taken_first content has
    at false = has
traffic_range time (Signals source number) c content is has = has

content_range : (e : WholeEvent) (content : Content) → IsContentInRange content → IsContentInRange (content_after e content)
content_range NoEvent content has = has
content_range (AllReset mode) content has = cleared_range content
content_range AllHalted content has = has

channel_range : (time : ℕ) (h : Happened) (c : ℕ) (content : Content) → IsHappenedInRange h → IsContentInRange content → IsContentInRange (channel_after time h c content)
unfolding channel_after
channel_range time h c content is has = content_range h.event (after_traffic time h.traffic c content) (traffic_range time h.traffic c content is.traffic has)

each_range : {X Y : Type 0} (P : X → Type 0) (Q : Y → Type 0) (f : ℕ → X → Y) (xs : List X) → ((k : ℕ) (x : X) → P x → Q (f k x)) → AllByRecursion P xs → AllByRecursion Q (each f xs)
each_range P Q f [] keeps all = tt
each_range P Q f (x ∷ xs) keeps all = (keeps 0 x all.0, each_range P Q (λ k. f (suc k)) xs (λ k y is. keeps (suc k) y is) all.1)

-- a tick
after_range : (g : Machine) → IsInRange g → IsMachineInRange (after g (happened g))
unfolding after
after_range g is = record {
  parts = λ p ps there. by p ps (slice_get g.parts p) refl there;
  channels = each_range IsContentInRange IsContentInRange (channel_after g.time (happened g)) g.channels (λ c content has. channel_range g.time (happened g) c content did has) is.numbers.channels;
}
  where
    did : IsHappenedInRange (happened g)
    did = happened_range g is

    by : (p : ℕ) (ps : PartitionState) (o : Option PartitionState) → slice_get g.parts p ≡ o → slice_get (each (part_after g (happened g)) g.parts) p ≡ Some ps → IsPartitionInRange ps
    by p ps None before there = absurd (let none = sym (get_each (part_after g (happened g)) g.parts p ∙ ap (on (part_after g (happened g) p)) before) ∙ there in cc)
    by p ps (Some qs) before there =
        let same : part_after g (happened g) p qs ≡ ps = same_Some _ ps (sym (get_each (part_after g (happened g)) g.parts p ∙ ap (on (part_after g (happened g) p)) before) ∙ there) in
        subst IsPartitionInRange same (part_range g (happened g) p qs is.images did (is.numbers.parts p qs before))

step_range : (g : Machine) → IsInRange g → IsMachineInRange (step g)
step_range g is = at g.halted refl
  where
    at : (b : Bool) → g.halted ≡ b → IsMachineInRange (step g)
    at true halts = subst IsMachineInRange (sym (step_halted g halts)) is.numbers
    at false runs = subst IsMachineInRange (sym (step_runs g runs)) (after_range g is)

stays_complete : (g h : Machine) → IsComplete g → IsAsMany g h → IsComplete h
stays_complete g h complete many = record {
  parts = many.parts ∙ complete.parts ∙ ap (λ (s : System). length s.conf.parts) (sym many.system);
  channels = many.channels ∙ complete.channels ∙ ap (λ (s : System). length s.conf.chans) (sym many.system);
}

pub keeps_ranges : KeepsNumbers → KeepsRanges
keeps_ranges same g is =
    let many = same g in
    record {
      fits = subst (λ (s : System). Fits (described s.conf)) (sym many.system) is.fits;
      complete = stays_complete g (step g) is.complete many;
      images = subst HasRanges (sym many.system) is.images;
      numbers = step_range g is;
    }

-- a boot
start_parts : (system : System) (n p : ℕ) (from : ℕ → ℕ) (ps : PartitionState) → HasRanges system → slice_get (table (λ k. booted_part system (from k)) n) p ≡ Some ps → IsPartitionInRange ps
start_parts system zero p from ps images there = absurd cc
start_parts system (suc n) zero from ps images there = subst IsPartitionInRange (same_Some _ ps there) (booted_range (view_of system (from 0)) (image_of system (from 0) images))
start_parts system (suc n) (suc p) from ps images there = start_parts system n p (λ k. from (suc k)) ps images there

empty_range : (of : ChanKind) → IsContentInRange (empty_of of)
empty_range (chan_kind.Sampling refresh) = tt
empty_range (chan_kind.Queuing most) = tt

start_channels : (shapes : List Shape) → AllByRecursion IsContentInRange (map empty shapes)
start_channels [] = tt
start_channels (shape ∷ shapes) = (empty_range shape.kind, start_channels shapes)

pub boots_in_range : BootsComplete → BootsInRange
unfolding start
boots_in_range complete system fits images = record {
  fits = fits;
  complete = complete system;
  images = images;
  numbers = record {
    parts = λ p ps there. start_parts system (length system.conf.parts) p (λ k. k) ps images there;
    channels = start_channels (shapes_of system.conf);
  };
}

run_range : KeepsNumbers → (count : ℕ) (g : Machine) → IsInRange g → IsInRange (run g count)
run_range same zero g is = is
run_range same (suc count) g is = run_range same count (step g) (keeps_ranges same g is)

pub runs_in_range : KeepsNumbers → BootsComplete → RunsInRange
runs_in_range same complete system count fits images = run_range same count (start system) (boots_in_range complete system fits images)

-- what a partition receives
unless_own_range : (b : Bool) (traffic : OwnTraffic) → HasMessageBytes traffic → HasMessageBytes (unless_own b traffic)
unless_own_range true traffic is = tt
unless_own_range false traffic is = is

pub cues_are_in_range : CuesAreInRange
unfolding cue cue_in
cues_are_in_range g p is =
    let did = happened_range g is in
    record {
      message = unless_own_range (is_some (tick_of (happened g) p)) (heard_as g.system.conf p (happened g).traffic) (heard_range g.system.conf p (happened g).traffic did.traffic);
      status = order_range (happened g).act p did.act;
      shown = sight_range g p is.numbers;
    }

pub scripts_are_in_range : KeepsNumbers → ScriptsAreInRange
scripts_are_in_range same g p zero is = tt
scripts_are_in_range same g p (suc count) is = at g.halted (scripts_are_in_range same (step g) p count (keeps_ranges same g is))
  where
    at : (b : Bool) → AllByRecursion HasNumbers (script (step g) p count) → AllByRecursion HasNumbers (script_unless b (cue g p) (script (step g) p count))
    at true later = tt
    at false later = (cues_are_in_range g p is, later)

pub booted_scripts_are_in_range : KeepsNumbers → BootsComplete → BootedScriptsAreInRange
booted_scripts_are_in_range same complete system p count fits images = scripts_are_in_range same (start system) p count (boots_in_range complete system fits images)
