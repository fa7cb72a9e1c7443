-- What a partition receives in a tick is as its channels and its calls allow.
use Rattle.std.proofs.Common.{◌≡◌, ℕ, ◌<◌, Bool, true, false, List, length, get_or, Option, None, Some, refl, sym, ap, ◌∙◌, subst, arith}
use Rattle.std.specs.Prelude.{slice_get, slice_index_or, IsSome, ◌==◌, ◌||◌, not, nat_lt, if◌then◌else◌}
use Rattle.std.proofs.lemmas.Bool.Decides.{nat_tests}
use Rattle.std.proofs.lemmas.Option.{same_Some, slice_get-get_or}
use Rattle.sparc_step.specs.Registers.{Registers, register_at}
use Rattle.sparc_step.specs.declared.outcome.Turn.{Turn as Outcome}
use Rattle.sparc_step.specs.declared.outcome.Turn.TheVariants.{Went, Trap, Call}
use Rattle.virt_traps.specs.Settled.{settled}
use Rattle.virt_traps.specs.Virtual.{due}
use Rattle.xm_conf.specs.View.{counts_seen, is_system, sees}
use Rattle.xm_ports.specs.Channels.{Content, Shape, first_message}
use Rattle.xm_traces.specs.Ring.{entry_at}
use Rattle.machine_model.specs.Allowed.{AllowsTraffic, AnswersCalls, HearsWhatIsAllowed, IsAnswerTo, IsForEntry, TakesMore}
use Rattle.machine_model.specs.lemmas.EndLemmas.{its_channel_is, view_channel}
use Rattle.machine_model.specs.Facts.{IsComplete}
use Rattle.machine_model.specs.Laws.{HasLength}
use Rattle.machine_model.specs.Lists.{is_number}
use Rattle.machine_model.specs.LocalTick.{goes_on, with_interrupts}
use Rattle.machine_model.specs.Machine.{Machine, answer_to, booted_part, copies, happened, shown_entry, shown_of}
use Rattle.machine_model.specs.Observed.{CurrentPlan, HealthCounts, HealthEntryOf, Observation, PartitionStatus, PlanStatus, Question, SystemStatus, TraceCounts, TraceEntryOf, about_other, about_system, asked_by, asks, if_call, observed_by, observing, unless_delivered}
use Rattle.machine_model.specs.Partition.{PartitionState, areas_of}
use Rattle.machine_model.specs.Structures.{counts_bytes, health_bytes, partition_status, trace_bytes}
use Rattle.machine_model.specs.Emission.{NotKept, Sight, Unseen, Words}
use Rattle.machine_model.specs.Traffic.{Puts, Signals, Still, Takes, Traffic, content_if, heard_as, own_puts_at, own_signals_at, own_takes_at}
use Rattle.machine_model.specs.View.{PartitionView, PortChannel, linked, name_of, view_of}
use Rattle.machine_model.specs.lemmas.NameLemmas.{name_is, name_named}
use Rattle.machine_model.proofs.ObservingLemmas.{asks_by_flag, asks_other, by_number, shows_its_size}
use Rattle.machine_model.proofs.ShapeFactLemmas.{FitsChannels, copy_there, tick_traffic}
use Rattle.machine_model.proofs.WorkTickLemmas.{have_loads}

-- what a channel holds, of a partition's copy of it
channel_holds : (g : Machine) (p q c : ℕ) (content : Content) → name_of g.system.conf p c ≡ Some q → slice_index_or (copies g p) q None ≡ Some content → slice_get g.channels c ≡ Some content
channel_holds g p q c content is held = sym (ap (content_if g.channels) (name_named g.system.conf p q c is)) ∙ copy_there g p q content held

-- a message that is put, by a partition's name for the channel
put_allowed : (g : Machine) (p c q : ℕ) (bytes : List ℕ) → FitsChannels g.system.conf g.channels (Puts c bytes) → name_of g.system.conf p c ≡ Some q
    → (channel : PortChannel) (content : Content) → slice_index_or (view_of g.system p).channels q None ≡ Some channel → slice_index_or (copies g p) q None ≡ Some content
    → TakesMore channel.shape.kind content
unfolding FitsChannels
put_allowed g p c q bytes fits is channel content channel_there held =
    let its = its_channel_is g.system.conf p q channel (view_channel g.system p q channel channel_there) in
    let same : its.number ≡ c = same_Some its.number c (sym its.found ∙ name_is g.system.conf p c q is) in
    let more = (fits its.chan content (ap (slice_get g.system.conf.chans) (sym same) ∙ its.there) (channel_holds g p q c content is held)).1 in
    subst (λ (shape : Shape). TakesMore shape.kind content) its.shape_is more

-- a message that is taken
take_allowed : (g : Machine) (p c q : ℕ) → FitsChannels g.system.conf g.channels (Takes c) → name_of g.system.conf p c ≡ Some q
    → (content : Content) → slice_index_or (copies g p) q None ≡ Some content → IsSome (first_message content)
unfolding FitsChannels
take_allowed g p c q fits is content held = fits content (channel_holds g p q c content is held)

-- traffic of the system, as a partition hears it
heard_allowed : (g : Machine) (p : ℕ) (t : Traffic) → FitsChannels g.system.conf g.channels t → AllowsTraffic (view_of g.system p) (copies g p) (heard_as g.system.conf p t)
unfolding AllowsTraffic
heard_allowed g p Still fits = tt
heard_allowed g p (Puts c bytes) fits = by (name_of g.system.conf p c) refl
  where
    by : (o : Option ℕ) → name_of g.system.conf p c ≡ o → AllowsTraffic (view_of g.system p) (copies g p) (own_puts_at o bytes)
    by None is = tt
    by (Some q) is = put_allowed g p c q bytes fits is
heard_allowed g p (Takes c) fits = by (name_of g.system.conf p c) refl
  where
    by : (o : Option ℕ) → name_of g.system.conf p c ≡ o → AllowsTraffic (view_of g.system p) (copies g p) (own_takes_at o)
    by None is = tt
    by (Some q) is = take_allowed g p c q fits is
heard_allowed g p (Signals source number) fits = at (is_number (linked g.system.conf source number) p)
  where
    at : (b : Bool) → AllowsTraffic (view_of g.system p) (copies g p) (own_signals_at b number)
    at true = tt
    at false = tt

pub hears_what_is_allowed : HearsWhatIsAllowed
hears_what_is_allowed g p fits = heard_allowed g p (happened g).traffic (tick_traffic g fits)

-- the registers with which a partition makes its call
record IsMadeWith (view : PartitionView) (call : Observation) : Type 0 where
  core : Registers
  is : observed_by view core ≡ Some call

turn_with : (turn : Outcome) (view : PartitionView) (core : Registers) (call : Observation) → if_call turn view core ≡ Some call → IsMadeWith view call
turn_with Went view core call is = absurd cc
turn_with (Trap type) view core call is = absurd cc
turn_with Call view core call is = record { core = core; is = is }

asked_with : (view : PartitionView) (ps : PartitionState) (call : Observation) → asked_by view ps ≡ Some call → IsMadeWith view call
unfolding asked_by
asked_with view ps call is = turn_with (settled (areas_of view) ps.core ps.memory).turn view (settled (areas_of view) ps.core ps.memory).core call is

delivered_with : (o : Option ℕ) (enabled : Bool) (view : PartitionView) (ps : PartitionState) (call : Observation) → unless_delivered o enabled view ps ≡ Some call → IsMadeWith view call
delivered_with None enabled view ps call is = asked_with view ps call is
delivered_with (Some n) true view ps call is = absurd cc
delivered_with (Some n) false view ps call is = asked_with view ps call is

made_with : (view : PartitionView) (ps : PartitionState) (time : ℕ) (first : Bool) (call : Observation) → asks view ps time first ≡ Some call → IsMadeWith view call
unfolding asks
made_with view ps time first call is =
    let ready = with_interrupts time first ps in
    at (goes_on ready.state first (due ready.traps)) (delivered_with (due ready.traps) ready.traps.enabled view ready call) is
  where
    at : (b : Bool) {o : Option Observation} → (o ≡ Some call → IsMadeWith view call) → (if b then o else None) ≡ Some call → IsMadeWith view call
    at true made is = made is
    at false made is = absurd cc

-- the partition that a question is about is one that there is
IsAbout : PartitionView → Question → Type 0
IsAbout view (PartitionStatus id) = nat_lt id view.sees.parts ≡ true
IsAbout view SystemStatus = Unit {0}
IsAbout view CurrentPlan = Unit {0}
IsAbout view PlanStatus = Unit {0}
IsAbout view (TraceEntryOf id number) = nat_lt id view.sees.parts ≡ true
IsAbout view (TraceCounts id) = nat_lt id view.sees.parts ≡ true
IsAbout view (HealthEntryOf id number) = nat_lt id view.sees.parts ≡ true
IsAbout view (HealthCounts id) = nat_lt id view.sees.parts ≡ true

other_about : (view : PartitionView) (id : ℕ) (question : Question) (address size : ℕ) (call : Observation) → (nat_lt id view.sees.parts ≡ true → IsAbout view question)
    → about_other view id question address size ≡ Some call → IsAbout view call.question
other_about view id question address size call about is =
    let asks = asks_other view id question address size call is in
    subst (λ (o : Observation). IsAbout view o.question) asks.same (about asks.other.there)

system_about : (view : PartitionView) (question : Question) (address size : ℕ) (call : Observation) → IsAbout view question → about_system question address size ≡ Some call → IsAbout view call.question
system_about view question address size call about is =
    subst (λ (o : Observation). IsAbout view o.question) (same_Some (record { question = question; address = address; size = size }) call is) about

plan_about : (view : PartitionView) (b : Bool) (address : ℕ) (call : Observation) → (if b then None else about_system CurrentPlan address 4) ≡ Some call → IsAbout view call.question
unfolding IsAbout
plan_about view true address call is = absurd cc
plan_about view false address call is = system_about view CurrentPlan address 4 call tt is

observing_about : (view : PartitionView) (number a b c : ℕ) (call : Observation) → observing view number a b c ≡ Some call → IsAbout view call.question
unfolding IsAbout
observing_about view number a b c call =
    by_number number 8 _ _ (λ e. other_about view a (PartitionStatus a) b 20 call (λ there. there))
    (by_number number 11 _ _ (λ e. system_about view SystemStatus a 8 call tt)
    (by_number number 14 _ _ (λ e. plan_about view (a == 0 || not (nat_lt a view.sees.plans)) b call)
    (by_number number 15 _ _ (λ e. system_about view PlanStatus a 20 call tt)
    (by_number number 25 _ _ (λ e. other_about view a (TraceEntryOf a b) c 24 call (λ there. there))
    (by_number number 26 _ _ (λ e. other_about view a (TraceCounts a) b 8 call (λ there. there))
    (by_number number 28 _ _ (λ e. other_about view a (HealthEntryOf a b) c 20 call (λ there. there))
    (by_number number 29 _ _ (λ e. other_about view a (HealthCounts a) b 8 call (λ there. there)) (λ none. absurd cc))))))))

call_about : (view : PartitionView) (call : Observation) (made : IsMadeWith view call) → IsAbout view call.question
call_about view call made =
    observing_about view (register_at made.core 8) (register_at made.core 9) (register_at made.core 10) (register_at made.core 11) call
    (asks_by_flag view.part.system (observing view (register_at made.core 8) (register_at made.core 9) (register_at made.core 10) (register_at made.core 11)) call made.is).1

-- a partition that another one sees is one of the machine
seen_part : (parts plans : ℕ) (flag : Bool) (id : ℕ) → nat_lt id (counts_seen parts plans flag).parts ≡ true → id < parts
seen_part parts plans true id below = grind (arith, nat_tests)
seen_part parts plans false id below = absurd (let no : id < 0 = grind (arith, nat_tests) in omega (arith, no))

view_seen : (g : Machine) (p id : ℕ) → nat_lt id (view_of g.system p).sees.parts ≡ true → id < length g.system.conf.parts
unfolding sees view_of
view_seen g p id below = seen_part (length g.system.conf.parts) (length g.system.conf.plans) (is_system (slice_get g.system.conf.parts p)) id below

there_is : (g : Machine) (p id : ℕ) → IsComplete g → nat_lt id (view_of g.system p).sees.parts ≡ true → (ps : PartitionState) × (slice_get g.parts id ≡ Some ps)
there_is g p id complete below =
    let inside = view_seen g p id below in
    let counted = complete.parts in
    (get_or g.parts id (booted_part g.system id), slice_get-get_or g.parts id (booted_part g.system id) (omega (arith, inside, counted)))

-- something is shown, and that an entry is not kept only where one is asked for
IsShown : Question → Sight → Type 0
IsShown question Unseen = ⊥
IsShown question NotKept = IsForEntry question
IsShown question (Words bytes) = Unit {0}

entry_shown : {T : Type 0} (question : Question) (bytes : T → List ℕ) (o : Option T) → IsForEntry question → IsShown question (shown_entry bytes o)
unfolding IsShown
entry_shown question bytes None entry = entry
entry_shown question bytes (Some one) entry = tt

-- what is shown of a partition that there is
of_part : (g : Machine) (p id : ℕ) (question : Question) (show : PartitionState → Sight) → IsComplete g → nat_lt id (view_of g.system p).sees.parts ≡ true
    → ((ps : PartitionState) → IsShown question (show ps)) → IsShown question (shown_of (slice_get g.parts id) show)
of_part g p id question show complete below each =
    let there = there_is g p id complete below in
    subst (λ (o : Option PartitionState). IsShown question (shown_of o show)) (sym there.1) (each there.0)

question_shown : (g : Machine) (p : ℕ) (question : Question) → IsComplete g → IsAbout (view_of g.system p) question → IsShown question (answer_to g question)
unfolding IsAbout IsShown
question_shown g p (PartitionStatus id) complete about = of_part g p id (PartitionStatus id) (λ ps. Words (partition_status ps)) complete about (λ ps. tt)
question_shown g p SystemStatus complete about = tt
question_shown g p CurrentPlan complete about = tt
question_shown g p PlanStatus complete about = tt
question_shown g p (TraceEntryOf id number) complete about =
    of_part g p id (TraceEntryOf id number) (λ ps. shown_entry trace_bytes (entry_at number ps.traces)) complete about
    (λ ps. entry_shown (TraceEntryOf id number) trace_bytes (entry_at number ps.traces) tt)
question_shown g p (TraceCounts id) complete about = of_part g p id (TraceCounts id) (λ ps. Words (counts_bytes ps.traces)) complete about (λ ps. tt)
question_shown g p (HealthEntryOf id number) complete about =
    of_part g p id (HealthEntryOf id number) (λ ps. shown_entry health_bytes (entry_at number ps.health)) complete about
    (λ ps. entry_shown (HealthEntryOf id number) health_bytes (entry_at number ps.health) tt)
question_shown g p (HealthCounts id) complete about = of_part g p id (HealthCounts id) (λ ps. Words (counts_bytes ps.health)) complete about (λ ps. tt)

-- so it is an answer
is_answer : (call : Observation) (seen : Sight) → IsShown call.question seen → HasLength call.size seen → IsAnswerTo call seen
unfolding IsAnswerTo IsShown
is_answer call Unseen shown sized = shown
is_answer call NotKept shown sized = shown
is_answer call (Words bytes) shown sized = sized

pub answers_calls : AnswersCalls
answers_calls g p ps first call facts complete is =
    let view : PartitionView = view_of g.system p in
    let made = made_with view ps g.time first call is in
    is_answer call (answer_to g call.question) (question_shown g p call.question complete (call_about view call made))
    (shows_its_size g view made.core call (λ id. have_loads g id (slice_get g.parts id) refl facts) made.is)
