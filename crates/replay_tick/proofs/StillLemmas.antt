-- One partition in isolation in ticks in which it receives nothing but whether the slot is its own, and in which it prints nothing: one of them, and many.
use Rattle.std.proofs.Common.{◌≡◌, ℕ, zero, suc, ◌+◌, ◌==◌, ◌<◌, ◌≤◌, ◌⊎◌, Bool, true, false, ◌&&◌, List, [], ◌∷◌, ◌++◌, Option, None, Some, refl, sym, ap, ◌∙◌, inl, inr, subst, arith}
use Rattle.std.proofs.lemmas.Bool.Decides.{nat_tests}
use Rattle.std.specs.Prelude.{if◌then◌else◌, map, replicate}
use Rattle.sparc_step.specs.Execution.{Turned}
use Rattle.sparc_step.specs.declared.outcome.Turn.{Turn}
use Rattle.sparc_step.specs.declared.outcome.Turn.TheVariants.{Went, Trap, Call}
use Rattle.virt_clocks.specs.Clocks.{is_due, looked_at, rearmed}
use Rattle.virt_clocks.specs.declared.timer.Timer.{Timer}
use Rattle.virt_traps.specs.Settled.{settled}
use Rattle.virt_traps.specs.Stepping.{stepped, then_settled}
use Rattle.virt_traps.specs.Virtual.{due}
use Rattle.xm_base.specs.Options.{on}
use Rattle.xm_base.specs.declared.partition.State.{State}
use Rattle.xm_base.specs.declared.partition.State.TheVariants.{Ready}
use Rattle.xm_ports.specs.Channels.{Content}
use Rattle.cue_scripts.specs.Entries.{bare_cue}
use Rattle.machine_model.specs.Alone.{Alone, alone_after, alone_from, alone_lines, alone_lines_of, alone_local, alone_said, alone_step, alone_step_lines, alone_step_said}
use Rattle.machine_model.specs.Cue.{Mine}
use Rattle.machine_model.specs.Facts.{AreFacts, IsItsOwn, KeepsFactsAlone}
use Rattle.machine_model.specs.Health.{Worked, quiet}
use Rattle.machine_model.specs.Lines.{local_said}
use Rattle.machine_model.specs.Lists.{each}
use Rattle.machine_model.specs.LocalTick.{LocalTick, clocked, delivered_or_executed, executed_in_tick, by_turn, goes_on, local_tick, seen_outside, turned_state, with_interrupts, worked, worked_if}
use Rattle.machine_model.specs.Machine.{act_of, after_tick, is_halt}
use Rattle.machine_model.specs.Observed.{Observation, asked_by, asks, if_call, unless_delivered}
use Rattle.machine_model.specs.Partition.{PartitionState, areas_of, execution_looked_at, execution_timer, hardware_looked_at, hardware_timer, is_halted, raised_if, rested, takes_turns}
use Rattle.machine_model.specs.Emission.{NoEvent, OwnStill, Unseen, WholeEvent}
use Rattle.machine_model.specs.Traffic.{after_own, copies_after}
use Rattle.machine_model.specs.View.{PartitionView}
use Rattle.machine_model.specs.Whole.{content_after, event_of, ticks_after}
use Rattle.span_model.specs.Meeting.{HasGone, NoDelivery, gone_on}
use Rattle.span_model.specs.Rest.{RestsTwice}
use Rattle.replay_model.specs.Taking.{is_same_event, takes_cue, takes_event, takes_sight}
use Rattle.replay_tick.specs.LoneSpan.{AreTaken}
use Rattle.replay_tick.specs.lemmas.LoneSpanTerms.{NoneDueAfter}

-- a partition with this state, a tick later
abbrev pub passed : PartitionState → Alone → Alone
passed s a = record a { state = s; ticks = a.ticks + 1; time = a.time + 1 }

-- a partition can take a plain cue, which leaves this of it; it prints and says nothing, and what it receives is its own
pub record IsStill (view : PartitionView) (own : Bool) (a b : Alone) : Type 0 where
  pub taken : takes_cue view a (bare_cue own) ≡ true
  pub step : alone_step view a (bare_cue own) ≡ b
  pub lines : alone_step_lines view a (bare_cue own) ≡ []
  pub said : alone_step_said view a (bare_cue own) ≡ []
  pub its : IsItsOwn (bare_cue own).mine view a (bare_cue own)

-- the same of this many
pub record AreStill (view : PartitionView) (own : Bool) (count : ℕ) (a b : Alone) : Type 0 where
  pub taken : AreTaken view a (replicate count (bare_cue own))
  pub step : alone_from view a (replicate count (bare_cue own)) ≡ b
  pub lines : alone_lines view a (replicate count (bare_cue own)) ≡ []
  pub said : alone_said view a (replicate count (bare_cue own)) ≡ []

none_more : (k : ℕ) → k < 0 → ⊥
none_more k below = omega (arith, below)

-- many are one after the other
pub stills : (view : PartitionView) (own : Bool) (count : ℕ) (f : ℕ → Alone) → ((k : ℕ) → k < count → IsStill view own (f k) (f (suc k))) → AreStill view own count (f 0) (f count)
stills view own zero f each = record { taken = tt; step = refl; lines = refl; said = refl }
stills view own (suc count) f each =
    let one : IsStill view own (f 0) (f 1) = each 0 (omega arith) in
    let later : AreStill view own count (f 1) (f (suc count)) = stills view own count (λ k. f (suc k)) (λ k below. each (suc k) (omega (arith, below))) in
    record {
      taken = (one.taken, subst (λ (s : Alone). AreTaken view s (replicate count (bare_cue own))) (sym one.step) later.taken);
      step = ap (λ (s : Alone). alone_from view s (replicate count (bare_cue own))) one.step ∙ later.step;
      lines = both (alone_step_lines view (f 0) (bare_cue own)) _ one.lines (ap (λ (s : Alone). alone_lines view s (replicate count (bare_cue own))) one.step ∙ later.lines);
      said = both (alone_step_said view (f 0) (bare_cue own)) _ one.said (ap (λ (s : Alone). alone_said view s (replicate count (bare_cue own))) one.step ∙ later.said);
    }
  where
    both : {X : Type 0} (xs ys : List X) → xs ≡ [] → ys ≡ [] → xs ++ ys ≡ []
    both xs ys none other = rw (none, other) refl

-- a plain cue has no event
no_event : (own : Bool) → (bare_cue own).whole ≡ NoEvent
unfolding bare_cue
no_event own = refl

-- the facts on it hold after them
pub still_facts : KeepsFactsAlone → (view : PartitionView) (own : Bool) (count n : ℕ) (f : ℕ → Alone) → ((k : ℕ) → k < count → IsStill view own (f k) (f (suc k)))
    → AreFacts view n false (f 0).state → AreFacts view (n + count) false (f count).state
still_facts law view own zero n f each is = subst (λ (m : ℕ). AreFacts view m false (f 0).state) (same n) is
  where
    same : (m : ℕ) → m ≡ m + 0
    same m = omega arith
still_facts law view own (suc count) n f each is =
    let one : IsStill view own (f 0) (f 1) = each 0 (omega arith) in
    subst (λ (m : ℕ). AreFacts view m false (f (suc count)).state) (sum n count)
    (still_facts law view own count (n + 1) (λ k. f (suc k)) (λ k below. each (suc k) (omega (arith, below)))
    (subst (λ (s : Alone). AreFacts view (n + 1) false s.state) one.step
    (subst (λ (e : WholeEvent). AreFacts view (ticks_after e n) (is_halt e) (alone_step view (f 0) (bare_cue own)).state) (no_event own) (law view (f 0) (bare_cue own) n one.its is))))
  where
    sum : (m k : ℕ) → (m + 1) + k ≡ m + suc k
    sum m k = omega arith

-- copies that nothing was put into or taken from
same_copy : (time q : ℕ) (copy : Option Content) → on (content_after NoEvent) (on (after_own time OwnStill q) copy) ≡ copy
same_copy time q None = refl
same_copy time q (Some content) = refl

each_same : (f : ℕ → Option Content → Option Content) (copies : List (Option Content)) → ((q : ℕ) (copy : Option Content) → on (content_after NoEvent) (f q copy) ≡ copy)
    → map (on (content_after NoEvent)) (each f copies) ≡ copies
each_same f [] same = refl
each_same f (copy ∷ later) same = both (same 0 copy) (each_same (λ q. f (suc q)) later (λ q. same (suc q)))
  where
    both : {X : Type 0} {x y : X} {xs ys : List X} → x ≡ y → xs ≡ ys → x ∷ xs ≡ y ∷ ys
    both e es = λ i. e i ∷ es i

same_copies : (time : ℕ) (copies : List (Option Content)) → map (on (content_after NoEvent)) (each (λ q copy. on (after_own time OwnStill q) copy) copies) ≡ copies
same_copies time copies = each_same (λ q copy. on (after_own time OwnStill q) copy) copies (same_copy time)

-- a partition that did no work in a tick rests, and prints and says nothing
rest_step : (view : PartitionView) (own : Bool) (a : Alone) → alone_local view a (bare_cue own) ≡ None → alone_step view a (bare_cue own) ≡ passed (rested a.time a.state) a
unfolding alone_step alone_after after_tick bare_cue copies_after
rest_step view own a none = ap (alone_after view a (bare_cue own)) none ∙ (λ i. record { state = rested a.time a.state; copies = same_copies a.time a.copies i; ticks = a.ticks + 1; time = a.time + 1 })

rest_lines : (view : PartitionView) (own : Bool) (a : Alone) → alone_local view a (bare_cue own) ≡ None → alone_step_lines view a (bare_cue own) ≡ []
unfolding alone_step_lines alone_lines_of bare_cue
rest_lines view own a none = ap (alone_lines_of view a (bare_cue own)) none

rest_said : (view : PartitionView) (own : Bool) (a : Alone) → alone_local view a (bare_cue own) ≡ None → alone_step_said view a (bare_cue own) ≡ []
unfolding alone_step_said
rest_said view own a none = ap local_said none

-- in the slot of another partition, or in a gap
away_local : (view : PartitionView) (a : Alone) → alone_local view a (bare_cue false) ≡ None
unfolding alone_local bare_cue
away_local view a = refl

away_taken : (view : PartitionView) (a : Alone) → takes_cue view a (bare_cue false) ≡ true
unfolding takes_cue bare_cue
away_taken view a = refl

away_its : (view : PartitionView) (a : Alone) → IsItsOwn (bare_cue false).mine view a (bare_cue false)
unfolding bare_cue
away_its view a = tt

pub away_still : (view : PartitionView) (a : Alone) → IsStill view false a (passed (rested a.time a.state) a)
away_still view a = record {
  taken = away_taken view a;
  step = rest_step view false a (away_local view a);
  lines = rest_lines view false a (away_local view a);
  said = rest_said view false a (away_local view a);
  its = away_its view a;
}

-- in a slot of its own, where it takes no turns
resting_local : (view : PartitionView) (a : Alone) → takes_turns a.state.state ≡ false → alone_local view a (bare_cue true) ≡ None
unfolding alone_local bare_cue
resting_local view a rests = ap (λ b. if b then Some (local_tick view a.state a.copies a.ticks a.time false Unseen) else None) rests

resting_taken : (view : PartitionView) (a : Alone) → takes_turns a.state.state ≡ false → takes_cue view a (bare_cue true) ≡ true
unfolding takes_cue alone_local bare_cue
resting_taken view a rests =
    ap (λ b. (takes_sight view (if b then asks view a.state a.time false else None) Unseen && takes_event (Mine false) (if b then Some (local_tick view a.state a.copies a.ticks a.time false Unseen) else None) NoEvent)) rests

own_its : (view : PartitionView) (a : Alone) → event_of (act_of (alone_local view a (bare_cue true))) ≡ NoEvent → IsItsOwn (bare_cue true).mine view a (bare_cue true)
unfolding bare_cue
own_its view a none = (refl, sym none)

pub resting_still : (view : PartitionView) (a : Alone) → takes_turns a.state.state ≡ false → IsStill view true a (passed (rested a.time a.state) a)
resting_still view a rests = record {
  taken = resting_taken view a rests;
  step = rest_step view true a (resting_local view a rests);
  lines = rest_lines view true a (resting_local view a rests);
  said = rest_said view true a (resting_local view a rests);
  its = own_its view a (ap (λ (t : Option LocalTick). event_of (act_of t)) (resting_local view a rests));
}

-- a partition that rests keeps its state, by which it takes turns or does not
rest_state : (time : ℕ) (ps : PartitionState) → (rested time ps).state ≡ ps.state
unfolding rested hardware_looked_at
rest_state time ps = by (is_halted ps.state)
  where
    by : (b : Bool) → (if b then ps else hardware_looked_at time ps).state ≡ ps.state
    by true = refl
    by false = refl

-- a partition that rested in this many ticks
abbrev pub rested_to : ℕ → ℕ → PartitionState → PartitionState
rested_to zero time ps = ps
rested_to (suc k) time ps = rested (time + k) ps

pub rested_more : RestsTwice → (k time : ℕ) (ps : PartitionState) → rested (time + k) (rested_to k time ps) ≡ rested_to (suc k) time ps
rested_more twice zero time ps = refl
rested_more twice (suc k) time ps = twice (time + k) (time + suc k) ps (omega arith)

pub rested_turns : (k time : ℕ) (ps : PartitionState) → takes_turns (rested_to k time ps).state ≡ takes_turns ps.state
rested_turns zero time ps = refl
rested_turns (suc k) time ps = ap takes_turns (rest_state (time + k) ps)

-- work that reports nothing and reaches beyond no partition
turn_local : (view : PartitionView) (a : Alone) (s : PartitionState) → takes_turns a.state.state ≡ true → worked view a.copies a.time false Unseen a.state ≡ quiet s
    → alone_local view a (bare_cue true) ≡ Some (seen_outside view a.ticks (quiet s))
unfolding alone_local local_tick bare_cue
turn_local view a s turns work =
    ap (λ b. if b then Some (local_tick view a.state a.copies a.ticks a.time false Unseen) else None) turns
    ∙ ap (λ (w : Worked). Some (seen_outside view a.ticks w)) work

turn_step : (view : PartitionView) (a : Alone) (s : PartitionState) → alone_local view a (bare_cue true) ≡ Some (seen_outside view a.ticks (quiet s)) → alone_step view a (bare_cue true) ≡ passed s a
unfolding alone_step alone_after after_tick bare_cue copies_after
turn_step view a s local = ap (alone_after view a (bare_cue true)) local ∙ (λ i. record { state = s; copies = same_copies a.time a.copies i; ticks = a.ticks + 1; time = a.time + 1 })

turn_lines : (view : PartitionView) (a : Alone) (s : PartitionState) → alone_local view a (bare_cue true) ≡ Some (seen_outside view a.ticks (quiet s)) → alone_step_lines view a (bare_cue true) ≡ []
unfolding alone_step_lines alone_lines_of bare_cue
turn_lines view a s local = ap (alone_lines_of view a (bare_cue true)) local

turn_said : (view : PartitionView) (a : Alone) (s : PartitionState) → alone_local view a (bare_cue true) ≡ Some (seen_outside view a.ticks (quiet s)) → alone_step_said view a (bare_cue true) ≡ []
unfolding alone_step_said
turn_said view a s local = ap local_said local

turn_taken : (view : PartitionView) (a : Alone) (s : PartitionState) → takes_turns a.state.state ≡ true → asks view a.state a.time false ≡ None
    → alone_local view a (bare_cue true) ≡ Some (seen_outside view a.ticks (quiet s)) → takes_cue view a (bare_cue true) ≡ true
unfolding takes_cue bare_cue
turn_taken view a s turns none local =
    ap (λ (asked : Option Observation). (takes_sight view asked Unseen && takes_event (Mine false) (alone_local view a (bare_cue true)) NoEvent))
    (ap (λ b. if b then asks view a.state a.time false else None) turns ∙ none)
    ∙ ap (λ (t : Option LocalTick). is_same_event (event_of (act_of t)) NoEvent) local

turn_still : (view : PartitionView) (a : Alone) (s : PartitionState) → takes_turns a.state.state ≡ true → asks view a.state a.time false ≡ None
    → worked view a.copies a.time false Unseen a.state ≡ quiet s → IsStill view true a (passed s a)
turn_still view a s turns none work =
    let local : alone_local view a (bare_cue true) ≡ Some (seen_outside view a.ticks (quiet s)) = turn_local view a s turns work in
    record {
      taken = turn_taken view a s turns none local;
      step = turn_step view a s local;
      lines = turn_lines view a s local;
      said = turn_said view a s local;
      its = own_its view a (ap (λ (t : Option LocalTick). event_of (act_of t)) local);
    }

-- a timer that is not due stays as it is
kept_timer : (clock : ℕ) (timer : Option Timer) → is_due clock timer ≡ false → looked_at clock timer ≡ timer
unfolding looked_at
kept_timer clock None is = refl
kept_timer clock (Some timer) is = ap (λ b. if b then rearmed clock timer else Some timer) is

-- where none is due the partition meets nothing
pub meets_nothing : (time : ℕ) (ps : PartitionState) → is_due time ps.clocks.hardware_timer ≡ false → is_due ps.clocks.execution ps.clocks.execution_timer ≡ false
    → with_interrupts time false ps ≡ ps
unfolding with_interrupts hardware_looked_at execution_looked_at
meets_nothing time ps hardware execution = λ i. record ps {
  traps = raised_if (execution i) execution_timer (raised_if (hardware i) hardware_timer ps.traps);
  clocks = record ps.clocks {
    hardware_timer = kept_timer time ps.clocks.hardware_timer hardware i;
    execution_timer = kept_timer ps.clocks.execution ps.clocks.execution_timer execution i;
  };
}

-- an idle partition that nothing wakes
idle_work : (view : PartitionView) (a : Alone) → with_interrupts a.time false a.state ≡ a.state → goes_on a.state.state false (due a.state.traps) ≡ false
    → worked view a.copies a.time false Unseen a.state ≡ quiet a.state
unfolding worked
idle_work view a met stays =
    ap (λ (ready : PartitionState). worked_if (goes_on ready.state false (due ready.traps)) view a.copies a.time Unseen ready) met
    ∙ ap (λ goes. worked_if goes view a.copies a.time Unseen a.state) stays

idle_call : (view : PartitionView) (a : Alone) → with_interrupts a.time false a.state ≡ a.state → goes_on a.state.state false (due a.state.traps) ≡ false
    → asks view a.state a.time false ≡ None
unfolding asks
idle_call view a met stays =
    ap (λ (ready : PartitionState). if goes_on ready.state false (due ready.traps) then unless_delivered (due ready.traps) ready.traps.enabled view ready else None) met
    ∙ ap (λ goes. if goes then unless_delivered (due a.state.traps) a.state.traps.enabled view a.state else None) stays

pub idle_still : (view : PartitionView) (a : Alone) → takes_turns a.state.state ≡ true → with_interrupts a.time false a.state ≡ a.state → goes_on a.state.state false (due a.state.traps) ≡ false
    → IsStill view true a (passed a.state a)
idle_still view a turns met stays = turn_still view a a.state turns (idle_call view a met stays) (idle_work view a met stays)

-- a ready partition that meets nothing executes an instruction, where no interrupt can be delivered
ready_again : (ps : PartitionState) → ps.state ≡ Ready → record ps { state = Ready } ≡ ps
ready_again ps is = λ i. record ps { state = sym is i }

undelivered_work : (waiting : Option ℕ) (enabled : Bool) (view : PartitionView) (contents : List (Option Content)) (time : ℕ) (ps : PartitionState) → (waiting ≡ None) ⊎ (enabled ≡ false)
    → delivered_or_executed waiting enabled view contents time Unseen ps ≡ executed_in_tick view contents time Unseen ps
undelivered_work None enabled view contents time ps none = refl
undelivered_work (Some n) true view contents time ps (inl none) = absurd cc
undelivered_work (Some n) true view contents time ps (inr none) = absurd cc
undelivered_work (Some n) false view contents time ps none = refl

undelivered_call : (waiting : Option ℕ) (enabled : Bool) (view : PartitionView) (ps : PartitionState) → (waiting ≡ None) ⊎ (enabled ≡ false) → unless_delivered waiting enabled view ps ≡ asked_by view ps
undelivered_call None enabled view ps none = refl
undelivered_call (Some n) true view ps (inl none) = absurd cc
undelivered_call (Some n) true view ps (inr none) = absurd cc
undelivered_call (Some n) false view ps none = refl

pub ready_work : (view : PartitionView) (contents : List (Option Content)) (time : ℕ) (ps : PartitionState) → with_interrupts time false ps ≡ ps → ps.state ≡ Ready → NoDelivery ps.traps
    → worked view contents time false Unseen ps ≡ executed_in_tick view contents time Unseen ps
unfolding worked
ready_work view contents time ps met is none =
    ap (λ (ready : PartitionState). worked_if (goes_on ready.state false (due ready.traps)) view contents time Unseen ready) met
    ∙ ap (λ (state : State). worked_if (goes_on state false (due ps.traps)) view contents time Unseen ps) is
    ∙ ap (λ (ready : PartitionState). delivered_or_executed (due ps.traps) ps.traps.enabled view contents time Unseen ready) (ready_again ps is)
    ∙ undelivered_work (due ps.traps) ps.traps.enabled view contents time ps none

pub ready_call : (view : PartitionView) (time : ℕ) (ps : PartitionState) → with_interrupts time false ps ≡ ps → ps.state ≡ Ready → NoDelivery ps.traps → asks view ps time false ≡ asked_by view ps
unfolding asks
ready_call view time ps met is none =
    ap (λ (ready : PartitionState). if goes_on ready.state false (due ready.traps) then unless_delivered (due ready.traps) ready.traps.enabled view ready else None) met
    ∙ ap (λ (state : State). if goes_on state false (due ps.traps) then unless_delivered (due ps.traps) ps.traps.enabled view ps else None) is
    ∙ undelivered_call (due ps.traps) ps.traps.enabled view ps none

-- an instruction that goes
went_work : (view : PartitionView) (contents : List (Option Content)) (time : ℕ) (ps : PartitionState) → (settled (areas_of view) ps.core ps.memory).turn ≡ Went
    → executed_in_tick view contents time Unseen ps ≡ quiet (clocked (turned_state (settled (areas_of view) ps.core ps.memory) ps))
unfolding executed_in_tick
went_work view contents time ps went =
    ap (λ (turn : Turn). by_turn turn view contents time Unseen ps (turned_state (settled (areas_of view) ps.core ps.memory) ps)) went

went_call : (view : PartitionView) (ps : PartitionState) → (settled (areas_of view) ps.core ps.memory).turn ≡ Went → asked_by view ps ≡ None
unfolding asked_by
went_call view ps went = ap (λ (turn : Turn). if_call turn view (settled (areas_of view) ps.core ps.memory).core) went

-- a step that went comes after steps that went
pub went_before : (turn : Turn) (t : Turned) (k : ℕ) (view : PartitionView) (ps : PartitionState) → (stepped k (areas_of view) ps.core ps.memory).turn ≡ turn → HasGone (suc k) view ps → HasGone k view ps
went_before Went t k view ps is went = is
went_before (Trap type) t k view ps is went =
    absurd (let e : (stepped (suc k) (areas_of view) ps.core ps.memory).turn ≡ Trap type = ap (λ (u : Turn). (then_settled u (areas_of view) (stepped k (areas_of view) ps.core ps.memory)).turn) is ∙ is in
    let no : Trap type ≡ Went = sym e ∙ went in cc)
went_before Call t k view ps is went =
    absurd (let e : (stepped (suc k) (areas_of view) ps.core ps.memory).turn ≡ Call = ap (λ (u : Turn). (then_settled u (areas_of view) (stepped k (areas_of view) ps.core ps.memory)).turn) is ∙ is in
    let no : Call ≡ Went = sym e ∙ went in cc)

-- so all before it did
pub went_all : (count k : ℕ) (view : PartitionView) (ps : PartitionState) → k ≤ count → HasGone count view ps → HasGone k view ps
went_all zero k view ps within went = subst (λ n. HasGone n view ps) (none k within) went
  where
    none : (n : ℕ) → n ≤ 0 → 0 ≡ n
    none n less = omega (arith, less)
went_all (suc count) k view ps within went = at (k == suc count) refl (went_all count k view ps)
  where
    at : (b : Bool) → (k == suc count) ≡ b → (k ≤ count → HasGone count view ps → HasGone k view ps) → HasGone k view ps
    at true same more =
        let whole : suc count ≡ k = grind (arith, nat_tests, same) in
        subst (λ n. HasGone n view ps) whole went
    at false other more =
        more (grind (arith, nat_tests, other, within)) (went_before _ (stepped count (areas_of view) ps.core ps.memory) count view ps refl went)

-- the next step, where it goes
next_step : (k : ℕ) (view : PartitionView) (ps : PartitionState) → HasGone k view ps
    → stepped (suc k) (areas_of view) ps.core ps.memory ≡ settled (areas_of view) (stepped k (areas_of view) ps.core ps.memory).core (stepped k (areas_of view) ps.core ps.memory).memory
next_step k view ps went = ap (λ (turn : Turn). then_settled turn (areas_of view) (stepped k (areas_of view) ps.core ps.memory)) went

-- a partition that went so far, and one instruction more
gone_more : (k : ℕ) (view : PartitionView) (ps : PartitionState) → HasGone k view ps
    → clocked (turned_state (settled (areas_of view) (gone_on k (areas_of view) ps).core (gone_on k (areas_of view) ps).memory) (gone_on k (areas_of view) ps)) ≡ gone_on (suc k) (areas_of view) ps
unfolding clocked
gone_more k view ps went =
    (λ i. record ps { core = (sym (next_step k view ps went) i).core; memory = (sym (next_step k view ps went) i).memory; clocks = record ps.clocks { execution = sum ps.clocks.execution k i } })
  where
    sum : (n j : ℕ) → (n + j) + 1 ≡ n + suc j
    sum n j = omega arith

-- what it meets on its way
pub going_meets : (time k : ℕ) (view : PartitionView) (ps : PartitionState) → NoneDueAfter time k true ps.clocks
    → with_interrupts (time + k) false (gone_on k (areas_of view) ps) ≡ gone_on k (areas_of view) ps
going_meets time k view ps none = meets_nothing (time + k) (gone_on k (areas_of view) ps) none.hardware none.execution

pub going_still : (view : PartitionView) (a : Alone) (ps : PartitionState) (k time : ℕ) → a.state ≡ gone_on k (areas_of view) ps → a.time ≡ time + k → ps.state ≡ Ready → NoDelivery ps.traps
    → NoneDueAfter time k true ps.clocks → HasGone (suc k) view ps → IsStill view true a (passed (gone_on (suc k) (areas_of view) ps) a)
going_still view a ps k time state_is time_is ready none timers went =
    let x : PartitionState = gone_on k (areas_of view) ps in
    let before : HasGone k view ps = went_before _ (stepped k (areas_of view) ps.core ps.memory) k view ps refl went in
    let met : with_interrupts a.time false a.state ≡ a.state =
    ap (λ t. with_interrupts t false a.state) time_is ∙ ap (λ (s : PartitionState). with_interrupts (time + k) false s) state_is ∙ going_meets time k view ps timers ∙ sym state_is in
    let is_ready : a.state.state ≡ Ready = ap (λ (s : PartitionState). s.state) state_is ∙ ready in
    let calm : NoDelivery a.state.traps = subst (λ (s : PartitionState). NoDelivery s.traps) (sym state_is) none in
    let goes : (settled (areas_of view) a.state.core a.state.memory).turn ≡ Went =
    ap (λ (s : PartitionState). (settled (areas_of view) s.core s.memory).turn) state_is ∙ sym (ap (λ (t : Turned). t.turn) (next_step k view ps before)) ∙ went in
    turn_still view a (gone_on (suc k) (areas_of view) ps) (ap takes_turns is_ready)
    (ready_call view a.time a.state met is_ready calm ∙ went_call view a.state goes)
    (ready_work view a.copies a.time a.state met is_ready calm ∙ went_work view a.copies a.time a.state goes
    ∙ ap (λ (s : PartitionState). quiet (clocked (turned_state (settled (areas_of view) s.core s.memory) s))) state_is ∙ ap quiet (gone_more k view ps before))
