-- A partition's work is the same whatever its labels are.
use Rattle.std.proofs.Common.{◌≡◌, ℕ, ◌+◌, ◌++◌, Bool, true, false, List, [], ◌∷◌, Option, None, Some, Result, Ok, Err, refl, sym, ap, ◌∙◌}
use Rattle.std.specs.Prelude.{◌==◌, if◌then◌else◌, is_some, slice_get}
use Rattle.std.proofs.lemmas.Option.{same_Some}
use Rattle.guest_memory.specs.Loading.{memory_areas}
use Rattle.health_monitor.specs.Monitor.{action_in, effect_of, event_of_type, is_logged}
use Rattle.health_monitor.specs.declared.effects.Own.{Own}
use Rattle.health_monitor.specs.declared.effects.Own.TheVariants as own
use Rattle.sparc_step.specs.declared.outcome.Turn.{Turn as Outcome}
use Rattle.sparc_step.specs.declared.outcome.Turn.TheVariants.{Went, Trap, Call}
use Rattle.virt_traps.specs.Delivery.{Delivered, delivered}
use Rattle.virt_traps.specs.Settled.{settled}
use Rattle.virt_traps.specs.Virtual.{due}
use Rattle.virt_traps.specs.declared.windows.StackFault.{StackFault}
use Rattle.xm_base.specs.declared.partition.Mode.{Mode}
use Rattle.xm_base.specs.declared.partition.Mode.TheVariants.{Cold, Warm}
use Rattle.xm_base.specs.declared.partition.Order.{Order}
use Rattle.xm_base.specs.declared.partition.Order.TheVariants as order
use Rattle.xm_base.specs.declared.partition.State.TheVariants.{Ready}
use Rattle.xm_base.specs.Options.{on}
use Rattle.xm_conf.specs.declared.health.Event.{Event}
use Rattle.xm_ports.specs.Channels.{Content}
use Rattle.machine_model.specs.Alone.{Alone, alone_after, alone_from, alone_lines, alone_lines_of, alone_local, alone_local_in, alone_said, alone_start, alone_step, alone_step_lines, alone_step_said, alone_traffic}
use Rattle.machine_model.specs.Caller.{Acts, Caller, Meets, Served, Upshot}
use Rattle.machine_model.specs.CoreFile.{core_file, standing_bytes}
use Rattle.machine_model.specs.Cue.{Away, Cue, CueSlot, Mine, script}
use Rattle.machine_model.specs.Emission as emission
use Rattle.machine_model.specs.Emission.{Act, AllHalted, AllReset, NoEvent, OwnPuts, OwnSignals, OwnStill, OwnTakes, OwnTraffic, Sight, WholeEvent}
use Rattle.machine_model.specs.Facts.{RunsKeepNumbers}
use Rattle.machine_model.specs.Health.{Worked, after_emitting, answered_by, by_delivery, by_interrupt, done_to_all, done_to_itself, entered_emissions, entered_if, event_handled, interrupt_delivered, is_passed_over, passed_over_if, propagated, quiet, self_ordered, trap_delivered, undelivered}
use Rattle.machine_model.specs.Hypercalls.{served}
use Rattle.machine_model.specs.Laws.{AllTicks, EarlierScripts, RunsAlone, alone_part_at, core_file_of, part}
use Rattle.machine_model.specs.LocalTick.{LocalTick, bounded, by_act, by_turn, by_upshot, called, clocked, delivered_or_executed, executed_in_tick, goes_on, is_its, local_tick, seen_outside, turned_state, with_interrupts, worked, worked_if}
use Rattle.machine_model.specs.Lines.{local_said}
use Rattle.machine_model.specs.Machine.{Machine, after_tick, obeyed, rested_unless, run, worked_in}
use Rattle.machine_model.specs.Partition.{PartitionState, applies, areas_of, booted, carried_out, loaded_memory, memory_after, ordered, ordered_emissions, reset, takes_turns}
use Rattle.machine_model.specs.Traffic.{after_message, hearing}
use Rattle.machine_model.specs.View.{PartitionView, view_of}
use Rattle.machine_model.specs.Whole.{after_event}
use Rattle.work_laws.specs.Labels.{AreEqualBy, Labels, RestIgnoresLabels, RunsIgnoreLabels, TickIgnoresLabels, labelled}
use Rattle.work_laws.proofs.LabelCallLemmas.{labelled_caller, served_same}

-- orders
memory_same : (mode : Mode) (l : Labels) (view : PartitionView) (ps : PartitionState) → memory_after mode (labelled l view) ps.memory ≡ memory_after mode view ps.memory
unfolding loaded_memory areas_of memory_areas
memory_same Cold l view ps = refl
memory_same Warm l view ps = refl

reset_same : (mode : Mode) (status : ℕ) (l : Labels) (view : PartitionView) (ps : PartitionState) → reset (labelled l view) mode status ps ≡ reset view mode status ps
unfolding reset
reset_same mode status l view ps = ap (λ memory. record (reset view mode status ps) { memory = memory }) (memory_same mode l view ps)

carried_same : (an_order : Order) (l : Labels) (view : PartitionView) (ps : PartitionState) → carried_out (labelled l view) an_order ps ≡ carried_out view an_order ps
carried_same order.Halt l view ps = refl
carried_same order.Suspend l view ps = refl
carried_same order.Resume l view ps = refl
carried_same order.Shutdown l view ps = refl
carried_same (order.Reset mode status) l view ps = reset_same mode status l view ps

ordered_same : (an_order : Order) (l : Labels) (view : PartitionView) (ps : PartitionState) → ordered (labelled l view) an_order ps ≡ ordered view an_order ps
unfolding ordered
ordered_same an_order l view ps = ap (λ (after : PartitionState). if applies an_order ps.state then after else ps) (carried_same an_order l view ps)

-- health events
self_same : (an_order : Order) (l : Labels) (view : PartitionView) (ps : PartitionState) → self_ordered (labelled l view) an_order ps ≡ self_ordered view an_order ps
unfolding self_ordered
self_same an_order l view ps =
    ap (λ (after : PartitionState). record { after = after; emitted = ordered_emissions an_order ps; act = emission.Nothing }) (ordered_same an_order l view ps)

undelivered_same : (l : Labels) (view : PartitionView) (time : ℕ) (ps : PartitionState) → undelivered (labelled l view) time ps ≡ undelivered view time ps
unfolding undelivered
undelivered_same l view time ps =
    ap (λ (after : PartitionState). record (undelivered view time ps) { after = after }) (ordered_same order.Halt l view _)

delivery_same : (answer : Result (Unit {0}) StackFault) (l : Labels) (view : PartitionView) (time : ℕ) (d : Delivered) (ps : PartitionState)
    → by_delivery answer (labelled l view) time d ps ≡ by_delivery answer view time d ps
delivery_same (Ok made) l view time d ps = refl
delivery_same (Err fault) l view time d ps = undelivered_same l view time ps

trap_same : (l : Labels) (view : PartitionView) (time type : ℕ) (ps : PartitionState) → trap_delivered (labelled l view) time type ps ≡ trap_delivered view time type ps
unfolding trap_delivered areas_of memory_areas
trap_same l view time type ps = let d = delivered (areas_of view) ps.traps ps.core ps.memory type in delivery_same d.answer l view time d ps

interrupt_answer_same : (answer : Result (Unit {0}) StackFault) (l : Labels) (view : PartitionView) (time n : ℕ) (d : Delivered) (ps : PartitionState)
    → by_interrupt answer (labelled l view) time n d ps ≡ by_interrupt answer view time n d ps
interrupt_answer_same (Ok made) l view time n d ps = refl
interrupt_answer_same (Err fault) l view time n d ps = undelivered_same l view time ps

interrupt_same : (l : Labels) (view : PartitionView) (time n : ℕ) (ps : PartitionState) → interrupt_delivered (labelled l view) time n ps ≡ interrupt_delivered view time n ps
unfolding interrupt_delivered areas_of memory_areas
interrupt_same l view time n ps =
    let d = delivered (areas_of view) ps.traps ps.core ps.memory (0xE0 + n) in interrupt_answer_same d.answer l view time n d ps

propagated_same : (l : Labels) (view : PartitionView) (time : ℕ) (type : Option ℕ) (ps : PartitionState) → propagated (labelled l view) time type ps ≡ propagated view time type ps
propagated_same l view time None ps = refl
propagated_same l view time (Some type) ps = trap_same l view time type ps

itself_same : (what : Own) (l : Labels) (view : PartitionView) (time : ℕ) (type : Option ℕ) (ps : PartitionState) → done_to_itself (labelled l view) time type what ps ≡ done_to_itself view time type what ps
itself_same own.Nothing l view time type ps = refl
itself_same own.Shutdown l view time type ps = refl
itself_same (own.Reset mode) l view time type ps = self_same (order.Reset mode 0) l view ps
itself_same own.Suspend l view time type ps = self_same order.Suspend l view ps
itself_same own.Halt l view time type ps = self_same order.Halt l view ps
itself_same own.Propagate l view time type ps = propagated_same l view time type ps

event_same : (l : Labels) (view : PartitionView) (time : ℕ) (an_event : Event) (word : ℕ) (type : Option ℕ) (ps : PartitionState)
    → event_handled (labelled l view) time an_event word type ps ≡ event_handled view time an_event word type ps
unfolding event_handled answered_by
event_same l view time an_event word type ps =
    let effect = effect_of (action_in view.part.hm an_event) ps.traps.enabled in
    let logged = is_logged view.part.hm an_event in
    let passed = passed_over_if (is_passed_over an_event effect) (entered_if logged time an_event word effect.action ps) in
    ap (after_emitting (entered_emissions logged an_event word effect.action) (done_to_all effect.whole)) (itself_same effect.own l view time type passed)

-- a tick
act_same : (act : Act) (l : Labels) (view : PartitionView) (ps : PartitionState) → by_act act (labelled l view) ps ≡ by_act act view ps
act_same emission.Nothing l view ps = refl
act_same (emission.Trades traffic) l view ps = refl
act_same (emission.Upon id an_order) l view ps =
    ap (λ (w : Worked). if id == view.id then w else record (quiet ps) { act = emission.Upon id an_order }) (self_same an_order l view ps)
act_same (emission.Plans change) l view ps = refl
act_same (emission.UponAll event) l view ps = refl

upshot_same : (u : Upshot) (l : Labels) (view : PartitionView) (time : ℕ) (ps : PartitionState) → by_upshot u (labelled l view) time ps ≡ by_upshot u view time ps
upshot_same (Acts act) l view time ps = act_same act l view ps
upshot_same (Meets an_event word) l view time ps = event_same l view time an_event word None ps

-- what follows a call
after_call : PartitionView → ℕ → Served → Worked
after_call view time s = (let w = by_upshot s.upshot view time (clocked s.after) in record w { emitted = s.emitted ++ w.emitted })

called_same : (l : Labels) (caller : Caller) → called (labelled_caller l caller) ≡ called caller
unfolding called after_call
called_same l caller =
    ap (after_call (labelled l caller.view) caller.time) (served_same l caller)
    ∙ ap (λ (w : Worked). record w { emitted = (served caller).emitted ++ w.emitted }) (upshot_same (served caller).upshot l caller.view caller.time (clocked (served caller).after))

turn_same : (turn : Outcome) (l : Labels) (view : PartitionView) (contents : List (Option Content)) (time : ℕ) (sight : Sight) (before ps : PartitionState)
    → by_turn turn (labelled l view) contents time sight before ps ≡ by_turn turn view contents time sight before ps
turn_same Went l view contents time sight before ps = refl
turn_same (Trap type) l view contents time sight before ps = event_same l view time (event_of_type type) before.core.pc (Some type) (clocked ps)
turn_same Call l view contents time sight before ps = called_same l (record {
  view = view;
  state = ps;
  contents = contents;
  time = time;
  sight = sight;
  pc = before.core.pc;
  npc = before.core.npc;
})

executed_same : (l : Labels) (view : PartitionView) (contents : List (Option Content)) (time : ℕ) (sight : Sight) (ps : PartitionState)
    → executed_in_tick (labelled l view) contents time sight ps ≡ executed_in_tick view contents time sight ps
unfolding executed_in_tick areas_of memory_areas
executed_same l view contents time sight ps =
    let t = settled (areas_of view) ps.core ps.memory in turn_same t.turn l view contents time sight ps (turned_state t ps)

delivered_same : (o : Option ℕ) (enabled : Bool) (l : Labels) (view : PartitionView) (contents : List (Option Content)) (time : ℕ) (sight : Sight) (ps : PartitionState)
    → delivered_or_executed o enabled (labelled l view) contents time sight ps ≡ delivered_or_executed o enabled view contents time sight ps
delivered_same None enabled l view contents time sight ps = executed_same l view contents time sight ps
delivered_same (Some n) true l view contents time sight ps = interrupt_same l view time n (clocked ps)
delivered_same (Some n) false l view contents time sight ps = executed_same l view contents time sight ps

worked_if_same : (b : Bool) (l : Labels) (view : PartitionView) (contents : List (Option Content)) (time : ℕ) (sight : Sight) (ps : PartitionState)
    → worked_if b (labelled l view) contents time sight ps ≡ worked_if b view contents time sight ps
worked_if_same false l view contents time sight ps = refl
worked_if_same true l view contents time sight ps = delivered_same (due ps.traps) ps.traps.enabled l view contents time sight (record ps { state = Ready })

worked_same : (l : Labels) (view : PartitionView) (contents : List (Option Content)) (time : ℕ) (first : Bool) (sight : Sight) (ps : PartitionState)
    → worked (labelled l view) contents time first sight ps ≡ worked view contents time first sight ps
unfolding worked
worked_same l view contents time first sight ps =
    let ready = with_interrupts time first ps in worked_if_same (goes_on ready.state first (due ready.traps)) l view contents time sight ready

its_same : (traffic : OwnTraffic) (l : Labels) (view : PartitionView) → is_its (labelled l view) traffic ≡ is_its view traffic
its_same OwnStill l view = refl
its_same (OwnPuts name bytes) l view = refl
its_same (OwnTakes name) l view = refl
its_same (OwnSignals number) l view = refl

bounded_same : (act : Act) (l : Labels) (view : PartitionView) → bounded (labelled l view) act ≡ bounded view act
bounded_same emission.Nothing l view = refl
bounded_same (emission.Trades traffic) l view = ap (λ (b : Bool). if b then emission.Trades traffic else emission.Nothing) (its_same traffic l view)
bounded_same (emission.Upon id an_order) l view = refl
bounded_same (emission.Plans change) l view = refl
bounded_same (emission.UponAll event) l view = refl

outside_same : (w : Worked) (n : ℕ) (l : Labels) (view : PartitionView) → seen_outside (labelled l view) n w ≡ seen_outside view n w
outside_same w n l view = ap (λ (act : Act). record (seen_outside view n w) { act = act }) (bounded_same w.act l view)

local_same : (l : Labels) (view : PartitionView) (ps : PartitionState) (contents : List (Option Content)) (n time : ℕ) (first : Bool) (sight : Sight)
    → local_tick (labelled l view) ps contents n time first sight ≡ local_tick view ps contents n time first sight
unfolding local_tick
local_same l view ps contents n time first sight =
    ap (seen_outside (labelled l view) n) (worked_same l view contents time first sight ps) ∙ outside_same (worked view contents time first sight ps) n l view

local_in_same : (slot : CueSlot) (l : Labels) (view : PartitionView) (a : Alone) (seen : Sight) → alone_local_in slot (labelled l view) a seen ≡ alone_local_in slot view a seen
local_in_same Away l view a seen = refl
local_in_same (Mine first) l view a seen =
    ap (λ (tick : LocalTick). if takes_turns a.state.state then Some tick else None) (local_same l view a.state a.copies a.ticks a.time first seen)

own_tick_same : (l : Labels) (view : PartitionView) (a : Alone) (cue : Cue) → alone_local (labelled l view) a cue ≡ alone_local view a cue
unfolding alone_local
own_tick_same l view a cue = local_in_same cue.mine l view a cue.seen

-- what a tick leaves
hearing_same : (traffic : OwnTraffic) (l : Labels) (view : PartitionView) (ps : PartitionState) → hearing (labelled l view) traffic ps ≡ hearing view traffic ps
unfolding after_message
hearing_same OwnStill l view ps = refl
hearing_same (OwnPuts q bytes) l view ps = refl
hearing_same (OwnTakes q) l view ps = refl
hearing_same (OwnSignals number) l view ps = refl

obeyed_same : (o : Option Order) (l : Labels) (view : PartitionView) (ps : PartitionState) → obeyed (labelled l view) o ps ≡ obeyed view o ps
obeyed_same None l view ps = refl
obeyed_same (Some an_order) l view ps = ordered_same an_order l view ps

met_same : (e : WholeEvent) (l : Labels) (view : PartitionView) (ps : PartitionState) → after_event (labelled l view) e ps ≡ after_event view e ps
met_same NoEvent l view ps = refl
met_same (AllReset mode) l view ps = reset_same mode 0 l view ps
met_same AllHalted l view ps = refl

after_same : (l : Labels) (view : PartitionView) (time : ℕ) (b : Bool) (traffic : OwnTraffic) (o : Option Order) (e : WholeEvent) (ps : PartitionState)
    → after_tick (labelled l view) time b traffic o e ps ≡ after_tick view time b traffic o e ps
unfolding after_tick
after_same l view time b traffic o e ps =
    ap (rested_unless b time)
    (ap (λ heard. after_event (labelled l view) e (obeyed (labelled l view) o heard)) (hearing_same traffic l view ps)
    ∙ ap (after_event (labelled l view) e) (obeyed_same o l view (hearing view traffic ps)) ∙ met_same e l view (obeyed view o (hearing view traffic ps)))

alone_after_same : (l : Labels) (view : PartitionView) (a : Alone) (cue : Cue) (tick : Option LocalTick) → alone_after (labelled l view) a cue tick ≡ alone_after view a cue tick
unfolding alone_after
alone_after_same l view a cue tick =
    ap (λ (state : PartitionState). record (alone_after view a cue tick) { state = state })
    (after_same l view a.time (is_some tick) (alone_traffic tick cue.traffic) cue.order cue.whole (worked_in tick a.state))

step_same : (l : Labels) (view : PartitionView) (a : Alone) (cue : Cue) → alone_step (labelled l view) a cue ≡ alone_step view a cue
unfolding alone_step
step_same l view a cue =
    ap (alone_after (labelled l view) a cue) (own_tick_same l view a cue) ∙ alone_after_same l view a cue (alone_local view a cue)

lines_same : (l : Labels) (view : PartitionView) (a : Alone) (cue : Cue) → alone_step_lines (labelled l view) a cue ≡ alone_step_lines view a cue
unfolding alone_step_lines alone_lines_of
lines_same l view a cue = ap (alone_lines_of view a cue) (own_tick_same l view a cue)

said_same : (l : Labels) (view : PartitionView) (a : Alone) (cue : Cue) → alone_step_said (labelled l view) a cue ≡ alone_step_said view a cue
unfolding alone_step_said
said_same l view a cue = ap local_said (own_tick_same l view a cue)

pub tick_ignores_labels : TickIgnoresLabels
tick_ignores_labels l view a cue = record { state = step_same l view a cue; lines = lines_same l view a cue; said = said_same l view a cue }

start_same : (l : Labels) (view : PartitionView) → alone_start (labelled l view) ≡ alone_start view
unfolding alone_start booted loaded_memory areas_of memory_areas
start_same l view = refl

file_same : (l : Labels) (view : PartitionView) (ps : PartitionState) → core_file (labelled l view) ps ≡ core_file view ps
unfolding core_file standing_bytes areas_of memory_areas
file_same l view ps = refl

pub rest_ignores_labels : RestIgnoresLabels
rest_ignores_labels l view = record { start = start_same l view; core_file = file_same l view }

-- scripts
from_same : (l : Labels) (view : PartitionView) (a : Alone) (cues : List Cue) → alone_from (labelled l view) a cues ≡ alone_from view a cues
from_same l view a [] = refl
from_same l view a (cue ∷ cues) = ap (λ next. alone_from (labelled l view) next cues) (step_same l view a cue) ∙ from_same l view (alone_step view a cue) cues

all_lines_same : (l : Labels) (view : PartitionView) (a : Alone) (cues : List Cue) → alone_lines (labelled l view) a cues ≡ alone_lines view a cues
all_lines_same l view a [] = refl
all_lines_same l view a (cue ∷ cues) =
    ap (λ front. front ++ alone_lines (labelled l view) (alone_step (labelled l view) a cue) cues) (lines_same l view a cue)
    ∙ ap (λ next. alone_step_lines view a cue ++ alone_lines (labelled l view) next cues) (step_same l view a cue)
    ∙ ap (λ rest. alone_step_lines view a cue ++ rest) (all_lines_same l view (alone_step view a cue) cues)

all_said_same : (l : Labels) (view : PartitionView) (a : Alone) (cues : List Cue) → alone_said (labelled l view) a cues ≡ alone_said view a cues
all_said_same l view a [] = refl
all_said_same l view a (cue ∷ cues) =
    ap (λ front. front ++ alone_said (labelled l view) (alone_step (labelled l view) a cue) cues) (said_same l view a cue)
    ∙ ap (λ next. alone_step_said view a cue ++ alone_said (labelled l view) next cues) (step_same l view a cue)
    ∙ ap (λ rest. alone_step_said view a cue ++ rest) (all_said_same l view (alone_step view a cue) cues)

-- runs
part_there : (g : Machine) (p : ℕ) (ps : PartitionState) → slice_get g.parts p ≡ Some ps → alone_part_at g p ≡ Some (part g p ps)
unfolding alone_part_at
part_there g p ps there = ap (on (part g p)) there

state_at : (g : Machine) (p : ℕ) (a : Alone) (o : Option PartitionState) → on (part g p) o ≡ Some a → o ≡ Some a.state
unfolding part
state_at g p a None is = absurd cc
state_at g p a (Some ps) is = ap (λ b. Some b.state) (same_Some (part g p ps) a is)

pub state_there : (g : Machine) (p : ℕ) (a : Alone) → alone_part_at g p ≡ Some a → slice_get g.parts p ≡ Some a.state
unfolding alone_part_at
state_there g p a is = state_at g p a (slice_get g.parts p) is

file_there : (g : Machine) (p : ℕ) (a : Alone) → slice_get g.parts p ≡ Some a.state → core_file_of g p ≡ Some (core_file (view_of g.system p) a.state)
unfolding core_file_of
file_there g p a there = ap (on (core_file (view_of g.system p))) there

file_is : RunsKeepNumbers → (count : ℕ) (g : Machine) (p : ℕ) (a : Alone) → alone_part_at (run g count) p ≡ Some a → core_file_of (run g count) p ≡ Some (core_file (view_of g.system p) a.state)
file_is numbers count g p a is =
    file_there (run g count) p a (state_there (run g count) p a is) ∙ ap (λ system. Some (core_file (view_of system p) a.state)) (numbers g count).system

equal_at : RunsKeepNumbers → (l : Labels) (one other : Machine) (p count : ℕ) (first second : PartitionState) → part other p second ≡ part one p first
    → view_of other.system p ≡ labelled l (view_of one.system p) → script other p count ≡ script one p count → RunsAlone one p first count → RunsAlone other p second count → AreEqualBy one other p count
equal_at numbers l one other p count first second parts view same runs also =
    let v = view_of one.system p in
    let a = part one p first in
    let cues = script one p count in
    let begin : alone_part_at (run other count) p ≡ Some (alone_from v a cues) =
    also.state ∙ ap (λ w. Some (alone_from w (part other p second) (script other p count))) view ∙ ap (λ all. Some (alone_from (labelled l v) (part other p second) all)) same
    ∙ ap (λ b. Some (alone_from (labelled l v) b cues)) parts ∙ ap Some (from_same l v a cues) in
    record {
      state = begin ∙ sym runs.state;
      lines = also.lines ∙ ap (λ w. alone_lines w (part other p second) (script other p count)) view ∙ ap (alone_lines (labelled l v) (part other p second)) same
          ∙ ap (λ b. alone_lines (labelled l v) b cues) parts ∙ all_lines_same l v a cues ∙ sym runs.lines;
      said = also.said ∙ ap (λ w. alone_said w (part other p second) (script other p count)) view ∙ ap (alone_said (labelled l v) (part other p second)) same
          ∙ ap (λ b. alone_said (labelled l v) b cues) parts ∙ all_said_same l v a cues ∙ sym runs.said;
      core_file = file_is numbers count other p (alone_from v a cues) begin ∙ ap (λ w. Some (core_file w (alone_from v a cues).state)) view
          ∙ ap Some (file_same l v (alone_from v a cues).state) ∙ sym (file_is numbers count one p (alone_from v a cues) runs.state);
    }

pub runs_ignore_labels : AllTicks → EarlierScripts → RunsKeepNumbers → RunsIgnoreLabels
runs_ignore_labels all earlier numbers l one other p count fewer below alike =
    let there : slice_get other.parts p ≡ Some (part one p alike.state).state = state_there other p (part one p alike.state) (alike.part ∙ part_there one p alike.state alike.there) in
    let second = (part one p alike.state).state in
    equal_at numbers l one other p fewer alike.state second
    (same_Some _ _ (sym (part_there other p second there) ∙ alike.part ∙ part_there one p alike.state alike.there)) alike.view
    (earlier other one p p count fewer below alike.script) (all fewer one p alike.state alike.there) (all fewer other p second there)
