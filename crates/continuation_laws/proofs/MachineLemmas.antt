-- A tick of the machine is the same whatever input words its partitions were given.
use Rattle.std.proofs.Common.{◌≡◌, ℕ, suc, Bool, true, false, List, [], ◌∷◌, ◌++◌, Option, None, Some, refl, ap, ◌∙◌}
use Rattle.std.specs.Prelude.{◌==◌, if◌then◌else◌, is_some, slice_get, slice_index_or}
use Rattle.guest_bus.specs.Memory.{all_from, is_writable}
use Rattle.xm_base.specs.Options.{on}
use Rattle.machine_model.specs.CoreFile.{core_file}
use Rattle.machine_model.specs.Cue.{cue, cue_in}
use Rattle.machine_model.specs.Emission.{Sight, Unseen}
use Rattle.machine_model.specs.Laws.{core_file_of}
use Rattle.machine_model.specs.Lines.{end_lines, has_console, lines_of, lines_unless, local_said, order_lines, said_unless, step_console, step_lines, step_said}
use Rattle.machine_model.specs.Lists.{all_of, each}
use Rattle.machine_model.specs.LocalTick.{LocalTick, local_tick}
use Rattle.machine_model.specs.Machine.{Happened, Machine, SlotTurn, after, after_tick, answer_to, copies, happened, happened_by, local, local_in, local_of, next_clock, order_upon, part_after, sight, sight_for, sight_in, sight_of_state, step, step_unless, taken_by, tick_of, turn_of, with_room, worked_in}
use Rattle.machine_model.specs.Observed.{CurrentPlan, HealthCounts, HealthEntryOf, Observation, PartitionStatus, PlanStatus, Question, SystemStatus, TraceCounts, TraceEntryOf, asks}
use Rattle.machine_model.specs.Partition.{PartitionState, areas_of, takes_turns}
use Rattle.machine_model.specs.Traffic.{heard_as}
use Rattle.machine_model.specs.View.{PartitionView, view_of}
use Rattle.continuation_laws.specs.Given.{RestIgnoresGiven, TickIgnoresGiven, with_given}
use Rattle.continuation_laws.proofs.ViewCallLemmas.{given_view}
use Rattle.continuation_laws.proofs.ViewLemmas.{after_same, asks_same, file_same, local_same}

-- passes by functions that give the same
each_same : {X Y : Type 0} (f g : ℕ → X → Y) (xs : List X) → ((p : ℕ) (x : X) → f p x ≡ g p x) → each f xs ≡ each g xs
each_same f g [] same = refl
each_same f g (x ∷ xs) same = ap (λ y. y ∷ each (λ k. f (suc k)) xs) (same 0 x) ∙ ap (λ ys. g 0 x ∷ ys) (each_same (λ k. f (suc k)) (λ k. g (suc k)) xs (λ k. same (suc k)))

all_same : {X Y : Type 0} (f g : ℕ → X → List Y) (xs : List X) → ((p : ℕ) (x : X) → f p x ≡ g p x) → all_of f xs ≡ all_of g xs
all_same f g [] same = refl
all_same f g (x ∷ xs) same = ap (λ ys. ys ++ all_of (λ k. f (suc k)) xs) (same 0 x) ∙ ap (λ ys. g 0 x ++ ys) (all_same (λ k. f (suc k)) (λ k. g (suc k)) xs (λ k. same (suc k)))

-- what a partition has of its own is the same but for its words
pub view_same : (inputs : List (List ℕ)) (g : Machine) (p : ℕ) → view_of (with_given inputs g).system p ≡ given_view (slice_index_or inputs p []) (view_of g.system p)
unfolding view_of
view_same inputs g p = refl

-- whose slot it is
turn_same : (inputs : List (List ℕ)) (g : Machine) → turn_of (with_given inputs g) ≡ turn_of g
unfolding turn_of
turn_same inputs g = refl

copies_same : (inputs : List (List ℕ)) (g : Machine) (p : ℕ) → copies (with_given inputs g) p ≡ copies g p
unfolding copies
copies_same inputs g p = refl

-- what a partition is shown
answer_same : (question : Question) (inputs : List (List ℕ)) (g : Machine) → answer_to (with_given inputs g) question ≡ answer_to g question
answer_same (PartitionStatus id) inputs g = refl
answer_same SystemStatus inputs g = refl
answer_same CurrentPlan inputs g = refl
answer_same PlanStatus inputs g = refl
answer_same (TraceEntryOf id number) inputs g = refl
answer_same (TraceCounts id) inputs g = refl
answer_same (HealthEntryOf id number) inputs g = refl
answer_same (HealthCounts id) inputs g = refl

shown_same : (o : Option Observation) (inputs : List (List ℕ)) (g : Machine) (words : List ℕ) (view : PartitionView)
    → sight_for (with_given inputs g) (given_view words view) o ≡ sight_for g view o
unfolding areas_of
shown_same None inputs g words view = refl
shown_same (Some call) inputs g words view =
    ap (with_room (all_from (is_writable (areas_of view)) call.address call.size)) (answer_same call.question inputs g)

state_sight_same : (inputs : List (List ℕ)) (g : Machine) (p : ℕ) (first : Bool) (ps : PartitionState) → sight_of_state (with_given inputs g) p first ps ≡ sight_of_state g p first ps
unfolding sight_of_state
state_sight_same inputs g p first ps =
    let words = slice_index_or inputs p [] in
    let view = view_of g.system p in
    ap (λ (v : PartitionView). if takes_turns ps.state then sight_for (with_given inputs g) v (asks v ps g.time first) else Unseen) (view_same inputs g p)
    ∙ ap (λ (o : Option Observation). if takes_turns ps.state then sight_for (with_given inputs g) (given_view words view) o else Unseen) (asks_same words view ps g.time first)
    ∙ ap (λ (seen : Sight). if takes_turns ps.state then seen else Unseen) (shown_same (asks view ps g.time first) inputs g words view)

sight_in_same : (inputs : List (List ℕ)) (g : Machine) (p : ℕ) (o : Option SlotTurn) (part : Option PartitionState) → sight_in (with_given inputs g) p o part ≡ sight_in g p o part
sight_in_same inputs g p None part = refl
sight_in_same inputs g p (Some turn) None = refl
sight_in_same inputs g p (Some turn) (Some ps) = ap (λ (seen : Sight). if turn.part == p then seen else Unseen) (state_sight_same inputs g p turn.first ps)

sight_same : (inputs : List (List ℕ)) (g : Machine) (p : ℕ) → sight (with_given inputs g) p ≡ sight g p
unfolding sight
sight_same inputs g p =
    ap (λ (o : Option SlotTurn). sight_in (with_given inputs g) p o (slice_get g.parts p)) (turn_same inputs g) ∙ sight_in_same inputs g p (turn_of g) (slice_get g.parts p)

-- the local tick
local_of_same : (inputs : List (List ℕ)) (g : Machine) (p : ℕ) (first : Bool) (ps : PartitionState) → local_of (with_given inputs g) p first ps ≡ local_of g p first ps
unfolding local_of
local_of_same inputs g p first ps =
    let view = view_of g.system p in
    ap (λ (v : PartitionView). local_tick v ps (copies (with_given inputs g) p) g.ticks g.time first (sight_of_state (with_given inputs g) p first ps)) (view_same inputs g p)
    ∙ local_same (slice_index_or inputs p []) view ps (copies (with_given inputs g) p) g.ticks g.time first (sight_of_state (with_given inputs g) p first ps)
    ∙ ap (λ contents. local_tick view ps contents g.ticks g.time first (sight_of_state (with_given inputs g) p first ps)) (copies_same inputs g p)
    ∙ ap (local_tick view ps (copies g p) g.ticks g.time first) (state_sight_same inputs g p first ps)

taken_same : (inputs : List (List ℕ)) (g : Machine) (p : ℕ) (first : Bool) (part : Option PartitionState) → taken_by (with_given inputs g) p first part ≡ taken_by g p first part
taken_same inputs g p first None = refl
taken_same inputs g p first (Some ps) = ap (λ (tick : LocalTick). if takes_turns ps.state then Some tick else None) (local_of_same inputs g p first ps)

local_in_same : (inputs : List (List ℕ)) (g : Machine) (o : Option SlotTurn) → local_in (with_given inputs g) o ≡ local_in g o
local_in_same inputs g None = refl
local_in_same inputs g (Some turn) = taken_same inputs g turn.part turn.first (slice_get g.parts turn.part)

the_local_same : (inputs : List (List ℕ)) (g : Machine) → local (with_given inputs g) ≡ local g
unfolding local
the_local_same inputs g = ap (local_in (with_given inputs g)) (turn_same inputs g) ∙ local_in_same inputs g (turn_of g)

happened_same : (inputs : List (List ℕ)) (g : Machine) → happened (with_given inputs g) ≡ happened g
unfolding happened
happened_same inputs g =
    ap (λ (o : Option SlotTurn). happened_by g.system.conf o (local (with_given inputs g))) (turn_same inputs g)
    ∙ ap (happened_by g.system.conf (turn_of g)) (the_local_same inputs g)

-- what a tick leaves
part_same : (inputs : List (List ℕ)) (g : Machine) (h : Happened) (p : ℕ) (ps : PartitionState) → part_after (with_given inputs g) h p ps ≡ part_after g h p ps
unfolding part_after
part_same inputs g h p ps =
    ap (λ (v : PartitionView). after_tick v g.time (is_some (tick_of h p)) (heard_as g.system.conf p h.traffic) (order_upon h.act p) h.event (worked_in (tick_of h p) ps)) (view_same inputs g p)
    ∙ after_same (slice_index_or inputs p []) (view_of g.system p) g.time (is_some (tick_of h p)) (heard_as g.system.conf p h.traffic) (order_upon h.act p) h.event (worked_in (tick_of h p) ps)

clock_same : (inputs : List (List ℕ)) (g : Machine) (h : Happened) → next_clock (with_given inputs g) h ≡ next_clock g h
unfolding next_clock
clock_same inputs g h = refl

after_this : (inputs : List (List ℕ)) (g : Machine) (h : Happened) → after (with_given inputs g) h ≡ with_given inputs (after g h)
unfolding after next_clock
after_this inputs g h =
    ap (λ (parts : List PartitionState). record (with_given inputs (after g h)) { parts = parts })
    (each_same (part_after (with_given inputs g) h) (part_after g h) g.parts (λ p ps. part_same inputs g h p ps))

step_by : (b : Bool) (inputs : List (List ℕ)) (g : Machine) → step_unless b (with_given inputs g) ≡ with_given inputs (step_unless b g)
step_by true inputs g = refl
step_by false inputs g = ap (after (with_given inputs g)) (happened_same inputs g) ∙ after_this inputs g (happened g)

pub step_same : (inputs : List (List ℕ)) (g : Machine) → step (with_given inputs g) ≡ with_given inputs (step g)
unfolding step
step_same inputs g = step_by g.halted inputs g

-- what it prints
lines_of_same : (inputs : List (List ℕ)) (g : Machine) (h : Happened) → lines_of (with_given inputs g) h ≡ lines_of g h
unfolding lines_of order_lines next_clock
lines_of_same inputs g h = refl

lines_by : (b : Bool) (inputs : List (List ℕ)) (g : Machine) → lines_unless b (with_given inputs g) ≡ lines_unless b g
lines_by true inputs g = refl
lines_by false inputs g = ap (lines_of (with_given inputs g)) (happened_same inputs g) ∙ lines_of_same inputs g (happened g)

pub lines_same : (inputs : List (List ℕ)) (g : Machine) → step_lines (with_given inputs g) ≡ step_lines g
unfolding step_lines
lines_same inputs g = lines_by g.halted inputs g

said_by : (b : Bool) (inputs : List (List ℕ)) (g : Machine) (p : ℕ) → said_unless b (with_given inputs g) p ≡ said_unless b g p
said_by true inputs g p = refl
said_by false inputs g p = ap (λ (h : Happened). local_said (tick_of h p)) (happened_same inputs g)

pub said_same : (inputs : List (List ℕ)) (g : Machine) (p : ℕ) → step_said (with_given inputs g) p ≡ step_said g p
unfolding step_said
said_same inputs g p = said_by g.halted inputs g p

pub console_same : (inputs : List (List ℕ)) (g : Machine) (uart : ℕ) → step_console (with_given inputs g) uart ≡ step_console g uart
unfolding step_console
console_same inputs g uart =
    all_same (λ p ps. if has_console g uart p then step_said (with_given inputs g) p else []) (λ p ps. if has_console g uart p then step_said g p else []) g.parts
    (λ p ps. ap (λ (bytes : List ℕ). if has_console g uart p then bytes else []) (said_same inputs g p))

-- what a partition receives
cue_in_same : (inputs : List (List ℕ)) (g : Machine) (h : Happened) (p : ℕ) → cue_in (with_given inputs g) h p ≡ cue_in g h p
unfolding cue_in
cue_in_same inputs g h p = ap (λ (seen : Sight). record (cue_in g h p) { seen = seen }) (sight_same inputs g p)

pub cue_same : (inputs : List (List ℕ)) (g : Machine) (p : ℕ) → cue (with_given inputs g) p ≡ cue g p
unfolding cue
cue_same inputs g p = ap (λ (h : Happened). cue_in (with_given inputs g) h p) (happened_same inputs g) ∙ cue_in_same inputs g (happened g) p

pub tick_ignores_given : TickIgnoresGiven
tick_ignores_given inputs g = record {
  state = step_same inputs g;
  lines = lines_same inputs g;
  said = said_same inputs g;
  console = console_same inputs g;
  received = cue_same inputs g;
}

-- at rest
pub end_same : (inputs : List (List ℕ)) (g : Machine) → end_lines (with_given inputs g) ≡ end_lines g
unfolding end_lines
end_same inputs g = refl

file_of_same : (inputs : List (List ℕ)) (g : Machine) (p : ℕ) (o : Option PartitionState) → on (core_file (view_of (with_given inputs g).system p)) o ≡ on (core_file (view_of g.system p)) o
file_of_same inputs g p None = refl
file_of_same inputs g p (Some ps) = ap (λ (v : PartitionView). Some (core_file v ps)) (view_same inputs g p) ∙ ap Some (file_same (slice_index_or inputs p []) (view_of g.system p) ps)

pub core_same : (inputs : List (List ℕ)) (g : Machine) (p : ℕ) → core_file_of (with_given inputs g) p ≡ core_file_of g p
unfolding core_file_of
core_same inputs g p = file_of_same inputs g p (slice_get g.parts p)

pub rest_ignores_given : RestIgnoresGiven
rest_ignores_given inputs g = record { end = end_same inputs g; core_file = core_same inputs g; left = refl }
