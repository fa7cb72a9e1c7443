-- Runs by the words that they fetch.
use Rattle.std.proofs.Common.{◌≡◌, ℕ, Bool, true, false, List, [], ◌∷◌, ◌++◌, length, Option, None, Some, Result, Ok, refl, sym, ap, ◌∙◌}
use Rattle.std.specs.Prelude.{slice_get, if◌then◌else◌}
use Rattle.guest_bus.specs.Access.{fetched}
use Rattle.guest_bus.specs.Memory.{Area, Memory}
use Rattle.guest_bus.specs.declared.bus.BusFault.{BusFault}
use Rattle.sparc_step.specs.Execution.{Turned, turned, turned_after}
use Rattle.sparc_step.specs.Registers.{Registers}
use Rattle.virt_traps.specs.Settled.{answered, settled}
use Rattle.virt_traps.specs.Virtual.{due}
use Rattle.xm_base.specs.declared.partition.State.TheVariants.{Ready}
use Rattle.xm_ports.specs.Channels.{Content}
use Rattle.xm_report.specs.Report.{ReportLine}
use Rattle.machine_model.specs.Health.{Worked, interrupt_delivered}
use Rattle.machine_model.specs.Lines.{end_lines, lines, lines_of, lines_unless, step_lines}
use Rattle.machine_model.specs.LocalTick.{LocalTick, by_turn, clocked, delivered_or_executed, executed_in_tick, goes_on, local_tick, seen_outside, turned_state, with_interrupts, worked, worked_if}
use Rattle.machine_model.specs.Machine.{Happened, Machine, SlotTurn, after, copies, happened, happened_by, local, local_in, local_of, run, sight_for, sight_of_state, step, step_unless, taken_by, turn_of}
use Rattle.machine_model.specs.Observed.{Observation, asked_by, asks, if_call, unless_delivered}
use Rattle.machine_model.specs.Partition.{PartitionState, areas_of, execution_looked_at, hardware_looked_at, takes_turns}
use Rattle.machine_model.specs.rows.Rows.{Leaves, Prints}
use Rattle.machine_model.specs.Emission.{Sight, Unseen}
use Rattle.machine_model.specs.View.{PartitionView, view_of}

-- the instruction that the fetch answered, with the spill or the fill that it needs
abbrev pub settled_by : Result ℕ BusFault → List Area → Registers → Memory → Turned
settled_by fetch areas core memory = answered (turned_after fetch areas core memory).turn (turned_after fetch areas core memory) areas core memory

-- the observing call that is made where the instruction has this outcome
abbrev pub unless_delivered_by : Turned → Option ℕ → Bool → PartitionView → Option Observation
unless_delivered_by t None enabled view = if_call t.turn view t.core
unless_delivered_by t (Some n) true view = None
unless_delivered_by t (Some n) false view = if_call t.turn view t.core

abbrev pub asks_by : Turned → PartitionView → PartitionState → ℕ → Bool → Option Observation
asks_by t view ps time first =
    let ready = with_interrupts time first ps in
    if goes_on ready.state first (due ready.traps) then unless_delivered_by t (due ready.traps) ready.traps.enabled view else None

-- the work of a partition whose instruction has this outcome
abbrev pub executed_by : Turned → PartitionView → List (Option Content) → ℕ → Sight → PartitionState → Worked
executed_by t view contents time sight ps = by_turn t.turn view contents time sight ps (turned_state t ps)

abbrev pub delivered_or_executed_by : Turned → Option ℕ → Bool → PartitionView → List (Option Content) → ℕ → Sight → PartitionState → Worked
delivered_or_executed_by t None enabled view contents time sight ps = executed_by t view contents time sight ps
delivered_or_executed_by t (Some n) true view contents time sight ps = interrupt_delivered view time n (clocked ps)
delivered_or_executed_by t (Some n) false view contents time sight ps = executed_by t view contents time sight ps

abbrev pub worked_if_by : Turned → Bool → PartitionView → List (Option Content) → ℕ → Sight → PartitionState → Worked
worked_if_by t false view contents time sight ps = worked_if false view contents time sight ps
worked_if_by t true view contents time sight ps =
    delivered_or_executed_by t (due ps.traps) ps.traps.enabled view contents time sight (record ps { state = Ready })

abbrev pub worked_by : Turned → PartitionView → List (Option Content) → ℕ → Bool → Sight → PartitionState → Worked
worked_by t view contents time first sight ps =
    let ready = with_interrupts time first ps in
    worked_if_by t (goes_on ready.state first (due ready.traps)) view contents time sight ready

-- what is shown to a partition by the outcome of its instruction
abbrev pub sight_by : Turned → Machine → ℕ → Bool → PartitionState → Sight
sight_by t g p first ps =
    if takes_turns ps.state then sight_for g (view_of g.system p) (asks_by t (view_of g.system p) ps g.time first) else Unseen

-- the local tick of a partition whose instruction has this outcome
abbrev pub local_of_by : Turned → Machine → ℕ → Bool → PartitionState → LocalTick
local_of_by t g p first ps =
    seen_outside (view_of g.system p) g.ticks (worked_by t (view_of g.system p) (copies g p) g.time first (sight_by t g p first ps) ps)

-- the local tick where the fetch answers so
abbrev pub taken_by_fetch : Result ℕ BusFault → Machine → ℕ → Bool → Option PartitionState → Option LocalTick
taken_by_fetch fetch g p first None = None
taken_by_fetch fetch g p first (Some ps) =
    if takes_turns ps.state then Some (local_of_by (settled_by fetch (areas_of (view_of g.system p)) ps.core ps.memory) g p first ps) else None

abbrev pub local_by_fetch : Result ℕ BusFault → Machine → Option SlotTurn → Option LocalTick
local_by_fetch fetch g None = None
local_by_fetch fetch g (Some turn) = taken_by_fetch fetch g turn.part turn.first (slice_get g.parts turn.part)

-- the local tick by the word that is fetched, or of a tick in which none is
abbrev pub local_by : Option ℕ → Machine → Option LocalTick
local_by None g = local g
local_by (Some word) g = local_by_fetch (Ok word) g (turn_of g)

-- the fetch of a partition answers so
abbrev pub AnswersPart : Result ℕ BusFault → Machine → ℕ → Option PartitionState → Type 0
AnswersPart fetch g p None = Unit {0}
AnswersPart fetch g p (Some ps) = fetched (areas_of (view_of g.system p)) ps.memory ps.core.pc ≡ fetch

abbrev pub Answers : Result ℕ BusFault → Machine → Option SlotTurn → Type 0
Answers fetch g None = Unit {0}
Answers fetch g (Some turn) = AnswersPart fetch g turn.part (slice_get g.parts turn.part)

-- the word of a tick is the one that is fetched
abbrev pub Fetches : Option ℕ → Machine → Type 0
Fetches None g = Unit {0}
Fetches (Some word) g = Answers (Ok word) g (turn_of g)

-- the outcome of the instruction is that of the fetch
settled_same : (fetch : Result ℕ BusFault) (areas : List Area) (core : Registers) (memory : Memory) → fetched areas memory core.pc ≡ fetch
    → settled_by fetch areas core memory ≡ settled areas core memory
unfolding settled turned
settled_same fetch areas core memory is = ap (λ f. settled_by f areas core memory) (sym is)

unless_same : (o : Option ℕ) (enabled : Bool) (view : PartitionView) (ps : PartitionState)
    → unless_delivered_by (settled (areas_of view) ps.core ps.memory) o enabled view ≡ unless_delivered o enabled view ps
unfolding asked_by
unless_same None enabled view ps = refl
unless_same (Some n) true view ps = refl
unless_same (Some n) false view ps = refl

asks_same : (view : PartitionView) (ps : PartitionState) (time : ℕ) (first : Bool)
    → asks_by (settled (areas_of view) ps.core ps.memory) view ps time first ≡ asks view ps time first
unfolding asks with_interrupts hardware_looked_at execution_looked_at
asks_same view ps time first =
    let ready : PartitionState = with_interrupts time first ps in
    ap (λ asked. if goes_on ready.state first (due ready.traps) then asked else None) (unless_same (due ready.traps) ready.traps.enabled view ready)

executed_same : (o : Option ℕ) (enabled : Bool) (view : PartitionView) (contents : List (Option Content)) (time : ℕ) (sight : Sight) (ps : PartitionState)
    → delivered_or_executed_by (settled (areas_of view) ps.core ps.memory) o enabled view contents time sight ps ≡ delivered_or_executed o enabled view contents time sight ps
unfolding executed_in_tick
executed_same None enabled view contents time sight ps = refl
executed_same (Some n) true view contents time sight ps = refl
executed_same (Some n) false view contents time sight ps = refl

worked_if_same : (b : Bool) (view : PartitionView) (contents : List (Option Content)) (time : ℕ) (sight : Sight) (ps : PartitionState)
    → worked_if_by (settled (areas_of view) ps.core ps.memory) b view contents time sight ps ≡ worked_if b view contents time sight ps
worked_if_same false view contents time sight ps = refl
worked_if_same true view contents time sight ps = executed_same (due ps.traps) ps.traps.enabled view contents time sight (record ps { state = Ready })

worked_same : (view : PartitionView) (contents : List (Option Content)) (time : ℕ) (first : Bool) (sight : Sight) (ps : PartitionState)
    → worked_by (settled (areas_of view) ps.core ps.memory) view contents time first sight ps ≡ worked view contents time first sight ps
unfolding worked with_interrupts hardware_looked_at execution_looked_at
worked_same view contents time first sight ps =
    let ready : PartitionState = with_interrupts time first ps in
    worked_if_same (goes_on ready.state first (due ready.traps)) view contents time sight ready

sight_same : (g : Machine) (p : ℕ) (first : Bool) (ps : PartitionState)
    → sight_by (settled (areas_of (view_of g.system p)) ps.core ps.memory) g p first ps ≡ sight_of_state g p first ps
unfolding sight_of_state
sight_same g p first ps =
    ap (λ asked. if takes_turns ps.state then sight_for g (view_of g.system p) asked else Unseen) (asks_same (view_of g.system p) ps g.time first)

local_of_same : (g : Machine) (p : ℕ) (first : Bool) (ps : PartitionState)
    → local_of_by (settled (areas_of (view_of g.system p)) ps.core ps.memory) g p first ps ≡ local_of g p first ps
unfolding local_of local_tick
local_of_same g p first ps =
    ap (λ sight. seen_outside (view_of g.system p) g.ticks (worked_by (settled (areas_of (view_of g.system p)) ps.core ps.memory) (view_of g.system p) (copies g p) g.time first sight ps)) (sight_same g p first ps)
    ∙ ap (seen_outside (view_of g.system p) g.ticks) (worked_same (view_of g.system p) (copies g p) g.time first (sight_of_state g p first ps) ps)

taken_same : (fetch : Result ℕ BusFault) (g : Machine) (p : ℕ) (first : Bool) (ps : PartitionState) → fetched (areas_of (view_of g.system p)) ps.memory ps.core.pc ≡ fetch
    → taken_by_fetch fetch g p first (Some ps) ≡ taken_by g p first (Some ps)
taken_same fetch g p first ps is =
    ap (λ t. if takes_turns ps.state then Some (local_of_by t g p first ps) else None) (settled_same fetch (areas_of (view_of g.system p)) ps.core ps.memory is)
    ∙ ap (λ tick. if takes_turns ps.state then Some tick else None) (local_of_same g p first ps)

taken_in : (fetch : Result ℕ BusFault) (g : Machine) (p : ℕ) (first : Bool) (o : Option PartitionState) → AnswersPart fetch g p o
    → taken_by_fetch fetch g p first o ≡ taken_by g p first o
taken_in fetch g p first None is = refl
taken_in fetch g p first (Some ps) is = taken_same fetch g p first ps is

local_same_in : (fetch : Result ℕ BusFault) (g : Machine) (o : Option SlotTurn) → Answers fetch g o → local_by_fetch fetch g o ≡ local_in g o
local_same_in fetch g None is = refl
local_same_in fetch g (Some turn) is = taken_in fetch g turn.part turn.first (slice_get g.parts turn.part) is

local_same : (w : Option ℕ) (g : Machine) → Fetches w g → local_by w g ≡ local g
unfolding local
local_same None g is = refl
local_same (Some word) g is = local_same_in (Ok word) g (turn_of g) is

-- what a tick did by its word
abbrev pub happened_with : Option ℕ → Machine → Happened
happened_with w g = happened_by g.system.conf (turn_of g) (local_by w g)

pub happened_same : (w : Option ℕ) (g : Machine) → Fetches w g → happened_with w g ≡ happened g
unfolding happened
happened_same w g is = ap (happened_by g.system.conf (turn_of g)) (local_same w g is)

-- the machine after a tick by its word
abbrev pub step_by_unless : Bool → Option ℕ → Machine → Machine
step_by_unless true w g = g
step_by_unless false w g = after g (happened_with w g)

abbrev pub step_by : Option ℕ → Machine → Machine
step_by w g = step_by_unless g.halted w g

abbrev pub lines_by_unless : Bool → Option ℕ → Machine → List ReportLine
lines_by_unless true w g = []
lines_by_unless false w g = lines_of g (happened_with w g)

-- a run by its words, and the lines that it prints
abbrev pub run_by : List (Option ℕ) → Machine → Machine
run_by [] g = g
run_by (w ∷ words) g = run_by words (step_by w g)

abbrev pub lines_by : List (Option ℕ) → Machine → List ReportLine
lines_by [] g = []
lines_by (w ∷ words) g = lines_by_unless g.halted w g ++ lines_by words (step_by w g)

-- each word is the one that is fetched
abbrev pub FetchAll : List (Option ℕ) → Machine → Type 0
FetchAll [] g = Unit {0}
FetchAll (w ∷ words) g = Fetches w g × FetchAll words (step_by w g)

step_same : (b : Bool) (w : Option ℕ) (g : Machine) → Fetches w g → step_by_unless b w g ≡ step_unless b g
step_same true w g is = refl
step_same false w g is = ap (after g) (happened_same w g is)

lines_same : (b : Bool) (w : Option ℕ) (g : Machine) → Fetches w g → lines_by_unless b w g ≡ lines_unless b g
lines_same true w g is = refl
lines_same false w g is = ap (lines_of g) (happened_same w g is)

stepped : (w : Option ℕ) (g : Machine) → Fetches w g → step_by w g ≡ step g
unfolding step
stepped w g is = step_same g.halted w g is

printed : (w : Option ℕ) (g : Machine) → Fetches w g → lines_by_unless g.halted w g ≡ step_lines g
unfolding step_lines
printed w g is = lines_same g.halted w g is

-- a run is the run by its words
pub run_words : (words : List (Option ℕ)) (g : Machine) → FetchAll words g → run g (length words) ≡ run_by words g
run_words [] g all = refl
run_words (w ∷ words) g all = ap (λ h. run h (length words)) (sym (stepped w g all.0)) ∙ run_words words (step_by w g) all.1

-- and prints their lines
pub lines_words : (words : List (Option ℕ)) (g : Machine) → FetchAll words g → lines g (length words) ≡ lines_by words g
lines_words [] g all = refl
lines_words (w ∷ words) g all =
    ap (λ first. first ++ lines (step g) (length words)) (sym (printed w g all.0))
    ∙ ap (λ h. lines_by_unless g.halted w g ++ lines h (length words)) (sym (stepped w g all.0))
    ∙ ap (λ rest. lines_by_unless g.halted w g ++ rest) (lines_words words (step_by w g) all.1)

-- what a run prints by its words
pub prints_words : (words : List (Option ℕ)) (g : Machine) (expected : List ReportLine) → FetchAll words g
    → lines_by words g ++ end_lines (run_by words g) ≡ expected → Prints g (length words) expected
prints_words words g expected all comes = record {
  report =
      ap (λ printed. printed ++ end_lines (run g (length words))) (lines_words words g all)
      ∙ ap (λ h. lines_by words g ++ end_lines h) (run_words words g all)
      ∙ comes;
}

-- what a run leaves by its words
pub leaves_words : {X : Type 0} (words : List (Option ℕ)) (part : Machine → X) (g : Machine) (value : X) → FetchAll words g
    → part (run_by words g) ≡ value → Leaves part g (length words) value
leaves_words words part g value all comes = record { left = ap part (run_words words g all) ∙ comes }
