-- The laws of the machine: a partition depends on nothing but its own things and its cues.
use Rattle.std.specs.Prelude.{◌≡◌, ℕ, ◌<◌, ◌≤◌, Bool, true, false, ◌++◌, List, [], ◌∷◌, length, All, Option, Some, IfSome, slice_get}
use Rattle.xm_base.specs.declared.partition.Order.{Order}
use Rattle.xm_base.specs.Options.{on}
use Rattle.sparc_step.specs.Registers.{Registers}
use Rattle.xm_ports.specs.Channels.{Content}
use Rattle.xm_traces.specs.Ring.{entry_at}
use Rattle.machine_model.specs.Alone.{Alone, alone_from, alone_lines, alone_said, alone_start, alone_step, alone_step_lines, alone_step_said}
use Rattle.machine_model.specs.Caller.{Caller, answering, invalid_parameter, is_not_kept, is_room, shown, with_answer, with_written}
use Rattle.machine_model.specs.Calls.{Call, call_of, number_of_call}
use Rattle.machine_model.specs.CoreFile.{core_file}
use Rattle.machine_model.specs.Cue.{cue, script}
use Rattle.machine_model.specs.Hypercalls.{served}
use Rattle.machine_model.specs.Lines.{end_line, lines, own, report, said, step_lines, step_said, tag_of}
use Rattle.machine_model.specs.LocalTick.{local_tick, worked}
use Rattle.machine_model.specs.Machine.{Machine, answer_to, copies, run, sight, start, step}
use Rattle.machine_model.specs.Observed.{Observation, observed_by}
use Rattle.machine_model.specs.Partition.{PartitionState}
use Rattle.machine_model.specs.Emission.{NotKept, Sight, Unseen, Upon, Words}
use Rattle.machine_model.specs.View.{PartitionView, System, part_of, view_of}

-- partition p's part of the machine's state
unfoldable pub part : Machine → ℕ → PartitionState → Alone
part g p ps = record { state = ps; copies = copies g p; ticks = g.ticks; time = g.time }

-- partition p's part of the machine's state, where there is such a partition
unfoldable pub alone_part_at : Machine → ℕ → Option Alone
alone_part_at g p = on (part g p) (slice_get g.parts p)

-- one tick of the machine is, for each partition, one tick of that partition alone under its cue: the state, the lines, and the console bytes
pub record TicksAlone (g : Machine) (p : ℕ) (ps : PartitionState) : Type 0 where
  pub state : alone_part_at (step g) p ≡ Some (alone_step (view_of g.system p) (part g p ps) (cue g p))
  pub lines : own p (step_lines g) ≡ alone_step_lines (view_of g.system p) (part g p ps) (cue g p)
  pub said : step_said g p ≡ alone_step_said (view_of g.system p) (part g p ps) (cue g p)

abbrev pub OneTick : Type 0
OneTick = (g : Machine) (p : ℕ) (ps : PartitionState) → g.halted ≡ false → slice_get g.parts p ≡ Some ps → TicksAlone g p ps

-- a run of the machine is, for each partition, a run of that partition alone under its script
pub record RunsAlone (g : Machine) (p : ℕ) (ps : PartitionState) (count : ℕ) : Type 0 where
  pub state : alone_part_at (run g count) p ≡ Some (alone_from (view_of g.system p) (part g p ps) (script g p count))
  pub lines : own p (lines g count) ≡ alone_lines (view_of g.system p) (part g p ps) (script g p count)
  pub said : said g count p ≡ alone_said (view_of g.system p) (part g p ps) (script g p count)

abbrev pub AllTicks : Type 0
AllTicks = (count : ℕ) (g : Machine) (p : ℕ) (ps : PartitionState) → slice_get g.parts p ≡ Some ps → RunsAlone g p ps count

-- each partition boots as it boots alone
abbrev pub BootsAlone : Type 0
BootsAlone = (system : System) (p : ℕ) → p < length system.conf.parts → alone_part_at (start system) p ≡ Some (alone_start (view_of system p))

-- two runs of two systems in which a partition has the same things of its own, and receives the same
pub record AreAlike (one other : System) (p count : ℕ) : Type 0 where
  pub in_one : p < length one.conf.parts
  pub in_other : p < length other.conf.parts
  pub view : view_of one p ≡ view_of other p
  pub script : script (start one) p count ≡ script (start other) p count

-- it has the same state, the same lines and the same console bytes in both
pub record AreEqual (one other : System) (p count : ℕ) : Type 0 where
  pub state : alone_part_at (run (start one) count) p ≡ alone_part_at (run (start other) count) p
  pub lines : own p (lines (start one) count) ≡ own p (lines (start other) count)
  pub said : said (start one) count p ≡ said (start other) count p

abbrev pub TwoRuns : Type 0
TwoRuns = (one other : System) (p count : ℕ) → AreAlike one other p count → AreEqual one other p count

-- a script is empty once the hypervisor has halted, and ends with the tick in which it halts
abbrev pub NoScript : Type 0
NoScript = (g : Machine) (p count : ℕ) → g.halted ≡ true → script g p count ≡ []

abbrev pub LastCue : Type 0
LastCue = (g : Machine) (p count : ℕ) → g.halted ≡ false → (step g).halted ≡ true → (0 < count) → script g p count ≡ cue g p ∷ []

-- a partition's own lines of a report are those of the partition alone, and the line of its end
abbrev pub OwnLines : Type 0
OwnLines = (system : System) (p count : ℕ) → p < length system.conf.parts →
    own p (report system count) ≡
    alone_lines (view_of system p) (alone_start (view_of system p)) (script (start system) p count)
    ++ end_line p (alone_from (view_of system p) (alone_start (view_of system p)) (script (start system) p count)).state ∷ []

-- a partition without the system flag is shown nothing, whatever the state
abbrev pub SeesNothing : Type 0
SeesNothing = (g : Machine) (p : ℕ) → (part_of g.system.conf p).system ≡ false → sight g p ≡ Unseen

-- an order on another partition never names the partition that gives it
abbrev pub NeverUponItself : Type 0
NeverUponItself = (view : PartitionView) (ps : PartitionState) (contents : List (Option Content)) (n time : ℕ) (first : Bool) (seen : Sight) (order : Order) →
    ¬ ((local_tick view ps contents n time first seen).act ≡ Upon view.id order)

-- each line of a local tick has its own partition's tag
abbrev pub HasOwnTag : Type 0
HasOwnTag = (view : PartitionView) (ps : PartitionState) (contents : List (Option Content)) (n time : ℕ) (first : Bool) (seen : Sight) →
    All (λ line. tag_of line ≡ Some view.id) (local_tick view ps contents n time first seen).lines

-- an observing call is tested and answered by its observation: where the place has no room for what it asks for it is refused, and else
-- what it is shown is written there
pub record IsObserving (caller : Caller) (call : Observation) : Type 0 where
  pub refused : is_room caller call.address call.size ≡ false → served caller ≡ answering invalid_parameter caller.state
  pub shown : is_room caller call.address call.size ≡ true → (served caller).after ≡ with_answer 0 (with_written call.address (shown caller.sight) caller.state)

-- what a partition asks for has the place and the size that its call tests, unless it is shown that an entry is not kept
abbrev pub ObservesAsTested : Type 0
ObservesAsTested = (caller : Caller) (call : Observation) →
    observed_by caller.view caller.state.core ≡ Some call → is_not_kept caller.sight ≡ false → IsObserving caller call

-- bytes that are shown have this length
abbrev pub HasLength : ℕ → Sight → Type 0
HasLength size Unseen = Unit {0}
HasLength size NotKept = Unit {0}
HasLength size (Words bytes) = length bytes ≡ size

-- each trace entry of a partition has eight bytes
abbrev pub HasLoads : PartitionState → Type 0
HasLoads ps = (number : ℕ) → IfSome (entry_at number ps.traces) (λ entry. length entry.load ≡ 8)

-- what an observing call is shown has the size that it asks for
abbrev pub ShowsItsSize : Type 0
ShowsItsSize = (g : Machine) (view : PartitionView) (core : Registers) (call : Observation) →
    ((id : ℕ) → IfSome (slice_get g.parts id) HasLoads) → observed_by view core ≡ Some call → HasLength call.size (answer_to g call.question)

-- the act of a local tick is the act of the partition's work: only channels of its own are acted on, and only others get orders
abbrev pub ActsWithinBounds : Type 0
ActsWithinBounds = (system : System) (p : ℕ) (ps : PartitionState) (contents : List (Option Content)) (n time : ℕ) (first : Bool) (seen : Sight) →
    (local_tick (view_of system p) ps contents n time first seen).act ≡ (worked (view_of system p) contents time first seen ps).act

-- the core file of partition p, where there is such a partition
unfoldable pub core_file_of : Machine → ℕ → Option (List ℕ)
core_file_of g p = on (core_file (view_of g.system p)) (slice_get g.parts p)

-- the core file after a run is that of the partition alone
abbrev pub SameCoreFile : Type 0
SameCoreFile = (system : System) (p count : ℕ) → p < length system.conf.parts →
    core_file_of (run (start system) count) p
    ≡ Some (core_file (view_of system p) (alone_from (view_of system p) (alone_start (view_of system p)) (script (start system) p count)).state)

-- scripts that are equal for this many ticks are equal for fewer
abbrev pub EarlierScripts : Type 0
EarlierScripts = (one other : Machine) (p q count fewer : ℕ) → fewer ≤ count → script one p count ≡ script other q count → script one p fewer ≡ script other q fewer

-- so a partition that receives the same in two runs is the same after each tick of them
abbrev pub TwoRunsEarlier : Type 0
TwoRunsEarlier = (one other : System) (p count fewer : ℕ) → fewer ≤ count → AreAlike one other p count → AreEqual one other p fewer

-- each call has its own number, of which it is the call
abbrev pub HasOwnNumber : Type 0
HasOwnNumber = (call : Call) → call_of (number_of_call call) ≡ Some call

-- and a number has no other call than the one whose number it is
abbrev pub IsNumberOfCall : Type 0
IsNumberOfCall = (number : ℕ) (call : Call) → call_of number ≡ Some call → number ≡ number_of_call call
