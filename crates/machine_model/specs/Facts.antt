-- What holds of each partition, and of the machine, at all times, whatever the programs do.
use Rattle.std.specs.Prelude.{◌≡◌, ℕ, ◌+◌, ◌≤◌, ◌++◌, ◌||◌, false, true, Bool, List, length, All, IsSome, Some, None, slice_get, slice_index_or}
use Rattle.cyclic_plans.specs.PlanClock.{AsksPlan, IsInFrame}
use Rattle.sparc_step.specs.Registers.{Registers}
use Rattle.xm_conf.specs.Description.{described}
use Rattle.xm_conf.specs.Fits.{Fits, IsOfKind}
use Rattle.xm_conf.specs.Configuration.{Chan}
use Rattle.xm_conf.specs.declared.port.Port.{Port}
use Rattle.xm_ports.specs.Channels.{Content, Suits, shape_of}
use Rattle.xm_ports.specs.Ports.{is_made}
use Rattle.xm_traces.specs.declared.entry.TraceEntry.{TraceEntry}
use Rattle.machine_model.specs.Alone.{Alone, alone_local, alone_step}
use Rattle.machine_model.specs.Cue.{Away, Cue, Mine, CueSlot}
use Rattle.machine_model.specs.Laws.{HasLength}
use Rattle.machine_model.specs.Machine.{Machine, act_of, answer_to, is_halt, run, start, step}
use Rattle.machine_model.specs.Observed.{Observation, observed_by}
use Rattle.machine_model.specs.Partition.{PartitionState, is_halted}
use Rattle.machine_model.specs.Structures.{flag}
use Rattle.machine_model.specs.View.{PartitionView, PortChannel, System, view_of}
use Rattle.machine_model.specs.Whole.{event_of, ticks_after}

-- words are the last of a list
pub record AreLast (rest all : List ℕ) : Type 0 where
  pub used : List ℕ
  pub is : used ++ rest ≡ all

-- a number is that of a port that there is, and that is an end of a channel
pub record IsChannelEnd (view : PartitionView) (r : ℕ) : Type 0 where
  pub port : IsSome (slice_get view.part.ports r)
  pub channel : IsSome (slice_index_or view.channels r None)

-- each port that is made is such a port
abbrev pub AreEnds : PartitionView → List Bool → Type 0
AreEnds view made = (r : ℕ) → is_made r made ≡ true → IsChannelEnd view r

-- each of these trace entries has eight bytes
abbrev pub HaveEight : List TraceEntry → Type 0
HaveEight entries = All (λ entry. length entry.load ≡ 8) entries

-- after this many ticks that were counted, in a machine whose hypervisor has halted or has not; the tick in which it halts is not counted.
-- At most one trace entry came with each counted tick, and none with the one that halts; so did at most one health entry, and one more where
-- the partition or the hypervisor has halted: a tick makes two only where the delivery of a trap fails, and then the partition halts. The
-- execution clock counted at most each tick that has begun, the one that halts with them. The trace entries that are kept have eight bytes;
-- the input words that are left are the last of those that the partition was given; and the made ports are ends of channels
pub record AreFacts (view : PartitionView) (ticks : ℕ) (halts : Bool) (ps : PartitionState) : Type 0 where
  pub traces : ps.traces.next ≤ ticks
  pub health : ps.health.next ≤ ticks + flag (halts || is_halted ps.state)
  pub execution : ps.clocks.execution ≤ ticks + flag halts
  pub loads : HaveEight ps.traces.entries
  pub inputs : AreLast ps.inputs view.inputs
  pub made : AreEnds view ps.made

-- the ticks that have begun: those that were counted, and the one in which the hypervisor has halted
abbrev pub begun : Machine → ℕ
begun g = g.ticks + flag g.halted

-- the facts hold of each partition of the machine
abbrev pub HasFacts : Machine → Type 0
HasFacts g = (p : ℕ) (ps : PartitionState) → slice_get g.parts p ≡ Some ps → AreFacts (view_of g.system p) g.ticks g.halted ps

-- a machine boots with them, and keeps them in each tick, so that they hold after every run
abbrev pub BootsWithFacts : Type 0
BootsWithFacts = (system : System) → HasFacts (start system)

abbrev pub KeepsFacts : Type 0
KeepsFacts = (g : Machine) → HasFacts g → HasFacts (step g)

-- in a slot of its own a partition has no order of others, and a hypervisor event is that of its own act
abbrev pub IsItsOwn : CueSlot → PartitionView → Alone → Cue → Type 0
IsItsOwn Away view a cue = Unit {0}
IsItsOwn (Mine first) view a cue = (cue.order ≡ None) × (cue.whole ≡ event_of (act_of (alone_local view a cue)))

-- so does a partition alone, whose cue says whether the hypervisor halts
abbrev pub KeepsFactsAlone : Type 0
KeepsFactsAlone =
    (view : PartitionView) (a : Alone) (cue : Cue) (n : ℕ) → IsItsOwn cue.mine view a cue → AreFacts view n false a.state
    → AreFacts view (ticks_after cue.whole n) (is_halt cue.whole) (alone_step view a cue).state

abbrev pub RunsWithFacts : Type 0
RunsWithFacts = (system : System) (count : ℕ) → HasFacts (run (start system) count)

-- so after every run what an observing call is shown has the size that it asks for
abbrev pub ShowsItsSizeInRuns : Type 0
ShowsItsSizeInRuns = (system : System) (count : ℕ) (view : PartitionView) (core : Registers) (call : Observation) →
    observed_by view core ≡ Some call → HasLength call.size (answer_to (run (start system) count) call.question)

-- the hardware clock is not past the ticks that are done
abbrev pub IsTimed : Machine → Type 0
IsTimed g = g.time ≤ g.ticks

-- a machine boots so, and keeps it in each tick, so that it holds after every run
abbrev pub BootsTimed : Type 0
BootsTimed = (system : System) → IsTimed (start system)

abbrev pub KeepsTimed : Type 0
KeepsTimed = (g : Machine) → IsTimed g → IsTimed (step g)

abbrev pub RunsTimed : Type 0
RunsTimed = (system : System) (count : ℕ) → IsTimed (run (start system) count)

-- the machine has each partition and each channel of its configuration
pub record IsComplete (g : Machine) : Type 0 where
  pub parts : length g.parts ≡ length g.system.conf.parts
  pub channels : length g.channels ≡ length g.system.conf.chans

-- what runs is the same, and there are as many partitions and channels
pub record IsAsMany (before after : Machine) : Type 0 where
  pub system : after.system ≡ before.system
  pub parts : length after.parts ≡ length before.parts
  pub channels : length after.channels ≡ length before.channels

-- a tick changes neither what runs nor how many partitions and channels there are, and no more does a run
abbrev pub KeepsNumbers : Type 0
KeepsNumbers = (g : Machine) → IsAsMany g (step g)

abbrev pub RunsKeepNumbers : Type 0
RunsKeepNumbers = (g : Machine) (count : ℕ) → IsAsMany g (run g count)

-- a machine boots complete, and is complete after every run
abbrev pub BootsComplete : Type 0
BootsComplete = (system : System) → IsComplete (start system)

abbrev pub RunsComplete : Type 0
RunsComplete = (system : System) (count : ℕ) → IsComplete (run (start system) count)

-- the plan clock runs a plan that there is, in its frame, and a plan that is asked for is there
pub record IsClocked (g : Machine) : Type 0 where
  pub in_frame : IsInFrame g.system.conf g.clock g.time
  pub asked : AsksPlan g.system.conf g.clock

-- under a configuration that meets the rules a machine boots so, and keeps it in each tick, so that it holds after every run
abbrev pub BootsClocked : Type 0
BootsClocked = (system : System) → Fits (described system.conf) → IsClocked (start system)

abbrev pub KeepsClocked : Type 0
KeepsClocked = (g : Machine) → Fits (described g.system.conf) → IsClocked g → IsClocked (step g)

abbrev pub RunsClocked : Type 0
RunsClocked = (system : System) (count : ℕ) → Fits (described system.conf) → IsClocked (run (start system) count)

-- each channel holds what its shape allows: a content of its kind, messages of at least one byte and no more than its length, and in a queue no more than its most
pub record HasShapes (g : Machine) : Type 0 where
  pub counted : length g.channels ≡ length g.system.conf.chans
  pub suited : (c : ℕ) (chan : Chan) (content : Content) → slice_get g.system.conf.chans c ≡ Some chan → slice_get g.channels c ≡ Some content → Suits (shape_of chan) content

-- a machine boots so, and under a configuration that meets the rules keeps it in each tick, so that it holds after every run
abbrev pub BootsWithShapes : Type 0
BootsWithShapes = (system : System) → HasShapes (start system)

abbrev pub KeepsShapes : Type 0
KeepsShapes = (g : Machine) → Fits (described g.system.conf) → HasShapes g → HasShapes (step g)

abbrev pub RunsWithShapes : Type 0
RunsWithShapes = (system : System) (count : ℕ) → Fits (described system.conf) → HasShapes (run (start system) count)

-- a port that is an end of a channel is of the channel's kind; so is each port that is made, since it is an end
abbrev pub PortsHaveKinds : Type 0
PortsHaveKinds = (system : System) (p r : ℕ) (port : Port) (channel : PortChannel) → Fits (described system.conf)
    → slice_get (view_of system p).part.ports r ≡ Some port → slice_index_or (view_of system p).channels r None ≡ Some channel → IsOfKind channel.shape.kind port.kind
