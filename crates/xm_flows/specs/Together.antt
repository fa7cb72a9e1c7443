-- Two machines side by side, of systems that are the same for a closed set of partitions: while each tick steers the set alike, it stays the same.
use Rattle.std.specs.Prelude.{◌≡◌, ℕ, true, false, Some, None, slice_get}
use Rattle.cyclic_plans.specs.PlanClock.{CyclicClock}
use Rattle.machine_model.specs.Cue.{cue}
use Rattle.machine_model.specs.Machine.{Machine, copies, start, step}
use Rattle.machine_model.specs.Partition.{PartitionState}
use Rattle.machine_model.specs.View.{System}
use Rattle.xm_flows.specs.Groups.{Members}
use Rattle.xm_flows.specs.Laws.{Agree, AreClosedAlike}
use Rattle.xm_flows.specs.Rights.{IsUnsteered}
use Rattle.xm_flows.specs.Steering.{no_steering, steering}

-- two clocks run the same plan, in a frame that began with the same tick
pub record RunTheSame (one other : CyclicClock) : Type 0 where
  pub plan : one.plan ≡ other.plan
  pub frame_start : one.frame_start ≡ other.frame_start

-- a partition has the same part of two machines
pub record HasSamePart (g h : Machine) (p : ℕ) : Type 0 where
  pub state : PartitionState
  pub there : slice_get g.parts p ≡ Some state
  pub there_too : slice_get h.parts p ≡ Some state
  pub copies : copies g p ≡ copies h p

-- two machines go together for a set of partitions
pub record GoTogether (members : Members) (g h : Machine) : Type 0 where
  pub parts : (p : ℕ) → members p ≡ true → HasSamePart g h p
  pub ticks : g.ticks ≡ h.ticks
  pub time : g.time ≡ h.time
  pub clock : RunTheSame g.clock h.clock
  pub halted : g.halted ≡ h.halted

-- a member receives the same in both
pub record ReceivesTheSame (members : Members) (g h : Machine) : Type 0 where
  pub cues : (p : ℕ) → members p ≡ true → cue g p ≡ cue h p

-- they boot together
abbrev pub StartTogether : Type 0
StartTogether = (members : Members) (one other : System) → AreClosedAlike members one other → GoTogether members (start one) (start other)

-- in a tick that steers the set alike its members receive the same, and the machines go together after it
pub record TickTogether (members : Members) (g h : Machine) : Type 0 where
  pub received : ReceivesTheSame members g h
  pub next : GoTogether members (step g) (step h)

-- from any two machines that go together, whatever others did before
abbrev pub TicksTogether : Type 0
TicksTogether = (members : Members) (g h : Machine) → AreClosedAlike members g.system h.system → GoTogether members g h → g.halted ≡ false
    → steering members g ≡ steering members h → TickTogether members g h

-- machines that go together agree on the set
abbrev pub TogetherAgree : Type 0
TogetherAgree = (members : Members) (g h : Machine) → AreClosedAlike members g.system h.system → GoTogether members g h → Agree members g h

-- a tick steers nothing, and asks for no plan
pub record IsUnsteeredTick (members : Members) (g : Machine) : Type 0 where
  pub steers : steering members g ≡ no_steering
  pub asked : (step g).clock.asked ≡ None

-- so is each tick of a machine in which no partition may steer others, while no plan is asked for
abbrev pub UnsteeredTicks : Type 0
UnsteeredTicks = (members : Members) (g : Machine) → IsUnsteered g.system.conf → g.clock.asked ≡ None → IsUnsteeredTick members g
