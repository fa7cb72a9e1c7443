-- Observing calls: those that show a system partition something of the rest of the system.
use Rattle.std.specs.Prelude.{ℕ, ◌==◌, ◌&&◌, ◌||◌, Bool, true, false, not, nat_lt, if◌then◌else◌, Option, Some, None}
use Rattle.sparc_step.specs.Registers.{Registers, register_at}
use Rattle.sparc_step.specs.declared.outcome.Turn.{Turn}
use Rattle.sparc_step.specs.declared.outcome.Turn.TheVariants.{Went, Trap, Call}
use Rattle.virt_traps.specs.Settled.{settled}
use Rattle.virt_traps.specs.Virtual.{due}
use Rattle.machine_model.specs.Lists.{then_some}
use Rattle.machine_model.specs.LocalTick.{goes_on, with_interrupts}
use Rattle.machine_model.specs.Partition.{PartitionState, areas_of}
use Rattle.machine_model.specs.View.{PartitionView}

-- what an observing call asks for
pub data Question : Type 0 where
  PartitionStatus : (id : ℕ) → Question
  SystemStatus : Question
  CurrentPlan : Question
  PlanStatus : Question
  TraceEntryOf : (id number : ℕ) → Question
  TraceCounts : (id : ℕ) → Question
  HealthEntryOf : (id number : ℕ) → Question
  HealthCounts : (id : ℕ) → Question

-- an observing call: what it asks for, and where the answer goes
pub record Observation : Type 0 where
  pub question : Question
  pub address : ℕ
  pub size : ℕ

-- a question about another partition that there is
abbrev pub about_other : PartitionView → ℕ → Question → ℕ → ℕ → Option Observation
about_other view id question address size =
    then_some (not (id == view.id) && nat_lt id view.sees.parts) (record { question = question; address = address; size = size })

-- a question about the system
abbrev pub about_system : Question → ℕ → ℕ → Option Observation
about_system question address size = Some (record { question = question; address = address; size = size })

-- the observing call with a number and these arguments
abbrev pub observing : PartitionView → ℕ → ℕ → ℕ → ℕ → Option Observation
observing view number a b c =
    if number == 8 then about_other view a (PartitionStatus a) b 20
    else if number == 11 then about_system SystemStatus a 8
    else if number == 14 then (if a == 0 || not (nat_lt a view.sees.plans) then None else about_system CurrentPlan b 4)
    else if number == 15 then about_system PlanStatus a 20
    else if number == 25 then about_other view a (TraceEntryOf a b) c 24
    else if number == 26 then about_other view a (TraceCounts a) b 8
    else if number == 28 then about_other view a (HealthEntryOf a b) c 20
    else if number == 29 then about_other view a (HealthCounts a) b 8
    else None

-- the observing call that a system partition with these registers makes
abbrev pub observed_by : PartitionView → Registers → Option Observation
observed_by view core =
    if view.part.system then observing view (register_at core 8) (register_at core 9) (register_at core 10) (register_at core 11) else None

-- an instruction that is a hypercall may observe
abbrev pub if_call : Turn → PartitionView → Registers → Option Observation
if_call Went view core = None
if_call (Trap type) view core = None
if_call Call view core = observed_by view core

-- the call that is made where an instruction is executed
unfoldable pub asked_by : PartitionView → PartitionState → Option Observation
asked_by view ps =
    let t = settled (areas_of view) ps.core ps.memory in
    if_call t.turn view t.core

-- no call is made where an interrupt is delivered
abbrev pub unless_delivered : Option ℕ → Bool → PartitionView → PartitionState → Option Observation
unless_delivered None enabled view ps = asked_by view ps
unless_delivered (Some n) true view ps = None
unless_delivered (Some n) false view ps = asked_by view ps

-- the observing call that a partition makes in a tick of its slot, where it makes one
unfoldable pub asks : PartitionView → PartitionState → ℕ → Bool → Option Observation
asks view ps time first =
    let ready = with_interrupts time first ps in
    if goes_on ready.state first (due ready.traps) then unless_delivered (due ready.traps) ready.traps.enabled view ready else None
