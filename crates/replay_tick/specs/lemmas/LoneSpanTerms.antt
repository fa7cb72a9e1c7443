-- For proofs and private clauses: what many ticks of one partition in isolation leave, in each of which it receives nothing but whether the slot is its own.
use Rattle.std.specs.Prelude.{◌≡◌, ℕ, ◌+◌, ◌-◌, ◌<◌, ◌≤◌, ◌^◌, Bool, true, false, List, length, Option}
use Rattle.cyclic_plans.specs.PlanClock.{IsInFrame, ended}
use Rattle.cyclic_plans.specs.Slots.{frame_of}
use Rattle.sparc_step.specs.declared.outcome.Turn.{Turn}
use Rattle.virt_clocks.specs.Clocks.{PartitionClocks, if_counting, is_due}
use Rattle.virt_traps.specs.Settled.{settled}
use Rattle.xm_base.specs.declared.partition.State.TheVariants.{Ready}
use Rattle.xm_report.specs.Report.{ReportLine}
use Rattle.machine_model.specs.LocalTick.{turned_state, with_interrupts, worked}
use Rattle.machine_model.specs.Machine.{Machine, copies}
use Rattle.machine_model.specs.Observed.{asks}
use Rattle.machine_model.specs.Partition.{PartitionState, takes_turns}
use Rattle.machine_model.specs.Emission.{Unseen}
use Rattle.machine_model.specs.View.{view_of}
use Rattle.span_model.specs.Meeting.{NoDelivery}
use Rattle.span_model.specs.Passes.{part_at, with_part}
use Rattle.system_state.specs.State.{SysState, areas_in, memory_of, with_machine}
use Rattle.replay_model.specs.Step.{IsOfSystem}
use Rattle.tick_steps.specs.Machine.{IsMachine}
use Rattle.replay_tick.specs.lemmas.LoneWorkTerms.{IsLoneWork}
use Rattle.replay_tick.specs.LoneWork.{most_lines}
use Rattle.replay_tick.specs.declared.span.LoneSpan.{LoneSpan}
use Rattle.replay_tick.specs.declared.work.LoneWork.{LoneWork}
use Rattle.replay_tick.specs.LoneSpan.{IsLoneSpan}

-- at least one tick was done, and at most this many
pub record DoesSpan (done : LoneSpan) (p : ℕ) (own : Bool) (most : ℕ) (old new : SysState) (got : List ReportLine) : Type 0 where
  pub some : 0 < done.ticks
  pub within : done.ticks ≤ most
  pub span : IsLoneSpan done.emitted done.ticks p own old.machine new.machine got
  pub machine : IsMachine new
  pub system : IsOfSystem old.machine new.machine

-- what this many ticks of partition p need: they are of one frame, and the hypervisor has not halted
pub record CanSpan (p most : ℕ) (sys : SysState) : Type 0 where
  pub machine : IsMachine sys
  pub partition : p < length sys.machine.parts
  pub running : sys.machine.halted ≡ false
  pub some : 0 < most
  pub within : sys.machine.time + most ≤ sys.machine.clock.frame_start + frame_of sys.machine.system.conf sys.machine.clock.plan
  pub few : sys.machine.ticks + most ≤ 4000000000

-- no timer is due when this many ticks have passed, in which the partition runs or does not
pub record NoneDueAfter (time ticks : ℕ) (running : Bool) (clocks : PartitionClocks) : Type 0 where
  pub hardware : is_due (time + ticks) clocks.hardware_timer ≡ false
  pub execution : is_due (clocks.execution + ticks) (if_counting running clocks.execution_timer) ≡ false

-- nor earlier: none of this many ticks has one
abbrev pub NoneDueIn : ℕ → ℕ → Bool → PartitionClocks → Type 0
NoneDueIn time count running clocks = (ticks : ℕ) → ticks < count → NoneDueAfter time ticks running clocks

-- partition p takes its turn in a tick of a slot that began before, of the system before its work, and did this work
pub record HasWorked (p : ℕ) (came : Option LoneWork) (before now : SysState) (got : List ReportLine) : Type 0 where
  pub machine : IsMachine before
  pub partition : p < length before.machine.parts
  pub running : before.machine.halted ≡ false
  pub more : before.machine.ticks < 4000000000
  pub turns : takes_turns (part_at p before.machine).state ≡ true
  pub work : IsLoneWork came p (asks (view_of before.machine.system p) (part_at p before.machine) before.machine.time false) Unseen
      (worked (view_of before.machine.system p) (copies before.machine p) before.machine.time false Unseen (part_at p before.machine)) before now got

-- what the end of a tick needs
pub record CanEnd (p : ℕ) (sys : SysState) (lines : List ReportLine) : Type 0 where
  pub partition : p < length sys.machine.parts
  pub time : sys.machine.time + 1 < 2 ^ 64
  pub ticks : sys.machine.ticks + 1 < 2 ^ 64
  pub frame : IsInFrame sys.machine.system.conf sys.machine.clock sys.machine.time
  pub room : length lines < most_lines

-- the machine when this many ticks of its frame have passed, which left this state of partition p
abbrev pub ended_at : ℕ → ℕ → PartitionState → Machine → Machine
ended_at ticks p ps g = record (with_part p ps g) { clock = ended g.system.conf g.clock (g.time + ticks - 1); time = g.time + ticks; ticks = g.ticks + ticks }

-- the machine when this many ticks have passed, but for its plan
abbrev pub aged : ℕ → ℕ → PartitionState → Machine → Machine
aged ticks p ps g = record (with_part p ps g) { time = g.time + ticks; ticks = g.ticks + ticks }

-- an instruction of partition p had this turn in a tick of a slot that began before, in which it met no interrupt; the registers and the
-- memory are those that it left
pub record HasTurnedAlone (p : ℕ) (turn : Turn) (pc : ℕ) (before now : SysState) : Type 0 where
  pub machine : IsMachine before
  pub partition : p < length before.machine.parts
  pub running : before.machine.halted ≡ false
  pub more : before.machine.ticks < 4000000000
  pub ready : (part_at p before.machine).state ≡ Ready
  pub met : with_interrupts before.machine.time false (part_at p before.machine) ≡ part_at p before.machine
  pub undelivered : NoDelivery (part_at p before.machine).traps
  pub came : turn ≡ (settled (areas_in p before.machine) (part_at p before.machine).core (memory_of p before.machine)).turn
  pub state : now ≡ with_machine (with_part p (turned_state (settled (areas_in p before.machine) (part_at p before.machine).core (memory_of p before.machine)) (part_at p before.machine)) before.machine) before
  pub at : pc ≡ (part_at p before.machine).core.pc
