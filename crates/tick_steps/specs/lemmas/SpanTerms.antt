-- For proofs and private clauses: the outcome of ticks of one slot or gap.
use Rattle.std.specs.Prelude.{◌≡◌, ℕ, zero, suc, ◌+◌, ◌-◌, ◌<◌, ◌≤◌, Bool, false, List, [], ◌++◌, length, None, Some}
use Rattle.cyclic_plans.specs.PlanClock.{AsksPlan, IsInFrame}
use Rattle.cyclic_plans.specs.Slots.{frame_of}
use Rattle.sparc_step.specs.declared.outcome.Turn.{Turn}
use Rattle.virt_clocks.specs.Clocks.{PartitionClocks, is_due}
use Rattle.virt_traps.specs.Settled.{settled}
use Rattle.virt_traps.specs.Virtual.{due}
use Rattle.xm_base.specs.declared.partition.State.TheVariants.{Idle}
use Rattle.xm_ports.specs.Channels.{shapes_of}
use Rattle.xm_report.specs.Report.{ReportLine}
use Rattle.system_state.specs.Serving.{CanBeEmitted}
use Rattle.system_state.specs.State.{SysState, areas_in, memory_of, with_machine}
use Rattle.system_state.specs.declared.served.Note.TheVariants as note
use Rattle.machine_model.specs.Facts.{AreEnds}
use Rattle.machine_model.specs.Lines.{lines}
use Rattle.machine_model.specs.LocalTick.{turned_state, with_interrupts}
use Rattle.machine_model.specs.Machine.{Machine, run, turn_of}
use Rattle.machine_model.specs.Partition.{PartitionState}
use Rattle.machine_model.specs.View.{view_of}
use Rattle.span_model.specs.Calm.{turn_after}
use Rattle.span_model.specs.Meeting.{HasGone, gone_on}
use Rattle.span_model.specs.Passes.{part_at, rest_but, with_part}
use Rattle.span_model.specs.SpanLaws.{IsAwake, its_areas, met}
use Rattle.span_model.specs.Spans.{IsSlotOf, IsStretch}
use Rattle.span_model.specs.Undisturbed.{IsUndisturbed}
use Rattle.tick_steps.specs.Kept.{AreBareTicks, kept_by, kept_tick}
use Rattle.tick_steps.specs.Quiet.{AreQuiet, ends_in}
use Rattle.tick_steps.specs.declared.beyond.Beyond.TheVariants as beyond
use Rattle.tick_steps.specs.declared.span.Span.{Span}
use Rattle.tick_steps.specs.Span.{console_lines, ends_so}

-- the span has what is to be kept of the last of its ticks
abbrev pub IsLastKept : Span → Machine → Machine → Type 0
IsLastKept span old new =
    kept_tick (run old (span.ticks - 1))
    ≡ kept_by (turn_after (span.ticks - 1) (turn_of old)) span.worked span.note span.reach (memory_of span.part new)

-- ticks of one slot or gap were done, from a machine that stands before the system's; in the last the hypervisor may have halted; only the
-- last has lines, which are these, but for one of bytes for the console, only the last may have an act that ends a stretch, and only in the
-- last partitions may receive more than whose slot it is
pub record AreDoneFrom (span : Span) (most : ℕ) (g : Machine) (old new : SysState) (got : List ReportLine) : Type 0 where
  pub some : 0 < span.ticks
  pub within : span.ticks ≤ most
  pub running : (run g (span.ticks - 1)).halted ≡ false
  pub state : new ≡ with_machine (run g span.ticks) old
  pub silent : lines g (span.ticks - 1) ≡ []
  pub lines : lines g span.ticks ≡ console_lines span g new.machine ++ got
  pub few : length got ≤ 40
  pub part : span.part < length new.machine.parts
  pub readable : CanBeEmitted span.note (areas_in span.part new.machine)
  pub kept : IsLastKept span g new.machine
  pub quiet : AreQuiet span.ticks g
  pub ends : ends_in (run g (span.ticks - 1)) ≡ ends_so span.note span.reach
  pub bare : AreBareTicks span.ticks g

-- the last of the ticks of a span emits nothing, it has no lines, and it reaches beyond no partition
pub record IsSilent (span : Span) (got : List ReportLine) : Type 0 where
  pub note : span.note ≡ note.Nothing
  pub reach : span.reach ≡ beyond.Nothing
  pub lines : got ≡ []

-- what ticks of a slot of partition p need, at most this many
pub record CanTake (p most : ℕ) (sys : SysState) : Type 0 where
  pub partition : p < length sys.machine.parts
  pub running : sys.machine.halted ≡ false
  pub shapes : sys.shapes ≡ shapes_of sys.machine.system.conf
  pub frame : IsInFrame sys.machine.system.conf sys.machine.clock sys.machine.time
  pub within : sys.machine.time + most ≤ sys.machine.clock.frame_start + frame_of sys.machine.system.conf sys.machine.clock.plan
  pub asked : AsksPlan sys.machine.system.conf sys.machine.clock
  pub some : 0 < most
  pub few : sys.machine.ticks + most ≤ 4000000000
  pub timed : sys.machine.time ≤ sys.machine.ticks
  pub traces : (part_at p sys.machine).traces.next ≤ sys.machine.ticks
  pub health : (part_at p sys.machine).health.next ≤ sys.machine.ticks + 1
  pub execution : (part_at p sys.machine).clocks.execution ≤ sys.machine.ticks
  pub made : AreEnds (view_of sys.machine.system p) (part_at p sys.machine).made

-- no timer is due
pub record NoneDue (time : ℕ) (clocks : PartitionClocks) : Type 0 where
  pub hardware : is_due time clocks.hardware_timer ≡ false
  pub execution : is_due clocks.execution clocks.execution_timer ≡ false

-- the partition of a slot that goes on, of the machine before the slot's ticks: the interrupts of the first have come, and it is awake
pub record HasMetInterrupts (g : Machine) (p : ℕ) (first : Bool) (ps : PartitionState) (most : ℕ) (sys : SysState) : Type 0 where
  pub goes : IsAwake g p first ps
  pub running : g.halted ≡ false
  pub frame : IsInFrame g.system.conf g.clock g.time
  pub stretch : IsStretch g most
  pub there : p < length g.parts
  pub met : sys ≡ with_machine (with_part p (met g first ps) g) sys

-- it went in this many ticks, and the registers and the memory are those that the next instruction left, which had this turn
pub record HasTurned (turn : Turn) (g : Machine) (p : ℕ) (first : Bool) (ps : PartitionState) (went most pc : ℕ) (sys : SysState) : Type 0 where
  pub is : IsUndisturbed g p first ps went
  pub gone : HasGone went (view_of g.system p) (met g first ps)
  pub there : p < length g.parts
  pub fewer : went < most
  pub came : (settled (its_areas g p) (gone_on went (its_areas g p) (met g first ps)).core (gone_on went (its_areas g p) (met g first ps)).memory).turn ≡ turn
  pub state : sys ≡ with_machine (with_part p (turned_state
      (settled (its_areas g p) (gone_on went (its_areas g p) (met g first ps)).core (gone_on went (its_areas g p) (met g first ps)).memory)
      (gone_on went (its_areas g p) (met g first ps))) g) sys
  pub at : pc ≡ (gone_on went (its_areas g p) (met g first ps)).core.pc

-- the machine when this many ticks of a slot have passed in which its partition p only went: all others have rested
abbrev pub machine_underway : ℕ → ℕ → Machine → Machine
machine_underway p zero g = g
machine_underway p (suc k) g = record g { parts = (rest_but (Some p) (g.time + k) g).parts; time = g.time + suc k; ticks = g.ticks + suc k }

-- what the tick after this many needs, in which the partition of the slot only went
pub record CanTakeAfter (p went : ℕ) (sys : SysState) : Type 0 where
  pub partition : p < length sys.machine.parts
  pub running : sys.machine.halted ≡ false
  pub shapes : sys.shapes ≡ shapes_of sys.machine.system.conf
  pub frame : IsInFrame sys.machine.system.conf sys.machine.clock (sys.machine.time + went)
  pub asked : AsksPlan sys.machine.system.conf sys.machine.clock
  pub few : sys.machine.ticks + went < 4000000000
  pub timed : sys.machine.time ≤ sys.machine.ticks
  pub traces : (part_at p sys.machine).traces.next ≤ sys.machine.ticks
  pub health : (part_at p sys.machine).health.next ≤ sys.machine.ticks + 1
  pub execution : (part_at p sys.machine).clocks.execution ≤ sys.machine.ticks + went
  pub made : AreEnds (view_of sys.machine.system p) (part_at p sys.machine).made

-- the slot of an idle partition that nothing wakes, of the machine before its ticks: the interrupts of the first have come
pub record IsIdle (g : Machine) (p : ℕ) (ps : PartitionState) (most : ℕ) (sys : SysState) : Type 0 where
  pub slot : IsSlotOf g p false ps
  pub idle : ps.state ≡ Idle
  pub none : due (with_interrupts g.time false ps).traps ≡ None
  pub running : g.halted ≡ false
  pub frame : IsInFrame g.system.conf g.clock g.time
  pub stretch : IsStretch g most
  pub there : p < length g.parts
  pub met : sys ≡ with_machine (with_part p (with_interrupts g.time false ps) g) sys
