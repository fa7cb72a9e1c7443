-- The laws on ticks of one slot in which no timer of its partition falls due, of any machine.
use Rattle.std.specs.Prelude.{◌≡◌, ℕ, zero, suc, ◌<◌, Bool, true, false, List, IfSome, None}
use Rattle.virt_clocks.specs.Clocks.{PartitionClocks, next_due}
use Rattle.virt_traps.specs.Virtual.{due}
use Rattle.xm_base.specs.declared.partition.State.TheVariants.{Idle}
use Rattle.machine_model.specs.Health.{Worked}
use Rattle.machine_model.specs.LocalTick.{bounded, executed_in_tick, with_interrupts}
use Rattle.machine_model.specs.Machine.{Machine, copies, run, sight}
use Rattle.machine_model.specs.Partition.{PartitionState}
use Rattle.machine_model.specs.Emission as emission
use Rattle.machine_model.specs.View.{view_of}
use Rattle.span_model.specs.Meeting.{HasGone, NoDelivery, first_after, gone_on}
use Rattle.span_model.specs.NextLaws.{IsNextTick}
use Rattle.span_model.specs.SpanLaws.{IsAwake, its_areas, met, others_rested}
use Rattle.span_model.specs.Spans.{IsQuietSpan, IsSlotOf, IsSpan, IsEmittingSpan}

-- no timer of these clocks falls due up to this tick, where the partition runs, or does not
abbrev pub NoneFallsDue : ℕ → ℕ → Bool → PartitionClocks → Type 0
NoneFallsDue time last running clocks = IfSome (next_due time running clocks) (λ ticks. last < ticks)

-- a partition goes on in its slot, with its first interrupts none can be delivered, and then none of its timers falls due up to this tick
pub record IsUndisturbed (g : Machine) (p : ℕ) (first : Bool) (ps : PartitionState) (last : ℕ) : Type 0 where
  pub span : IsSpan g last
  pub goes : IsAwake g p first ps
  pub undelivered : NoDelivery (with_interrupts g.time first ps).traps
  pub timers : NoneFallsDue g.time last true (with_interrupts g.time first ps).clocks

-- all partitions, when this many ticks are done in which this one went undisturbed
abbrev pub gone_parts : ℕ → Machine → ℕ → Bool → PartitionState → List PartitionState
gone_parts zero g p first ps = g.parts
gone_parts (suc k) g p first ps = others_rested k p (gone_on (suc k) (its_areas g p) (met g first ps)) g

-- ticks in which instructions only go
abbrev pub UndisturbedTicks : Type 0
UndisturbedTicks =
    (g : Machine) (p : ℕ) (first : Bool) (ps : PartitionState) (last : ℕ) →
    IsUndisturbed g p first ps last → HasGone (suc last) (view_of g.system p) (met g first ps) →
    IsQuietSpan g last (gone_parts (suc last) g p first ps)

-- the work of a tick in which an instruction is executed
abbrev pub next_instruction : Machine → ℕ → PartitionState → Worked
next_instruction g p s = executed_in_tick (view_of g.system p) (copies g p) g.time (sight g p) s

-- the tick after them
abbrev pub UndisturbedNext : Type 0
UndisturbedNext =
    (g : Machine) (p : ℕ) (first : Bool) (ps : PartitionState) (done : ℕ) →
    IsUndisturbed g p first ps done → HasGone done (view_of g.system p) (met g first ps) →
    IsNextTick g done (gone_parts done g p first ps) p (first_after done first)
    (next_instruction (run g done) p (gone_on done (its_areas g p) (met g first ps)))

-- where its work does not reach beyond the partition, the whole machine is known, too
abbrev pub UndisturbedEmitting : Type 0
UndisturbedEmitting =
    (g : Machine) (p : ℕ) (first : Bool) (ps : PartitionState) (done : ℕ) (work : Worked) →
    IsUndisturbed g p first ps done → HasGone done (view_of g.system p) (met g first ps) →
    next_instruction (run g done) p (gone_on done (its_areas g p) (met g first ps)) ≡ work → bounded (view_of g.system p) work.act ≡ emission.Nothing →
    IsEmittingSpan g done p (others_rested done p work.after g) work.emitted

-- ticks of an idle partition that nothing wakes
abbrev pub UndisturbedIdle : Type 0
UndisturbedIdle =
    (g : Machine) (p : ℕ) (ps : PartitionState) (last : ℕ) →
    IsSpan g last → IsSlotOf g p false ps → ps.state ≡ Idle → due (with_interrupts g.time false ps).traps ≡ None →
    NoneFallsDue g.time last false (with_interrupts g.time false ps).clocks →
    IsQuietSpan g last (others_rested last p (with_interrupts g.time false ps) g)
