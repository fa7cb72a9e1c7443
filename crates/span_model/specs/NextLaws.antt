-- The laws on the tick that follows ticks of one slot, of any machine.
use Rattle.std.specs.Prelude.{◌≡◌, ℕ, suc, ◌<◌, Bool, false, List, Some}
use Rattle.virt_traps.specs.Virtual.{due}
use Rattle.machine_model.specs.Health.{Worked}
use Rattle.machine_model.specs.Lines.{lines, lines_of, local_said, said, step_lines, step_said}
use Rattle.machine_model.specs.LocalTick.{bounded, delivered_or_executed, seen_outside}
use Rattle.machine_model.specs.Machine.{Machine, after, copies, happened, local, run, sight, step, tick_of, turn_of}
use Rattle.machine_model.specs.Partition.{PartitionState}
use Rattle.machine_model.specs.Emission as emission
use Rattle.machine_model.specs.View.{view_of}
use Rattle.span_model.specs.Meeting.{HasGone, NoDelivery, first_after, with_interrupts_to}
use Rattle.span_model.specs.SpanLaws.{IsAwake, going_parts, its_met, met, others_rested}
use Rattle.span_model.specs.Spans.{IsUnderway, IsSpan, IsEmittingSpan}

-- the next tick of the machine is in this slot, and its partition's local tick has this work
pub record IsTickOf (g : Machine) (p : ℕ) (first : Bool) (work : Worked) : Type 0 where
  pub turn : turn_of g ≡ Some (record { part = p; first = first })
  pub local : local g ≡ Some (seen_outside (view_of g.system p) g.ticks work)
  pub state : step g ≡ after g (happened g)
  pub lines : step_lines g ≡ lines_of g (happened g)
  pub said : (q : ℕ) → step_said g q ≡ local_said (tick_of (happened g) q)

-- the work of a partition that goes on, in the machine's next tick: the delivery of an interrupt, or an instruction
abbrev pub next_work : Machine → ℕ → PartitionState → Worked
next_work g p s = delivered_or_executed (due s.traps) s.traps.enabled (view_of g.system p) (copies g p) g.time (sight g p) s

-- the tick of a partition that goes on
abbrev pub MetTick : Type 0
MetTick = (g : Machine) (p : ℕ) (first : Bool) (ps : PartitionState) → g.halted ≡ false → IsAwake g p first ps → IsTickOf g p first (next_work g p (met g first ps))

-- this many ticks leave these partitions and report nothing, and the next tick is in the slot of this partition, with this work
pub record IsNextTick (g : Machine) (done : ℕ) (parts : List PartitionState) (p : ℕ) (first : Bool) (work : Worked) : Type 0 where
  pub before : IsUnderway g done parts
  pub tick : IsTickOf (run g done) p first work
  pub state : run g (suc done) ≡ after (run g done) (happened (run g done))
  pub lines : lines g (suc done) ≡ lines_of (run g done) (happened (run g done))
  pub said : (q : ℕ) → said g (suc done) q ≡ local_said (tick_of (happened (run g done)) q)

-- what holds of this many ticks in which the partition of the slot only went
pub record HasGoneOn (g : Machine) (p : ℕ) (first : Bool) (ps : PartitionState) (done : ℕ) : Type 0 where
  pub span : IsSpan g done
  pub goes : IsAwake g p first ps
  pub undelivered : (k : ℕ) → k < done → NoDelivery (with_interrupts_to g.time k first ps).traps
  pub gone : HasGone done (view_of g.system p) (met g first ps)

-- the tick after those in which a partition only went
abbrev pub NextTick : Type 0
NextTick =
    (g : Machine) (p : ℕ) (first : Bool) (ps : PartitionState) (done : ℕ) → HasGoneOn g p first ps done →
    IsNextTick g done (going_parts done g p first ps) p (first_after done first) (next_work (run g done) p (its_met done g p first ps))

-- where the work of that tick does not reach beyond the partition, the whole machine is known, too
abbrev pub EmittingTick : Type 0
EmittingTick =
    (g : Machine) (p : ℕ) (first : Bool) (ps : PartitionState) (done : ℕ) (work : Worked) → HasGoneOn g p first ps done →
    next_work (run g done) p (its_met done g p first ps) ≡ work → bounded (view_of g.system p) work.act ≡ emission.Nothing →
    IsEmittingSpan g done p (others_rested done p work.after g) work.emitted
