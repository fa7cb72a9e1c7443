-- The laws on the last of many ticks in which nothing is emitted: whose slot it is in, and that nobody is reached.
use Rattle.std.specs.Prelude.{◌≡◌, ℕ, suc, Bool, true, false, Option, None, Some, is_some}
use Rattle.virt_traps.specs.Virtual.{due}
use Rattle.xm_base.specs.declared.partition.State.TheVariants.{Idle}
use Rattle.machine_model.specs.LocalTick.{with_interrupts}
use Rattle.machine_model.specs.Machine.{Machine, SlotTurn, act_of, local, run, sight, turn_of}
use Rattle.machine_model.specs.Partition.{PartitionState}
use Rattle.machine_model.specs.Emission as emission
use Rattle.machine_model.specs.Emission.{Unseen}
use Rattle.machine_model.specs.View.{view_of}
use Rattle.span_model.specs.Meeting.{HasGone, first_after}
use Rattle.span_model.specs.SpanLaws.{IsNobodys, met}
use Rattle.span_model.specs.Spans.{IsSlotOf, IsSpan}
use Rattle.span_model.specs.Undisturbed.{IsUndisturbed, NoneFallsDue}

-- whose slot a tick is in, when this many of the slot or gap are done
abbrev pub turn_after : ℕ → Option SlotTurn → Option SlotTurn
turn_after done None = None
turn_after done (Some turn) = Some (record { part = turn.part; first = first_after done turn.first })

-- when this many ticks are done, the hypervisor has not halted, and the next tick is of the same slot or gap; a partition works in it, or none
-- does, and it reaches beyond no partition; nobody is shown anything
pub record IsCalm (g : Machine) (done : ℕ) (works : Bool) : Type 0 where
  pub running : (run g done).halted ≡ false
  pub turn : turn_of (run g done) ≡ turn_after done (turn_of g)
  pub worked : is_some (local (run g done)) ≡ works
  pub act : act_of (local (run g done)) ≡ emission.Nothing
  pub unseen : (p : ℕ) → sight (run g done) p ≡ Unseen

-- of ticks in which all partitions rest
abbrev pub RestingCalm : Type 0
RestingCalm = (g : Machine) (last : ℕ) → IsSpan g last → IsNobodys g → IsCalm g last false

-- of ticks of an idle partition that nothing wakes
abbrev pub IdleCalm : Type 0
IdleCalm =
    (g : Machine) (p : ℕ) (ps : PartitionState) (last : ℕ) →
    IsSpan g last → IsSlotOf g p false ps → ps.state ≡ Idle → due (with_interrupts g.time false ps).traps ≡ None →
    NoneFallsDue g.time last false (with_interrupts g.time false ps).clocks →
    IsCalm g last true

-- of instructions that only go
abbrev pub GoneCalm : Type 0
GoneCalm =
    (g : Machine) (p : ℕ) (first : Bool) (ps : PartitionState) (last : ℕ) →
    IsUndisturbed g p first ps last → HasGone (suc last) (view_of g.system p) (met g first ps) →
    IsCalm g last true
