-- The laws on ticks of one slot or gap of any machine.
use Rattle.std.specs.Prelude.{◌≡◌, ℕ, zero, suc, ◌+◌, ◌⊎◌, Bool, true, false, List, map, None, slice_set}
use Rattle.guest_bus.specs.Memory.{Area}
use Rattle.virt_traps.specs.Virtual.{due}
use Rattle.xm_base.specs.declared.partition.State.TheVariants.{Idle}
use Rattle.machine_model.specs.LocalTick.{goes_on, with_interrupts}
use Rattle.machine_model.specs.Machine.{Machine, turn_of}
use Rattle.machine_model.specs.Partition.{PartitionState, areas_of, rested, takes_turns}
use Rattle.machine_model.specs.View.{view_of}
use Rattle.span_model.specs.Meeting.{HasGone, NoDelivery, awake, gone_on, in_slot, met_in_slot, with_interrupts_to}
use Rattle.span_model.specs.Spans.{IsQuietSpan, IsSlotOf, IsSpan}

-- it is a gap, or the slot of a partition that takes no turns: it is suspended, or has halted
abbrev pub IsNobodys : Machine → Type 0
IsNobodys g = (turn_of g ≡ None) ⊎ ((p : ℕ) × (first : Bool) × (ps : PartitionState) × IsSlotOf g p first ps × (takes_turns ps.state ≡ false))

-- all partitions, rested in this tick
abbrev pub all_rested : ℕ → Machine → List PartitionState
all_rested last g = map (rested (g.time + last)) g.parts

-- in such ticks all partitions rest
abbrev pub RestingTicks : Type 0
RestingTicks = (g : Machine) (last : ℕ) → IsSpan g last → IsNobodys g → IsQuietSpan g last (all_rested last g)

-- all partitions, rested in this tick, but this one
abbrev pub others_rested : ℕ → ℕ → PartitionState → Machine → List PartitionState
others_rested last p new g = slice_set (all_rested last g) p new

-- it is the slot of a partition that goes on: it is ready, or it is idle and woken by the start of its slot or by an interrupt
pub record IsAwake (g : Machine) (p : ℕ) (first : Bool) (ps : PartitionState) : Type 0 where
  pub slot : IsSlotOf g p first ps
  pub wakes : goes_on (with_interrupts g.time first ps).state first (due (with_interrupts g.time first ps).traps) ≡ true

-- the partition with the interrupts of this tick, and awake
abbrev pub met : Machine → Bool → PartitionState → PartitionState
met g first ps = awake (with_interrupts g.time first ps)

-- the partition with the interrupts of the ticks up to this one, and awake
abbrev pub met_to : ℕ → Machine → Bool → PartitionState → PartitionState
met_to last g first ps = awake (with_interrupts_to g.time last first ps)

-- the areas of a partition's memory
abbrev pub its_areas : Machine → ℕ → List Area
its_areas g p = areas_of (view_of g.system p)

-- instructions of the partition of the slot that only go, one a tick, and no interrupt can be delivered
abbrev pub GoingTicks : Type 0
GoingTicks =
    (g : Machine) (p : ℕ) (first : Bool) (ps : PartitionState) (last : ℕ) →
    IsSpan g last → IsAwake g p first ps → NoDelivery (with_interrupts_to g.time last first ps).traps → HasGone (suc last) (view_of g.system p) (met g first ps) →
    IsQuietSpan g last (others_rested last p (gone_on (suc last) (its_areas g p) (met_to last g first ps)) g)

-- the partition of the slot, when this many ticks are done in which it went
abbrev pub its_state : ℕ → Machine → ℕ → Bool → PartitionState → PartitionState
its_state k g p first ps = in_slot k g.time (its_areas g p) first ps

-- that partition in the next tick, awake, when its interrupts have come
abbrev pub its_met : ℕ → Machine → ℕ → Bool → PartitionState → PartitionState
its_met k g p first ps = met_in_slot k g.time (its_areas g p) first ps

-- all partitions
abbrev pub going_parts : ℕ → Machine → ℕ → Bool → PartitionState → List PartitionState
going_parts zero g p first ps = g.parts
going_parts (suc k) g p first ps = others_rested k p (its_state (suc k) g p first ps) g

-- the slot of an idle partition that nothing wakes: it takes its turn, and looks at its timers, but its execution clock stands
abbrev pub IdleTicks : Type 0
IdleTicks =
    (g : Machine) (p : ℕ) (ps : PartitionState) (last : ℕ) →
    IsSpan g last → IsSlotOf g p false ps → ps.state ≡ Idle → due (with_interrupts (g.time + last) false ps).traps ≡ None →
    IsQuietSpan g last (others_rested last p (with_interrupts (g.time + last) false ps) g)
