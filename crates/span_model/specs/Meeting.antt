-- A partition in many ticks of its slot: its instructions, and the interrupts that the ticks bring.
use Rattle.std.specs.Prelude.{◌≡◌, ℕ, zero, suc, ◌+◌, ◌⊎◌, Bool, false, List, None}
use Rattle.guest_bus.specs.Memory.{Area}
use Rattle.sparc_step.specs.declared.outcome.Turn.TheVariants.{Went}
use Rattle.virt_clocks.specs.Clocks.{is_due, looked_at}
use Rattle.virt_traps.specs.Virtual.{VirtualTraps, due}
use Rattle.xm_base.specs.declared.partition.State.TheVariants.{Ready}
use Rattle.machine_model.specs.Partition.{PartitionState, areas_of, execution_timer, hardware_timer, raised_if, slot_start}
use Rattle.machine_model.specs.View.{PartitionView}
use Rattle.virt_traps.specs.Stepping.{stepped}

-- a partition at the beginning of ticks of its slot: the start of the slot is an interrupt
abbrev pub began : Bool → PartitionState → PartitionState
began first ps = record ps { traps = raised_if first slot_start ps.traps }

-- a partition after this many instructions, each of which took a tick
abbrev pub gone_on : ℕ → List Area → PartitionState → PartitionState
gone_on count areas ps = record ps {
  core = (stepped count areas ps.core ps.memory).core;
  memory = (stepped count areas ps.core ps.memory).memory;
  clocks = record ps.clocks { execution = ps.clocks.execution + count };
}

-- this many instructions of a partition only went
abbrev pub HasGone : ℕ → PartitionView → PartitionState → Type 0
HasGone count view ps = (stepped count (areas_of view) ps.core ps.memory).turn ≡ Went

-- a partition whose two timers are looked at, at these readings of their clocks
unfoldable pub timers_looked_at : ℕ → ℕ → PartitionState → PartitionState
timers_looked_at hardware execution ps = record ps {
  traps = raised_if (is_due execution ps.clocks.execution_timer) execution_timer (raised_if (is_due hardware ps.clocks.hardware_timer) hardware_timer ps.traps);
  clocks = record ps.clocks {
    hardware_timer = looked_at hardware ps.clocks.hardware_timer;
    execution_timer = looked_at execution ps.clocks.execution_timer;
  };
}

-- a partition that runs in its slot from a time on, with the interrupts of its ticks up to this one
abbrev pub with_interrupts_to : ℕ → ℕ → Bool → PartitionState → PartitionState
with_interrupts_to time last first ps = timers_looked_at (time + last) (ps.clocks.execution + last) (began first ps)

-- a partition that goes on is ready
abbrev pub awake : PartitionState → PartitionState
awake ps = record ps { state = Ready }

-- the partition of a slot, when this many ticks are done in which it went
abbrev pub in_slot : ℕ → ℕ → List Area → Bool → PartitionState → PartitionState
in_slot zero time areas first ps = ps
in_slot (suc k) time areas first ps = gone_on (suc k) areas (awake (with_interrupts_to time k first ps))

-- the partition in the next tick, when its interrupts have come
abbrev pub met_in_slot : ℕ → ℕ → List Area → Bool → PartitionState → PartitionState
met_in_slot k time areas first ps = gone_on k areas (awake (with_interrupts_to time k first ps))

-- no interrupt can be delivered: none is due, or no traps are taken
abbrev pub NoDelivery : VirtualTraps → Type 0
NoDelivery traps = (due traps ≡ None) ⊎ (traps.enabled ≡ false)

-- whether a tick is the first of its slot, when this many are done
abbrev pub first_after : ℕ → Bool → Bool
first_after zero first = first
first_after (suc done) first = false
