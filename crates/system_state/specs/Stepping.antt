-- The outcome of steps of a partition.
use Rattle.std.specs.Prelude.{◌≡◌, ℕ, ◌<◌, List}
use Rattle.guest_bus.specs.Memory.{Area, Memory}
use Rattle.sparc_step.specs.Execution.{Turned}
use Rattle.sparc_step.specs.Registers.{Registers}
use Rattle.sparc_step.specs.declared.outcome.Turn.{Turn}
use Rattle.sparc_step.specs.declared.outcome.Turn.TheVariants.{Went, Trap, Call}
use Rattle.virt_traps.specs.Delivery.{Delivered, Returned, delivered, returned}
use Rattle.virt_traps.specs.Moves.{Moved, move_made}
use Rattle.virt_traps.specs.Settled.{IsUndoneButSpill, settled}
use Rattle.machine_model.specs.Partition.{PartitionState}
use Rattle.machine_model.specs.OwnEffects.{flushed}

-- the outcome of at most this many steps, those before the last being known: all of them went, or the last did not.
-- Registers and memory are as that one leaves them; one that trapped leaves them as they were before it, but for a spill
abbrev pub IsGone : Turn → ℕ → ℕ → List Area → Turned → Registers → Memory → Type 0
IsGone Went went most areas before core memory = (went ≡ most) × (core ≡ before.core) × (memory ≡ before.memory)
IsGone (Trap type) went most areas before core memory =
    (went < most) × ((settled areas before.core before.memory).turn ≡ Trap type)
    × (core ≡ (settled areas before.core before.memory).core)
    × (memory ≡ (settled areas before.core before.memory).memory)
    × IsUndoneButSpill (Trap type) areas before.core core before.memory memory
IsGone Call went most areas before core memory =
    (went < most) × ((settled areas before.core before.memory).turn ≡ Call)
    × (core ≡ (settled areas before.core before.memory).core)
    × (memory ≡ (settled areas before.core before.memory).memory)

-- a partition with other registers and another memory
abbrev pub with_turned : Registers → Memory → PartitionState → PartitionState
with_turned core memory ps = record ps { core = core; memory = memory }

-- the delivery of a trap of a type to a partition with these areas
abbrev pub delivered_to : ℕ → List Area → PartitionState → Delivered
delivered_to type areas ps = delivered areas ps.traps ps.core ps.memory type

-- the return from a partition's trap
abbrev pub returned_in : List Area → PartitionState → Returned
returned_in areas ps = returned areas ps.traps ps.core ps.memory

-- the partition after it
abbrev pub after_return : Returned → PartitionState → PartitionState
after_return r ps = record ps { core = r.core; traps = r.traps }

-- the flush of a partition's windows
abbrev pub flushed_in : List Area → PartitionState → Moved
flushed_in areas ps = flushed 8 areas (move_made ps.core ps.memory)

-- the partition after it
abbrev pub after_flush : Moved → PartitionState → PartitionState
after_flush moved ps = record ps { core = moved.core; memory = moved.memory }
