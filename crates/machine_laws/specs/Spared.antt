-- Integrity: what a tick leaves of a partition that has no part in it.
use Rattle.std.specs.Prelude.{◌≡◌, ℕ, ◌==◌, ◌||◌, nat_le, Bool, true, false, Option, None, Some, slice_get}
use Rattle.std.specs.Int.{bit_at}
use Rattle.xm_base.specs.declared.partition.Order.{Order}
use Rattle.xm_base.specs.declared.partition.Order.TheVariants as order
use Rattle.machine_model.specs.Alone.{Alone, alone_local, alone_step}
use Rattle.machine_model.specs.Cue.{Cue, cue}
use Rattle.machine_model.specs.Laws.{part}
use Rattle.machine_model.specs.Machine.{Machine, step}
use Rattle.machine_model.specs.Partition.{PartitionState}
use Rattle.machine_model.specs.Emission.{AllHalted, AllReset, NoEvent, WholeEvent}
use Rattle.machine_model.specs.View.{PartitionView, view_of}

-- whether an order is a reset
abbrev pub is_reset_order : Option Order → Bool
is_reset_order None = false
is_reset_order (Some order.Halt) = false
is_reset_order (Some order.Suspend) = false
is_reset_order (Some order.Resume) = false
is_reset_order (Some order.Shutdown) = false
is_reset_order (Some (order.Reset mode status)) = true

-- whether a hypervisor event is a reset
abbrev pub is_reset_event : WholeEvent → Bool
is_reset_event NoEvent = false
is_reset_event (AllReset mode) = true
is_reset_event AllHalted = false

-- whether a partition receives an order to reset, or a reset of all
abbrev pub receives_reset : Cue → Bool
receives_reset cue = is_reset_order cue.order || is_reset_event cue.whole

-- whether an interrupt may come from outside: that of the hardware timer (0), of an order to shut down (2), of a message (3 and 4), or of a signal over a link
-- (8 and above)
abbrev pub comes_from_outside : ℕ → Bool
comes_from_outside n = n == 0 || n == 2 || n == 3 || n == 4 || nat_le 8 n

-- what is as it was of a partition after a tick in which it did no work and was not reset: all but its state, its hardware timer, the execution timer that an
-- order to halt disarms, and the interrupts that come from outside. No interrupt that waited is lost, and of the others none comes
pub record IsSpared (before after : PartitionState) : Type 0 where
  pub core : after.core ≡ before.core
  pub memory : after.memory ≡ before.memory
  pub made : after.made ≡ before.made
  pub traces : after.traces ≡ before.traces
  pub health : after.health ≡ before.health
  pub inputs : after.inputs ≡ before.inputs
  pub resets : after.resets ≡ before.resets
  pub reset_status : after.reset_status ≡ before.reset_status
  pub execution : after.clocks.execution ≡ before.clocks.execution
  pub enabled : after.traps.enabled ≡ before.traps.enabled
  pub base : after.traps.base ≡ before.traps.base
  pub mask : after.traps.mask ≡ before.traps.mask
  pub pending : (n : ℕ) → bit_at before.traps.pending n ≡ 1 → bit_at after.traps.pending n ≡ 1
  pub others : (n : ℕ) → comes_from_outside n ≡ false → bit_at after.traps.pending n ≡ bit_at before.traps.pending n

-- so it is of a partition alone, whatever else it receives
abbrev pub SparesAlone : Type 0
SparesAlone = (view : PartitionView) (a : Alone) (cue : Cue) → alone_local view a cue ≡ None → receives_reset cue ≡ false → IsSpared a.state (alone_step view a cue).state

-- and of each partition of the machine, whatever the others execute
pub record IsSparedIn (g : Machine) (q : ℕ) (ps : PartitionState) : Type 0 where
  pub after : PartitionState
  pub there : slice_get (step g).parts q ≡ Some after
  pub spared : IsSpared ps after

abbrev pub Spares : Type 0
Spares = (g : Machine) (q : ℕ) (ps : PartitionState) → g.halted ≡ false → slice_get g.parts q ≡ Some ps
    → alone_local (view_of g.system q) (part g q ps) (cue g q) ≡ None → receives_reset (cue g q) ≡ false → IsSparedIn g q ps
