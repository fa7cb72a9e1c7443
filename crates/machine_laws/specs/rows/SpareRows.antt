-- Rows on what is spared of a partition, and on what is not.
use Rattle.std.specs.Prelude.{◌≡◌, ℕ, ◌+◌, true, false, [], ◌∷◌, None, Some}
use Rattle.std.specs.Int.{bit_at}
use Rattle.virt_traps.specs.Virtual.{raised}
use Rattle.xm_base.specs.declared.partition.Mode.TheVariants.{Cold, Warm}
use Rattle.xm_base.specs.declared.partition.Order.TheVariants as order
use Rattle.machine_model.specs.Partition.{PartitionState}
use Rattle.machine_model.specs.Emission.{AllHalted, AllReset, NoEvent}
use Rattle.machine_laws.specs.Spared.{IsSpared, comes_from_outside, is_reset_event, is_reset_order}

-- the interrupts that may come from outside: the hardware timer's, an order to shut down, messages of the two kinds and signals over links; and not the
-- execution timer's, the start of a slot or those that have no meaning
pub record OutsideInterrupts : Type 0 where
  pub hardware_timer : comes_from_outside 0 ≡ true
  pub execution_timer : comes_from_outside 1 ≡ false
  pub shut_down : comes_from_outside 2 ≡ true
  pub sample : comes_from_outside 3 ≡ true
  pub message : comes_from_outside 4 ≡ true
  pub slot_start : comes_from_outside 5 ≡ false
  pub sixth : comes_from_outside 6 ≡ false
  pub seventh : comes_from_outside 7 ≡ false
  pub first_link : comes_from_outside 8 ≡ true
  pub last_link : comes_from_outside 15 ≡ true

-- which orders and events are resets
pub record ResetRows : Type 0 where
  pub none : is_reset_order None ≡ false
  pub halt : is_reset_order (Some order.Halt) ≡ false
  pub suspend : is_reset_order (Some order.Suspend) ≡ false
  pub resume : is_reset_order (Some order.Resume) ≡ false
  pub shut_down : is_reset_order (Some order.Shutdown) ≡ false
  pub cold : (status : ℕ) → is_reset_order (Some (order.Reset Cold status)) ≡ true
  pub warm : (status : ℕ) → is_reset_order (Some (order.Reset Warm status)) ≡ true
  pub no_event : is_reset_event NoEvent ≡ false
  pub all_cold : is_reset_event (AllReset Cold) ≡ true
  pub all_warm : is_reset_event (AllReset Warm) ≡ true
  pub all_halted : is_reset_event AllHalted ≡ false

-- a partition whose execution clock has counted is not spared, nor is one that has lost an interrupt, one to which the start of a slot has come, or one that
-- has lost a port
pub record NotSpared : Type 0 where
  pub clock : (ps : PartitionState) → ¬ IsSpared ps (record ps { clocks = record ps.clocks { execution = ps.clocks.execution + 1 } })
  pub lost : (ps : PartitionState) → bit_at ps.traps.pending 3 ≡ 1 → ¬ IsSpared ps (record ps { traps = record ps.traps { pending = 0 } })
  pub came : (ps : PartitionState) → bit_at ps.traps.pending 5 ≡ 0 → ¬ IsSpared ps (record ps { traps = raised 5 ps.traps })
  pub ports : (ps : PartitionState) → ps.made ≡ true ∷ [] → ¬ IsSpared ps (record ps { made = [] })
