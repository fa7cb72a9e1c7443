-- Rows on labels, on changes of a memory, and on whose slot a tick is in.
use Rattle.std.specs.Prelude.{◌≡◌, ℕ, None, Some}
use Rattle.std.specs.FinMap.{get, insert}
use Rattle.guest_bus.specs.Memory.{Memory}
use Rattle.machine_model.specs.Partition.{PartitionState}
use Rattle.machine_model.specs.View.{PartitionView}
use Rattle.machine_model.specs.rows.SlotRows.{two_parts}
use Rattle.work_laws.specs.Changes.{ChangesFew, most_changed}
use Rattle.work_laws.specs.Labels.{Labels, labelled}
use Rattle.work_laws.specs.Order.{slot_owner}

-- a partition has these labels, and all else as before: whether it is a system partition, which traces are kept, its health table, its areas, its ports and
-- its image
pub record LabelsAlone : Type 0 where
  pub name : (l : Labels) (view : PartitionView) → (labelled l view).part.name ≡ l.name
  pub console : (l : Labels) (view : PartitionView) → (labelled l view).part.console ≡ l.console
  pub need : (l : Labels) (view : PartitionView) → (labelled l view).part.need ≡ l.need
  pub system : (l : Labels) (view : PartitionView) → (labelled l view).part.system ≡ view.part.system
  pub traces : (l : Labels) (view : PartitionView) → (labelled l view).part.trace_mask ≡ view.part.trace_mask
  pub health : (l : Labels) (view : PartitionView) → (labelled l view).part.hm ≡ view.part.hm
  pub areas : (l : Labels) (view : PartitionView) → (labelled l view).part.areas ≡ view.part.areas
  pub ports : (l : Labels) (view : PartitionView) → (labelled l view).part.ports ≡ view.part.ports
  pub image : (l : Labels) (view : PartitionView) → (labelled l view).image ≡ view.image

-- the most is 64 bytes of a window, 8 of a store, and 4100 of a message with its validity; a memory with one byte more has changed at one address, and not at none
pub record CountedChanges : Type 0 where
  pub most : most_changed ≡ 4172
  pub one : (memory : Memory) (address byte : ℕ) → ChangesFew 1 memory (insert memory address byte)
  pub some : (memory : Memory) (address byte : ℕ) → get memory address ≡ None → ¬ ChangesFew 0 memory (insert memory address byte)

-- of two partitions that share a frame of four ticks each has two
pub record OwnersOfSlots : Type 0 where
  pub first : (one other : PartitionState) → slot_owner (two_parts 0 one other) ≡ Some 0
  pub goes_on : (one other : PartitionState) → slot_owner (two_parts 1 one other) ≡ Some 0
  pub second : (one other : PartitionState) → slot_owner (two_parts 2 one other) ≡ Some 1
