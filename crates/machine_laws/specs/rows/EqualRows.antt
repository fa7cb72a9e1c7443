-- Rows on a partition that is the same in two machines.
use Rattle.std.specs.Prelude.{◌≡◌, ◌≢◌}
use Rattle.machine_model.specs.Laws.{alone_part_at}
use Rattle.machine_model.specs.Partition.{PartitionState}
use Rattle.machine_model.specs.rows.SlotRows.{two_parts}

-- partition 0 is the same whatever the other one is, and another one where a tick more is done
pub record SameForTheFirst : Type 0 where
  pub same : (ps one other : PartitionState) → alone_part_at (two_parts 1 ps one) 0 ≡ alone_part_at (two_parts 1 ps other) 0
  pub later : (ps one : PartitionState) → alone_part_at (two_parts 1 ps one) 0 ≢ alone_part_at (two_parts 2 ps one) 0
