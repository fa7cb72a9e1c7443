-- What the ticks of a slot do to a partition beside its instructions.
use Rattle.std.specs.Prelude.{ℕ, ◌+◌}
use Rattle.machine_model.specs.Partition.{PartitionState}

-- a partition with this many ticks more on its execution clock
abbrev pub counted_on : ℕ → PartitionState → PartitionState
counted_on count ps = record ps { clocks = record ps.clocks { execution = ps.clocks.execution + count } }
