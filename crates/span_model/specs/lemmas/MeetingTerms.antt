-- For proofs and private clauses: a partition in many ticks of its slot: its instructions, and the interrupts that the ticks bring.
use Rattle.std.specs.Prelude.{◌≡◌, ℕ, List, Option}
use Rattle.machine_model.specs.Partition.{PartitionState}
use Rattle.machine_model.specs.LocalTick.{executed_in_tick}
use Rattle.machine_model.specs.Emission as emission
use Rattle.machine_model.specs.Emission.{Sight, Emission}
use Rattle.machine_model.specs.View.{PartitionView}
use Rattle.xm_ports.specs.Channels.{Content}

-- the work of a tick in which a partition executes an instruction: it leaves this, emits this, and does not reach beyond the partition
abbrev pub Executes : PartitionView → PartitionState → PartitionState → List Emission → Type 0
Executes view ps new tale =
    (contents : List (Option Content)) (time : ℕ) (sight : Sight) →
    executed_in_tick view contents time sight ps ≡ record { after = new; emitted = tale; act = emission.Nothing }
