use Rattle.std.proofs.Common.{◌≡◌, ◌*◌, ◌≤◌, take}
use Rattle.std.specs.Prelude.{sum_by}
use Rattle.machine_model.specs.Partition.{PartitionState}
use Rattle.generated_runs.proofs.counting.exec_of.Given as goal

abbrev pub invariant-loop-p : goal.invariant-loop-p
invariant-loop-p l = record {
  sum : l.sum ≡ sum_by (λ (ps : PartitionState). ps.clocks.execution) (take l.p l.sys.machine.parts);
  few : l.sum ≤ 4294967296 * l.p;
}
