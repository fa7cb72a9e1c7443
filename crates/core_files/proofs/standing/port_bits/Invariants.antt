use Rattle.std.proofs.Common.{◌≡◌, ◌≤◌, drop}
use Rattle.machine_model.specs.CoreFile.{bits_of_flags}
use Rattle.core_files.proofs.standing.port_bits.Given as goal

abbrev pub invariant-loop-port : goal.invariant-loop-port
invariant-loop-port l = record {
  number : l.bits ≡ bits_of_flags (drop l.port l.ports);
  within : l.port ≤ 32;
}

abbrev pub decreases-loop-port : goal.decreases-loop-port
decreases-loop-port l = l.port
