use Rattle.std.proofs.Common.{ℕ, ◌≤◌, length}
use Rattle.command_line.specs.Seen.{seen_files}
use Rattle.run_commands.specs.lemmas.Cores.{AreForPartitions, FitInto}
use Rattle.run_commands.proofs.cores.longest.Given as goal

abbrev pub invariant-loop-first : goal.invariant-loop-first
invariant-loop-first l = record {
  inside : AreForPartitions (length l.machine.state.parts) (seen_files l.rest);
  fits : (most : ℕ) → l.longest ≤ most → FitInto l.machine.state.system most (seen_files l.rest) → FitInto l.machine.state.system most (seen_files l.fn.cores);
}

abbrev pub decreases-loop-first : goal.decreases-loop-first
decreases-loop-first l = length (seen_files l.rest)
