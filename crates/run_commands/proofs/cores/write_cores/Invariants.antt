use Rattle.std.proofs.Common.{ℕ, List, Option, length}
use Rattle.command_line.specs.Seen.{seen_files}
use Rattle.run_commands.specs.lemmas.Cores.{AreForPartitions, FitInto}
use Rattle.file_commands.specs.Outcome.{core_outputs}
use Rattle.file_commands.specs.Work.{Outside, SavesAll, outside}
use Rattle.run_commands.proofs.cores.write_cores.Given as goal

abbrev pub invariant-loop-first : goal.invariant-loop-first
invariant-loop-first g l = record {
  inside : AreForPartitions (length l.machine.state.parts) (seen_files l.rest);
  fits : FitInto l.machine.state.system (length l.room) (seen_files l.rest);
  saves : (got : Option (List ℕ)) (faults : ℕ) (lost : Option (List ℕ)) (after : Outside)
      → SavesAll lost (core_outputs l.machine.state (seen_files l.rest))
      (outside (g.S.Store.files l.files) (g.S.Store.read_faults l.files) (g.S.Store.write_faults l.files) (g.S.Store.calls l.files) got faults) after
      → SavesAll lost (core_outputs l.machine.state (seen_files l.fn.cores))
      (outside (g.S.Store.files l.fn.files) (g.S.Store.read_faults l.fn.files) (g.S.Store.write_faults l.fn.files) (g.S.Store.calls l.fn.files) got faults) after;
}

abbrev pub decreases-loop-first : goal.decreases-loop-first
decreases-loop-first g l = length (seen_files l.rest)
