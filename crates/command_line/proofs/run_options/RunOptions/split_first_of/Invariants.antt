use Rattle.std.proofs.Common.{◌≡◌, length}
use Rattle.command_line.specs.Seen.{seen_options}
use Rattle.command_line.specs.Words.{run_files_in}
use Rattle.command_line.proofs.run_options.RunOptions.split_first_of.Given as goal

abbrev pub invariant-loop-first : goal.invariant-loop-first
invariant-loop-first l = run_files_in l.kind (seen_options l.rest) ≡ run_files_in l.kind (seen_options l.fn.self)

abbrev pub decreases-loop-first : goal.decreases-loop-first
decreases-loop-first l = length (seen_options l.rest)
