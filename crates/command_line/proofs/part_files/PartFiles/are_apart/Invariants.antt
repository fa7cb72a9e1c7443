use Rattle.std.proofs.Common.{◌≡◌, length}
use Rattle.command_line.specs.Seen.{seen_files}
use Rattle.command_line.specs.Words.{are_apart}
use Rattle.command_line.proofs.part_files.PartFiles.are_apart.Given as goal

abbrev pub invariant-loop-first : goal.invariant-loop-first
invariant-loop-first l = are_apart (seen_files l.rest) ≡ are_apart (seen_files l.fn.self)

abbrev pub decreases-loop-first : goal.decreases-loop-first
decreases-loop-first l = length (seen_files l.rest)
