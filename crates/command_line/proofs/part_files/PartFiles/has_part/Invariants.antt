use Rattle.std.proofs.Common.{◌≡◌, length}
use Rattle.command_line.specs.Seen.{seen_files}
use Rattle.command_line.specs.Words.{has_part}
use Rattle.command_line.proofs.part_files.PartFiles.has_part.Given as goal

abbrev pub invariant-loop-first : goal.invariant-loop-first
invariant-loop-first l = has_part l.part (seen_files l.rest) ≡ has_part l.part (seen_files l.fn.self)

abbrev pub decreases-loop-first : goal.decreases-loop-first
decreases-loop-first l = length (seen_files l.rest)
