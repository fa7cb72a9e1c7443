use Rattle.std.proofs.Common.{◌≡◌, map, length}
use Rattle.command_line.specs.Seen.{seen_files}
use Rattle.file_commands.specs.Outcome.{content}
use Rattle.file_commands.specs.EndingValues.{vector_bytes}
use Rattle.file_commands.proofs.reading.content_after.Given as goal

abbrev pub invariant-loop-others : goal.invariant-loop-others
invariant-loop-others l = content (length (seen_files l.rest)) (map vector_bytes l.more) ≡ content (length (seen_files l.fn.parts)) (map vector_bytes l.contents)

abbrev pub decreases-loop-others : goal.decreases-loop-others
decreases-loop-others l = length (seen_files l.rest)
