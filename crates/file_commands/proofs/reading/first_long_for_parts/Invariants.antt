use Rattle.std.proofs.Common.{◌≡◌, ◌++◌, map, length}
use Rattle.std.specs.Prelude.{option_copied}
use Rattle.command_line.specs.Seen.{seen_files}
use Rattle.file_commands.specs.Outcome.{first_long, name_if_any}
use Rattle.file_commands.specs.Packing.{file_names}
use Rattle.file_commands.specs.EndingValues.{vector_bytes}
use Rattle.file_commands.proofs.reading.first_long_for_parts.Given as goal

abbrev pub invariant-loop-first : goal.invariant-loop-first
invariant-loop-first l =
    first_long (file_names (seen_files l.rest) ++ name_if_any (option_copied l.upsets) ++ name_if_any (option_copied l.from)) (map vector_bytes l.more)
    ≡ first_long (file_names (seen_files l.fn.files) ++ name_if_any (option_copied l.upsets) ++ name_if_any (option_copied l.from)) (map vector_bytes l.contents)

abbrev pub decreases-loop-first : goal.decreases-loop-first
decreases-loop-first l = length (seen_files l.rest)
