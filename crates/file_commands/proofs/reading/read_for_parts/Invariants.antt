use Rattle.std.proofs.Common.{ℕ, List, ◌++◌, Option, map, length}
use Rattle.command_line.specs.Seen.{seen_files}
use Rattle.file_commands.specs.Packing.{file_names}
use Rattle.file_commands.specs.EndingValues.{vector_bytes}
use Rattle.file_commands.specs.Work.{Outside, outside}
use Rattle.file_commands.specs.lemmas.Read.{HasRead}
use Rattle.file_commands.proofs.reading.read_for_parts.Given as goal

abbrev pub invariant-loop-next : goal.invariant-loop-next
invariant-loop-next g l = (got : Option (List ℕ)) (faults : ℕ) (all later : List (List ℕ)) (before : Outside)
    → HasRead all (file_names (seen_files l.fn.parts) ++ later) (map vector_bytes l.fn.contents.items) before
    (outside (g.S.Store.files l.fn.files) (g.S.Store.read_faults l.fn.files) (g.S.Store.write_faults l.fn.files) (g.S.Store.calls l.fn.files) got faults)
    → HasRead all (file_names (seen_files l.rest) ++ later) (map vector_bytes l.contents.items) before
    (outside (g.S.Store.files l.files) (g.S.Store.read_faults l.files) (g.S.Store.write_faults l.files) (g.S.Store.calls l.files) got faults)

abbrev pub decreases-loop-next : goal.decreases-loop-next
decreases-loop-next g l = length (seen_files l.rest)
