use Rattle.std.proofs.Common.{◌≡◌, map, drop, length, None}
use Rattle.command_line.specs.Seen.{seen_files}
use Rattle.run_commands.specs.lemmas.Cores.{AreForPartitions}
use Rattle.file_commands.specs.Inputs.{inputs_with, no_inputs}
use Rattle.file_commands.specs.Outcome.{first_long}
use Rattle.file_commands.specs.Packing.{file_names}
use Rattle.file_commands.specs.EndingValues.{vector_bytes}
use Rattle.run_commands.proofs.inputs.read_inputs.Given as goal

abbrev pub invariant-loop-bytes : goal.invariant-loop-bytes
invariant-loop-bytes l =
    (inputs_with l.inputs (seen_files l.rest) (map vector_bytes (drop l.bytes-index l.contents)) ≡ inputs_with (no_inputs l.fn.parts) (seen_files l.fn.files) (map vector_bytes l.contents))
    × (first_long (file_names (seen_files l.rest)) (map vector_bytes (drop l.bytes-index l.contents)) ≡ None)
    × AreForPartitions l.fn.parts (seen_files l.rest)
    × (length l.inputs ≡ l.fn.parts)
