use Rattle.std.proofs.Common.{◌≡◌, length}
use Rattle.command_line.specs.Seen.{seen_options}
use Rattle.file_commands.specs.Inputs.{first_beyond}
use Rattle.run_commands.proofs.inputs.first_beyond.Given as goal

abbrev pub invariant-loop-first : goal.invariant-loop-first
invariant-loop-first l = first_beyond l.parts (seen_options l.rest) ≡ first_beyond l.parts (seen_options l.fn.options)

abbrev pub decreases-loop-first : goal.decreases-loop-first
decreases-loop-first l = length (seen_options l.rest)
