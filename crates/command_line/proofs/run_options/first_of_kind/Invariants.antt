use Rattle.std.proofs.Common.{◌≡◌, length}
use Rattle.command_line.specs.Seen.{seen_options}
use Rattle.command_line.specs.Texts.{texts_of}
use Rattle.command_line.specs.Words.{files_in, run_options}
use Rattle.command_line.proofs.run_options.first_of_kind.Given as goal

abbrev pub invariant-loop-first : goal.invariant-loop-first
invariant-loop-first l = files_in l.kind (seen_options l.rest) ≡ files_in l.kind (run_options (texts_of l.words))

abbrev pub decreases-loop-first : goal.decreases-loop-first
decreases-loop-first l = length (seen_options l.rest)
