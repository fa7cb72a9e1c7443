use Rattle.std.proofs.Common.{◌≡◌, length}
use Rattle.command_line.specs.Seen.{seen_files}
use Rattle.case_suite.proofs.ticking.inputs_in.Given as goal

abbrev pub invariant-loop-first : goal.invariant-loop-first
invariant-loop-first l = length l.inputs ≡ l.parts

abbrev pub decreases-loop-first : goal.decreases-loop-first
decreases-loop-first l = length (seen_files l.rest)
