use Rattle.std.proofs.Common.{◌≡◌, length}
use Rattle.command_line.specs.Seen.{seen_replay}
use Rattle.command_line.specs.Words.{replay_files_in}
use Rattle.command_line.proofs.replay_options.ReplayOptions.split_first_of.Given as goal

abbrev pub invariant-loop-first : goal.invariant-loop-first
invariant-loop-first l = replay_files_in l.kind (seen_replay l.rest) ≡ replay_files_in l.kind (seen_replay l.fn.self)

abbrev pub decreases-loop-first : goal.decreases-loop-first
decreases-loop-first l = length (seen_replay l.rest)
