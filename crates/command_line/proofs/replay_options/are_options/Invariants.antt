use Rattle.std.proofs.Common.{◌≡◌, length}
use Rattle.command_line.specs.Texts.{texts_of}
use Rattle.command_line.specs.Words.{are_options_by, replay_option_of}
use Rattle.command_line.proofs.replay_options.are_options.Given as goal

abbrev pub invariant-loop-rest : goal.invariant-loop-rest
invariant-loop-rest l = are_options_by replay_option_of (texts_of l.rest) ≡ are_options_by replay_option_of (texts_of l.words)

abbrev pub decreases-loop-rest : goal.decreases-loop-rest
decreases-loop-rest l = length l.rest
