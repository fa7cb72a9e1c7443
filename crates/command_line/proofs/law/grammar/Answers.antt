-- Both ways, for numbers and for commands.
use Rattle.command_line.proofs.Spelling.{commands_spelled}
use Rattle.command_line.proofs.WordLemmas.{ticks_decimal}
use Rattle.command_line.proofs.law.grammar.Goals as goal

pub returns : goal.returns
returns c = record { ticks = ticks_decimal; commands = commands_spelled }
