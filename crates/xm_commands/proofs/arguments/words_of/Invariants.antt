use Rattle.std.proofs.Common.{◌≡◌, take}
use Rattle.command_line.specs.Texts.{texts_of}
use Rattle.xm_commands.proofs.arguments.words_of.Given as goal

abbrev pub invariant-loop-text : goal.invariant-loop-text
invariant-loop-text l = l.words ≡ texts_of (take l.text-index l.texts)
