use Rattle.std.proofs.Common.{◌≡◌, drop}
use Rattle.command_line.specs.Texts.{texts_of}
use Rattle.command_line.specs.Words.{are_named}
use Rattle.command_line.proofs.part_files.are_named.Given as goal

abbrev pub invariant-loop-word : goal.invariant-loop-word
invariant-loop-word l = are_named (texts_of (drop l.word-index l.words)) ≡ are_named (texts_of l.words)
