use Rattle.std.proofs.Common.{◌≡◌, take}
use Rattle.machine_restore.specs.lemmas.RestoreTerms.{word_bytes}
use Rattle.machine_restore.proofs.inputs.word_bytes.Given as goal

abbrev pub invariant-loop-word : goal.invariant-loop-word
invariant-loop-word l = l.bytes.items ≡ word_bytes (take l.word-index l.words)
