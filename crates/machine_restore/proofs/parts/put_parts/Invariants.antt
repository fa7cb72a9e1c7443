use Rattle.std.proofs.Common.{◌≡◌}
use Rattle.machine_restore.specs.lemmas.RestoreTerms.{parts_given}
use Rattle.machine_restore.proofs.parts.put_parts.Given as goal

abbrev pub invariant-loop-p : goal.invariant-loop-p
invariant-loop-p l = l.sys ≡ parts_given l.p l.parts l.fn.sys
