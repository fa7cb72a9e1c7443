use Rattle.std.proofs.Common.{◌≡◌}
use Rattle.generated_system.specs.Generated.{numbered, generated_part}
use Rattle.generated_system.proofs.parts.parts.Given as goal

abbrev pub invariant-loop-p : goal.invariant-loop-p
invariant-loop-p l = l.parts.items ≡ numbered generated_part l.p
