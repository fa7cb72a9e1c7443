use Rattle.std.proofs.Common.{◌≡◌}
use Rattle.generated_system.specs.Generated.{numbered}
use Rattle.generated_system.specs.lemmas.Given.{generated_given}
use Rattle.generated_system.proofs.images.images.Given as goal

abbrev pub invariant-loop-id : goal.invariant-loop-id
invariant-loop-id l = l.images.items ≡ numbered generated_given l.id
