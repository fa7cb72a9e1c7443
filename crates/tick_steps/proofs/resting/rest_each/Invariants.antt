use Rattle.std.proofs.Common.{◌≡◌, if◌then◌else◌}
use Rattle.machine_model.specs.Lists.{is_number}
use Rattle.machine_model.specs.Partition.{rested}
use Rattle.tick_steps.specs.lemmas.PassLemmas.{each_passed}
use Rattle.tick_steps.proofs.resting.rest_each.Given as goal

abbrev pub invariant-loop-p : goal.invariant-loop-p
invariant-loop-p l = l.sys ≡ each_passed (λ q ps. if is_number l.working q then ps else rested l.time ps) l.p l.fn.sys
