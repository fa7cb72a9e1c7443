use Rattle.std.proofs.Common.{◌≤◌, length, drop}
use Rattle.xmcf_check.specs.lemmas.Numbers.{HasFirsts}
use Rattle.xmcf_check.proofs.numbers.name_numbers.Given as goal

abbrev pub invariant-loop-left : goal.invariant-loop-left
invariant-loop-left l = (l.left ≤ length l.names) × HasFirsts l.left (drop l.left l.names) l.numbers

abbrev pub decreases-loop-left : goal.decreases-loop-left
decreases-loop-left l = l.left
