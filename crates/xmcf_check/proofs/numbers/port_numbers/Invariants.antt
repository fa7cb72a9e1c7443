use Rattle.std.proofs.Common.{◌≤◌, length}
use Rattle.xmcf_check.specs.lemmas.Numbers.{HasAllPorts}
use Rattle.xmcf_check.proofs.numbers.port_numbers.Given as goal

abbrev pub invariant-loop-left : goal.invariant-loop-left
invariant-loop-left l = (l.left ≤ length l.parts) × HasAllPorts l.left l.parts l.numbers

abbrev pub decreases-loop-left : goal.decreases-loop-left
decreases-loop-left l = l.left
