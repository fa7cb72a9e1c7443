use Rattle.std.proofs.Common.{◌≤◌, length, drop}
use Rattle.xmcf_check.specs.lemmas.Numbers.{HasNumbersForPorts}
use Rattle.xmcf_check.proofs.numbers.add_ports.Given as goal

abbrev pub invariant-loop-left : goal.invariant-loop-left
invariant-loop-left l = (l.left ≤ length l.ports) × HasNumbersForPorts l.part l.left (drop l.left l.ports) l.fn.numbers l.numbers

abbrev pub decreases-loop-left : goal.decreases-loop-left
decreases-loop-left l = l.left
