-- The clock counts the ticks.
use Rattle.std.proofs.Common.{◌≡◌}
use Rattle.virt_clocks.proofs.tests.set.Given as goal

abbrev pub invariant-loop : goal.invariant-loop
invariant-loop g l = l.clocks.execution ≡ l.counter
