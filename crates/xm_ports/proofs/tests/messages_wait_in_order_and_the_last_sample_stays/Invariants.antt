use Rattle.xm_ports.specs.lemmas.Tried.{AreTried}
use Rattle.xm_ports.proofs.tests.messages_wait_in_order_and_the_last_sample_stays.Given as goal

abbrev pub invariant-loop-number : goal.invariant-loop-number
invariant-loop-number g l = AreTried l.channels
