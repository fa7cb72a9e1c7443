use Rattle.system_state.proofs.PartsLemmas.{FirstAreFrom}
use Rattle.system_state.proofs.deadlines.least_deadline.Given as goal

abbrev pub invariant-loop-p : goal.invariant-loop-p
invariant-loop-p l = FirstAreFrom l.p l.but l.least l.parts
