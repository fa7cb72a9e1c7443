use Rattle.machine_saves.specs.lemmas.SaveTerms.{HaveStates}
use Rattle.machine_saves.proofs.ranges.look_at_parts.Given as goal

abbrev pub invariant-loop-p : goal.invariant-loop-p
invariant-loop-p l = HaveStates l.p l.sys.machine
