use Rattle.saved_machines.specs.Savable.{IsSavedContent}
use Rattle.machine_saves.specs.lemmas.SaveTerms.{EachBelow}
use Rattle.machine_saves.proofs.ranges.look_at_contents.Given as goal

abbrev pub invariant-loop-c : goal.invariant-loop-c
invariant-loop-c l = EachBelow IsSavedContent l.c l.sys.machine.channels
