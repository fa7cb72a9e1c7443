use Rattle.saved_machines.specs.Savable.{IsSavedHealth}
use Rattle.machine_saves.specs.lemmas.SaveTerms.{EachBelow}
use Rattle.machine_saves.proofs.ranges.look_at_health.Given as goal

abbrev pub invariant-loop-place : goal.invariant-loop-place
invariant-loop-place l = EachBelow IsSavedHealth l.place l.health.entries
