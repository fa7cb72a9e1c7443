use Rattle.saved_machines.specs.Savable.{IsSavedTrace}
use Rattle.machine_saves.specs.lemmas.SaveTerms.{EachBelow}
use Rattle.machine_saves.proofs.ranges.look_at_traces.Given as goal

abbrev pub invariant-loop-place : goal.invariant-loop-place
invariant-loop-place l = EachBelow IsSavedTrace l.place l.traces.entries
