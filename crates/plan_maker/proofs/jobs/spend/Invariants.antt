-- No job so far is of the partition.
use Rattle.std.proofs.Common.{◌≡◌, ◌++◌, drop, take}
use Rattle.plan_maker.specs.lemmas.Turns.{spent_first}
use Rattle.plan_maker.proofs.jobs.spend.Given as goal

abbrev pub invariant-loop-job : goal.invariant-loop-job
invariant-loop-job l =
    (l.jobs ≡ l.initial.jobs)
    × (spent_first l.part l.ticks l.initial.jobs ≡ take l.job-index l.initial.jobs ++ spent_first l.part l.ticks (drop l.job-index l.initial.jobs))
