-- The jobs so far are those of the tick.
use Rattle.std.proofs.Common.{◌≡◌, ◌++◌, drop, map, take}
use Rattle.plan_maker.specs.lemmas.Turns.{renewed}
use Rattle.plan_maker.proofs.jobs.renew.Given as goal

abbrev pub invariant-loop-job : goal.invariant-loop-job
invariant-loop-job l = l.jobs ≡ map (renewed l.tick) (take l.job-index l.initial.jobs) ++ drop l.job-index l.initial.jobs
