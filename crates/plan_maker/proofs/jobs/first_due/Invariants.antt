-- The first of the jobs so far, and those that follow.
use Rattle.std.proofs.Common.{◌≡◌, None, drop, fold}
use Rattle.plan_maker.specs.lemmas.Turns.{sooner_due}
use Rattle.plan_maker.proofs.jobs.first_due.Given as goal

abbrev pub invariant-loop-job : goal.invariant-loop-job
invariant-loop-job l = fold sooner_due l.best (drop l.job-index l.jobs) ≡ fold sooner_due None l.jobs
