-- One more job is changed.
use Rattle.std.proofs.Common.{arith}
use Rattle.plan_maker.specs.lemmas.Turns.{renewed}
use Rattle.plan_maker.proofs.EachLemmas.{pass_more}
use Rattle.plan_maker.proofs.jobs.renew.Goals as goal

pub loop-job-preserved : goal.loop-job-preserved
loop-job-preserved c =
    rw c.renewed.ensures (pass_more (renewed c.args.tick) c.args.jobs.now c.loop-job.jobs c.loop-job.job-index _ (omega arith) (omega arith) c.loop-job.invariant)
