-- The job is the first one of the partition.
use Rattle.std.proofs.Common.{arith}
use Rattle.plan_maker.proofs.SpentLemmas.{spent_here}
use Rattle.plan_maker.proofs.jobs.spend.Goals as goal

pub returns-then-job-part : goal.returns-then-job-part
returns-then-job-part c =
    spent_here c.args.part c.args.ticks c.args.jobs.now c.loop-job.jobs c.loop-job.job-index c.saturating_sub-job.result _
    c.loop-job.invariant.0 (omega arith) c.if-job-part.true c.saturating_sub-job.ensures c.loop-job.invariant.1
