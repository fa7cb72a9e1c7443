use Rattle.std.proofs.Common.{arith}
use Rattle.system_state.proofs.PartsLemmas.{first-end, first-more}
use Rattle.system_state.proofs.deadlines.least_deadline.Goals as goal

pub loop-p-preserved : goal.loop-p-preserved
loop-p-preserved c =
    first-more c.loop-p.p c.args.but c.loop-p.least c.deadline_unless.result _ c.args.parts.now (omega arith) (omega arith) c.deadline_unless.ensures c.loop-p.invariant

pub returns : goal.returns
returns c = first-end c.loop-p.p c.args.but c.loop-p.least c.args.parts.now (omega (arith, c.loop-p-test.false)) c.loop-p.invariant
