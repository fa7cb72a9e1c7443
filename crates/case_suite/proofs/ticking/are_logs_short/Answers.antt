use Rattle.std.proofs.Common.{length, ap, arith}
use Rattle.machine_model.specs.Machine.{Machine}
use Rattle.case_suite.proofs.LogLemmas.{all_short}
use Rattle.case_suite.proofs.ticking.are_logs_short.Goals as goal

pub returns : goal.returns
returns c = all_short c.args.machine.now.state (λ q below. c.loop-part.invariant q
    (omega (arith, ap (λ (g : Machine). length g.parts) c.sys.ensures.machine, c.count-part-end.ensures.parts)))
