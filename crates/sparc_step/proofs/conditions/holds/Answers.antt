use Rattle.sparc_step.proofs.ConditionLemmas.{held-holds}
use Rattle.sparc_step.proofs.conditions.holds.Goals as goal

pub returns : goal.returns
returns c = rw c.from.ensures (held-holds c.args.condition c.args.icc c.requires.condition c.requires.icc)
